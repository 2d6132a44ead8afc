-- For every state: a refusal stays until a reset (R10.5), and another room changes nothing (R10.6).
use mathlib.Core.Path.{◌≡◌, refl, ◌∙◌}
use mathlib.Core.List.{List, ◌++◌}
use Prim.Native.Nat.{ℕ, ◌-◌}
use native.Mathlib.Omega.{arith}
use native.Mathlib.Decide.{ℕ_discrete}
use lib.ListN.{length, take}
use lib.Seq.{length-take-le}
use borrow.Author.Tests.{eq-eqb, ne_eqb}
use Rattle.message_intake.proofs.Hands.{Told, told}
use Rattle.intake_laws.proofs.Conversations.{over_length}
use Rattle.protocol.specs.Numbers.{pick}
use Rattle.protocol.specs.Answers.{over}
use Rattle.protocol.specs.Messages.{MessageRead, unread, read, message_of}
use Rattle.protocol.specs.Intake.{at_hand, intake_ended, Taken, judged_delivery, take_by, unchanged, take_of}
use Rattle.forms.specs.declared.Intake.{Intake}
use Rattle.forms.specs.declared.AtHand.{AtHand}
use Rattle.forms.specs.declared.AtHand.TheVariants.{Lacking, Whole}
use Rattle.std.specs.Prelude.{Result, Ok, Err}

pub other_room : (i : Intake) (src l : List ℕ) → (length l ≡ i.room → ⊥) → take_of i src l ≡ unchanged i 32 0 l
unfolding take_of pick
other_room i src l h = rw (ne_eqb (length l) i.room h)

-- a state with a refusal gives it again
pub again : (i : Intake) (src l : List ℕ) → length l ≡ i.room → (i.number ≡ 0 → ⊥) → take_of i src l ≡ unchanged i i.number i.place l
unfolding take_of pick
again i src l e z = rw (eq-eqb (length l) i.room e, ne_eqb i.number 0 z)

-- one without goes by the bytes at hand
pub by_hand : (i : Intake) (src l : List ℕ) → length l ≡ i.room → i.number ≡ 0
    → take_of i src l ≡ take_by i (take i.held l) src l (at_hand (length l) (take i.held l ++ src))
unfolding take_of pick
by_hand i src l e z = rw (eq-eqb (length l) i.room e, eq-eqb i.number 0 z)

module _ (i : Intake) (src' : List ℕ) where
  -- a call refused: the next gives the same, with the same state and room
  abbrev Stays : Taken → Type 0
  Stays t = (t.answer.number ≡ 0 → ⊥) → take_of t.answer.intake src' t.room ≡ t

  module _ (h src l : List ℕ) (e : length l ≡ i.room) where
    stays_read : (n : ℕ) → length (over (take n (h ++ src)) l) ≡ i.room → (o : MessageRead)
        → Stays (record { answer = judged_delivery i (n - length h) n o; room = over (take n (h ++ src)) l })
    unfolding judged_delivery
    stays_read n s (unread m p) z = again (intake_ended i m p) src' (over (take n (h ++ src)) l) s z
    stays_read n s (read u ws) z = absurd (z refl)

    stays_by : (a : Result AtHand ℕ) → Told (length l) (h ++ src) a → Stays (take_by i h src l a)
    unfolding take_by
    stays_by (Ok (Lacking k)) t z = absurd (z refl)
    stays_by (Err n) t z = again (intake_ended i n 0) src' l e z
    stays_by (Ok (Whole n)) t z =
        let s : length (take n (h ++ src)) ≡ n = length-take-le n (h ++ src) t.inside in
        stays_read n (over_length (take n (h ++ src)) l (omega (arith, s, t.fits)) ∙ e) (message_of i.side (take n (h ++ src))) z

  pub stays : (src l : List ℕ) → length l ≡ i.room → Stays (take_of i src l)
  stays src l e =
      elim (ℕ_discrete i.number 0) [
        | yes z ↦
            rw (by_hand i src l e z)
            (stays_by (take i.held l) src l e (at_hand (length l) (take i.held l ++ src)) (told (length l) (take i.held l ++ src)))
        | no z ↦ rw (again i src l e z) (λ _. again i src' l e z)
      ]
