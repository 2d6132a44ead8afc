-- For every state: an intake's room keeps its length, and what is behind the bytes held or the message given (R10.7).
use mathlib.Core.Path.{◌≡◌, refl, ap, ◌∙◌}
use mathlib.Core.List.{List, ◌++◌}
use Prim.Native.Nat.{ℕ, ◌+◌, ◌-◌}
use native.Mathlib.Omega.{arith}
use native.Mathlib.Decide.{ℕ_discrete}
use lib.ListN.{length, take, drop}
use lib.Seq.{drop_at, length-take-le}
use Rattle.message_intake.proofs.Hands.{Told, told}
use Rattle.message_laws.proofs.Words.{Judged}
use Rattle.intake_laws.proofs.Ends.{refusal_some, judged_refusal, whole_judged}
use Rattle.intake_laws.proofs.Conversations.{over_length}
use Rattle.intake_laws.proofs.Refusals.{other_room, again, by_hand}
use Rattle.protocol.specs.Answers.{over}
use Rattle.protocol.specs.Messages.{MessageRead, unread, read, message_of}
use Rattle.protocol.specs.Intake.{at_hand, Taken, judged_delivery, take_by, take_of}
use Rattle.forms.specs.declared.Intake.{Intake}
use Rattle.forms.specs.declared.AtHand.{AtHand}
use Rattle.forms.specs.declared.AtHand.TheVariants.{Lacking, Whole}
use Rattle.std.specs.Prelude.{Result, Ok, Err}

pub record Kept (l : List ℕ) (t : Taken) : Type 0 where
  pub long : length t.room ≡ length l
  pub behind : t.answer.number ≡ 0 → drop (t.answer.intake.held + t.answer.size) t.room ≡ drop (t.answer.intake.held + t.answer.size) l

-- n bytes were put at the front
front_put : (x l : List ℕ) (n : ℕ) → length x ≡ n → drop n (over x l) ≡ drop n l
front_put x l n e = drop_at x (drop (length x) l) n e ∙ ap (λ (k : ℕ). drop k l) e

module _ (i : Intake) (h src l : List ℕ) where
  kept_read : (n : ℕ) → length (take n (h ++ src)) ≡ n → length (over (take n (h ++ src)) l) ≡ length l → (o : MessageRead) → Judged o
      → Kept l (record { answer = judged_delivery i (n - length h) n o; room = over (take n (h ++ src)) l })
  unfolding judged_delivery
  kept_read n s e (unread m p) j = record { long = e; behind = λ z. absurd (refusal_some m (judged_refusal m j) z) }
  kept_read n s e (read u ws) j =
      let z : 0 + n ≡ n = omega arith in
      record { long = e; behind = λ _. rw z (front_put (take n (h ++ src)) l n s) }

  kept_by : (a : Result AtHand ℕ) → Told (length l) (h ++ src) a → Kept l (take_by i h src l a)
  unfolding take_by
  kept_by (Ok (Lacking k)) t =
      let z : length (h ++ src) + 0 ≡ length (h ++ src) = omega arith in
      record { long = over_length (h ++ src) l t.fits; behind = λ _. rw z (front_put (h ++ src) l (length (h ++ src)) refl) }
  kept_by (Err n) t = record { long = refl; behind = λ _. refl }
  kept_by (Ok (Whole n)) t =
      let s : length (take n (h ++ src)) ≡ n = length-take-le n (h ++ src) t.inside in
      kept_read n s (over_length (take n (h ++ src)) l (omega (arith, s, t.fits))) (message_of i.side (take n (h ++ src)))
      (whole_judged i.side (length l) (h ++ src) n t)

pub kept : (i : Intake) (src l : List ℕ) → Kept l (take_of i src l)
kept i src l =
    elim (ℕ_discrete (length l) i.room) [
      | no e ↦ rw (other_room i src l e) (record { long = refl; behind = λ _. refl })
      | yes e ↦
          elim (ℕ_discrete i.number 0) [
            | no n ↦ rw (again i src l e n) (record { long = refl; behind = λ _. refl })
            | yes n ↦
                rw (by_hand i src l e n)
                (kept_by i (take i.held l) src l (at_hand (length l) (take i.held l ++ src)) (told (length l) (take i.held l ++ src)))
          ]
    ]
