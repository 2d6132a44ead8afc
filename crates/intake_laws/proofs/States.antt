-- What holds of an intake's states: what a start, calls and resets lead to, and what is then answered (R10.2, R10.4).
use mathlib.Core.Path.{◌≡◌, refl, ap, ◌∙◌}
use mathlib.Core.List.{List, [], ◌++◌}
use Prim.Native.Nat.{ℕ, ◌-◌}
use native.Mathlib.Omega.{arith}
use lib.ListN.{length, take, drop}
use lib.Seq.{take-append_seam, length-take-le}
use borrow.Author.Tests.{eq-eqb, ne_eqb}
use Rattle.message_intake.proofs.Hands.{Missing, Told, told}
use Rattle.message_laws.proofs.Words.{Judged}
use Rattle.intake_laws.proofs.Ends.{Refusal, refusal_some, unfit_refusal, judged_refusal, whole_judged}
use Rattle.intake_laws.proofs.Conversations.{over_length, Waits, call_is}
use Rattle.protocol.specs.Numbers.{pick}
use Rattle.protocol.specs.Answers.{over}
use Rattle.protocol.specs.Messages.{MessageRead, unread, read, message_of}
use Rattle.protocol.specs.Intake.{at_hand, holding, intake_start, intake_reset, Taken, refused_delivery, judged_delivery, take_by, take_of, Reached, starts, takes, resets}
use Rattle.forms.specs.declared.Intake.{Intake}
use Rattle.forms.specs.declared.Delivery.{Delivery}
use Rattle.forms.specs.declared.AtHand.{AtHand}
use Rattle.forms.specs.declared.AtHand.TheVariants.{Lacking, Whole}
use Rattle.std.specs.Prelude.{Result, Ok, Err}

module _ (side room : ℕ) where
  -- ---- a state that was reached

  -- bytes wait in the room, and some are lacking; or a refusal ended the intake
  pub data State (i : Intake) (l : List ℕ) : Type 0 where
    waits : (h : List ℕ) (k : ℕ) → i ≡ holding room side (length h) → take (length h) l ≡ h → at_hand room h ≡ Ok (Lacking k) → State i l
    over_with : (n p : ℕ) → i ≡ record { room = room; side = side; held = 0; number = n; place = p } → Refusal n → State i l

  -- what is answered with it: what is lacking to the bytes held, which are in the room, or a refusal
  pub record Answers (r : Delivery) (l : List ℕ) : Type 0 where
    pub held : length (take r.intake.held l) ≡ r.intake.held
    pub number : r.intake.number ≡ r.number
    pub place : r.intake.place ≡ r.place
    pub lacking : r.number ≡ 0 → Missing room (take r.intake.held l) r.lacks
    pub refusal : (r.number ≡ 0 → ⊥) → Refusal r.number

  pub record Called (t : Taken) : Type 0 where
    pub state : State t.answer.intake t.room
    pub answers : Answers t.answer t.room
    pub size : length t.room ≡ room

  refuses : (n p : ℕ) (l : List ℕ) → Refusal n → length l ≡ room
      → Called (record { answer = refused_delivery (record { room = room; side = side; held = 0; number = n; place = p }) n p; room = l })
  refuses n p l r e =
      record {
        state = over_with n p refl r;
        answers = record { held = refl; number = refl; place = refl; lacking = λ z. absurd (refusal_some n r z); refusal = λ _. r };
        size = e;
      }

  -- ---- a call

  module _ (h src l : List ℕ) (e : length l ≡ room) where
    called_read : (n : ℕ) → length (over (take n (h ++ src)) l) ≡ room → (o : MessageRead) → Judged o
        → Called (record { answer = judged_delivery (holding room side (length h)) (n - length h) n o; room = over (take n (h ++ src)) l })
    unfolding judged_delivery at_hand
    called_read n s (unread m p) j = refuses m p (over (take n (h ++ src)) l) (judged_refusal m j) s
    called_read n s (read u ws) j =
        record {
          state = waits [] 5 refl refl refl;
          answers = record { held = refl; number = refl; place = refl; lacking = λ _. told room []; refusal = λ z. absurd (z refl) };
          size = s;
        }

    called_by : (a : Result AtHand ℕ) → at_hand room (h ++ src) ≡ a → Told room (h ++ src) a → Called (take_by (holding room side (length h)) h src l a)
    unfolding take_by
    called_by (Ok (Lacking k)) q t =
        let f : take (length (h ++ src)) (over (h ++ src) l) ≡ h ++ src = take-append_seam (h ++ src) (drop (length (h ++ src)) l) in
        record {
          state = waits (h ++ src) k refl f q;
          answers = record { held = ap length f; number = refl; place = refl; lacking = λ _. rw f t; refusal = λ z. absurd (z refl) };
          size = over_length (h ++ src) l (omega (arith, t.fits)) ∙ e;
        }
    called_by (Err n) q t = refuses n 0 l (unfit_refusal n t) e
    called_by (Ok (Whole n)) q t =
        let s : length (take n (h ++ src)) ≡ n = length-take-le n (h ++ src) t.inside in
        called_read n (over_length (take n (h ++ src)) l (omega (arith, s, t.fits)) ∙ e) (message_of side (take n (h ++ src)))
        (whole_judged side room (h ++ src) n t)

  pub called : (i : Intake) (src l : List ℕ) → State i l → length l ≡ room → Called (take_of i src l)
  unfolding take_of pick
  called i src l (waits h k s f q) e =
      let w : Waits side room (record { intake = i; room = l; given = [] }) h =
      record { state = s; held = f; size = e; lacks = k; waiting = q } in
      rw (call_is side room (record { intake = i; room = l; given = [] }) h src w) (called_by h src l e (at_hand room (h ++ src)) refl (told room (h ++ src)))
  called i src l (over_with n p s r) e = rw (s, e, eq-eqb room room refl, ne_eqb n 0 (refusal_some n r)) (refuses n p l r e)

  -- ---- all states

  pub record Known (i : Intake) (l : List ℕ) : Type 0 where
    pub state : State i l
    pub size : length l ≡ room

  reset_state : (i : Intake) (l : List ℕ) → State i l → intake_reset i ≡ intake_start side room
  reset_state i l (waits h k s f q) = rw s
  reset_state i l (over_with n p s r) = rw s

  pub known : (i : Intake) (l : List ℕ) → Reached side room i l → Known i l
  unfolding at_hand
  known i l (starts m e) = record { state = waits [] 5 refl refl refl; size = e }
  known i l (takes j m r src) =
      let k = known j m r in
      let c = called j src m k.state k.size in
      record { state = c.state; size = c.size }
  known i l (resets j m r) =
      let k = known j m r in
      record { state = waits [] 5 (reset_state j m k.state) refl refl; size = k.size }

  -- a reset gives what the start gave
  pub reset_starts : (i : Intake) (l : List ℕ) → Reached side room i l → intake_reset i ≡ intake_start side room
  reset_starts i l r = reset_state i l (known i l r).state

  pub answered : (i : Intake) (l : List ℕ) → Reached side room i l → (src : List ℕ) → Answers (take_of i src l).answer (take_of i src l).room
  answered i l r src = let k = known i l r in (called i src l k.state k.size).answers
