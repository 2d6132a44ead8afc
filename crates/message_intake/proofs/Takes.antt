-- The laws of a call: what joins the held bytes in the room, and what is answered.
use mathlib.Core.Path.{◌≡◌, refl, ap, sym, ◌∙◌}
use mathlib.Core.List.{List, ◌++◌, append_assoc}
use Prim.Native.Nat.{ℕ, ◌+◌, ◌-◌, ◌≤◌, min}
use native.Mathlib.Omega.{arith}
use native.Mathlib.Decide.{dec_lt}
use lib.ListN.{length, take, length-append, take-append-drop}
use lib.Seq.{sets, sets-eq, take-take, take_at, take_all, take-append-le, take-append-add, length-take-le}
use borrow.Author.Tests.{eq-eqb, ne_eqb}
use Rattle.message_read.specs.Answers.{Checks}
use Rattle.message_read.specs.declared.Message.{Message}
use Rattle.forms.specs.declared.fault.Refusal.{Refusal}
use Rattle.message_read.proofs.Ends.{found, turned_down}
use Rattle.protocol.specs.Numbers.{pick}
use Rattle.protocol.specs.Answers.{over}
use Rattle.protocol.specs.Messages.{message_of}
use Rattle.protocol.specs.Intake.{at_hand, holding, intake_reset, intake_ended, refused_delivery, taken_delivery, judged_delivery, take_by, take_of, SettlesTaken}
use Rattle.message_intake.proofs.Hands.{Missing, Ready, told}
use Rattle.forms.specs.declared.AtHand.{AtHand}
use Rattle.forms.specs.declared.AtHand.TheVariants.{Lacking, Whole}
use Rattle.std.specs.Prelude.{Result, Ok, Err}
use Rattle.forms.specs.declared.Intake.{Intake}
use Rattle.forms.specs.declared.Delivery.{Delivery}

-- ---- the room

-- bytes stored behind the held ones
pub joined : (l p : List ℕ) (held : ℕ) → held + length p ≤ length l → sets l held p ≡ over (take held l ++ p) l
joined l p held h =
    let e : length (take held l) ≡ held = length-take-le held l (omega arith) in
    let f : length (take held l ++ p) ≡ held + length p = length-append (take held l) p ∙ ap (λ (n : ℕ). n + length p) e in
    sets-eq p l held h ∙ rw (f, append_assoc)

-- a message of `size` bytes at hand, of which size - low are stored behind the held ones
module _ (l src : List ℕ) (held size low : ℕ) (h : held ≤ length l) (r : size ≤ length l) (s : size ≤ held + length src) (m : low ≡ min held size) where
  held_size : length (take held l) ≡ held
  held_size = length-take-le held l h

  -- how many are taken
  pub more_is : (size - low) ≡ size - length (take held l)
  more_is = rw held_size (omega arith)

  size_is : length (take size (take held l ++ src)) ≡ size
  size_is = length-take-le size (take held l ++ src) (simp length-append (omega (arith, held_size)))

  parted : held ≤ size → take size (take held l ++ src) ≡ take held l ++ take (size - low) src
  parted g =
      let e : size ≡ length (take held l) + (size - low) = omega (arith, held_size) in
      ap (λ (n : ℕ). take n (take held l ++ src)) e ∙ take-append-add (take held l) src (size - low)

  fronted : size ≤ held → take size (take held l ++ src) ≡ take size l
  fronted g = take-append-le size (take held l) src (omega (arith, held_size)) ∙ take-take size held l g

  pub room_is : sets l held (take (size - low) src) ≡ over (take size (take held l ++ src)) l
  room_is =
      elim (dec_lt size held) [
        | yes g ↦
            let z : (size - low) ≡ 0 = omega arith in
            let q : size ≤ held = omega arith in
            rw (z, fronted q, length-take-le size l r) (sym (take-append-drop size l))
        | no g ↦
            let q : held ≤ size = omega arith in
            let n : length (take (size - low) src) ≡ (size - low) = length-take-le (size - low) src (omega arith) in
            joined l (take (size - low) src) held (omega (arith, n)) ∙ ap (λ (x : List ℕ). over x l) (sym (parted q))
      ]

  pub front_is : (l' : List ℕ) → l' ≡ sets l held (take (size - low) src) → take size l' ≡ take size (take held l ++ src)
  front_is l' e = ap (take size) (e ∙ room_is) ∙ take_at (take size (take held l ++ src)) _ size size_is

  module _ (i : Intake) (l' : List ℕ) (e : l' ≡ sets l held (take (size - low) src)) (k k' : List ℕ) where
    pub whole_refused : (q : Refusal) → Checks (message_of i.side (take size l')) (Err q) k k'
        → SettlesTaken (take_by i (take held l) src l (Ok (Whole size))) (refused_delivery (intake_ended i q.fault q.place) q.fault q.place) l'
    unfolding take_by judged_delivery
    whole_refused q c =
        let o = turned_down (message_of i.side (take size (take held l ++ src))) q k k' (rw (front_is l' e) at c) in
        record { answer = rw o; room = e ∙ room_is }

    pub whole_given : (m : Message) → Checks (message_of i.side (take size l')) (Ok m) k k'
        → SettlesTaken (take_by i (take held l) src l (Ok (Whole size))) (taken_delivery (intake_reset i) (size - low) size 5) l'
    unfolding take_by judged_delivery
    whole_given m c =
        let o = found (message_of i.side (take size (take held l ++ src))) m k k' (rw (front_is l' e) at c) in
        record { answer = rw (o.is, ← more_is); room = e ∙ room_is }

-- ---- what the outcome of the bytes at hand says of the lengths

module _ (x : ℕ) (l src : List ℕ) (held : ℕ) (m : held ≡ min x (length l)) (a : Result AtHand ℕ) (o : a ≡ at_hand (length l) (take held l ++ src)) where
  all_is : length (take held l ++ src) ≡ held + length src
  all_is = length-append (take held l) src ∙ ap (λ (n : ℕ). n + length src) (length-take-le held l (omega arith))

  module _ (k : ℕ) (e : a ≡ Ok (Lacking k)) where
    missing : Missing (length l) (take held l ++ src) k
    missing = rw (sym o ∙ e) at (told (length l) (take held l ++ src))

    pub lacking_few : held + length src + k ≤ 65536
    lacking_few = omega (arith, all_is, missing.few)

    pub lacking_fits : held + length src ≤ length l
    lacking_fits = omega (arith, all_is, missing.fits)

  pub whole_fits : (n : ℕ) → a ≡ Ok (Whole n) → (held ≤ length l) × (n ≤ length l) × (n ≤ held + length src) × (n ≤ 65536)
  whole_fits n e =
      let t : Ready (length l) (take held l ++ src) n = rw (sym o ∙ e) at (told (length l) (take held l ++ src)) in
      (omega arith, t.fits, omega (arith, all_is, t.inside), t.high)

-- ---- the call

module _ (i : Intake) (src l : List ℕ) where
  pub other_room : (length l ≡ i.room → ⊥) → SettlesTaken (take_of i src l) (refused_delivery i 32 0) l
  unfolding take_of pick
  other_room h = rw (ne_eqb (length l) i.room h) (record { answer = refl; room = refl })

  module _ (h : length l ≡ i.room) where
    pub refused_again : (i.number ≡ 0 → ⊥) → SettlesTaken (take_of i src l) (refused_delivery i i.number i.place) l
    unfolding take_of pick
    refused_again z = rw (eq-eqb (length l) i.room h, ne_eqb i.number 0 z) (record { answer = refl; room = refl })

    module _ (z : i.number ≡ 0) (held : ℕ) (m : held ≡ min i.held (length l)) where
      held_is : take i.held l ≡ take held l
      held_is =
          elim (dec_lt (length l) i.held) [
            | yes g ↦ let e : held ≡ length l = omega arith in take_all i.held l (omega arith) ∙ sym (take_all held l (omega arith))
            | no g ↦ let e : held ≡ i.held = omega arith in rw e
          ]

      pub taken_by : take_of i src l ≡ take_by i (take held l) src l (at_hand (length l) (take held l ++ src))
      unfolding take_of pick
      taken_by = rw (eq-eqb (length l) i.room h, eq-eqb i.number 0 z, held_is)

      pub unfit : (n : ℕ) → at_hand (length l) (take held l ++ src) ≡ Err n → SettlesTaken (take_of i src l) (refused_delivery (intake_ended i n 0) n 0) l
      unfolding take_by
      unfit n e = rw (taken_by, e) (record { answer = refl; room = refl })

      pub lacks : (k : ℕ) (l' : List ℕ) → at_hand (length l) (take held l ++ src) ≡ Ok (Lacking k) → l' ≡ sets l held src
          → SettlesTaken (take_of i src l) (taken_delivery (holding i.room i.side (held + length src)) (length src) 0 k) l'
      unfolding take_by
      lacks k l' e q =
          let f = lacking_fits i.held l src held m _ refl k e in
          let n : held + length src ≡ length (take held l ++ src) =
          sym (length-append (take held l) src ∙ ap (λ (x : ℕ). x + length src) (length-take-le held l (omega arith))) in
          rw (taken_by, e)
          (record { answer = ap (λ (x : ℕ). taken_delivery (holding i.room i.side x) (length src) 0 k) n; room = q ∙ joined l src held f })

      pub whole : (n : ℕ) (r : Delivery) (l' : List ℕ) → at_hand (length l) (take held l ++ src) ≡ Ok (Whole n)
          → SettlesTaken (take_by i (take held l) src l (Ok (Whole n))) r l' → SettlesTaken (take_of i src l) r l'
      whole n r l' e t = rw (taken_by, e) t
