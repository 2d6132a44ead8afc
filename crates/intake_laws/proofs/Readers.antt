-- The intake and the reader accept the same messages (R10.9).
use mathlib.Core.Path.{◌≡◌, refl, ap, sym, ◌∙◌}
use mathlib.Core.List.{List, ◌++◌}
use Prim.Native.Nat.{ℕ, ◌+◌, ◌-◌, ◌≤◌}
use native.Mathlib.Omega.{arith}
use native.Mathlib.Decide.{ℕ_discrete}
use lib.ListN.{length, take, drop}
use lib.Seq.{take-take, take-append_seam, get_or-take, length-take-le}
use borrow.Author.Tests.{le-ltb}
use Rattle.message_read.proofs.Whole.{whole, roomy}
use Rattle.message_laws.proofs.Covers.{part_take}
use Rattle.message_laws.proofs.Again.{used}
use Rattle.message_intake.proofs.Hands.{Ready, Told, told, whole_of, hand_whole}
use Rattle.intake_laws.proofs.Ends.{head_whole}
use Rattle.intake_laws.proofs.Refusals.{other_room, again, by_hand}
use Rattle.protocol.specs.Numbers.{pick, be}
use Rattle.protocol.specs.Answers.{over}
use Rattle.protocol.specs.Messages.{MessageRead, unread, read, body_whole, message_head, message_by, message_of, message_roomed, message_call}
use Rattle.protocol.specs.Intake.{at_hand, intake_start, Taken, taken_delivery, judged_delivery, take_by, take_of}
use Rattle.forms.specs.declared.Intake.{Intake}
use Rattle.forms.specs.declared.AtHand.{AtHand}
use Rattle.forms.specs.declared.AtHand.TheVariants.{Lacking, Whole}
use Rattle.std.specs.Prelude.{Result, Ok, Err}

-- what is read, is read in a list of just that room
pub roomed : (side : ℕ) (s : List ℕ) (u : ℕ) (ws : List ℕ) → message_of side s ≡ read u ws → message_call side s (length ws) ≡ read u ws
unfolding message_call message_roomed pick
roomed side s u ws e = rw (e, le-ltb (length ws) (length ws) (omega arith))

used_of : (side : ℕ) (s : List ℕ) (u : ℕ) (ws : List ℕ) → message_of side s ≡ read u ws → u ≡ be (take 4 (drop 1 s)) + 1
used_of side s u ws e = used side s (length ws) u ws (roomed side s u ws e)

-- ---- what the intake gives, the reader reads

-- the size of what is given, and the words that the reader lists of it
abbrev pub Given : ℕ → Taken → Type 0
Given side t = (t.answer.size ≡ 0 → ⊥) → (ws : List ℕ) × (message_of side (take t.answer.size t.room) ≡ read t.answer.size ws)

module _ (i : Intake) (src h l : List ℕ) where
  given_read : (n : ℕ) → Ready (length l) (h ++ src) n → (o : MessageRead) → message_of i.side (take n (h ++ src)) ≡ o
      → Given i.side (record { answer = judged_delivery i (n - length h) n o; room = over (take n (h ++ src)) l })
  unfolding judged_delivery
  given_read n r (unread m p) e z = absurd (z refl)
  given_read n r (read u ws) e z =
      let s : length (take n (h ++ src)) ≡ n = length-take-le n (h ++ src) r.inside in
      let f : take n (over (take n (h ++ src)) l) ≡ take n (h ++ src) =
      ap (λ (k : ℕ). take k (over (take n (h ++ src)) l)) (sym s) ∙ take-append_seam (take n (h ++ src)) _ in
      let p : be (take 4 (drop 1 (take n (h ++ src)))) ≡ be (take 4 (drop 1 (h ++ src))) = ap be (part_take (h ++ src) n 1 4 (omega (arith, r.low))) in
      let q : u ≡ n = omega (arith, used_of i.side (take n (h ++ src)) u ws e, p, r.size) in
      (ws, rw f (e ∙ ap (λ (k : ℕ). read k ws) q))

  given_by : (a : Result AtHand ℕ) → Told (length l) (h ++ src) a → Given i.side (take_by i h src l a)
  unfolding take_by
  given_by (Ok (Lacking k)) t z = absurd (z refl)
  given_by (Err n) t z = absurd (z refl)
  given_by (Ok (Whole n)) t z = given_read n t (message_of i.side (take n (h ++ src))) refl z

pub given : (i : Intake) (src l : List ℕ) → Given i.side (take_of i src l)
given i src l =
    elim (ℕ_discrete (length l) i.room) [
      | no e ↦ rw (other_room i src l e) (λ z. absurd (z refl))
      | yes e ↦
          elim (ℕ_discrete i.number 0) [
            | no n ↦ rw (again i src l e n) (λ z. absurd (z refl))
            | yes n ↦
                rw (by_hand i src l e n)
                (given_by i src (take i.held l) l (at_hand (length l) (take i.held l ++ src)) (told (length l) (take i.held l ++ src)))
          ]
    ]

-- ---- what the reader reads, the intake gives

-- the message alone is read as with what comes after it
module _ (room : ℕ) (s : List ℕ) (n : ℕ) (r : Ready room s n) where
  front_head : message_head s ≡ body_whole n
  unfolding message_head pick
  front_head =
      let m = be (take 4 (drop 1 s)) in
      let z : m + 1 ≡ n = sym r.size in
      let h : 5 ≤ length s = omega (arith, r.low, r.inside) in
      let low : 4 ≤ m = omega (arith, r.low) in
      let high : m ≤ 65535 = omega (arith, r.high) in
      rw (le-ltb (length s) 5 h, le-ltb m 4 low, le-ltb 65535 m high, z, le-ltb (length s) n r.inside)

  alone : (side : ℕ) → message_of side (take n s) ≡ message_of side s
  unfolding message_of message_by
  alone side =
      rw (head_whole room s n r, front_head, get_or-take n s 0 0 (omega (arith, r.low)), take-take n n s (omega arith))

read_of : (side : ℕ) (s : List ℕ) (u : ℕ) (ws l : List ℕ) → message_of side s ≡ read u ws → u ≤ length l
    → take_of (intake_start side (length l)) s l ≡ record { answer = taken_delivery (intake_start side (length l)) u u 5; room = over (take u s) l }
unfolding take_by judged_delivery
read_of side s u ws l e h =
    let m = be (take 4 (drop 1 s)) in
    let w = whole side s u ws e in
    let z : u ≡ m + 1 = used_of side s u ws e in
    let f : at_hand (length l) s ≡ Ok (Whole u) =
    hand_whole (length l) s (omega (arith, w.low)) w.long m refl w.low w.high (omega arith) w.fits ∙ ap whole_of (sym z) in
    let r : Ready (length l) s u = rw f at (told (length l) s) in
    let none : u - 0 ≡ u = omega arith in
    by_hand (intake_start side (length l)) s l refl refl ∙ rw (f, alone (length l) s u r side, e, none)

pub read_given : (side : ℕ) (s : List ℕ) (room u : ℕ) (ws l : List ℕ) → message_call side s room ≡ read u ws → u ≤ length l
    → take_of (intake_start side (length l)) s l ≡ record { answer = taken_delivery (intake_start side (length l)) u u 5; room = over (take u s) l }
unfolding message_call
read_given side s room u ws l e h = read_of side s u ws l (roomy (message_of side s) room u ws e).0 h
