-- The laws of a time of day: by the bytes that the code reads, and by the number that they are.
use mathlib.Core.Path.{◌≡◌, ap, sym, ◌∙◌}
use mathlib.Core.Bool.{false}
use mathlib.Core.List.{List}
use Prim.Native.Nat.{ℕ, ◌+◌, ◌*◌, ◌/◌, ◌^◌, ◌≤◌, ◌<◌}
use native.Mathlib.Omega.{arith}
use native.Mathlib.Decide.{dec_lt}
use lib.Dec.{leb}
use lib.ListN.{length, take, drop, get_or, length-take, length-drop}
use lib.Seq.{take_all}
use borrow.Author.Tests.{le-leb, lt-leb, ne_eqb}
use Rattle.wire.proofs.Numbers.{be_more, be_four, be_bytes, length_bytes}
use Rattle.protocol.specs.Constants.{MOST_LOCAL_TIME}
use Rattle.protocol.specs.Numbers.{pick, be, bytes_be}
use Rattle.protocol.specs.Scalars.{of_size, local_time}

-- ---- eight bytes, by the first four and by the four after the third

module _ (s : List ℕ) (at : ℕ) (h : at + 8 ≤ length s) where
  time_is : local_time (take 8 (drop at s)) ≡ leb (be (take 8 (drop at s))) MOST_LOCAL_TIME
  unfolding local_time of_size pick
  time_is = let l : length (take 8 (drop at s)) ≡ 8 = simp (length-take, length-drop) (omega arith) in rw l

  eight : be (take 8 (drop at s))
      ≡ be (take 4 (drop at s)) * 4294967296 + (((get_or s (at + 4) 0 * 256 + get_or s (at + 5) 0) * 256 + get_or s (at + 6) 0) * 256 + get_or s (at + 7) 0)
  eight = omega (arith, be_more s at 4 (omega arith), be_more s at 5 (omega arith), be_more s at 6 (omega arith), be_more s at 7 (omega arith))

  module _ (n : ℕ) (en : n ≡ be (take 4 (drop at s))) where
    -- one of the first three is not zero
    pub day_over : 255 < n → false ≡ local_time (take 8 (drop at s))
    day_over l = sym (time_is ∙ lt-leb (be (take 8 (drop at s))) MOST_LOCAL_TIME (omega (arith, eight, en)))

    -- they are zero, and so the number is that of the four after the third with the last byte behind it
    shifted : n ≤ 255 → be (take 8 (drop at s)) ≡ be (take 4 (drop (at + 3) s)) * 256 + get_or s (at + 7) 0
    shifted l =
        let a : at + 3 + 1 ≡ at + 4 = omega arith in
        let b : at + 3 + 2 ≡ at + 5 = omega arith in
        let c : at + 3 + 3 ≡ at + 6 = omega arith in
        omega (arith, en, eight, be_four s at (omega arith), rw (a, b, c) at (be_four s (at + 3) (omega arith)))

    pub day_is : n ≤ 255 → (m : ℕ) → m ≡ be (take 4 (drop (at + 3) s)) → get_or s (at + 7) 0 < 256 → leb m (MOST_LOCAL_TIME / 256) ≡ local_time (take 8 (drop at s))
    day_is l m em b =
        elim (dec_lt 337499999 m) [
          | yes g ↦ lt-leb m 337499999 g ∙ sym (time_is ∙ lt-leb (be (take 8 (drop at s))) MOST_LOCAL_TIME (omega (arith, shifted l, em)))
          | no g ↦ le-leb m 337499999 (omega arith) ∙ sym (time_is ∙ le-leb (be (take 8 (drop at s))) MOST_LOCAL_TIME (omega (arith, shifted l, em, b)))
        ]

-- ---- the bytes of a number

pub time_number : (n : ℕ) → n < 256 ^ 8 → local_time (bytes_be 8 n) ≡ leb n MOST_LOCAL_TIME
unfolding local_time of_size pick
time_number n h = rw (length_bytes 8 n, be_bytes 8 n h)

pub time_length : (v : List ℕ) → (length v ≡ 8 → ⊥) → local_time v ≡ false
unfolding local_time of_size pick
time_length v h = rw (ne_eqb (length v) 8 h)

-- all eight bytes of a value
pub time_whole : (v : List ℕ) → length v ≡ 8 → local_time (take 8 (drop 0 v)) ≡ local_time v
time_whole v h = ap local_time (take_all 8 v (omega arith))
