-- The laws of plain bytes that come to those of wire/proofs/Sequences: the step, and words of eight bytes.
use mathlib.Core.Path.{◌≡◌, refl, ap, ap₂, sym, subst, ◌∙◌}
use mathlib.Core.Logic.{◌⊎◌, inl, inr}
use mathlib.Core.Bool.{Bool, true, false}
use mathlib.Core.List.{List, [], ◌∷◌}
use Prim.Native.Nat.{ℕ, zero, suc, ◌+◌, ◌*◌, ◌/◌, ◌%◌, ◌^◌, ◌-◌, ◌<◌, ◌≤◌, zero-le}
use native.Mathlib.Omega.{arith}
use native.Mathlib.Nat.{zero-add, add-zero, add-suc, suc-add, mul-one, not-suc-le-zero}
use native.Mathlib.Decide.{dec_lt}
use lib.Dec.{ltb, eqb, lit<}
use lib.Bits.{bit_and, and_block, shifted_half, shifted_even}
use lib.Count.{count_trailing_zeros, under}
use lib.ListN.{length, drop, get_or, length-drop}
use lib.Seq.{drop-cons, get_or-drop}
use borrow.Author.Tests.{le-leb, lt-leb, lt-ltb, le-ltb, ltb-true, ltb-false, eqb-true}
use Rattle.wire.specs.Scan.{plain_run}
use Rattle.wire_letters.specs.Scan.{run_end, highs}
use Rattle.wire.proofs.Tables.{each_below}
use Rattle.wire.proofs.Sequences.{Plain, plain_next, plain_inside, plain_past}
use Rattle.protocol.specs.Numbers.{pick}
use Rattle.wire_letters.specs.Step.{plain_from, plain_end}

-- ---- runs of plain bytes

-- a place on the way, from which the plain bytes end there too
pub plain_within : (s : List ℕ) (i r j : ℕ) → Plain s i r → i ≤ j → j ≤ r → run_end s i ≡ run_end s j
plain_within s i r j p h l =
    let e : i + (j - i) ≡ j = omega arith in
    plain_past s i (j - i) (omega (arith, p.same)) ∙ ap (run_end s) e

-- ---- the step's definition (L5), and words of eight bytes

from_run : (i : ℕ) (l : List ℕ) → plain_from i l ≡ i + plain_run l
unfolding plain_from plain_run pick
from_run i [] = sym (add-zero i)
from_run i (b ∷ l) =
    elim (dec_lt b 0x80) [
      | yes p ↦ rw (lt-leb 0x80 b p, lt-ltb b 0x80 p) (unpicked (from_run (suc i) l))
      | no p ↦ rw (le-leb 0x80 b (omega arith), le-ltb b 0x80 (omega arith)) (sym (add-zero i))
    ]
  where
    unpicked : plain_from (suc i) l ≡ suc i + plain_run l → plain_from (suc i) l ≡ i + suc (plain_run l)
    unpicked e = e ∙ omega arith

pub step_run : (s : List ℕ) (i : ℕ) → plain_end s i ≡ run_end s i
unfolding plain_end
step_run s i = from_run i (drop i s)

pub step_inside : (s : List ℕ) (i : ℕ) → i ≤ length s → plain_end s i ≤ length s
step_inside s i h = rw (step_run s i) (plain_inside s i h)

pub step_onward : (s : List ℕ) (i : ℕ) → i ≤ plain_end s i
step_onward s i = omega (arith, step_run s i)

-- the bytes on the way are plain, and the one that it ends at is not
run_plain : (l : List ℕ) (k : ℕ) → k < plain_run l → get_or l k 0 < 0x80
unfolding plain_run pick
run_plain [] k h = absurd (not-suc-le-zero h)
run_plain (b ∷ l) k h = go (ltb b 0x80) refl k h (run_plain l)
  where
    go : (t : Bool) → ltb b 0x80 ≡ t → (k : ℕ) → k < pick t (suc (plain_run l)) 0 → ((k : ℕ) → k < plain_run l → get_or l k 0 < 0x80) → get_or (b ∷ l) k 0 < 0x80
    go true e zero h f = ltb-true b 0x80 e
    go true e (suc k) h f = f k (omega arith)
    go false e k h f = absurd (not-suc-le-zero h)

run_stops : (l : List ℕ) → plain_run l < length l → 0x80 ≤ get_or l (plain_run l) 0
unfolding plain_run pick
run_stops [] h = absurd (not-suc-le-zero h)
run_stops (b ∷ l) h = go (ltb b 0x80) refl h (run_stops l)
  where
    go : (t : Bool) → ltb b 0x80 ≡ t → pick t (suc (plain_run l)) 0 < suc (length l) → (plain_run l < length l → 0x80 ≤ get_or l (plain_run l) 0) → 0x80 ≤ get_or (b ∷ l) (pick t (suc (plain_run l)) 0) 0
    go true e h f = f (omega arith)
    go false e h f = ltb-false b 0x80 e

pub step_plain : (s : List ℕ) (i k : ℕ) → i ≤ k → k < plain_end s i → get_or s k 0 < 0x80
step_plain s i k h l =
    let e : i + (k - i) ≡ k = omega arith in
    subst (λ (j : ℕ). get_or s j 0 < 0x80) e (subst (λ (b : ℕ). b < 0x80) (get_or-drop i s (k - i) 0) (run_plain (drop i s) (k - i) (omega (arith, step_run s i))))

pub step_stops : (s : List ℕ) (i : ℕ) → i ≤ length s → (plain_end s i ≡ length s) ⊎ (0x80 ≤ get_or s (plain_end s i) 0)
step_stops s i h =
    elim (dec_lt (plain_end s i) (length s)) [
      | yes p ↦ inr (subst (λ (j : ℕ). 0x80 ≤ get_or s j 0) (sym (step_run s i)) (subst (λ (b : ℕ). 0x80 ≤ b) (get_or-drop i s (plain_run (drop i s)) 0) (run_stops (drop i s) (rw (length-drop i s) (omega (arith, step_run s i))))))
      | no p ↦ inl (omega (arith, step_inside s i h))
    ]

-- a first byte that is plain is passed
pub step_next : (s : List ℕ) (i : ℕ) → i < length s → get_or s i 0 < 0x80 → i < plain_end s i
step_next s i h p = omega (arith, step_run s i, plain_next s i h p)

-- n bytes of 80 hex
mask : ℕ → ℕ
mask zero = 0
mask (suc n) = mask n * 256 + 0x80

-- the number of n bytes, the first the lowest, of which k are passed
little : ℕ → List ℕ → ℕ → ℕ → ℕ
little zero s i k = 0
little (suc n) s i k = little n s i (suc k) * 256 + get_or s (i + k) 0

-- the highest bit of a byte, which is computed at each
byte_high : (b : ℕ) → b < 256 → bit_and b 0x80 ≡ pick (ltb b 0x80) 0 0x80
unfolding pick
byte_high b h = eqb-true (bit_and b 0x80) (pick (ltb b 0x80) 0 0x80) (each_below (λ b. eqb (bit_and b 0x80) (pick (ltb b 0x80) 0 0x80)) 256 refl b h)

masked : (n : ℕ) (s : List ℕ) (i k : ℕ) → ((j : ℕ) → get_or s j 0 < 256) → i + k + n ≤ length s → bit_and (little n s i k) (mask n) ≡ highs n (drop (i + k) s)
unfolding little mask highs
masked zero s i k b h = refl
masked (suc n) s i k b h =
    let e : drop (i + suc k) s ≡ drop (suc (i + k)) s = ap (λ (j : ℕ). drop j s) (add-suc i k) in
    rw (drop-cons s (i + k) 0 (omega arith))
    (and_block 8 (little n s i (suc k)) (mask n) (get_or s (i + k) 0) 0x80 (b (i + k)) (lit< tt)
    ∙ ap₂ (λ (x y : ℕ). x * 256 + y) (masked n s i (suc k) b (omega arith) ∙ ap (highs n) e) (byte_high (get_or s (i + k) 0) (b (i + k))))

-- the eight bytes at i
pub word_highs :
    (s : List ℕ) (i v : ℕ)
    → ((j : ℕ) → get_or s j 0 < 256)
    → i + 8 ≤ length s
    → v ≡ get_or s i 0 + get_or s (i + 1) 0 * 256 + get_or s (i + 2) 0 * 65536 + get_or s (i + 3) 0 * 16777216 + get_or s (i + 4) 0 * 4294967296
    + get_or s (i + 5) 0 * 1099511627776 + get_or s (i + 6) 0 * 281474976710656 + get_or s (i + 7) 0 * 72057594037927936
    → bit_and v 0x8080808080808080 ≡ highs 8 (drop i s)
unfolding little mask
word_highs s i v b h p =
    let z : get_or s (i + 0) 0 ≡ get_or s i 0 = ap (λ (j : ℕ). get_or s j 0) (add-zero i) in
    let e : v ≡ little 8 s i 0 = omega arith in
    rw e (masked 8 s i 0 b (omega arith) ∙ ap (λ (j : ℕ). highs 8 (drop j s)) (add-zero i))

-- k zeros after a number's digits
zeros_shift : (k d w : ℕ) → count_trailing_zeros (d + k) (w * 2 ^ k) ≡ k + count_trailing_zeros d w
unfolding count_trailing_zeros
zeros_shift zero d w = rw (add-zero d, zero-add (count_trailing_zeros d w)) (ap (count_trailing_zeros d) (mul-one w))
zeros_shift (suc k) d w =
    rw (add-suc d k, suc-add k (count_trailing_zeros d w))
    (ap (λ (r : ℕ). under r (count_trailing_zeros (d + k) (w * 2 ^ suc k / 2))) (shifted_even w k)
    ∙ ap (λ (x : ℕ). suc (count_trailing_zeros (d + k) x)) (shifted_half w k)
    ∙ ap suc (zeros_shift k d w))

-- a word whose lowest byte is plain, and one whose lowest byte is not
zeros_plain : (d w : ℕ) → count_trailing_zeros (d + 8) (w * 256 + 0) ≡ 8 + count_trailing_zeros d w
zeros_plain d w = ap (count_trailing_zeros (d + 8)) (add-zero (w * 256)) ∙ zeros_shift 8 d w

zeros_high : (d w : ℕ) → count_trailing_zeros (d + 8) (w * 256 + 0x80) ≡ 7
unfolding count_trailing_zeros
zeros_high d w =
    let e : d + 8 ≡ suc d + 7 = omega arith in
    let f : w * 256 + 0x80 ≡ (w * 2 + 1) * 2 ^ 7 = omega arith in
    let o : (w * 2 + 1) % 2 ≡ 1 = omega arith in
    rw (e, f) (zeros_shift 7 (suc d) (w * 2 + 1) ∙ ap (λ (r : ℕ). 7 + under r (count_trailing_zeros d ((w * 2 + 1) / 2))) o)

-- the highest bits of n bytes: none is set where all are plain, and the lowest that is set is that of the first byte that is not
high_none : (n : ℕ) (l : List ℕ) → n ≤ length l → highs n l ≡ 0 → n ≤ plain_run l
unfolding highs plain_run pick
high_none zero l h e = zero-le
high_none (suc n) [] h e = absurd (not-suc-le-zero h)
high_none (suc n) (b ∷ l) h e = go (ltb b 0x80) (high_none n l (omega arith)) e
  where
    go : (t : Bool) → (highs n l ≡ 0 → n ≤ plain_run l) → highs n l * 256 + pick t 0 0x80 ≡ 0 → suc n ≤ pick t (suc (plain_run l)) 0
    go true f e = let p = f (omega arith) in omega arith
    go false f e = absurd (omega arith)

high_first : (n : ℕ) (l : List ℕ) → n ≤ length l → (highs n l ≡ 0 → ⊥) → count_trailing_zeros (8 * n) (highs n l) ≡ 8 * plain_run l + 7
unfolding highs plain_run pick
high_first zero l h e = absurd (e refl)
high_first (suc n) [] h e = absurd (not-suc-le-zero h)
high_first (suc n) (b ∷ l) h e = let d : 8 * suc n ≡ 8 * n + 8 = omega arith in rw d (go (ltb b 0x80) (high_first n l (omega arith)) e)
  where
    go :
        (t : Bool)
        → ((highs n l ≡ 0 → ⊥) → count_trailing_zeros (8 * n) (highs n l) ≡ 8 * plain_run l + 7)
        → (highs n l * 256 + pick t 0 0x80 ≡ 0 → ⊥)
        → count_trailing_zeros (8 * n + 8) (highs n l * 256 + pick t 0 0x80) ≡ 8 * pick t (suc (plain_run l)) 0 + 7
    go true f e = let p = f (λ z. e (omega arith)) in zeros_plain (8 * n) (highs n l) ∙ omega arith
    go false f e = zeros_high (8 * n) (highs n l)

module _ (s : List ℕ) (i : ℕ) (h : ℕ) (p : i + 8 ≤ length s) (q : h ≡ highs 8 (drop i s)) where
  fits : 8 ≤ length (drop i s)
  fits = rw (length-drop i s) (omega arith)

  pub word_plain : h ≡ 0 → run_end s i ≡ run_end s (i + 8)
  word_plain e = plain_past s i 8 (high_none 8 (drop i s) fits (sym q ∙ e))

  pub word_first : (h ≡ 0 → ⊥) → i + count_trailing_zeros 64 h / 8 ≡ run_end s i
  word_first e =
      let z : count_trailing_zeros 64 h ≡ 8 * plain_run (drop i s) + 7 = rw q (high_first 8 (drop i s) fits (λ z. e (q ∙ z))) in
      omega arith
