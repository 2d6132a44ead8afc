-- The laws of big-endian numbers, over the width.
use mathlib.Core.Path.{◌≡◌, refl, ap, sym, ◌∙◌}
use mathlib.Core.List.{List, [], ◌∷◌, ◌++◌}
use Prim.Native.Nat.{ℕ, zero, suc, ◌+◌, ◌-◌, ◌*◌, ◌/◌, ◌%◌, ◌^◌, ◌<◌, ◌≤◌}
use native.Mathlib.Omega.{arith}
use native.Mathlib.Nat.{add-zero, pow-zero, pow-suc, pow-le-pow_right, div-div-eq-div-mul}
use native.Mathlib.Numerals.{add-one}
use lib.Dec.{lit<}
use lib.Arith.{digits_div, digits_mod}
use lib.ListN.{length, take, drop, get_or, length-take, length-drop, length-append}
use lib.Seq.{take-suc, get_or-drop}
use Rattle.std.proofs.lemmas.List.{get_or-take}
use Rattle.protocol.specs.Numbers.{be, be_from, bytes_be}

from_snoc : (a : ℕ) (xs : List ℕ) (x : ℕ) → be_from a (xs ++ (x ∷ [])) ≡ be_from a xs * 256 + x
unfolding be_from
from_snoc a [] x = refl
from_snoc a (y ∷ ys) x = from_snoc (a * 256 + y) ys x

-- a last byte
pub be_snoc : (xs : List ℕ) (x : ℕ) → be (xs ++ (x ∷ [])) ≡ be xs * 256 + x
unfolding be
be_snoc xs x = from_snoc 0 xs x

-- no bytes
pub be_none : (s : List ℕ) (at : ℕ) → be (take 0 (drop at s)) ≡ 0
unfolding be be_from
be_none s at = refl

-- one byte more: the law over the width
pub be_more : (s : List ℕ) (at n : ℕ) → at + n < length s → be (take (suc n) (drop at s)) ≡ be (take n (drop at s)) * 256 + get_or s (at + n) 0
be_more s at n h =
    let i : n < length (drop at s) = simp length-drop (omega arith) in
    rw (take-suc (drop at s) n 0) (be_snoc (take n (drop at s)) (get_or (drop at s) n 0) ∙ rw get_or-drop)

pub be_two : (s : List ℕ) (at : ℕ) → at + 2 ≤ length s → be (take 2 (drop at s)) ≡ get_or s at 0 * 256 + get_or s (at + 1) 0
be_two s at h =
    let one : be (take 1 (drop at s)) ≡ be (take 0 (drop at s)) * 256 + get_or s at 0 = rw add-zero at (be_more s at 0 (omega arith)) in
    omega (arith, be_none s at, be_more s at 1 (omega arith))

pub be_four : (s : List ℕ) (at : ℕ) → at + 4 ≤ length s → be (take 4 (drop at s)) ≡ ((get_or s at 0 * 256 + get_or s (at + 1) 0) * 256 + get_or s (at + 2) 0) * 256 + get_or s (at + 3) 0
be_four s at h = omega (arith, be_two s at (omega arith), be_more s at 2 (omega arith), be_more s at 3 (omega arith))

-- one byte more, as a loop has it
pub be_next : (s : List ℕ) (at n v : ℕ) → at + n < length s → v ≡ be (take n (drop at s)) → v * 256 + get_or s (at + n) 0 ≡ be (take (n + 1) (drop at s))
be_next s at n v h e = rw add-one (omega (arith, be_more s at n h))

-- the byte at i of the n bytes at a place
pub record Part (s : List ℕ) (at n i : ℕ) : Type 0 where
  pub below : i < n
  pub same : get_or (take (at + n - at) (drop at s)) i 0 ≡ get_or s (at + i) 0

pub part_at : (s : List ℕ) (at n i : ℕ) → at + n ≤ length s → i < length (take (at + n - at) (drop at s)) → Part s at n i
part_at s at n i h l =
    let b : i < n = omega (arith, length-take (at + n - at) (drop at s)) in
    let c : i < at + n - at = omega arith in
    record { below = b; same = get_or-take (at + n - at) (drop at s) i 0 c ∙ get_or-drop at s i 0 }

-- all n are passed
pub part_end : (s : List ℕ) (at n i : ℕ) → at + n ≤ length s → i ≤ length (take (at + n - at) (drop at s)) → length (take (at + n - at) (drop at s)) ≤ i → i ≡ n
part_end s at n i h p q = omega (arith, length-take (at + n - at) (drop at s), length-drop at s)

-- a number of i bytes and one byte more, of at most eight
pub more_fits : (v b i : ℕ) → i < 8 → v < 256 ^ i → b < 256 → (v * 256 + b < 256 ^ (i + 1)) × (v * 256 + b < 2 ^ 64)
more_fits v b i h p q =
    let e : 256 ^ (i + 1) ≡ 256 ^ i * 256 = rw add-one (pow-suc 256 i) in
    let top : 256 ^ (i + 1) ≤ 256 ^ 8 = pow-le-pow_right {n = 256} (lit< tt) {i = i + 1} {j = 8} (omega arith) in
    (omega arith, omega arith)

-- a number's bytes are those that it was read from
pub bytes_be_lem : (s : List ℕ) (at n : ℕ) → ((i : ℕ) → get_or s i 0 < 256) → at + n ≤ length s → bytes_be n (be (take n (drop at s))) ≡ take n (drop at s)
unfolding bytes_be
bytes_be_lem s at zero b h = refl
bytes_be_lem s at (suc n) b h =
    let l : at + n < length s = omega arith in
    let i : n < length (drop at s) = simp length-drop (omega arith) in
    let q = be (take n (drop at s)) in
    rw (be_more s at n l, digits_div q (b (at + n)), digits_mod q (b (at + n)), bytes_be_lem s at n b (omega arith))
    (ap (λ (x : ℕ). take n (drop at s) ++ (x ∷ [])) (sym (get_or-drop at s n 0)) ∙ sym (take-suc (drop at s) n 0 i))

-- and the number of its bytes is the number
pub be_bytes : (n v : ℕ) → v < 256 ^ n → be (bytes_be n v) ≡ v
unfolding bytes_be be be_from
be_bytes zero v h = let one : 256 ^ zero ≡ 1 = pow-zero 256 in omega arith
be_bytes (suc n) v h =
    let e : 256 ^ suc n ≡ 256 ^ n * 256 = pow-suc 256 n in
    let l : v / 256 < 256 ^ n = omega arith in
    be_snoc (bytes_be n (v / 256)) (v % 256) ∙ rw (be_bytes n (v / 256) l) (omega arith)

pub length_bytes : (n v : ℕ) → length (bytes_be n v) ≡ n
unfolding bytes_be
length_bytes zero v = refl
length_bytes (suc n) v = rw (length-append, length_bytes n (v / 256)) (add-one n)

-- the four bytes of a number, as std has them
pub bytes_four : (v : ℕ) → (v / 16777216 % 256) ∷ (v / 65536 % 256) ∷ (v / 256 % 256) ∷ (v % 256) ∷ [] ≡ bytes_be 4 v
unfolding bytes_be
bytes_four v = simp div-div-eq-div-mul

-- bytes stand for a number of their width
pub be_below : (s : List ℕ) (at n : ℕ) → ((i : ℕ) → get_or s i 0 < 256) → at + n ≤ length s → be (take n (drop at s)) < 256 ^ n
be_below s at zero b h = rw be_none (lit< tt)
be_below s at (suc n) b h =
    let e : 256 ^ suc n ≡ 256 ^ n * 256 = pow-suc 256 n in
    let l = be_below s at n b (omega arith) in
    omega (arith, be_more s at n (omega arith), b (at + n))

-- bytes after bytes are bytes, and so are a number's
pub bytes_append : (xs ys : List ℕ) → ((i : ℕ) → get_or xs i 0 < 256) → ((i : ℕ) → get_or ys i 0 < 256) → (i : ℕ) → get_or (xs ++ ys) i 0 < 256
bytes_append [] ys f g i = g i
bytes_append (x ∷ xs) ys f g zero = f 0
bytes_append (x ∷ xs) ys f g (suc i) = bytes_append xs ys (λ j. f (suc j)) g i

pub bytes_below : (n v i : ℕ) → get_or (bytes_be n v) i 0 < 256
unfolding bytes_be
bytes_below zero v i = lit< tt
bytes_below (suc n) v i = bytes_append (bytes_be n (v / 256)) (v % 256 ∷ []) (bytes_below n (v / 256)) last i
  where
    last : (j : ℕ) → get_or (v % 256 ∷ []) j 0 < 256
    last zero = omega arith
    last (suc j) = lit< tt
