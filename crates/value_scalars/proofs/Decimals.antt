-- The laws of decimals and bigints.
use mathlib.Core.Path.{◌≡◌, refl, sym, ◌∙◌}
use mathlib.Core.Bool.{Bool, true, false}
use mathlib.Core.List.{List, [], ◌∷◌, ◌++◌}
use Prim.Native.Nat.{ℕ, ◌+◌, ◌-◌, ◌*◌, ◌%◌, ◌≤◌, ◌<◌}
use native.Mathlib.Omega.{arith}
use lib.Dec.{eqb, leb}
use lib.ListN.{length, take, drop, length-append}
use borrow.Author.Tests.{le-leb, lt-leb, leb-true, lt-ltb, le-ltb, eq-eqb, ne_eqb}
use Rattle.wire.proofs.Picks.{both}
use Rattle.value_scalars.proofs.Parts.{to_end}
use Rattle.protocol.specs.Numbers.{pick, be}
use Rattle.protocol.specs.Scalars.{half, sign, digits, decimal, no_fraction, bigint}

-- ---- digits: two bytes x and then t

digits_front : (x t : List ℕ) → length x ≡ 2 → digits (x ++ t) ≡ pick (leb (be (take 2 x)) 9999) (digits t) false
unfolding digits
digits_front [] t h = absurd (omega arith)
digits_front (a ∷ []) t h = absurd (omega arith)
digits_front (a ∷ b ∷ []) t h = refl
digits_front (a ∷ b ∷ c ∷ x) t h = absurd (omega arith)

module _ (s x t : List ℕ) (e : s ≡ x ++ t) (h : length x ≡ 2) where
  module _ (n : ℕ) (q : n ≡ be (take 2 x)) where
    pub digit_large : 9999 < n → digits s ≡ false
    unfolding pick
    digit_large l = rw (e, digits_front x t h, ← q, lt-leb n 9999 l)

    pub digit_next : n ≤ 9999 → digits s ≡ digits t
    unfolding pick
    digit_next l = rw (e, digits_front x t h, ← q, le-leb n 9999 l)

  pub digits_even : length s % 2 ≡ length t % 2
  digits_even = rw (e, length-append x t, h) (omega arith)

-- fewer than two bytes are left: none, or half a digit
pub digits_end : (s : List ℕ) → length s < 2 → eqb (length s % 2) 0 ≡ digits s
unfolding digits
digits_end [] h = refl
digits_end (a ∷ []) h = refl
digits_end (a ∷ b ∷ s) h = absurd (omega arith)

-- ---- the sign

module _ (s : ℕ) where
  pub sign_plus : s ≡ 0 → true ≡ sign s
  unfolding sign pick
  sign_plus e = rw (eq-eqb s 0 e)

  pub sign_other : (s ≡ 0 → ⊥) → eqb s 0x4000 ≡ sign s
  unfolding sign pick
  sign_other e = rw (ne_eqb s 0 e)

-- ---- decimals

module _ (v : List ℕ) where
  pub decimal_short : length v < 8 → false ≡ decimal v
  unfolding decimal pick
  decimal_short h = rw (lt-leb 8 (length v) h)

  module _ (n : ℕ) (e : n ≡ half v 0) (h : 8 ≤ length v) where
    pub decimal_length : (length v ≡ 8 + 2 * n → ⊥) → false ≡ decimal v
    unfolding decimal pick
    decimal_length d = rw (le-leb 8 (length v) h, ← e, ne_eqb (length v) (8 + 2 * n) d)

    module _ (l : length v ≡ 8 + 2 * n) (s : Bool) (t : s ≡ sign (half v 4)) where
      decimal_is : decimal v ≡ pick s (digits (drop 8 v)) false
      unfolding decimal pick
      decimal_is = rw (le-leb 8 (length v) h, ← e, eq-eqb (length v) (8 + 2 * n) l, ← t)

      pub decimal_sign : s ≡ false → false ≡ decimal v
      unfolding pick
      decimal_sign g = sym (decimal_is ∙ rw g)

      pub decimal_digits : s ≡ true → digits (take (length v - 8) (drop 8 v)) ≡ decimal v
      unfolding pick
      decimal_digits g = rw (to_end 8 v) (sym (decimal_is ∙ rw g))

  -- what is accepted has its four fields
  pub decimal_long : decimal v ≡ true → 8 ≤ length v
  unfolding decimal
  decimal_long e = leb-true 8 (length v) (both (leb 8 (length v)) _ e).0

-- ---- bigints

module _ (n weight : ℕ) where
  pub whole_none : n ≡ 0 → true ≡ no_fraction n weight
  unfolding no_fraction pick
  whole_none e = rw (eq-eqb n 0 e)

  module _ (e : n ≡ 0 → ⊥) where
    pub whole_negative : 0x8000 ≤ weight → false ≡ no_fraction n weight
    unfolding no_fraction pick
    whole_negative h = rw (ne_eqb n 0 e, le-ltb weight 0x8000 h)

    pub whole_some : weight < 0x8000 → leb n (weight + 1) ≡ no_fraction n weight
    unfolding no_fraction pick
    whole_some h = rw (ne_eqb n 0 e, lt-ltb weight 0x8000 h)

module _ (v : List ℕ) where
  pub bigint_not : decimal v ≡ false → false ≡ bigint v
  unfolding bigint pick
  bigint_not e = rw e

  module _ (d : decimal v ≡ true) (reserved : ℕ) (e : reserved ≡ half v 6) where
    pub bigint_reserved : (reserved ≡ 0 → ⊥) → false ≡ bigint v
    unfolding bigint pick
    bigint_reserved h = rw (d, ← e, ne_eqb reserved 0 h)

    pub bigint_whole : (n weight : ℕ) → reserved ≡ 0 → n ≡ half v 0 → weight ≡ half v 2 → no_fraction n weight ≡ bigint v
    unfolding bigint pick
    bigint_whole n weight h en ew = rw (d, ← e, eq-eqb reserved 0 h, en, ew)

  -- a bigint is a decimal
  pub bigint_decimal : bigint v ≡ true → decimal v ≡ true
  unfolding bigint
  bigint_decimal e = (both (decimal v) _ e).0
