-- The laws of a scalar's rule by its format: the fixed sizes by one law over the size, and the formats that are not there.
use mathlib.Core.Path.{◌≡◌, refl, sym, ◌∙◌}
use mathlib.Core.Bool.{Bool, true, false}
use mathlib.Core.List.{List}
use Prim.Native.Nat.{ℕ, ◌≤◌, ◌<◌}
use native.Mathlib.Omega.{arith}
use native.Mathlib.Decide.{dec_lt}
use lib.Dec.{eqb, leb, ltb}
use lib.ListN.{length, get_or-eq_default}
use types.Run.{OneOf}
use borrow.Author.Tests.{eq-eqb, eqb-true, leb-true, ltb-true}
use Rattle.wire.proofs.Picks.{clash}
use Rattle.wire.proofs.Tables.{each, each_below}
use Rattle.value_scalars.specs.Sizes.{size_of, fixed_size, Fixed}
use Rattle.value_scalars.proofs.Matches.{every, in_arm, NoneOf, any_has, in_rest}
use Rattle.protocol.specs.Numbers.{pick}
use Rattle.protocol.specs.Scalars.{of_size, scalar, FormatRule, fixed, ruled, rule_of, formats, format_rule}

-- ---- the rule of a format

pub scalar_kind : (f : ℕ) (v : List ℕ) → scalar f v ≡ rule_of (format_rule f) v
unfolding scalar
scalar_kind f v = refl

pub scalar_at : (k f : ℕ) (v : List ℕ) (r : Bool) → f ≡ k → r ≡ scalar k v → r ≡ scalar f v
scalar_at k f v r e p = rw e p

kind_unknown : (f : ℕ) → 20 ≤ f → format_rule f ≡ ruled (λ v. false)
unfolding format_rule formats
kind_unknown f h = get_or-eq_default formats (ruled (λ v. false)) h

-- no bytes are a value of a format that is not there
pub scalar_unknown : (f : ℕ) (v : List ℕ) → 20 ≤ f → scalar f v ≡ false
unfolding rule_of
scalar_unknown f v h = scalar_kind f v ∙ rw (kind_unknown f h)

pub scalar_known : (f : ℕ) (v : List ℕ) → scalar f v ≡ true → f < 20
scalar_known f v e = elim (dec_lt f 20) [ yes l ↦ l | no l ↦ clash (sym (scalar_unknown f v (omega arith)) ∙ e) ]

-- ---- fixed sizes

kind_sized : (k : FormatRule) (v : List ℕ) → 0 < size_of k → rule_of k v ≡ of_size (size_of k) v
unfolding rule_of size_of
kind_sized (fixed n) v h = refl
kind_sized (ruled r) v h = absurd (omega arith)

-- the law of every format with a size: a value is any bytes of that size
module _ (f : ℕ) (v : List ℕ) (h : 0 < fixed_size f) where
  pub scalar_sized : scalar f v ≡ of_size (fixed_size f) v
  unfolding fixed_size
  scalar_sized = scalar_kind f v ∙ kind_sized (format_rule f) v h

  pub scalar_length : scalar f v ≡ true → length v ≡ fixed_size f
  unfolding of_size
  scalar_length e = eqb-true (length v) (fixed_size f) (sym scalar_sized ∙ e)

  pub length_scalar : length v ≡ fixed_size f → scalar f v ≡ true
  unfolding of_size
  length_scalar e = scalar_sized ∙ eq-eqb (length v) (fixed_size f) e

pub size_unknown : (f : ℕ) → 20 ≤ f → fixed_size f ≡ 0
unfolding fixed_size size_of
size_unknown f h = rw (kind_unknown f h)

pub size_small : (f : ℕ) → fixed_size f ≤ 16
unfolding fixed_size format_rule formats size_of pick
size_small f =
    elim (dec_lt f 20) [
      | yes l ↦ leb-true (fixed_size f) 16 (each_below (λ k. leb (fixed_size k) 16) 20 refl f l)
      | no l ↦ rw (size_unknown f (omega arith)) (omega arith)
    ]

fixed_at : (f n : ℕ) → n ≡ fixed_size f → Fixed f n
fixed_at f n e =
    record { is = e; small = rw e (size_small f); rule = λ h v. rw e (scalar_sized f v (omega arith)) }

-- ---- the arms of a `match` on the format, of which antt computes that each of their keys is right

-- an arm with a size: each of its formats has it
pub size_is : (n : ℕ) (ks : List ℕ) → every (λ k. eqb (fixed_size k) n) ks ≡ true → (f : ℕ) → OneOf ks f → Fixed f n
size_is n ks t f o = fixed_at f n (sym (eqb-true (fixed_size f) n (in_arm (λ k. eqb (fixed_size k) n) ks t f o)))

-- the last arm, where each format that is no key of the others has no size
pub size_none : (kss : List (List ℕ)) → each (λ k. pick (any_has kss k) true (eqb (fixed_size k) 0)) 0 20 ≡ true → (f : ℕ) → NoneOf kss f → Fixed f 0
size_none kss t f o =
    fixed_at f 0
    (sym (elim (dec_lt f 20) [
      | yes l ↦ eqb-true (fixed_size f) 0 (in_rest (λ k. eqb (fixed_size k) 0) kss 20 t f l o)
      | no l ↦ size_unknown f (omega arith)
    ]))

pub no_size : (f n : ℕ) → Fixed f n → n ≤ 0 → Fixed f 0
no_size f n e h = fixed_at f 0 (omega (arith, e.is))

-- the last arm, where each format that is no key of the others has a size, and this one has none
pub scalar_none : (kss : List (List ℕ)) → each (λ k. pick (any_has kss k) true (ltb 0 (fixed_size k))) 0 20 ≡ true → (f : ℕ) (v : List ℕ) → Fixed f 0 → NoneOf kss f → false ≡ scalar f v
scalar_none kss t f v e o =
    sym (elim (dec_lt f 20) [
      | yes l ↦ absurd (omega (arith, e.is, ltb-true 0 (fixed_size f) (in_rest (λ k. ltb 0 (fixed_size k)) kss 20 t f l o)))
      | no l ↦ scalar_unknown f v (omega arith)
    ])
