-- A contract of the number leaves one answer.
use mathlib.Core.Path.{◌≡◌, refl, ap, sym, ◌∙◌}
use mathlib.Core.Bool.{Bool, true, false, cond}
use Prim.Native.Nat.{ℕ}
use lib.Dec.{eqb}
use Rattle.std.specs.Prelude.{Result, Ok, Err}
use Rattle.forms.specs.declared.fault.Refusal.{Refusal}
use lib.Ieee.{Format, Float, binary32, binary64, of_bits, to_bits, nan_bits, is_nan}
use lib.Ieee.Bits.{is_true, is_false, of_bits-to_bits, nan_bits_is}
use Rattle.wire.proofs.Picks.{pick_yes, pick_no}
use Rattle.find_number.specs.Number.{shown, Plain, Proper, Gives}
use Rattle.find_number.specs.declared.Number.{Number}
use Rattle.find_number.specs.declared.Number.TheVariants.{Integer, Truth, Single, Double, SingleNan, DoubleNan}
use Rattle.protocol.specs.Numbers.{pick}
use Rattle.protocol.specs.Finding.{Numbered, unnumbered, numbered, integral}

-- the case that shows a number: by the format, and of a float by whether its bits are a NaN's
single : ℕ → Number
single b = pick (nan_bits binary32 b) (SingleNan b) (Single (of_bits binary32 b))

double : ℕ → Number
double b = pick (nan_bits binary64 b) (DoubleNan b) (Double (of_bits binary64 b))

answer : Numbered → Result Number Refusal
answer (unnumbered n q) = Err (record { fault = n; place = q })
answer (numbered f b) =
    Ok (pick (integral f) (Integer f b) (pick (eqb f 9) (Truth (eqb b 1)) (pick (eqb f 6) (single b) (double b))))

-- a float that is no NaN is read back from its bits, which are no NaN's
module _ (f : Format) (x : Float) (p : Plain f x) where
  bits-plain : nan_bits f (to_bits f x) ≡ false
  bits-plain = nan_bits_is f (to_bits f x) ∙ ap is_nan (of_bits-to_bits f x p.0) ∙ is_false (is_nan x) p.1

  bits_back : (g : ℕ → Number) (k : Float → Number) → pick (nan_bits f (to_bits f x)) (g (to_bits f x)) (k (of_bits f (to_bits f x))) ≡ k x
  bits_back g k = pick_no _ _ _ bits-plain ∙ ap k (of_bits-to_bits f x p.0)

truth_back : (b : Bool) → eqb (cond b 1 0) 1 ≡ b
truth_back true = refl
truth_back false = refl

-- a proper answer is had back from what it shows
answer_back : (r : Result Number Refusal) → Proper r → answer (shown r) ≡ r
unfolding answer single double shown Proper integral pick
answer_back (Err r) p = refl
answer_back (Ok (Integer f b)) p = ap Ok (pick_yes _ _ _ p)
answer_back (Ok (Truth b)) p = ap (λ (x : Bool). Ok (Truth x)) (truth_back b)
answer_back (Ok (Single x)) p = ap Ok (bits_back binary32 x p SingleNan Single)
answer_back (Ok (Double x)) p = ap Ok (bits_back binary64 x p DoubleNan Double)
answer_back (Ok (SingleNan b)) p = ap Ok (pick_yes _ _ _ (is_true (nan_bits binary32 b) p))
answer_back (Ok (DoubleNan b)) p = ap Ok (pick_yes _ _ _ (is_true (nan_bits binary64 b) p))

-- The contract of `find_number` leaves one answer.
pub one_answer : (x : Numbered) (r r' : Result Number Refusal) → Gives x r → Gives x r' → r ≡ r'
one_answer x r r' g h = sym (answer_back r g.proper) ∙ ap answer (g.is ∙ sym h.is) ∙ answer_back r' h.proper
