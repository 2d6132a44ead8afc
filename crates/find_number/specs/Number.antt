-- How the code's answer shows protocol's number of an element: read it only for the contract of `find_number::find_number`, of what
-- it calls, and of `c_number::number_answer`. The rules are R7.8 to R7.11.
use Rattle.std.specs.Prelude.{◌≡◌, ℕ, true, not, cond, ◌⊎◌, T, Float, Result, Ok, Err}
use Rattle.std.specs.Float.{Format, binary32, binary64}
use Rattle.std.specs.Float.Ieee.{fits, to_bits, nan_bits, is_nan}
use Rattle.forms.specs.declared.fault.Refusal.{Refusal}
use Rattle.find_number.specs.declared.Number.{Number}
use Rattle.find_number.specs.declared.Number.TheVariants.{Integer, Truth, Single, Double, SingleNan, DoubleNan}
use Rattle.protocol.specs.Finding.{Numbered, unnumbered, numbered, integral}

-- how many bytes an integer can have
unfoldable pub Width : ℕ → Type 0
Width w = (w ≡ 2) ⊎ ((w ≡ 4) ⊎ (w ≡ 8))

-- ---- what the call answers

-- the number and the values of each case (R9.11)
unfoldable pub shown : Result Number Refusal → Numbered
shown (Err r) = unnumbered r.fault r.place
shown (Ok (Integer f b)) = numbered f b
shown (Ok (Truth b)) = numbered 9 (cond b 1 0)
shown (Ok (Single x)) = numbered 6 (to_bits binary32 x)
shown (Ok (Double x)) = numbered 7 (to_bits binary64 x)
shown (Ok (SingleNan b)) = numbered 6 b
shown (Ok (DoubleNan b)) = numbered 7 b

-- a value that a float of the format holds, and no NaN
abbrev pub Plain : Format → Float → Type 0
Plain f x = (T (fits f x)) × (T (not (is_nan x)))

-- Each case holds only what is its own, so that one answer alone shows a number (proofs/Answers: `one_answer`): an integer has an integer's format;
-- a float's case holds no NaN, and a NaN's case the bits of a NaN, since a float keeps no NaN's bits.
unfoldable pub Proper : Result Number Refusal → Type 0
Proper (Err r) = Unit {0}
Proper (Ok (Integer f b)) = integral f ≡ true
Proper (Ok (Truth b)) = Unit {0}
Proper (Ok (Single x)) = Plain binary32 x
Proper (Ok (Double x)) = Plain binary64 x
Proper (Ok (SingleNan b)) = T (nan_bits binary32 b)
Proper (Ok (DoubleNan b)) = T (nan_bits binary64 b)

pub record Gives (x : Numbered) (r : Result Number Refusal) : Type 0 where
  pub is : shown r ≡ x
  pub proper : Proper r
