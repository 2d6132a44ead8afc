-- Scalars and enumerations (R5.15, R5.16, R5.17). A rule is asked of a value's own bytes; where it fails the value is refused (24).
use Rattle.std.specs.Prelude.{ℕ, ◌+◌, ◌*◌, Bool, true, false, List, [], ◌∷◌, leb, ltb, eqb, length, take, drop, get_or}
use Rattle.protocol.specs.Constants.{MOST_LOCAL_TIME}
use Rattle.protocol.specs.Numbers.{pick, be}
use Rattle.protocol.specs.Text.{well_formed}

-- any bytes of a fixed size
unfoldable pub of_size : ℕ → List ℕ → Bool
of_size n v = eqb (length v) n

unfoldable pub boolean : List ℕ → Bool
boolean v = pick (of_size 1 v) (ltb (be v) 2) false

-- days and months, its last eight bytes, are zero
unfoldable pub duration : List ℕ → Bool
duration v = pick (of_size 16 v) (eqb (be (drop 8 v)) 0) false

-- microseconds of a day. Its i64 is read without the sign: a negative one is then 2^63 or more, and so past the last.
unfoldable pub local_time : List ℕ → Bool
local_time v = pick (of_size 8 v) (leb (be v) MOST_LOCAL_TIME) false

-- a 1, and then any text: no grammar is looked at
unfoldable pub json : List ℕ → Bool
json [] = false
json (b ∷ s) = pick (eqb b 1) (well_formed s) false

-- R5.16: digits to the base 10,000, two bytes each
unfoldable pub digits : List ℕ → Bool
digits [] = true
digits (a ∷ []) = false
digits (a ∷ b ∷ s) = pick (leb (be (a ∷ b ∷ [])) 9999) (digits s) false

-- the number in the two bytes at a position: how many digits at 0, the weight at 2, the sign at 4, and at 6 what a bigint has reserved
unfoldable pub half : List ℕ → ℕ → ℕ
half v at = be (take 2 (drop at v))

unfoldable pub sign : ℕ → Bool
sign s = pick (eqb s 0) true (eqb s 0x4000)

unfoldable pub decimal : List ℕ → Bool
decimal v =
    pick (leb 8 (length v))
    (pick (eqb (length v) (8 + 2 * half v 0)) (pick (sign (half v 4)) (digits (drop 8 v)) false) false)
    false

-- R5.16: n digits stand before the decimal point, if there are any; the weight has 16 bits and is signed
unfoldable pub no_fraction : ℕ → ℕ → Bool
no_fraction n weight = pick (eqb n 0) true (pick (ltb weight 0x8000) (leb n (weight + 1)) false)

unfoldable pub bigint : List ℕ → Bool
bigint v = pick (decimal v) (pick (eqb (half v 6) 0) (no_fraction (half v 0) (half v 2)) false) false

-- a format's rule: any bytes of a size, or another
pub data FormatRule : Type 0 where
  fixed : ℕ → FormatRule
  ruled : (List ℕ → Bool) → FormatRule

unfoldable pub rule_of : FormatRule → List ℕ → Bool
rule_of (fixed n) = of_size n
rule_of (ruled rule) = rule

-- R5.15: uuid, str, bytes, int16, int32, int64, float32, float64, decimal, bool, datetime, local_datetime, local_date, local_time, duration,
-- json, bigint, relative_duration, date_duration, memory
unfoldable pub formats : List FormatRule
formats =
    fixed 16
    ∷ ruled well_formed
    ∷ ruled (λ v. true)
    ∷ fixed 2
    ∷ fixed 4
    ∷ fixed 8
    ∷ fixed 4
    ∷ fixed 8
    ∷ ruled decimal
    ∷ ruled boolean
    ∷ fixed 8
    ∷ fixed 8
    ∷ fixed 4
    ∷ ruled local_time
    ∷ ruled duration
    ∷ ruled json
    ∷ ruled bigint
    ∷ fixed 16
    ∷ fixed 16
    ∷ fixed 8
    ∷ []

-- no bytes are a value of a format that is not there
unfoldable pub format_rule : ℕ → FormatRule
format_rule f = get_or formats f (ruled (λ v. false))

-- the bytes are a value of the format
unfoldable pub scalar : ℕ → List ℕ → Bool
scalar f v = rule_of (format_rule f) v

-- R5.17
unfoldable pub enumeration : List ℕ → Bool
enumeration v = well_formed v
