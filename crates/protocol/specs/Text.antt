-- Well-formed text (R2.6): UTF-8 by Table 3-7 of the Unicode Standard.
use Rattle.std.specs.Prelude.{ℕ, Bool, true, false, List, [], ◌∷◌, leb}
use Rattle.protocol.specs.Numbers.{pick}

-- a range of bytes, both ends in it
pub record Range : Type 0 where
  pub low : ℕ
  pub high : ℕ

abbrev pub ◌to◌ : ℕ → ℕ → Range
a to b = record { low = a; high = b }

unfoldable pub within : Range → ℕ → Bool
within r b = pick (leb r.low b) (leb b r.high) false

-- a row of the table: the range of the first byte, and the ranges of those that follow it
pub record Row : Type 0 where
  pub first : Range
  pub rest : List Range

abbrev pub ◌then◌ : Range → List Range → Row
r then rs = record { first = r; rest = rs }

infix 30 ◌to◌
infix 20 ◌then◌
-- Table 3-7
unfoldable pub utf8_table : List Row
utf8_table =
    (0x00 to 0x7f then [])
    ∷ (0xc2 to 0xdf then (0x80 to 0xbf) ∷ [])
    ∷ (0xe0 to 0xe0 then (0xa0 to 0xbf) ∷ (0x80 to 0xbf) ∷ [])
    ∷ (0xe1 to 0xec then (0x80 to 0xbf) ∷ (0x80 to 0xbf) ∷ [])
    ∷ (0xed to 0xed then (0x80 to 0x9f) ∷ (0x80 to 0xbf) ∷ [])
    ∷ (0xee to 0xef then (0x80 to 0xbf) ∷ (0x80 to 0xbf) ∷ [])
    ∷ (0xf0 to 0xf0 then (0x90 to 0xbf) ∷ (0x80 to 0xbf) ∷ (0x80 to 0xbf) ∷ [])
    ∷ (0xf1 to 0xf3 then (0x80 to 0xbf) ∷ (0x80 to 0xbf) ∷ (0x80 to 0xbf) ∷ [])
    ∷ (0xf4 to 0xf4 then (0x80 to 0x8f) ∷ (0x80 to 0xbf) ∷ (0x80 to 0xbf) ∷ [])
    ∷ []

-- what may follow a first byte: the rest of its row, or, where no row has it, a range that no byte is in
unfoldable pub following : List Row → ℕ → List Range
following [] b = (1 to 0) ∷ []
following (r ∷ rs) b = pick (within r.first b) r.rest (following rs b)

-- the bytes continue a sequence of which the ranges in the first list are yet to come, and then are sequences of the table
unfoldable pub goes_on : List Range → List ℕ → Bool
goes_on [] [] = true
goes_on (r ∷ rs) [] = false
goes_on [] (b ∷ s) = goes_on (following utf8_table b) s
goes_on (r ∷ rs) (b ∷ s) = pick (within r b) (goes_on rs s) false

unfoldable pub well_formed : List ℕ → Bool
well_formed s = goes_on [] s
