-- Nobody has to believe these definitions: they are what the functions of src/plain.rt and src/letters.rt say to each other of a scan of
-- text, in forms of the step (L5) and of well-formed text (R2.6) that no other crate needs. They come to those of wire/specs/Scan.
use Rattle.std.specs.Prelude.{List, [], ◌∷◌, ℕ, zero, suc, ◌+◌, ◌*◌, ◌-◌, ltb, length, drop}
use Rattle.wire.specs.Scan.{plain_run, follow}
use Rattle.protocol.specs.Numbers.{pick}
use Rattle.protocol.specs.Text.{Range, ◌to◌, within, Row, utf8_table, following}

-- ---- plain bytes

-- where the plain bytes at i end
abbrev pub run_end : List ℕ → ℕ → ℕ
run_end s i = i + plain_run (drop i s)

-- of each of the first n bytes its highest bit, the first byte lowest
unfoldable pub highs : ℕ → List ℕ → ℕ
highs zero s = 0
highs (suc n) [] = 0
highs (suc n) (b ∷ s) = highs n s * 256 + pick (ltb b 0x80) 0 0x80

-- ---- letters

-- how many bytes at the front are letters of a row, where k are left of one that was begun
unfoldable pub row_going : List Range → ℕ → List ℕ → ℕ
row_going rs k [] = 0
row_going rs zero (b ∷ s) = pick (follow rs (b ∷ s)) (suc (row_going rs (length rs - 1) s)) 0
row_going rs (suc k) (b ∷ s) = suc (row_going rs k s)

abbrev pub row_run : List Range → List ℕ → ℕ
row_run rs s = row_going rs zero s

-- where the letters of a row at i end
abbrev pub row_end : List Range → List ℕ → ℕ → ℕ
row_end rs s i = i + row_run rs (drop i s)

-- the range of the first bytes in the row that has b; b alone where no row has it
unfoldable pub firsts : List Row → ℕ → Range
firsts [] b = b to b
firsts (r ∷ rs) b = pick (within r.first b) r.first (firsts rs b)

-- the bytes of the letters in the row of b
abbrev pub row_of : ℕ → List Range
row_of b = firsts utf8_table b ∷ following utf8_table b

-- how many bytes at the front are letters that have the row of the first of them
unfoldable pub letters_run : List ℕ → ℕ
letters_run [] = 0
letters_run (b ∷ s) = row_run (row_of b) (b ∷ s)

-- where the letters at i end that have the row of the first of them
abbrev pub letters_end : List ℕ → ℕ → ℕ
letters_end s i = i + letters_run (drop i s)
