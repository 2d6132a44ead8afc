-- Nobody has to believe these definitions: they are the writing of a message as the code does it, the list by the next word's index, the
-- output by the next byte's, which stops growing past the largest message so that no sum can overflow.
use Rattle.std.specs.Prelude.{◌≡◌, ℕ, ◌+◌, ◌-◌, ◌≤◌, Bool, List, ltb, length, drop, Some, None}
use Rattle.std.proofs.lemmas.List.Edits.{sets}
use Rattle.message_layout.specs.Judged.{judged, judged_all}
use Rattle.message_layout.specs.Tables.{field_of, layout_at}
use Rattle.std.specs.declared.option.Option.{Option}
use Rattle.message_write.specs.declared.Emitted.{Emitted}
use Rattle.protocol.specs.Numbers.{pick, be}
use Rattle.protocol.specs.Messages.{u16, Written, unwritten, wrote, next_field, joined, times_written, fields_written}

-- one past the largest message (R2.16), at most
unfoldable pub cap : ℕ → ℕ
cap n = pick (ltb 65537 n) 65537 n

-- bytes were put out at `at`, and r is past them
pub record Framed (b : List ℕ) (at r : ℕ) (out out' : List ℕ) : Type 0 where
  pub next : r ≡ cap (at + length b)
  pub output : out' ≡ sets out at b

-- where a writing stands: the words left, the next byte, and the output. A fault says nothing of the output.
pub data Stand : Type 0 where
  broken : Stand
  stands : List ℕ → ℕ → List ℕ → Stand

-- where a writing from `at` on leads
unfoldable pub put_at : Written → ℕ → List ℕ → Stand
put_at unwritten at out = broken
put_at (wrote b ws) at out = stands ws (cap (at + length b)) (sets out at b)

unfoldable pub stand_of : Option Emitted → List ℕ → List ℕ → Stand
stand_of None ws out = broken
stand_of (Some e) ws out = stands (drop e.word ws) e.at out

-- the next word and byte stay in their bounds
unfoldable pub Bounded : ℕ → Option Emitted → Type 0
Bounded n None = Unit {0}
Bounded n (Some e) = (e.word ≤ n) × (e.at ≤ 65537)

-- what a code stands for: a field, or a run's count and items
unfoldable pub item_from : Bool → ℕ → List ℕ → List ℕ → Written
item_from j c src ws =
    pick (ltb c 16) (next_field (judged j (field_of c)) src ws)
    (joined (next_field u16 src ws) (λ b. times_written (be b) (fields_written (judged_all j (layout_at (c - 16))) src)))
