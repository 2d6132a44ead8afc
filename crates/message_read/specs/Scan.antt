-- Nobody has to believe these definitions: they are the reading of a message as the code does it, the list by the number of its words so far.
-- A refusal says nothing of the list.
use Rattle.std.specs.Prelude.{ℕ, ◌+◌, ◌-◌, ◌*◌, ◌≤◌, ◌<◌, Bool, List, ltb, length, take, drop, set, Result, Ok, Err}
use Rattle.std.proofs.lemmas.List.Edits.{sets}
use Rattle.message_layout.specs.Judged.{judged, judged_all}
use Rattle.message_layout.specs.Tables.{field_of, layout_at}
use Rattle.forms.specs.declared.Span.{Span}
use Rattle.forms.specs.declared.fault.Refusal.{Refusal}
use Rattle.message_read.specs.declared.Reached.{Reached}
use Rattle.protocol.specs.Numbers.{pick, be}
use Rattle.protocol.specs.Messages.{u16, field_at, MessageRead, unread, read, then_read, field_outcome, times_read, fields_read}

-- where a walk ends
pub data Walk : Type 0 where
  stopped : ℕ → ℕ → Walk
  reached : ℕ → ℕ → List ℕ → Walk

unfoldable pub outcome_of : Result Reached Refusal → List ℕ → Walk
outcome_of (Err e) l = stopped e.fault e.place
outcome_of (Ok r) l = reached r.at r.words l

-- where an outcome leads, from k words on: the list by `sets`, whose stores past the end do nothing
unfoldable pub led : MessageRead → ℕ → List ℕ → Walk
led (unread n p) k l = stopped n p
led (read at ws) k l = reached at (k + length ws) (sets l k ws)

-- the content ends after `at` and within n bytes
unfoldable pub Inside : ℕ → ℕ → Result Span ℕ → Type 0
Inside at n (Err q) = Unit {0}
Inside at n (Ok c) = (at < c.start + c.len) × (c.start + c.len ≤ n)

-- each field has at least one byte and two words
unfoldable pub Within : ℕ → Result Reached Refusal → Type 0
Within n (Err e) = Unit {0}
Within n (Ok r) = (r.at ≤ n) × (r.words ≤ 2 * r.at)

-- two words at k, as far as the list has room
unfoldable pub put : List ℕ → ℕ → ℕ → ℕ → List ℕ
put l k x y = set (set l k x) (k + 1) y

-- what a code stands for: a field, or a run's count and items
unfoldable pub item_of : Bool → ℕ → List ℕ → ℕ → MessageRead
item_of j c m at =
    pick (ltb c 16) (field_outcome at (field_at (judged j (field_of c)) m at))
    (then_read (field_outcome at (field_at u16 m at)) (times_read (be (take 2 (drop at m))) (fields_read (judged_all j (layout_at (c - 16))) m)))
