-- `value_parts::entry::put_entry` meets its contract: five stores, one after the other.
use native.Mathlib.Numerals.{towards_suc}
use Rattle.value_parts.proofs.entry.put_entry.Goals as goal

pub returns-then-at-list : goal.returns-then-at-list
returns-then-at-list c = simp towards_suc
