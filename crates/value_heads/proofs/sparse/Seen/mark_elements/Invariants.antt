-- `value_heads::sparse::Seen::mark_elements` meets its contract: what is left of the elements leads to the same marks.
use Prim.Native.Nat.{◌-◌, ◌≤◌}
use lib.ListN.{length}
use Rattle.value_heads.specs.Marks.{indexes_in}
use Rattle.value_heads.proofs.Marks.{Marking}
use Rattle.value_heads.proofs.sparse.Seen.mark_elements.Given as goal

abbrev pub invariant-loop : goal.invariant-loop
invariant-loop l = (l.pos ≤ length l.s) × Marking l.initial.marks (indexes_in l.s l.n l.at) l.marks l.twice (indexes_in l.s (l.n - l.counter) l.pos)
