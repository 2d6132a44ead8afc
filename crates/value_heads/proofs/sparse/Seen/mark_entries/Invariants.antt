-- `value_heads::sparse::Seen::mark_entries` meets its contract: what is left of the entries leads to the same marks.
use Prim.Native.Nat.{◌-◌}
use Rattle.value_heads.specs.Marks.{indexes_apart}
use Rattle.value_heads.proofs.Marks.{Marking}
use Rattle.value_heads.proofs.sparse.Seen.mark_entries.Given as goal

abbrev pub invariant-loop : goal.invariant-loop
invariant-loop l =
    Marking l.initial.marks (indexes_apart l.list l.step l.n l.first) l.marks l.twice (indexes_apart l.list l.step (l.n - l.counter) l.word)
