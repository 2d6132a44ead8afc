-- `value_leaves::sparse_leaves` meets its contract: what is left leads to the
-- same place, with the indexes so far marked and counted, or one was given twice.
use Prim.Native.Nat.{◌-◌, ◌≤◌}
use Rattle.value_leaves.proofs.Gathering.{Gathering}
use Rattle.value_leaves.proofs.sparse_leaves.Given as goal

abbrev pub invariant-loop-n : goal.invariant-loop-n
invariant-loop-n l = (l.n ≤ l.most) × Gathering l.plan l.node l.base l.part l.count l.from l.at l.initial.list l.list l.n l.given l.pos l.to

abbrev pub decreases-loop-n : goal.decreases-loop-n
decreases-loop-n l = l.most - l.n
