-- `value_leaves::other_leaves` meets its contract: what is left leads to the same place.
use Rattle.value_leaves.proofs.Stretches.{Going}
use Rattle.value_leaves.proofs.other_leaves.Given as goal

abbrev pub invariant-loop-i : goal.invariant-loop-i
invariant-loop-i l = Going l.plan l.node l.base l.part l.count l.first l.from l.at l.initial.list l.i l.pos l.to l.list
