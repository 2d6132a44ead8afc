-- `plan_nodes::needs::fill` meets its contract. The loop's invariant: what is left
-- of the plan leads to the same table. The measure is what is left of the plan.
use Prim.Native.Nat.{◌-◌}
use lib.ListN.{length}
use Rattle.plan_nodes.proofs.Memos.{Filling}
use Rattle.plan_nodes.proofs.needs.fill.Given as goal

abbrev pub invariant-loop-at : goal.invariant-loop-at
invariant-loop-at l = Filling l.plan l.initial.table l.table l.m l.at

abbrev pub decreases-loop-at : goal.decreases-loop-at
decreases-loop-at l = length l.plan - l.at
