-- `plan_check::read_nodes` meets its contract. The loop's invariant: what is left
-- of the reading leads to the same end. The measure is what is left of the plan.
use Prim.Native.Nat.{◌-◌}
use lib.ListN.{length}
use Rattle.plan_check.proofs.Scans.{Going}
use Rattle.plan_check.proofs.read_nodes.Given as goal

abbrev pub invariant-loop-at : goal.invariant-loop-at
invariant-loop-at l =
    Going l.plan l.starts l.heights l.n l.at

abbrev pub decreases-loop-at : goal.decreases-loop-at
decreases-loop-at l = length l.plan - l.at
