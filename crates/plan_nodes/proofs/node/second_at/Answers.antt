-- `plan_nodes::node::second_at` meets its contract: every node but an enumeration has a second word.
use native.Mathlib.Omega.{arith}
use Rattle.plan_nodes.proofs.Nodes.{at_second}
use Rattle.plan_nodes.proofs.node.second_at.Goals as goal

pub bounds-plan-node : goal.bounds-plan-node
bounds-plan-node c =
    omega (arith, at_second c.args.plan.now c.args.node c.requires.0 c.requires.1)
