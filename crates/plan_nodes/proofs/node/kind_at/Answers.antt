-- `plan_nodes::node::kind_at` meets its contract: the law of a node's kind.
use native.Mathlib.Omega.{arith}
use Rattle.plan_nodes.proofs.Nodes.{at_inside}
use Rattle.plan_nodes.proofs.Refs.{kind_gives}
use Rattle.plan_nodes.proofs.node.kind_at.Goals as goal

pub bounds-plan-node : goal.bounds-plan-node
bounds-plan-node c =
    omega (arith, at_inside c.args.plan.now c.args.node c.requires)

pub returns : goal.returns
returns c =
    kind_gives c.args.plan.now c.args.node c.requires
