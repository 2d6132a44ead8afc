-- `plan_nodes::node::root_of` meets its contract: a plan that has a type has a root.
use native.Mathlib.Omega.{arith}
use Rattle.plan_nodes.proofs.Nodes.{at_root, root_inside}
use Rattle.plan_nodes.proofs.node.root_of.Goals as goal

pub bounds-plan-1 : goal.bounds-plan-1
bounds-plan-1 c =
    omega (arith, root_inside c.args.plan.now c.requires.0 c.requires.1)

pub returns : goal.returns
returns c = (
  c.wide.ensures,
  rw c.wide.ensures (at_root c.args.plan.now c.requires.0 c.requires.1
      (λ j. (c.type_inv.plan j).fits)),
)
