-- `plan_nodes::node::card_of` meets its contract: the pairs of an object stand in the plan.
use native.Mathlib.Omega.{arith}
use Rattle.plan_nodes.proofs.Refs.{card_inside, card_gives}
use Rattle.plan_nodes.proofs.node.card_of.Goals as goal

pub overflow_mul-result : goal.overflow_mul-result
overflow_mul-result c =
    omega (arith, card_inside c.args.plan.now c.args.node c.requires.0 c.args.i c.requires.1 c.requires.2 c.requires.3, c.well_formed)

pub overflow_add-result-2 : goal.overflow_add-result-2
overflow_add-result-2 c =
    omega (arith, card_inside c.args.plan.now c.args.node c.requires.0 c.args.i c.requires.1 c.requires.2 c.requires.3, c.well_formed)

pub offset_bounds-plan-node : goal.offset_bounds-plan-node
offset_bounds-plan-node c =
    omega (arith, card_inside c.args.plan.now c.args.node c.requires.0 c.args.i c.requires.1 c.requires.2 c.requires.3, c.well_formed)

pub bounds-plan-node : goal.bounds-plan-node
bounds-plan-node c =
    omega (
      arith,
      card_inside c.args.plan.now c.args.node c.requires.0 c.args.i c.requires.1 c.requires.2
          c.requires.3,
    )

pub returns : goal.returns
returns c =
    card_gives c.args.plan.now c.args.node c.requires.0 c.args.i c.requires.1 c.requires.2 c.requires.3
