-- `plan_nodes::node::ref_of` meets its contract: for each group of kinds, a law that the word stands in the plan and is the reference.
use mathlib.Core.Path.{ap, sym, ◌∙◌}
use mathlib.Core.Option.{some}
use native.Mathlib.Omega.{arith}
use Rattle.plan_nodes.proofs.Nodes.{at_inside}
use Rattle.plan_nodes.proofs.Refs.{tuple_inside, tuple_gives, pairs_inside, pairs_gives, one_inside, one_gives}
use Rattle.plan_nodes.proofs.node.ref_of.Goals.{in_default-via-then-this-lt4, in_default-via-else-this-lt4+else-this-lt7}
use Rattle.plan_nodes.proofs.node.ref_of.Goals as goal

pub bounds-plan-node : goal.bounds-plan-node
bounds-plan-node c = omega (arith, at_inside _ _ c.requires.0)

pub overflow_add-node-in-4 : goal.overflow_add-node-in-4
overflow_add-node-in-4 c = omega (arith, tuple_inside _ _ c.requires.0 _ c.requires.1 c.in-4.is, c.well_formed)

pub offset_bounds-plan-node-in-4 : goal.offset_bounds-plan-node-in-4
offset_bounds-plan-node-in-4 c = omega (arith, tuple_inside _ _ c.requires.0 _ c.requires.1 c.in-4.is, c.well_formed)

pub bounds-plan-node-in-4 : goal.bounds-plan-node-in-4
bounds-plan-node-in-4 c = tuple_inside _ _ c.requires.0 _ c.requires.1 c.in-4.is

pub returns-in-4 : goal.returns-in-4
returns-in-4 c = tuple_gives _ _ c.requires.0 _ c.requires.1 c.in-4.is ∙ ap some (sym c.wide.ensures)

pub overflow_mul-i : goal.overflow_mul-i
overflow_mul-i c = omega (arith, pairs_inside _ _ c.requires.0 _ c.requires.1 (omega arith) (omega arith), c.well_formed)

pub overflow_add-node-in-5-2 : goal.overflow_add-node-in-5-2
overflow_add-node-in-5-2 c = omega (arith, pairs_inside _ _ c.requires.0 _ c.requires.1 (omega arith) (omega arith), c.well_formed)

pub offset_bounds-plan-node-in-5 : goal.offset_bounds-plan-node-in-5
offset_bounds-plan-node-in-5 c = omega (arith, pairs_inside _ _ c.requires.0 _ c.requires.1 (omega arith) (omega arith), c.well_formed)

pub bounds-plan-node-in-5 : goal.bounds-plan-node-in-5
bounds-plan-node-in-5 c = pairs_inside _ _ c.requires.0 _ c.requires.1 (omega arith) (omega arith)

pub returns-in-5 : goal.returns-in-5
returns-in-5 c =
    pairs_gives _ _ c.requires.0 _ c.requires.1 (omega arith) (omega arith) ∙ ap some (sym c.wide-in-5.ensures)

pub bounds-plan-node-in_default : goal.bounds-plan-node-in_default
bounds-plan-node-in_default c =
    one_inside _ _ c.requires.0 _ c.requires.1
    (λ h. elim c.in_default.branch [ in_default-via-then-this-lt4 w ↦ omega arith | in_default-via-else-this-lt4+else-this-lt7 w ↦ omega arith ])

pub returns-in_default : goal.returns-in_default
returns-in_default c =
    one_gives _ _ c.requires.0 _ c.requires.1
    (λ h. elim c.in_default.branch [ in_default-via-then-this-lt4 w ↦ omega arith | in_default-via-else-this-lt4+else-this-lt7 w ↦ omega arith ])
    ∙ ap some (sym c.wide-in_default.ensures)
