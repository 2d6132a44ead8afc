-- `plan_heights::Before::many_height` meets its contract: a law for each kind.
use mathlib.Core.Path.{ap, ◌∙◌}
use native.Mathlib.Omega.{arith}
use Rattle.plan_heights.specs.Scan.{height_option}
use Rattle.plan_heights.proofs.Cases.{many_over, many_tuple, many_pairs, many_other}
use Rattle.plan_nodes.proofs.Nodes.{five_six}
use Rattle.plan_nodes.proofs.Sizes.{tuple_fits, pairs_fit}
use Rattle.plan_heights.proofs.Before.many_height.Goals as goal

pub returns-then-count-gt-MOST_ITEMS : goal.returns-then-count-gt-MOST_ITEMS
returns-then-count-gt-MOST_ITEMS c = many_over _ _ _ _ _ c.if-count-gt-MOST_ITEMS.true

pub elements_height-requires : goal.elements_height-requires
elements_height-requires c = (omega arith, omega (arith, tuple_fits _ _ _ _ c.requires c.in-4.is))

pub returns-in-4 : goal.returns-in-4
returns-in-4 c =
    c.elements_height.ensures ∙ ap height_option (many_tuple _ _ _ _ _ c.if-count-gt-MOST_ITEMS.false c.in-4.is)

pub elements_height-requires-in-5 : goal.elements_height-requires-in-5
elements_height-requires-in-5 c = (omega arith, pairs_fit _ _ _ _ c.requires (five_six _ (omega arith) (omega arith)))

pub returns-in-5 : goal.returns-in-5
returns-in-5 c =
    c.elements_height-in-5.ensures
    ∙ ap height_option (many_pairs _ _ _ _ _ c.if-count-gt-MOST_ITEMS.false (five_six _ (omega arith) (omega arith)))

pub returns-in_default : goal.returns-in_default
returns-in_default c =
    many_other _ _ _ _ _ c.if-count-gt-MOST_ITEMS.false (λ e. omega arith) (λ e. omega arith) (λ e. omega arith)

pub returns-in_default-2 : goal.returns-in_default-2
returns-in_default-2 c =
    many_other _ _ _ _ _ c.if-count-gt-MOST_ITEMS.false (λ e. omega arith) (λ e. omega arith) (λ e. omega arith)
