use mathlib.Core.Path.{sym, ◌∙◌}
use Rattle.plan_nodes.proofs.Nodes.{at_ref}
use Rattle.value_leaves.proofs.Stretches.{row_refers}
use Rattle.value_leaves.proofs.walk_leaves.Goals as goal

pub ref_of-child-requires : goal.ref_of-child-requires
ref_of-child-requires c =
    (c.requires.0.node, row_refers _ _ (sym c.kind_at-kind.ensures.is ∙ c.if-kind-eq-KIND_SET_OR_ARRAY.true) _)

pub told_at-requires : goal.told_at-requires
told_at-requires c = (at_ref _ _ _ _ c.requires.0.node c.ref_of-child.ensures).0
