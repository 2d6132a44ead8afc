-- `find_number::of_node` meets its contract.
use mathlib.Core.Path.{sym, ◌∙◌}
use Rattle.find_number.proofs.Bits.{gives_leaf, gives_other}
use Rattle.find_number.proofs.of_node.Goals as goal

pub returns-then-kind_at-ne-KIND_LEAF : goal.returns-then-kind_at-ne-KIND_LEAF
returns-then-kind_at-ne-KIND_LEAF c =
    rw c.at.ensures (gives_other _ _ _ (λ e. c.if-kind_at-ne-KIND_LEAF.true (c.kind_at.ensures.is ∙ e)))

pub returns : goal.returns
returns c =
    gives_leaf _ _ _ (sym c.kind_at.ensures.is ∙ c.if-kind_at-ne-KIND_LEAF.false) _ c.second_at.ensures _ c.of_format.ensures
