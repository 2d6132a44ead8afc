-- `value_parts::node::open_node` meets its contract: what is left of the kinds is told by bounds on them.
use mathlib.Core.Path.{◌∙◌}
use Rattle.value_parts.proofs.Nodes.{open_set, open_count}
use Rattle.value_parts.proofs.node.open_node.Goals as goal

pub returns-then-kind-lt-KIND_TUPLE : goal.returns-then-kind-lt-KIND_TUPLE
returns-then-kind-lt-KIND_TUPLE c =
    c.set_opening.ensures ∙ open_set _ _ _ c.requires.1 _ c.if-kind-lt-KIND_TUPLE.true

pub returns : goal.returns
returns c =
    c.count_opening.ensures
    ∙ open_count _ _ _ c.requires.1 _
    c.requires.0 _ c.second_at.ensures
    c.if-kind-eq-KIND_INPUT_OBJECT.false c.if-kind-eq-KIND_RANGE.false c.if-kind-lt-KIND_TUPLE.false
