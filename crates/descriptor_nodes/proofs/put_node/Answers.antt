-- `descriptor_nodes::put_node` meets its contract.
use Rattle.descriptor_nodes.proofs.NodeWords.{put_none, put_leaf, put_enum, put_one, put_rest}
use Rattle.descriptor_nodes.proofs.put_node.Goals as goal

pub returns-then-not-has_values : goal.returns-then-not-has_values
returns-then-not-has_values c =
    put_none _ _ _ _ _ _ _ c.has_values.ensures c.if-not-has_values.true

pub returns-in-3 : goal.returns-in-3
returns-in-3 c =
    put_leaf _ _ _ _ _ _ _ c.in-3.is (rw c.format_word.ensures at c.put_two.ensures)

pub returns-in-7 : goal.returns-in-7
returns-in-7 c =
    put_enum _ _ _ _ _ _ _ c.in-7.is c.put_word.ensures

pub returns-in-0 : goal.returns-in-0
returns-in-0 c =
    put_one _ _ _ _ _ _ _ _ c.in-0.is c.only_ref.ensures c.put_single.ensures

pub returns-in_default : goal.returns-in_default
returns-in_default c =
    put_rest _ _ _ _ _ _ _ _ _ c.has_values.ensures
    c.if-not-has_values.false c.in_default.in_default-own.rest.0.0.1
    c.in_default.in_default-own.rest.0.1 c.in_default.in_default-own.rest.1
    c.put_many.ensures
