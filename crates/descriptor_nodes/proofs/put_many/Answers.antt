use Rattle.descriptor_nodes.proofs.NodeWords.{put_object, put_tuple}
use Rattle.descriptor_nodes.proofs.put_many.Goals as goal

pub returns-then-kind-eq-KIND_TUPLE : goal.returns-then-kind-eq-KIND_TUPLE
returns-then-kind-eq-KIND_TUPLE c =
    put_tuple _ _ _ _ _ _ _ _ _ c.many_kind-kind.ensures c.put_two.ensures c.if-kind-eq-KIND_TUPLE.true c.put_refs.ensures

pub returns : goal.returns
returns c =
    put_object _ _ _ _ _ _ _ _ _ c.many_kind-kind.ensures c.put_two.ensures c.if-kind-eq-KIND_TUPLE.false c.put_pairs.ensures
