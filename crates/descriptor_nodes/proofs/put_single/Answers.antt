-- `descriptor_nodes::put_single` meets its contract.
use Rattle.descriptor_nodes.proofs.NodeWords.{single_put}
use Rattle.descriptor_nodes.proofs.put_single.Goals as goal

pub returns : goal.returns
returns c =
    single_put _ _ _ _ _ _ _ _ c.single_kind-kind.ensures c.node_at.ensures c.put_two.ensures
