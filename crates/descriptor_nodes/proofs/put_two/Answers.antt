-- `descriptor_nodes::put_two` meets its contract.
use Rattle.descriptor_nodes.proofs.NodeWords.{two}
use Rattle.descriptor_nodes.proofs.put_two.Goals as goal

pub returns : goal.returns
returns c =
    two c.args.plan.now _ _
    c.args.to
    c.args.a
    c.args.b
    c.put_word.ensures c.put_word-2.ensures
