use Rattle.descriptor_nodes.proofs.NodeWords.{only_none, only_first}
use Rattle.descriptor_nodes.proofs.only_ref.Goals as goal

pub returns-then-count-eq0 : goal.returns-then-count-eq0
returns-then-count-eq0 c = only_none _ _ c.if-count-eq0.true

pub returns-else-count-eq0 : goal.returns-else-count-eq0
returns-else-count-eq0 c = only_first _ _ c.if-count-eq0.false
