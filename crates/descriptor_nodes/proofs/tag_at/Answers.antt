use Rattle.descriptor_nodes.proofs.NodeWords.{tag_here, tag_beyond}
use Rattle.descriptor_nodes.proofs.tag_at.Goals as goal

pub returns-then-i-earlier : goal.returns-then-i-earlier
returns-then-i-earlier c = tag_here _ _ _ _ _ c.wide-i.ensures _ c.if-i-earlier.true c.tag.ensures

pub returns-else-i-earlier : goal.returns-else-i-earlier
returns-else-i-earlier c = tag_beyond _ _ _ _ _ c.wide-i.ensures c.if-i-earlier.false
