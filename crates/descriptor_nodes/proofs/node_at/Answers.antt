use mathlib.Core.Path.{◌∙◌}
use Rattle.descriptor_fields.specs.Arrays.{known_at}
use Rattle.descriptor_nodes.proofs.NodeWords.{node_here, node_beyond}
use Rattle.descriptor_nodes.proofs.node_at.Goals as goal

pub returns-then-i-earlier : goal.returns-then-i-earlier
unfolding known_at
returns-then-i-earlier c = c.node.ensures ∙ node_here _ _ _ _ _ c.wide-i.ensures c.if-i-earlier.true

pub returns-else-i-earlier : goal.returns-else-i-earlier
returns-else-i-earlier c = node_beyond _ _ _ _ _ c.wide-i.ensures c.if-i-earlier.false
