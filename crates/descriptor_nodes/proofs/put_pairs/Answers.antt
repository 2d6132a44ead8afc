use mathlib.Core.Path.{refl, ◌∙◌}
use native.Mathlib.Omega.{arith}
use Rattle.descriptor_fields.specs.Arrays.{tab}
use Rattle.descriptor_nodes.proofs.NodeWords.{pairs_more, pairs_done}
use Rattle.protocol.specs.Compiling.{ref_cards}
use Rattle.descriptor_nodes.proofs.put_pairs.Goals as goal

pub loop-k-init : goal.loop-k-init
unfolding tab ref_cards
loop-k-init c = (refl, refl)

pub loop-k-preserved : goal.loop-k-preserved
loop-k-preserved c = (
  c.put_two.auto.plan ∙ c.loop-k.invariant.0,
  pairs_more _ _ _ _ _ _ _ _ c.node_at-node.ensures c.loop-k.invariant.1 c.put_two.ensures,
)

pub shape_of-plan : goal.shape_of-plan
shape_of-plan c = c.loop-k.invariant.0
