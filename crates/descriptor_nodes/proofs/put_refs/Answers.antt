use mathlib.Core.Path.{refl, ◌∙◌}
use native.Mathlib.Omega.{arith}
use Rattle.descriptor_fields.specs.Arrays.{tab}
use Rattle.descriptor_nodes.proofs.NodeWords.{refs_more, refs_done}
use Rattle.descriptor_nodes.proofs.put_refs.Goals as goal

pub loop-k-init : goal.loop-k-init
unfolding tab
loop-k-init c = (refl, refl)

pub loop-k-preserved : goal.loop-k-preserved
loop-k-preserved c = (
  c.put_word.auto.list ∙ c.loop-k.invariant.0,
  refs_more _ _ _ _ _ _ _ _ c.node_at.ensures c.loop-k.invariant.1 c.put_word.ensures,
)

pub shape_of-plan : goal.shape_of-plan
shape_of-plan c = c.loop-k.invariant.0
