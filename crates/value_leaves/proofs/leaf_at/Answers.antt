-- `value_leaves::leaf_at` meets its contract: what was read is the leaf that the head leads to, or the head leads to none.
use mathlib.Core.Path.{sym, ◌∙◌}
use Rattle.value_parts.proofs.Members.{inner_kind}
use Rattle.value_parts.proofs.Containers.{container_none}
use Rattle.value_leaves.specs.Leaves.{good}
use Rattle.value_leaves.proofs.Single.{leaf_none_at, leaf_short, leaf_over, leaf_there}
use Rattle.protocol.specs.Numbers.{pick}
use Rattle.protocol.specs.Heads.{word}
use Rattle.value_leaves.proofs.leaf_at.Goals as goal
use Rattle.value_leaves.proofs.leaf_at.Goals.{then-not-is_leaf-via-then-not-is_leaf, then-not-is_leaf-via-else-not-is_leaf+then-part-pos, then-part-start-via-then-part-start, then-part-start-via-else-part-start+then-not-is_good}

pub returns-then-not-is_leaf : goal.returns-then-not-is_leaf
returns-then-not-is_leaf c =
    elim c.then-not-is_leaf.branch [
      | then-not-is_leaf-via-then-not-is_leaf w ↦
          leaf_none_at _ _ _ _ (container_none _ _ _ (inner_kind _ _ _ c.kind_at-kind.ensures (sym c.is_leaf.ensures ∙ w.if-not-is_leaf.true)))
      | then-not-is_leaf-via-else-not-is_leaf+then-part-pos w ↦ leaf_short _ _ _ _ w.if-part-pos.true
    ]

pub returns-then-part-start : goal.returns-then-part-start
unfolding word pick
returns-then-part-start c =
    elim c.then-part-start.branch [
      | then-part-start-via-then-part-start w ↦
          leaf_over _ _ _ _ _ c.if-part-pos.false c.u32_at-len.ensures w.if-part-start.true
      | then-part-start-via-else-part-start+then-not-is_good w ↦
          leaf_there _ _ _ _ c.requires.2 _ c.if-part-pos.false c.u32_at-len.ensures w.if-part-start.false _ (sym w.if-not-is_good.true ∙ w.is_good.ensures)
    ]

pub returns : goal.returns
unfolding word pick good
returns c =
    leaf_there _ _ _ _ c.requires.2 _ c.if-part-pos.false c.u32_at-len.ensures c.if-part-start.false _
    (sym c.if-not-is_good.false ∙ c.is_good.ensures)
