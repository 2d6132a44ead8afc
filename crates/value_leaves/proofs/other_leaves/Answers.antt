-- `value_leaves::other_leaves` meets its contract: what is left leads to the same place.
use native.Mathlib.Omega.{arith}
use mathlib.Core.Path.{sym, ap, ◌∙◌}
use Rattle.plan_nodes.proofs.Nodes.{at_ref}
use Rattle.value_leaves.specs.Leaves.{gap_of}
use Rattle.value_leaves.proofs.Stretches.{going_next, leaf_other, gap_few}
use Rattle.value_leaves.proofs.other_leaves.Goals as goal

pub leaf_at-requires : goal.leaf_at-requires
leaf_at-requires c = (
  (at_ref _ _ _ _ c.requires.0.node c.ref_of-child.ensures).0,
  c.loop-i.invariant.2,
  omega (arith, c.requires.4),
  rw c.gap_of-gap.ensures (gap_few _),
)

pub overflow_add-base : goal.overflow_add-base
overflow_add-base c =
    let x = leaf_other _ _ _ _ _ _ _ c.loop-i.invariant.2 c.requires.0 c.requires.1 _ (c.gap_of-gap.ensures ∙ ap gap_of c.kind_at.ensures.is) c.ref_of-child.ensures (sym c.in-Some.is ∙ c.leaf_at.ensures) in
    omega (arith, x.fits, c.requires.4)

pub put_entry-requires : goal.put_entry-requires
put_entry-requires c =
    let x = leaf_other _ _ _ _ _ _ _ c.loop-i.invariant.2 c.requires.0 c.requires.1 _ (c.gap_of-gap.ensures ∙ ap gap_of c.kind_at.ensures.is) c.ref_of-child.ensures (sym c.in-Some.is ∙ c.leaf_at.ensures) in
    let r = (at_ref _ _ _ _ c.requires.0.node c.ref_of-child.ensures).0 in
    let g = c.loop-i.invariant in (
      omega (arith, g.2, g.3, c.requires.4),
      r.small,
      omega (arith, c.loop-i-test.true, c.requires.3),
      omega (arith, x.fits, c.requires.4),
      omega (arith, x.fits, c.requires.4),
      omega arith,
    )

pub overflow_add-pos : goal.overflow_add-pos
overflow_add-pos c =
    let x = leaf_other _ _ _ _ _ _ _ c.loop-i.invariant.2 c.requires.0 c.requires.1 _ (c.gap_of-gap.ensures ∙ ap gap_of c.kind_at.ensures.is) c.ref_of-child.ensures (sym c.in-Some.is ∙ c.leaf_at.ensures) in
    omega (arith, x.fits, c.requires.4)

pub loop-i-preserved : goal.loop-i-preserved
loop-i-preserved c =
    going_next _ _ _ _ _ _ _ _ _ _ _ _ _ c.loop-i.invariant c.requires.0.node c.loop-i-test.true _ _
    (leaf_other _ _ _ _ _ _ _ c.loop-i.invariant.2 c.requires.0 c.requires.1 _ (c.gap_of-gap.ensures ∙ ap gap_of c.kind_at.ensures.is) c.ref_of-child.ensures (sym c.in-Some.is ∙ c.leaf_at.ensures))
    _ c.put_entry.ensures c.put_entry.auto.list
