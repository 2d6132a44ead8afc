-- `value_leaves::same_leaves` meets its contract: what is left leads to the same place.
use native.Mathlib.Omega.{arith}
use mathlib.Core.Path.{sym, ◌∙◌}
use Rattle.plan_nodes.proofs.Nodes.{at_ref}
use Rattle.value_leaves.proofs.Stretches.{going_next, leaf_same}
use Rattle.value_leaves.proofs.same_leaves.Goals as goal

pub overflow_add-base : goal.overflow_add-base
overflow_add-base c =
    let x = leaf_same _ _ _ c.loop-i.i _ _ _ c.requires.1 _ _ c.requires.7 c.requires.6 (sym c.in-Some.is ∙ c.fixed_leaf.ensures) in
    omega (arith, x.fits, c.requires.3)

pub put_entry-requires : goal.put_entry-requires
put_entry-requires c =
    let x = leaf_same _ _ _ c.loop-i.i _ _ _ c.requires.1 _ _ c.requires.7 c.requires.6 (sym c.in-Some.is ∙ c.fixed_leaf.ensures) in
    let r = (at_ref _ _ _ _ c.requires.0 c.requires.6).0 in
    let g = c.loop-i.invariant in (
      omega (arith, g.2, g.3, c.requires.3),
      r.small,
      omega (arith, c.loop-i-test.true, c.requires.2),
      omega (arith, x.fits, c.requires.3),
      omega (arith, x.fits, c.requires.3),
      omega arith,
    )

pub overflow_add-pos : goal.overflow_add-pos
overflow_add-pos c =
    let x = leaf_same _ _ _ c.loop-i.i _ _ _ c.requires.1 _ _ c.requires.7 c.requires.6 (sym c.in-Some.is ∙ c.fixed_leaf.ensures) in
    omega (arith, x.fits, c.requires.3)

pub loop-i-preserved : goal.loop-i-preserved
loop-i-preserved c =
    going_next _ _ _ _ _ _ _ _ _ _ _ _ _ c.loop-i.invariant c.requires.0 c.loop-i-test.true _ _
    (leaf_same _ _ _ c.loop-i.i _ _ _ c.requires.1 _ _ c.requires.7 c.requires.6 (sym c.in-Some.is ∙ c.fixed_leaf.ensures))
    _ c.put_entry.ensures c.put_entry.auto.list
