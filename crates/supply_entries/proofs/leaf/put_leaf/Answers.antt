-- `supply_entries::leaf::put_leaf` meets its contract, test by test.
use native.Mathlib.Omega.{arith}
use Rattle.plan_nodes.proofs.Nodes.{at_ref}
use Rattle.supply_entries.proofs.Heads.{size_few}
use Rattle.supply_entries.proofs.Leaves.{put_stranger, put_above, put_large, put_outside, put_bad, put_good}
use Rattle.supply_entries.proofs.leaf.put_leaf.Goals as goal
use Rattle.supply_entries.proofs.leaf.put_leaf.Goals.{then-entry-child-via-then-entry-child, then-entry-child-via-else-entry-child+then-entry-ne0}

pub returns-then-entry-child : goal.returns-then-entry-child
returns-then-entry-child c =
    elim c.then-entry-child.branch [
      | then-entry-child-via-then-entry-child w ↦ put_stranger _ _ _ _ _ _ c.ref_of-child.ensures _ _ w.if-entry-child.true
      | then-entry-child-via-else-entry-child+then-entry-ne0 w ↦ put_above _ _ _ _ _ _ c.ref_of-child.ensures _ _ w.if-entry-child.false w.if-entry-ne0.true
    ]

pub overflow_add-size : goal.overflow_add-size
overflow_add-size c = omega (arith, c.head_size-head.ensures, size_few c.args.kind)

pub overflow_add-at : goal.overflow_add-at
overflow_add-at c = omega (arith, c.head_size-head.ensures, size_few c.args.kind)

pub returns-then-at-size-gt-MOST_VALUE : goal.returns-then-at-size-gt-MOST_VALUE
returns-then-at-size-gt-MOST_VALUE c =
    put_large _ _ _ _ _ _ c.ref_of-child.ensures _ _ c.if-entry-child.false c.if-entry-ne0.false _
    c.head_size-head.ensures c.if-at-size-gt-MOST_VALUE.true

pub returns-in_err-part : goal.returns-in_err-part
returns-in_err-part c =
    rw c.from_residual.ensures
    (put_outside _ _ _ _ _ _ c.ref_of-child.ensures _ _ c.if-entry-child.false c.if-entry-ne0.false _
    c.head_size-head.ensures c.if-at-size-gt-MOST_VALUE.false (omega (arith, c.in_err-part.ensures.lookup)))

pub leaf_fits-requires : goal.leaf_fits-requires
leaf_fits-requires c = (at_ref _ _ _ _ c.requires.0 c.ref_of-child.ensures).0

pub returns-then-not-leaf_fits : goal.returns-then-not-leaf_fits
returns-then-not-leaf_fits c =
    let l = c.in_ok-part.ensures.lookup.0 in
    put_bad _ _ _ _ _ _ c.ref_of-child.ensures _ _ c.if-entry-child.false c.if-entry-ne0.false _
    c.head_size-head.ensures c.if-at-size-gt-MOST_VALUE.false l.1 _ l.2 _ c.leaf_fits.ensures c.if-not-leaf_fits.true

pub returns : goal.returns
returns c =
    let l = c.in_ok-part.ensures.lookup.0 in
    put_good _ _ _ _ _ _ c.ref_of-child.ensures _ _ c.if-entry-child.false c.if-entry-ne0.false _
    c.head_size-head.ensures c.if-at-size-gt-MOST_VALUE.false l.1 _ l.2 _ c.leaf_fits.ensures
    c.requires.1 (at_ref _ _ _ _ c.requires.0 c.ref_of-child.ensures).0 c.if-not-leaf_fits.false _ c.put_bytes.ensures _ c.put_head.ensures
