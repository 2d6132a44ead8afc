-- `value_leaves::sparse_leaves` meets its contract: what is left leads to the
-- same place, with the indexes so far marked and counted, or one was given twice.
use native.Mathlib.Omega.{arith}
use mathlib.Core.Path.{sym, ◌∙◌}
use Rattle.value_leaves.proofs.Single.{given_few}
use Rattle.value_leaves.proofs.Gathering.{gathering_start, gathering_next, gathering_none, gathering_end}
use Rattle.value_leaves.proofs.sparse_leaves.Goals as goal

pub loop-n-init : goal.loop-n-init
loop-n-init c =
    (omega arith, gathering_start _ _ _ _ _ _ _ _ c.requires.3 c.requires.4)

pub given_leaf-requires : goal.given_leaf-requires
given_leaf-requires c =
    (c.requires.0, c.requires.1, c.loop-n.invariant.1.4.inside)

pub count_given-given-requires : goal.count_given-given-requires
count_given-given-requires c =
    let f =
    given_few _ _ _ _ c.requires.0 c.requires.1 c.loop-n.invariant.1.4.inside _ (sym c.in-Some.is ∙ c.given_leaf.ensures)
    in (
      c.requires.0,
      c.requires.1,
      f.0,
      omega (arith, c.loop-n.invariant.1.2, c.loop-n-test.true, c.least-most.ensures),
    )

pub overflow_add-base : goal.overflow_add-base
overflow_add-base c =
    let f =
    given_few _ _ _ _ c.requires.0 c.requires.1 c.loop-n.invariant.1.4.inside _ (sym c.in-Some.is ∙ c.given_leaf.ensures)
    in
    omega (arith, f.3, c.requires.2)

pub put_entry-requires : goal.put_entry-requires
put_entry-requires c =
    let f =
    given_few _ _ _ _ c.requires.0 c.requires.1 c.loop-n.invariant.1.4.inside _ (sym c.in-Some.is ∙ c.given_leaf.ensures)
    in (
      omega (
        arith,
        c.loop-n.invariant.1.4.inside,
        c.loop-n.invariant.1.4.few,
        c.requires.2,
      ),
      f.2,
      omega (arith, f.1),
      omega (arith, f.3, c.requires.2),
      omega (arith, f.3, c.requires.2),
      omega arith,
    )

pub overflow_add-to : goal.overflow_add-to
overflow_add-to c =
    omega (
      arith,
      c.loop-n.invariant.1.4.inside,
      c.loop-n.invariant.1.4.few,
      c.requires.2,
    )

pub overflow_add-pos : goal.overflow_add-pos
overflow_add-pos c =
    let f =
    given_few _ _ _ _ c.requires.0 c.requires.1 c.loop-n.invariant.1.4.inside _ (sym c.in-Some.is ∙ c.given_leaf.ensures)
    in
    omega (arith, f.3, c.requires.2)

pub loop-n-smaller : goal.loop-n-smaller
loop-n-smaller c =
    omega (arith, c.loop-n-test.true)

pub loop-n-preserved : goal.loop-n-preserved
loop-n-preserved c =
    let t = c.loop-n-test.true in (
      omega arith,
      gathering_next _ _ _ _ _ _ _ _
          c.requires.0
          c.requires.1 _ _ _ _ _
          c.loop-n.invariant.1
          (omega (arith, c.least-most.ensures)) _
          (sym c.in-Some.is ∙ c.given_leaf.ensures) _ c.count_given-given.ensures _
          c.put_entry.ensures c.put_entry.auto.list,
    )

pub shape_of-list-then-n-eq0 : goal.shape_of-list-then-n-eq0
shape_of-list-then-n-eq0 c = c.loop-n.invariant.1.0

pub returns-then-n-eq0 : goal.returns-then-n-eq0
returns-then-n-eq0 c =
    let e = c.new-then-n-eq0.ensures in
    rw (e.0, e.1, e.2, e.3, e.4) (gathering_none _ _ _ _ _ _ _ _ _ _ _ _ _ c.loop-n.invariant.1
    c.if-n-eq0.true _ c.new.ensures.0 _ c.new.ensures.1)

pub mark_elements-seen-requires : goal.mark_elements-seen-requires
mark_elements-seen-requires c = c.requires.3

pub overflow_sub-count : goal.overflow_sub-count
overflow_sub-count c = omega (arith, c.loop-n.invariant.1.1)

pub shape_of-list : goal.shape_of-list
shape_of-list c = c.loop-n.invariant.1.0

pub returns : goal.returns
returns c =
    let e = c.new-3.ensures in
    rw (e.0, e.1, e.2, e.3, e.4) (gathering_end _ _ _ _ _ _ _ _ _ _ _ _ _ c.loop-n.invariant.1 _
    c.new-2.ensures.0 _ c.mark_elements-seen.ensures.1 _ c.mark_elements-seen.ensures.0)
