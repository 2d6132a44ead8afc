-- `plan_nodes::needs::fill` meets its contract. The loop's invariant: what is left
-- of the plan leads to the same table. The measure is what is left of the plan.
use Prim.Native.Nat.{◌+◌, ◌≤◌}
use native.Mathlib.Omega.{arith}
use lib.ListN.{length, get_or}
use Rattle.plan_nodes.proofs.Reading.{size_positive}
use Rattle.plan_nodes.proofs.Sizes.{sparse_fits}
use Rattle.plan_nodes.proofs.Memos.{filling_start, filling_end, filling_other, filling_sparse}
use Rattle.protocol.specs.Plans.{node_size}
use Rattle.plan_nodes.proofs.needs.fill.Goals.{else-plan-at-eq-KIND_INPUT_OBJECT, then-plan-at-eq-KIND_INPUT_OBJECT}
use Rattle.plan_nodes.proofs.needs.fill.Goals as goal

pub loop-at-init : goal.loop-at-init
loop-at-init c = filling_start _ _

pub returns-then-plan-at : goal.returns-then-plan-at
returns-then-plan-at c = filling_end _ _ _ _ _ c.loop-at.invariant (omega (arith, c.size_at-size.ensures, c.if-plan-at.true))

pub put_need-m-requires : goal.put_need-m-requires
put_need-m-requires c = (
  omega (arith, c.loop-at.invariant.few, c.loop-at.invariant.same),
  sparse_fits c.loop-at.at
      (get_or c.args.plan.now c.loop-at.at 0)
      (get_or c.args.plan.now (c.loop-at.at + 1) 0)
      (length c.args.plan.now)
      (omega (arith, c.size_at-size.ensures, c.if-plan-at.false, c.loop-at-test.true))
      c.if-plan-at-eq-KIND_INPUT_OBJECT.true,
  c.requires,
)

pub overflow_add-at : goal.overflow_add-at
overflow_add-at c =
    omega (arith, c.requires, c.if-plan-at.false, c.loop-at-test.true)

pub loop-at-smaller : goal.loop-at-smaller
loop-at-smaller c =
    omega (
      arith,
      c.loop-at-test.true,
      c.size_at-size.ensures,
      c.if-plan-at.false,
      size_positive (get_or c.args.plan.now c.loop-at.at 0)
          (get_or c.args.plan.now (c.loop-at.at + 1) 0),
    )

pub loop-at-preserved : goal.loop-at-preserved
loop-at-preserved c =
    let a = c.args in
    let l = c.loop-at in
    let e = c.size_at-size.ensures in
    let w : l.at + node_size (get_or a.plan.now l.at 0) (get_or a.plan.now (l.at + 1) 0) ≤ length a.plan.now =
    omega (arith, e, c.if-plan-at.false, c.loop-at-test.true) in
    rw e
    (elim c.if-plan-at-eq-KIND_INPUT_OBJECT.branch [ then-plan-at-eq-KIND_INPUT_OBJECT h ↦ rw (h.table-is, h.m-is) (filling_sparse a.plan.now l.at a.table.now l.table l.m l.invariant w h.if-plan-at-eq-KIND_INPUT_OBJECT.true _ _ h.put_need-m.ensures) | else-plan-at-eq-KIND_INPUT_OBJECT h ↦ rw (h.table-is, h.m-is) (filling_other a.plan.now l.at a.table.now l.table l.m l.invariant w h.if-plan-at-eq-KIND_INPUT_OBJECT.false) ])

pub returns : goal.returns
returns c =
    filling_end _ _ _ _ _ c.loop-at.invariant
    (omega (
      arith,
      c.loop-at-test.false,
      size_positive (get_or c.args.plan.now c.loop-at.at 0) (get_or c.args.plan.now (c.loop-at.at + 1) 0),
    ))
