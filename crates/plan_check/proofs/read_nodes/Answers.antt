-- `plan_check::read_nodes` meets its contract: a law for each way out of the loop.
use Prim.Native.Nat.{◌+◌, ◌<◌}
use native.Mathlib.Omega.{arith}
use lib.ListN.{length, get_or}
use Rattle.plan_nodes.proofs.Reading.{size_positive}
use Rattle.plan_check.proofs.Scans.{going_start, going_scanned, going_end, going_many, going_short, going_whole, going_bad, going_next}
use Rattle.plan_check.proofs.read_nodes.Goals as goal

pub loop-at-init : goal.loop-at-init
loop-at-init c = going_start _ _ _ (omega arith)

pub returns-then-n-ge-MOST_BLOCKS : goal.returns-then-n-ge-MOST_BLOCKS
returns-then-n-ge-MOST_BLOCKS c = going_many _ _ _ _ _ c.loop-at.invariant c.loop-at-test.true c.if-n-ge-MOST_BLOCKS.true

pub returns-then-plan-at : goal.returns-then-plan-at
returns-then-plan-at c =
    going_short _ _ _ _ _ c.loop-at.invariant c.loop-at-test.true c.if-n-ge-MOST_BLOCKS.false _ c.size_at-size.ensures
    c.if-plan-at.true

pub invariant_of-before : goal.invariant_of-before
invariant_of-before c = record { scanned = going_scanned _ _ _ _ _ c.loop-at.invariant c.loop-at-test.true }

pub height_at-requires : goal.height_at-requires
height_at-requires c =
    going_whole _ _ _ _ _ c.loop-at.invariant c.loop-at-test.true c.if-n-ge-MOST_BLOCKS.false _ c.size_at-size.ensures
    c.if-plan-at.false

pub returns-in_err-height : goal.returns-in_err-height
returns-in_err-height c =
    rw c.from_residual.ensures
    (going_bad _ _ _ _ _ c.loop-at.invariant c.loop-at-test.true c.if-n-ge-MOST_BLOCKS.false _ c.size_at-size.ensures
    c.if-plan-at.false c.in_err-height.ensures)

pub loop-at-smaller : goal.loop-at-smaller
loop-at-smaller c =
    let at = c.loop-at.at in
    omega (arith, c.size_at-size.ensures, size_positive (get_or c.args.plan.now at 0) (get_or c.args.plan.now (at + 1) 0))

pub loop-at-preserved : goal.loop-at-preserved
loop-at-preserved c =
    let room : c.loop-at.n < length c.loop-at.starts = omega (arith, c.loop-at.invariant.low, c.loop-at.auto.starts) in
    let tall : c.loop-at.n < length c.loop-at.heights = omega (arith, c.loop-at.invariant.low, c.loop-at.auto.heights) in
    going_next _ _ _ _ _ c.loop-at.invariant c.loop-at-test.true c.if-n-ge-MOST_BLOCKS.false _ c.size_at-size.ensures
    c.if-plan-at.false _ c.in_ok-height.ensures room tall

pub returns : goal.returns
returns c = going_end _ _ _ _ _ c.loop-at.invariant c.loop-at-test.false
