-- `wire_stepless::textbench_is_utf8_stepless` meets its contract, with the invariant and the laws of the check that has the step.
use mathlib.Core.Path.{sym, ◌∙◌}
use native.Mathlib.Omega.{arith}
use Rattle.wire_letters.proofs.Rows.{left_all, left_plain, left_letters, left_none, left_end, letters_inside}
use Rattle.wire_stepless.proofs.textbench_is_utf8_stepless.Goals as goal

pub loop-i-init : goal.loop-i-init
loop-i-init c = left_all _

pub loop-i-preserved-then-s-i-lt128 : goal.loop-i-preserved-then-s-i-lt128
loop-i-preserved-then-s-i-lt128 c = left_plain _ _ c.loop-i.invariant c.loop-i-test.true c.if-s-i-lt128.true

pub returns-then-end-i : goal.returns-then-end-i
returns-then-end-i c = left_none _ _ c.loop-i.invariant c.loop-i-test.true (sym c.letters_end-end.ensures ∙ c.if-end-i.true)

pub loop-i-smaller : goal.loop-i-smaller
loop-i-smaller c =
    let i = c.loop-i.i in
    omega (arith, c.if-end-i.false, c.letters_end-end.ensures, letters_inside c.args.s.now i (omega arith))

pub loop-i-preserved : goal.loop-i-preserved
loop-i-preserved c = left_letters _ _ c.loop-i.invariant _ c.letters_end-end.ensures

pub returns : goal.returns
returns c = left_end _ _ c.loop-i.invariant c.loop-i-test.false
