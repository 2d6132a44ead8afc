-- `wire_letters::letters::is_utf8` meets its contract. The invariant: the text is well-formed where what is left of it is.
use mathlib.Core.Path.{sym, ◌∙◌}
use native.Mathlib.Omega.{arith}
use Rattle.wire_letters.proofs.PlainRuns.{step_next, step_inside}
use Rattle.wire_letters.proofs.Rows.{left_all, left_step, left_letters, left_none, left_end, letters_inside}
use Rattle.wire_letters.proofs.letters.is_utf8.Goals as goal

pub loop-i-init : goal.loop-i-init
loop-i-init c = left_all _

pub loop-i-smaller-then-s-i-lt128 : goal.loop-i-smaller-then-s-i-lt128
loop-i-smaller-then-s-i-lt128 c =
    let s = c.args.s.now in
    let i = c.loop-i.i in
    omega (arith, c.plain_end-i.ensures, step_next s i (omega arith) c.if-s-i-lt128.true, step_inside s i (omega arith))

pub loop-i-preserved-then-s-i-lt128 : goal.loop-i-preserved-then-s-i-lt128
loop-i-preserved-then-s-i-lt128 c = left_step _ _ c.loop-i.invariant _ c.plain_end-i.ensures

pub returns-then-end-i : goal.returns-then-end-i
returns-then-end-i c = left_none _ _ c.loop-i.invariant c.loop-i-test.true (sym c.letters_end-end.ensures ∙ c.if-end-i.true)

pub loop-i-smaller : goal.loop-i-smaller
loop-i-smaller c =
    let i = c.loop-i.i in
    omega (arith, c.if-end-i.false, c.letters_end-end.ensures, letters_inside c.args.s.now i (omega arith))

pub loop-i-preserved : goal.loop-i-preserved
loop-i-preserved c = left_letters _ _ c.loop-i.invariant _ c.letters_end-end.ensures

pub returns : goal.returns
returns c = left_end _ _ c.loop-i.invariant c.loop-i-test.false
