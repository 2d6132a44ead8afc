-- `wire_letters::plain::plain_end` meets its contract: each of its ways ends where the plain bytes do, which is where the step's definition ends.
use mathlib.Core.Path.{sym, ◌∙◌}
use native.Mathlib.Omega.{arith}
use lib.Count.{trailing_le}
use Rattle.wire.proofs.Sequences.{plain_over}
use Rattle.wire_letters.proofs.PlainRuns.{step_run, word_plain, word_first}
use Rattle.wire_letters.proofs.plain.plain_end.Goals as goal

pub returns-then-s-from : goal.returns-then-s-from
returns-then-s-from c =
    let a = c.args in
    sym (step_run a.s.now a.from ∙ plain_over a.s.now a.from c.if-s-from.true)

pub returns-then-s-from-lt-NEAR : goal.returns-then-s-from-lt-NEAR
returns-then-s-from-lt-NEAR c =
    let a = c.args in
    c.near_end.ensures ∙ sym (step_run a.s.now a.from)

pub overflow_add-result : goal.overflow_add-result
overflow_add-result c = omega (arith, c.first_high.ensures, trailing_le 64 c.high_at-high.result)

pub returns-then-high-ne0 : goal.returns-then-high-ne0
returns-then-high-ne0 c =
    let a = c.args in
    omega (arith, c.first_high.ensures, step_run a.s.now a.from, word_first a.s.now a.from _ (omega arith) c.high_at-high.ensures c.if-high-ne0.true)

pub returns : goal.returns
returns c =
    let a = c.args in
    c.far_end.ensures ∙ sym (step_run a.s.now a.from ∙ word_plain a.s.now a.from _ (omega arith) c.high_at-high.ensures c.if-high-ne0.false)
