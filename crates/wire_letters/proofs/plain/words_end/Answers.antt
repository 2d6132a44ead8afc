-- `wire_letters::plain::words_end` meets its contract. The invariant: all bytes up to `i` are plain.
use mathlib.Core.Path.{refl, ◌∙◌}
use Prim.Native.Nat.{◌+◌, ◌-◌}
use native.Mathlib.Omega.{arith}
use lib.Count.{trailing_le}
use lib.ListN.{length}
use Rattle.wire.proofs.Sequences.{plain_over}
use Rattle.wire_letters.proofs.PlainRuns.{plain_within, word_plain, word_first}
use Rattle.wire_letters.proofs.plain.words_end.Goals as goal

pub loop-i-init : goal.loop-i-init
loop-i-init c = record { onward = omega arith; inside = omega (arith, c.requires); same = refl }

pub overflow_add-result : goal.overflow_add-result
overflow_add-result c = omega (arith, c.first_high.ensures, trailing_le 64 c.high_at-high.result)

pub returns-then-high-ne0 : goal.returns-then-high-ne0
returns-then-high-ne0 c =
    let a = c.args in
    let l = c.loop-i in
    omega (arith, c.first_high.ensures, l.invariant.same, word_first a.s.now l.i _ (omega arith) c.high_at-high.ensures c.if-high-ne0.true)

pub loop-i-preserved : goal.loop-i-preserved
loop-i-preserved c =
    let a = c.args in
    let l = c.loop-i in
    record {
      onward = omega (arith, l.invariant.onward);
      inside = omega arith;
      same = l.invariant.same ∙ word_plain a.s.now l.i _ (omega arith) c.high_at-high.ensures c.if-high-ne0.false;
    }

pub overflow_add-result-then-high-ne0-2 : goal.overflow_add-result-then-high-ne0-2
overflow_add-result-then-high-ne0-2 c = omega (arith, c.first_high-then-high-ne0-2.ensures, trailing_le 64 c.high_at-high-2.result)

pub returns-then-high-ne0-2 : goal.returns-then-high-ne0-2
returns-then-high-ne0-2 c =
    let a = c.args in
    let l = c.loop-i in
    let w = plain_within a.s.now a.from l.i (length a.s.now - 8) l.invariant (omega arith) (omega arith) in
    omega (arith, c.first_high-then-high-ne0-2.ensures, w, word_first a.s.now (length a.s.now - 8) _ (omega arith) c.high_at-high-2.ensures c.if-high-ne0-2.true)

pub returns : goal.returns
returns c =
    let a = c.args in
    let l = c.loop-i in
    let w = plain_within a.s.now a.from l.i (length a.s.now - 8) l.invariant (omega arith) (omega arith) in
    let e = word_plain a.s.now (length a.s.now - 8) _ (omega arith) c.high_at-high-2.ensures c.if-high-ne0-2.false in
    omega (arith, w, e, plain_over a.s.now (length a.s.now - 8 + 8) (omega arith))
