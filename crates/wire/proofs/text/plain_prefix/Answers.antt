-- `wire::text::plain_prefix` meets its contract. The invariant: all bytes up to `i` are plain.
use mathlib.Core.Path.{refl, ◌∙◌}
use native.Mathlib.Omega.{arith}
use Rattle.wire.proofs.Sequences.{plain_next, plain_stop}
use Rattle.wire.proofs.text.plain_prefix.Goals as goal

pub loop-i-init : goal.loop-i-init
loop-i-init c = record { onward = omega arith; inside = omega arith; same = refl }

pub returns-then-s-i-ge128 : goal.returns-then-s-i-ge128
returns-then-s-i-ge128 c =
    let l = c.loop-i in
    let e = plain_stop c.args.s.now l.i (omega arith) c.if-s-i-ge128.true in
    omega (arith, l.invariant.same, e)

pub loop-i-preserved : goal.loop-i-preserved
loop-i-preserved c =
    let p = c.loop-i.invariant in
    record {
      onward = omega arith;
      inside = omega arith;
      same = p.same ∙ plain_next c.args.s.now c.loop-i.i (omega arith) c.if-s-i-ge128.false;
    }

pub returns : goal.returns
returns c = omega (arith, c.loop-i.invariant.same)
