-- `wire::text::is_utf8` meets its contract. The invariant: the text is well-formed where what is left of it is.
use mathlib.Core.Path.{refl, ap, sym, ◌∙◌}
use mathlib.Core.List.{[]}
use Prim.Native.Nat.{ℕ}
use native.Mathlib.Omega.{arith}
use lib.ListN.{drop}
use borrow.Author.Rules.{rules}
use Rattle.wire.proofs.Sequences.{sequence_is, sequence_none, ended, plain_next, plain_inside, plain_goes}
use Rattle.protocol.specs.Text.{goes_on, well_formed}
use Rattle.wire.proofs.text.is_utf8.Goals as goal

pub loop-i-init : goal.loop-i-init
unfolding well_formed
loop-i-init c = (omega arith, refl)

pub loop-i-smaller-then-s-i-lt128 : goal.loop-i-smaller-then-s-i-lt128
loop-i-smaller-then-s-i-lt128 c =
    let s = c.args.s.now in
    let i = c.loop-i.i in
    omega (arith, plain_next s i (omega arith) c.if-s-i-lt128.true, plain_inside s i (omega arith))

pub loop-i-preserved-then-s-i-lt128 : goal.loop-i-preserved-then-s-i-lt128
loop-i-preserved-then-s-i-lt128 c =
    let s = c.args.s.now in
    let i = c.loop-i.i in
    let e = c.plain_end-i.ensures in
    (rw e (plain_inside s i c.loop-i.invariant.0), c.loop-i.invariant.1 ∙ plain_goes s i ∙ ap (λ (k : ℕ). goes_on [] (drop k s)) (sym e))

pub returns-in_default : goal.returns-in_default
returns-in_default c =
    sym (c.loop-i.invariant.1 ∙ sequence_none _ _ c.loop-i-test.true c.in_default.ensures)

pub overflow_add-i : goal.overflow_add-i
overflow_add-i c = search (rules, (sequence_is _ _ _ c.in-Some.ensures c.loop-i-test.true).inside)

pub loop-i-smaller : goal.loop-i-smaller
loop-i-smaller c = omega (arith, (sequence_is _ _ _ c.in-Some.ensures c.loop-i-test.true).some)

pub loop-i-preserved : goal.loop-i-preserved
loop-i-preserved c =
    let q = sequence_is _ _ _ c.in-Some.ensures c.loop-i-test.true in (q.inside, c.loop-i.invariant.1 ∙ q.on)

pub returns : goal.returns
returns c = sym (c.loop-i.invariant.1 ∙ ended _ _ c.loop-i-test.false)
