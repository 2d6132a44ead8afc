-- `wire_letters::plain::plain_block` meets its contract. The invariant: `high` is plain where each byte passed is.
use mathlib.Core.Path.{ap, sym, ◌∙◌}
use Prim.Native.Nat.{ℕ, zero-le}
use native.Mathlib.Omega.{arith}
use lib.Dec.{leb}
use lib.ListN.{drop}
use borrow.Author.Tests.{le-leb}
use Rattle.wire.proofs.Numbers.{part_at, part_end}
use Rattle.wire.proofs.Sequences.{plain_more}
use Rattle.wire.specs.Scan.{plain_run}
use Rattle.wire_letters.proofs.plain.plain_block.Goals as goal

pub loop-b-init : goal.loop-b-init
loop-b-init c = sym (le-leb 0 (plain_run (drop c.args.i c.args.s.now)) zero-le)

pub loop-b-preserved : goal.loop-b-preserved
loop-b-preserved c =
    let l = c.loop-b in
    let a = c.args in
    let p = part_at a.s.now a.i a.n l.b-index c.requires c.loop-b-test.true in
    plain_more a.s.now a.i l.b-index l.high _ (omega (arith, p.below)) l.invariant (omega (arith, c.max-high.ensures)) (omega (arith, c.max-high.ensures, p.same)) (λ q r. omega (arith, c.max-high.ensures, p.same))

pub returns : goal.returns
returns c =
    let l = c.loop-b in
    let a = c.args in
    l.invariant ∙ ap (λ (k : ℕ). leb k (plain_run (drop a.i a.s.now))) (part_end a.s.now a.i a.n l.b-index c.requires l.auto.b-index-end c.loop-b-test.false)
