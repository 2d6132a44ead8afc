-- `wire_letters::plain::plain_blocks` meets its contract. The invariant: the blocks at `i` end where those at `from` do.
use mathlib.Core.Path.{refl, sym, ◌∙◌}
use native.Mathlib.Omega.{arith}
use borrow.Author.Tests.{leb-true, leb-false}
use Rattle.wire.proofs.Sequences.{plain_inside, blocks_next, blocks_stop}
use Rattle.wire_letters.proofs.plain.plain_blocks.Goals as goal

pub loop-i-init : goal.loop-i-init
loop-i-init c = (c.requires.0, refl)

pub returns-then-not-plain_block : goal.returns-then-not-plain_block
returns-then-not-plain_block c =
    let a = c.args in
    let l = c.loop-i in
    let e = c.plain_block.ensures in
    sym (l.invariant.1 ∙ blocks_stop a.s.now l.i a.n c.requires.1 (leb-false _ _ (sym e ∙ c.if-not-plain_block.true)))

pub loop-i-preserved : goal.loop-i-preserved
loop-i-preserved c =
    let a = c.args in
    let l = c.loop-i in
    let e = c.plain_block.ensures in
    (omega arith, l.invariant.1 ∙ blocks_next a.s.now l.i a.n c.requires.1 (leb-true _ _ (sym e ∙ c.if-not-plain_block.false)))

pub returns : goal.returns
returns c =
    let a = c.args in
    let l = c.loop-i in
    let h = plain_inside a.s.now l.i l.invariant.0 in
    sym (l.invariant.1 ∙ blocks_stop a.s.now l.i a.n c.requires.1 (omega arith))
