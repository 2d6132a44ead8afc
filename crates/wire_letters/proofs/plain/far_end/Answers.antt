-- `wire_letters::plain::far_end` meets its contract: each part goes on where the one before it ended.
use mathlib.Core.Path.{sym, ◌∙◌}
use Prim.Native.Nat.{◌+◌}
use native.Mathlib.Omega.{arith}
use borrow.Author.Tests.{leb-true}
use Rattle.wire.proofs.Sequences.{plain_past, blocks_plain}
use Rattle.wire_letters.proofs.plain.far_end.Goals as goal

pub near_end-requires : goal.near_end-requires
near_end-requires c =
    let a = c.args in
    (blocks_plain a.s.now (a.from + 64) 128 (omega arith) (omega arith) _ c.plain_blocks-far.ensures).inside

pub returns : goal.returns
returns c =
    let a = c.args in
    let first = plain_past a.s.now a.from 64 (leb-true _ _ (sym c.plain_block.ensures ∙ c.if-not-plain_block.false)) in
    let far = blocks_plain a.s.now (a.from + 64) 128 (omega arith) (omega arith) _ c.plain_blocks-far.ensures in
    c.near_end.ensures ∙ sym (first ∙ far.same)
