-- `wire::text::plain_end` meets its contract: each part goes on where the one before it ended, and the last one ends where the plain bytes do.
use mathlib.Core.Path.{sym}
use Prim.Native.Nat.{◌+◌}
use native.Mathlib.Omega.{arith}
use Rattle.wire.proofs.Sequences.{plain_over, plain_inside, prefix_plain, blocks_plain}
use Rattle.wire.proofs.text.plain_end.Goals as goal

pub returns-then-s-from : goal.returns-then-s-from
returns-then-s-from c =
    sym (plain_over c.args.s.now c.args.from c.if-s-from.true)

pub returns-then-s-from-lt16 : goal.returns-then-s-from-lt16
returns-then-s-from-lt16 c =
    let a = c.args in
    omega (arith, c.plain_prefix.ensures, plain_inside a.s.now a.from (omega arith))

pub returns-then-i-near : goal.returns-then-i-near
returns-then-i-near c = omega (arith, c.plain_prefix-i.ensures, c.if-i-near.true)

pub plain_blocks-small-requires : goal.plain_blocks-small-requires
plain_blocks-small-requires c =
    let a = c.args in
    let near = prefix_plain a.s.now a.from (a.from + 16) _ (omega arith) (omega arith) c.plain_prefix-i.ensures in
    let large = blocks_plain a.s.now _ 128 (omega arith) near.inside _ c.plain_blocks-large.ensures in
    (large.inside, omega arith)

pub plain_prefix-requires-2 : goal.plain_prefix-requires-2
plain_prefix-requires-2 c =
    let a = c.args in
    let near = prefix_plain a.s.now a.from (a.from + 16) _ (omega arith) (omega arith) c.plain_prefix-i.ensures in
    let large = blocks_plain a.s.now _ 128 (omega arith) near.inside _ c.plain_blocks-large.ensures in
    let small = blocks_plain a.s.now _ 16 (omega arith) large.inside _ c.plain_blocks-small.ensures in
    (small.inside, omega arith)

pub returns : goal.returns
returns c =
    let a = c.args in
    let near = prefix_plain a.s.now a.from (a.from + 16) _ (omega arith) (omega arith) c.plain_prefix-i.ensures in
    let large = blocks_plain a.s.now _ 128 (omega arith) near.inside _ c.plain_blocks-large.ensures in
    let small = blocks_plain a.s.now _ 16 (omega arith) large.inside _ c.plain_blocks-small.ensures in
    omega (arith, c.plain_prefix-2.ensures, plain_inside a.s.now c.plain_blocks-small.result small.inside, near.same, large.same, small.same)
