use mathlib.Core.Path.{ap, ◌∙◌}
use native.Mathlib.Omega.{arith}
use lib.Dec.{eqb}
use Rattle.std.proofs.lemmas.Iterator.{YieldsList-from_slice}
use Rattle.std.proofs.lemmas.Iterator.Search.{any_from_yields_List}
use Rattle.message_layout.specs.Tables.{firsts, allowed_of, values, values_of}
use Rattle.protocol.specs.Messages.{permits}
use Rattle.message_layout.proofs.Rules.{part_is, values_none, values_some}
use borrow.Author.Rules.{rules}
use Rattle.message_layout.proofs.admits.Goals as goal

pub returns-then-from-to : goal.returns-then-from-to
unfolding firsts
returns-then-from-to c =
    values_none _ _ _ _ c.requires.1 c.from-row.ensures c.from-from.ensures c.from-to.ensures c.if-from-to.true _

pub uint_at-number-requires : goal.uint_at-number-requires
unfolding firsts
uint_at-number-requires c =
    let o = part_is _ _ _ _ c.requires.1 c.from-row.ensures c.from-from.ensures c.from-to.ensures in
    omega (arith, c.width_of.ensures.width, o.ordered, o.narrow)

pub slice_bounds-iter-count : goal.slice_bounds-iter-count
unfolding firsts
slice_bounds-iter-count c =
    let o = part_is _ _ _ _ c.requires.1 c.from-row.ensures c.from-from.ensures c.from-to.ensures in
    o.ordered

pub slice_bounds-iter-start : goal.slice_bounds-iter-start
unfolding firsts
slice_bounds-iter-start c =
    let o = part_is _ _ _ _ c.requires.1 c.from-row.ensures c.from-from.ensures c.from-to.ensures in
    omega (arith, o.ordered)

pub slice_bounds-iter-end : goal.slice_bounds-iter-end
unfolding firsts
slice_bounds-iter-end c =
    let o = part_is _ _ _ _ c.requires.1 c.from-row.ensures c.from-from.ensures c.from-to.ensures in
    omega (arith, o.end)

pub returns : goal.returns
unfolding firsts allowed_of values
returns c =
    values_some _ _ _ _ c.requires.1 c.from-row.ensures c.from-from.ensures c.from-to.ensures c.if-from-to.false _ _
    (any_from_yields_List (eqb c.uint_at-number.result) _ _ _ c.any.ensures.ran
    (YieldsList-from_slice (allowed_of c.from-from.result c.from-to.result) c.iter.ensures.rest)
    (λ x b q k. search rules)) ∙ ap (permits (values_of c.args.code)) (rw (← c.width_of.ensures.width) c.uint_at-number.ensures)
