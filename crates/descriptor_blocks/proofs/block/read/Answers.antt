-- `descriptor_blocks::block::read` meets its contract.
use Rattle.descriptor_fields.specs.Earlier.{before}
use Rattle.descriptor_fields.proofs.Rows.{spelled_is}
use Rattle.std.proofs.lemmas.Result.{err_from_is_err_and}
use Rattle.descriptor_blocks.specs.Walks.{walk_of, Inside}
use Rattle.descriptor_blocks.proofs.Loops.{block_room, block_halt, block_next, block_done}
use Rattle.descriptor_blocks.proofs.block.read.Goals as goal

pub section-requires : goal.section-requires
section-requires c = (
  block_room c.args.earlier.d.now (before c.args.earlier) c.args.tag c.args.at _ (spelled_is _ _ c.layout_of-layout.ensures) c.args.elements.now c.requires.0,
  c.requires.1,
)

pub returns-in_err-y : goal.returns-in_err-y
unfolding walk_of Inside
returns-in_err-y c =
    let p = err_from_is_err_and c.from_residual.result c.from_residual.ensures.1 in rw (p.1, p.2)
    (record {
      elements_after = block_halt c.args.earlier.d.now (before c.args.earlier) c.args.tag c.args.at _ (spelled_is _ _ c.layout_of-layout.ensures) c.args.elements.now c.requires.0 _ _ c.section.ensures.elements_after _ c.in_err-y.was;
      inside = tt;
    })

pub section-requires-2 : goal.section-requires-2
section-requires-2 c =
    block_next c.args.earlier.d.now (before c.args.earlier) c.args.tag c.args.at _ (spelled_is _ _ c.layout_of-layout.ensures) c.args.elements.now c.requires.0 _ _
    c.section.ensures.elements_after _ c.in_ok-y.was c.section.ensures.inside c.section.auto.elements

pub returns : goal.returns
returns c =
    let e =
    block_done c.args.earlier.d.now (before c.args.earlier) c.args.tag c.args.at _ (spelled_is _ _ c.layout_of-layout.ensures) c.args.elements.now c.requires.0 _ _
    c.section.ensures.elements_after _ c.in_ok-y.was c.section.ensures.inside _ _ c.section-2.ensures.elements_after c.section-2.ensures.inside in
    record { elements_after = e.0; inside = e.1 }
