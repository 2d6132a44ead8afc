-- `descriptor_blocks::block::section` meets its contract.
use native.Mathlib.Omega.{arith}
use Rattle.descriptor_fields.specs.Layouts.{up_to_end}
use Rattle.std.proofs.lemmas.Result.{err_from_is_err_and}
use Rattle.descriptor_blocks.specs.Walks.{walk_of, Inside}
use Rattle.descriptor_blocks.proofs.Steps.{roomy_less, roomy_as}
use Rattle.descriptor_blocks.proofs.Loops.{section_halt, section_room, section_at, section_go, section_inside}
use Rattle.descriptor_blocks.proofs.block.section.Goals as goal

pub fields-requires : goal.fields-requires
fields-requires c = (
  roomy_less _ _ _ c.requires.0,
  c.requires.1,
  omega arith,
)

pub returns-in_err-y : goal.returns-in_err-y
unfolding walk_of Inside
returns-in_err-y c =
    let p = err_from_is_err_and c.from_residual.result c.from_residual.ensures.1 in rw (p.1, p.2)
    (record {
      elements_after = section_halt _ _ _ _ (up_to_end c.args.each.now) c.args.x _ _ _ c.fields.ensures.elements_after _ c.in_err-y.was;
      inside = tt;
    })

pub items-requires : goal.items-requires
items-requires c = (
  section_room _ _ _ _
      (up_to_end c.args.each.now)
      c.args.x _ _ _
      c.fields.ensures.elements_after _ c.in_ok-y.was
      c.fields.ensures.inside
      (roomy_as _ _ _ c.fields.auto.elements
      c.requires.0),
  (section_at _ _ _ _
      (up_to_end c.args.each.now)
      c.args.x _ _ _
      c.fields.ensures.elements_after _ c.in_ok-y.was
      c.fields.ensures.inside).0,
  (section_at _ _ _ _
      (up_to_end c.args.each.now)
      c.args.x _ _ _
      c.fields.ensures.elements_after _ c.in_ok-y.was
      c.fields.ensures.inside).1,
)

pub returns : goal.returns
returns c = record {
  elements_after = section_go _ _ _ _
      (up_to_end c.args.each.now)
      c.args.x _ _ _
      c.fields.ensures.elements_after _
      c.in_ok-y.was
      c.fields.ensures.inside _ _
      c.items.ensures.elements_after;
  inside = section_inside _ _ _ _
      (up_to_end c.args.each.now)
      c.args.x _ _ _
      c.fields.ensures.elements_after _
      c.in_ok-y.was
      c.fields.ensures.inside _
      c.items.ensures.inside;
}
