-- `descriptor_blocks::field::keep` meets its contract.
use mathlib.Core.Path.{sym, ◌∙◌}
use native.Mathlib.Omega.{arith}
use Rattle.descriptor_fields.specs.Fields.{decides, formatless}
use Rattle.descriptor_fields.proofs.Extents.{extent_id, extent_number}
use Rattle.descriptor_blocks.proofs.Rules.{kept_id, kept_name, kept_free, kept_card, kept_ancestors, kept_count, kept_deciding, kept_ancestor, kept_plain}
use Rattle.descriptor_blocks.proofs.field.keep.Goals as goal

pub format_of-x-requires : goal.format_of-x-requires
format_of-x-requires c =
    omega (
      arith,
      c.requires.1,
      extent_id c.args.earlier.d.now c.args.field.code c.args.field.x.at c.in-1.is,
    )

pub number_at-requires : goal.number_at-requires
number_at-requires c =
    omega (
      arith,
      c.requires.1,
      extent_number c.args.earlier.d.now c.args.field.code c.args.field.x.at (omega (arith, c.in-5.is)),
    )

pub number_at-requires-in-7 : goal.number_at-requires-in-7
number_at-requires-in-7 c =
    omega (
      arith,
      c.requires.1,
      extent_number c.args.earlier.d.now c.args.field.code c.args.field.x.at (omega (arith, c.in-7.is)),
    )

pub number_at-requires-in-12 : goal.number_at-requires-in-12
number_at-requires-in-12 c =
    omega (
      arith,
      c.requires.1,
      extent_number c.args.earlier.d.now c.args.field.code c.args.field.x.at (omega (arith, c.in-12.is)),
    )

pub number_at-requires-in-13 : goal.number_at-requires-in-13
number_at-requires-in-13 c =
    omega (
      arith,
      c.requires.1,
      extent_number c.args.earlier.d.now c.args.field.code c.args.field.x.at (omega (arith, c.in-13.is)),
    )

pub number_at-requires-then-is_deciding : goal.number_at-requires-then-is_deciding
number_at-requires-then-is_deciding c =
    omega (
      arith,
      c.requires.1,
      extent_number c.args.earlier.d.now
          c.args.field.code c.args.field.x.at
          (omega (arith, c.in-14.is)),
    )

pub returns-in-1 : goal.returns-in-1
returns-in-1 c =
    kept_id _ _ _ _ _ _ c.extent_of.ensures.value c.in-1.is _ c.format_of-x.ensures

pub returns-in-3 : goal.returns-in-3
returns-in-3 c = kept_name _ _ _ _ _ _ c.extent_of.ensures.value c.in-3.is

pub returns-in-5 : goal.returns-in-5
returns-in-5 c =
    kept_free _ _ _ _ _ _ c.extent_of.ensures.value _ c.number_at.ensures c.in-5.is

pub returns-in-7 : goal.returns-in-7
returns-in-7 c =
    kept_card _ _ _ _ _ _ c.extent_of.ensures.value _ c.number_at-in-7.ensures c.in-7.is

pub returns-in-12 : goal.returns-in-12
returns-in-12 c =
    kept_ancestors _ _ _ _ _ _ c.extent_of.ensures.value _ c.number_at-in-12.ensures c.in-12.is

pub returns-in-13 : goal.returns-in-13
returns-in-13 c =
    kept_count _ _ _ _ _ _ c.extent_of.ensures.value _ c.number_at-in-13.ensures c.in-13.is

pub returns-then-is_deciding : goal.returns-then-is_deciding
unfolding decides formatless
returns-then-is_deciding c =
    kept_deciding _ _ _ _ _ _ c.extent_of.ensures.value _ c.number_at-then-is_deciding.ensures
    c.in-14.is
    (sym c.is_deciding.ensures ∙ c.if-is_deciding.true) _ c.format_at-x.ensures

pub returns-else-is_deciding : goal.returns-else-is_deciding
unfolding decides formatless
returns-else-is_deciding c =
    kept_ancestor _ _ _ _ _ _ c.extent_of.ensures.value c.in-14.is (sym c.is_deciding.ensures ∙ c.if-is_deciding.false)

pub returns-in_default : goal.returns-in_default
returns-in_default c =
    kept_plain _ _ _ _ _ _ c.extent_of.ensures.value c.in_default.in_default-own.rest.0.0.0.0.0.0.1 c.in_default.in_default-own.rest.0.0.0.0.0.1
    c.in_default.in_default-own.rest.0.0.0.0.1 c.in_default.in_default-own.rest.0.0.0.1 c.in_default.in_default-own.rest.0.0.1 c.in_default.in_default-own.rest.0.1 c.in_default.in_default-own.rest.1
    c.requires.0
