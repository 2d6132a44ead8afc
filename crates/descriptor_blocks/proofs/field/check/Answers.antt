-- `descriptor_blocks::field::check` meets its contract.
use mathlib.Core.Path.{sym, ap, ◌∙◌}
use native.Mathlib.Omega.{arith}
use Rattle.descriptor_fields.specs.Fields.{number_fault, count_fault, ref_fault}
use Rattle.descriptor_fields.proofs.Extents.{extent_id, extent_number}
use Rattle.descriptor_blocks.proofs.Rules.{fault_id, fault_text, fault_number, fault_count, fault_reference}
use Rattle.descriptor_blocks.proofs.field.check.Goals as goal

pub check-requires : goal.check-requires
check-requires c =
    omega (arith, c.requires.1, extent_id c.args.earlier.d.now c.args.field.code c.args.field.x.at c.if-code-eq-ID.true)

pub returns-then-code-eq-ID : goal.returns-then-code-eq-ID
returns-then-code-eq-ID c = c.check.ensures ∙ sym (fault_id _ _ _ _ _ _ c.if-code-eq-ID.true)

pub returns-then-code-le-NAME : goal.returns-then-code-le-NAME
returns-then-code-le-NAME c =
    c.check-then-code-le-NAME.ensures ∙ sym (fault_text _ _ _ _ _ _ c.if-code-eq-ID.false c.if-code-le-NAME.true)

pub number_at-v-requires : goal.number_at-v-requires
number_at-v-requires c =
    omega (
      arith,
      c.requires.1,
      extent_number c.args.earlier.d.now c.args.field.code
          c.args.field.x.at c.if-code-le-NAME.false,
    )

pub returns-then-code-le-DIMENSIONS : goal.returns-then-code-le-DIMENSIONS
returns-then-code-le-DIMENSIONS c =
    c.check-then-code-le-DIMENSIONS.ensures
    ∙ ap (number_fault _) c.number_at-v.ensures
    ∙ sym (fault_number _ _ _ _ _ _ c.if-code-eq-ID.false c.if-code-le-NAME.false c.if-code-le-DIMENSIONS.true)

pub returns-then-code-le-COUNT : goal.returns-then-code-le-COUNT
returns-then-code-le-COUNT c =
    c.check_count.ensures
    ∙ ap (count_fault _ _ _) c.number_at-v.ensures
    ∙ sym (fault_count _ _ _ _ _ _ c.if-code-eq-ID.false c.if-code-le-NAME.false c.if-code-le-DIMENSIONS.false c.if-code-le-COUNT.true)

pub returns : goal.returns
returns c =
    c.check-2.ensures
    ∙ ap (ref_fault _ _ _ _ _) c.number_at-v.ensures
    ∙ sym (fault_reference _ _ _ _ _ _ c.if-code-eq-ID.false c.if-code-le-NAME.false c.if-code-le-DIMENSIONS.false c.if-code-le-COUNT.false)
