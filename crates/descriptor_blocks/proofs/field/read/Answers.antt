-- `descriptor_blocks::field::read` meets its contract.
use native.Mathlib.Omega.{arith}
use Rattle.descriptor_blocks.specs.Walks.{walk_of, Inside}
use Rattle.std.proofs.lemmas.Result.{err_from_is_err_and}
use Rattle.descriptor_blocks.proofs.Rules.{two}
use Rattle.descriptor_blocks.proofs.Steps.{field_short, field_bad, field_good, field_inside, roomy_less, roomy_one, grown_same}
use Rattle.descriptor_blocks.proofs.field.read.Goals as goal

pub returns-then-earlier-at : goal.returns-then-earlier-at
unfolding walk_of Inside
returns-then-earlier-at c = record { elements_after = field_short _ _ _ _ _ _ _ c.extent_of.ensures.value c.if-earlier-at.true; inside = tt }

pub check-requires : goal.check-requires
check-requires c = (roomy_less _ _ _ c.requires.0, omega (arith, c.extent_of.ensures.value, c.if-earlier-at.false))

pub returns-in_err-check : goal.returns-in_err-check
unfolding walk_of Inside
returns-in_err-check c =
    let p = err_from_is_err_and c.from_residual.result c.from_residual.ensures.1 in rw (p.1, p.2)
    (record { elements_after = field_bad _ _ _ _ _ _ _ c.extent_of.ensures.value c.if-earlier-at.false _ c.check.ensures _ c.in_err-check.was; inside = tt })

pub keep_element-requires : goal.keep_element-requires
keep_element-requires c = (
  roomy_one _ _ _ c.if-field-ge-ELEMENT.true c.requires.0,
  c.if-field-ge-ELEMENT.true,
  omega (
    arith,
    c.extent_of.ensures.value,
    c.if-earlier-at.false,
    two c.args.earlier.d.now
        c.args.field.code
        c.args.field.x.at c.if-field-ge-ELEMENT.true,
  ),
)

pub returns-then-field-ge-ELEMENT : goal.returns-then-field-ge-ELEMENT
unfolding walk_of
returns-then-field-ge-ELEMENT c = record {
  elements_after = field_good _ _ _ _ _ _ _ c.extent_of.ensures.value
      c.if-earlier-at.false _
      c.check.ensures c.in_ok-check.was _
      c.keep_element.ensures.value _ c.keep_element.ensures.elements;
  inside = field_inside _ _ _ _ _ _ _ c.extent_of.ensures.value
      c.if-earlier-at.false _
      c.check.ensures c.in_ok-check.was _
      c.keep_element.ensures.value
      c.requires.2;
}

pub keep-requires : goal.keep-requires
keep-requires c = (
  c.if-field-ge-ELEMENT.false,
  omega (arith, c.extent_of.ensures.value, c.if-earlier-at.false),
)

pub returns : goal.returns
unfolding walk_of
returns c = record {
  elements_after = field_good _ _ _ _ _ _ _ c.extent_of.ensures.value
      c.if-earlier-at.false _ c.check.ensures c.in_ok-check.was _
      c.keep.ensures _ (grown_same _ _ _ _ _ _ _ c.if-field-ge-ELEMENT.false c.keep.ensures);
  inside = field_inside _ _ _ _ _ _ _ c.extent_of.ensures.value
      c.if-earlier-at.false _ c.check.ensures c.in_ok-check.was _
      c.keep.ensures c.requires.2;
}
