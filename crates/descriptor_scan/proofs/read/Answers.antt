-- `descriptor_scan::read` meets its contract.
use mathlib.Core.Path.{refl, sym, ◌∙◌}
use native.Mathlib.Omega.{arith}
use Rattle.descriptor_fields.proofs.Known.{join_one}
use Rattle.descriptor_scan.proofs.Scans.{scanning_start, scanning_most, scanning_end, scanning_tag, scanning_halt}
use Rattle.descriptor_scan.proofs.Scans.{scanning_skip, scanning_few, scanning_id, scanning_height, scanning_add, scanning_past}
use Rattle.descriptor_scan.proofs.Scans.{read_inside}
use Rattle.descriptor_scan.proofs.read.Goals as goal

pub loop-at-init : goal.loop-at-init
loop-at-init c =
    (scanning_start _ _ _ c.requires.0 c.requires.1, refl, refl, refl)

pub add-to-requires : goal.add-to-requires
add-to-requires c = (
  c.loop-at.invariant.0.kept.told,
  record {
    room =
        omega (
          arith,
          c.requires.2,
          c.loop-at.invariant.2,
          c.read.auto.elements,
        );
    few = read_inside _ _ _ c.in-Ok-read.is c.read.ensures.inside;
  },
  scanning_most _ _ _ _ _ _ _ c.loop-at.invariant.0,
  scanning_few _ _ _ _ _ _ _
      c.loop-at.invariant.0
      c.loop-at-test.true _
      c.from-tag.ensures
      c.in-Ok.ensures _ _
      c.read.ensures.elements_after _
      c.in-Ok-read.is c.if-tag-ne-TAG_ANNOTATION.true,
  omega (
    arith,
    c.requires.1,
    c.loop-at.invariant.1,
  ),
  scanning_id _ _ _ _ _ _ _
      c.loop-at.invariant.0
      c.loop-at-test.true _
      c.from-tag.ensures
      c.in-Ok.ensures _ _
      c.read.ensures.elements_after _
      c.in-Ok-read.is c.if-tag-ne-TAG_ANNOTATION.true,
  scanning_height _ _ _ _ _ _ _
      c.loop-at.invariant.0
      c.loop-at-test.true _
      c.from-tag.ensures
      c.in-Ok.ensures _ _
      c.read.ensures.elements_after _
      c.in-Ok-read.is c.if-tag-ne-TAG_ANNOTATION.true,
)

pub overflow_add-n : goal.overflow_add-n
overflow_add-n c =
    omega (
      arith,
      c.loop-at.invariant.0.kept.told.few,
    )

pub loop-at-smaller-then-tag-ne-TAG_ANNOTATION : goal.loop-at-smaller-then-tag-ne-TAG_ANNOTATION
loop-at-smaller-then-tag-ne-TAG_ANNOTATION c =
    omega (
      arith,
      c.loop-at-test.true,
      scanning_past _ _ _ _ _ _ _
          c.loop-at.invariant.0
          c.loop-at-test.true
          _
          c.from-tag.ensures
          c.in-Ok.ensures
          _ _
          c.read.ensures.elements_after _
          c.in-Ok-read.is,
    )

pub loop-at-preserved-then-tag-ne-TAG_ANNOTATION : goal.loop-at-preserved-then-tag-ne-TAG_ANNOTATION
loop-at-preserved-then-tag-ne-TAG_ANNOTATION c = (
  scanning_add _ _ _ _ _ _ _
      c.loop-at.invariant.0
      c.loop-at-test.true _
      c.from-tag.ensures
      c.in-Ok.ensures
      _ _
      c.read.ensures.elements_after _
      c.in-Ok-read.is
      c.if-tag-ne-TAG_ANNOTATION.true _ _ _
      c.add-to.ensures
      (read_inside _ _ _ c.in-Ok-read.is
      c.read.ensures.inside),
  c.add-to.auto.known
      ∙ c.loop-at.invariant.1,
  c.read.auto.elements
      ∙ c.loop-at.invariant.2,
  c.add-to.auto.plan
      ∙ c.loop-at.invariant.3,
)

pub loop-at-smaller : goal.loop-at-smaller
loop-at-smaller c =
    omega (
      arith,
      c.loop-at-test.true,
      scanning_past _ _ _ _ _ _ _
          c.loop-at.invariant.0
          c.loop-at-test.true _
          c.from-tag.ensures
          c.in-Ok.ensures _ _
          c.read.ensures.elements_after _ c.in-Ok-read.is,
    )

pub loop-at-preserved : goal.loop-at-preserved
loop-at-preserved c = (
  scanning_skip _ _ _ _ _ _ _
      c.loop-at.invariant.0
      c.loop-at-test.true _
      c.from-tag.ensures
      c.in-Ok.ensures _ _
      c.read.ensures.elements_after _ c.in-Ok-read.is c.if-tag-ne-TAG_ANNOTATION.false,
  c.loop-at.invariant.1,
  c.read.auto.elements
      ∙ c.loop-at.invariant.2,
  c.loop-at.invariant.3,
)

pub shape_of-known : goal.shape_of-known
shape_of-known c = c.loop-at.invariant.1

pub shape_of-elements : goal.shape_of-elements
shape_of-elements c = c.loop-at.invariant.2

pub shape_of-plan : goal.shape_of-plan
shape_of-plan c = c.loop-at.invariant.3

pub returns : goal.returns
returns c = scanning_end _ _ _ _ _ _ _ c.loop-at.invariant.0 c.loop-at-test.false

pub returns-in-Err : goal.returns-in-Err
returns-in-Err c = rw c.at.ensures (scanning_tag _ _ _ _ _ _ _ c.loop-at.invariant.0 c.loop-at-test.true _ c.from-tag.ensures _ c.in-Err.ensures)

pub returns-in-Err-read : goal.returns-in-Err-read
returns-in-Err-read c =
    rw c.at-in-Err-read.ensures (scanning_halt _ _ _ _ _ _ _ c.loop-at.invariant.0 c.loop-at-test.true _ c.from-tag.ensures c.in-Ok.ensures _ _
    c.read.ensures.elements_after _ c.in-Err-read.is)
