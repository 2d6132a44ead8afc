-- `descriptor_blocks::block::fields` meets its contract.
use mathlib.Core.Path.{refl}
use Rattle.std.proofs.lemmas.Result.{err_from_is_err_and}
use Rattle.descriptor_blocks.specs.Walks.{walk_of, Inside}
use Rattle.descriptor_blocks.proofs.Loops.{going_start, going_inside, going_end, going_stop, going_room, going_halt, going_next}
use Rattle.descriptor_blocks.proofs.block.fields.Goals as goal

pub loop-code-init : goal.loop-code-init
loop-code-init c = going_start _ _ _ _ _ _ c.requires.1 c.requires.2

pub shape_of-elements-then-code-eq-END : goal.shape_of-elements-then-code-eq-END
shape_of-elements-then-code-eq-END c = c.loop-code.invariant.size

pub returns-then-code-eq-END : goal.returns-then-code-eq-END
unfolding walk_of
returns-then-code-eq-END c = record {
  elements_after = going_stop _ _ _ _ _ _ _ _ _ c.loop-code.invariant c.loop-code-test.true _ refl c.if-code-eq-END.true;
  inside = going_inside _ _ _ _ _ _ _ _ _ c.loop-code.invariant;
}

pub read-requires : goal.read-requires
read-requires c = (
  going_room _ _ _ _ _ _ _ _ _ c.loop-code.invariant c.loop-code-test.true _ refl c.if-code-eq-END.false c.requires.0,
  c.loop-code.invariant.at,
  c.loop-code.invariant.left,
)

pub returns-in_err-y : goal.returns-in_err-y
unfolding walk_of Inside
returns-in_err-y c =
    let p = err_from_is_err_and c.from_residual.result c.from_residual.ensures.1 in rw (p.1, p.2)
    (record {
      elements_after = going_halt _ _ _ _ _ _ _ _ _ c.loop-code.invariant c.loop-code-test.true _ refl c.if-code-eq-END.false _ _
          c.read.ensures.elements_after _ c.in_err-y.was;
      inside = tt;
    })

pub loop-code-preserved : goal.loop-code-preserved
loop-code-preserved c =
    going_next _ _ _ _ _ _ _ _ _ c.loop-code.invariant c.loop-code-test.true _ refl c.if-code-eq-END.false _ _
    c.read.ensures.elements_after _ c.in_ok-y.was c.read.ensures.inside c.read.auto.elements

pub shape_of-elements : goal.shape_of-elements
shape_of-elements c = c.loop-code.invariant.size

pub returns : goal.returns
unfolding walk_of
returns c = record {
  elements_after = going_end _ _ _ _ _ _ _ _ _ c.loop-code.invariant c.loop-code-test.false;
  inside = going_inside _ _ _ _ _ _ _ _ _ c.loop-code.invariant;
}
