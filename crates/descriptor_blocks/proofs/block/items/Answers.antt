-- `descriptor_blocks::block::items` meets its contract.
use mathlib.Core.Path.{◌≡◌}
use Prim.Native.Nat.{◌+◌, ◌-◌}
use native.Mathlib.Omega.{arith}
use Rattle.std.proofs.lemmas.Result.{err_from_is_err_and}
use Rattle.descriptor_blocks.specs.Walks.{walk_of, Inside}
use Rattle.descriptor_blocks.proofs.Loops.{counting_start, counting_end, counting_room, counting_halt, counting_next}
use Rattle.descriptor_blocks.proofs.block.items.Goals as goal

pub loop-done-init : goal.loop-done-init
loop-done-init c = let e : c.args.x.left - 0 ≡ c.args.x.left = omega arith in rw e (counting_start _ _ _ _ _ _ c.requires.1 c.requires.2)

pub fields-requires : goal.fields-requires
fields-requires c = (
  counting_room _ _ _ _ _ _ _ _ _ c.loop-done.invariant (c.args.x.left - (c.loop-done.done + 1)) (omega (arith, c.loop-done-test.true)) c.requires.0,
  c.loop-done.invariant.at,
  c.loop-done.invariant.few,
)

pub returns-in_err-y : goal.returns-in_err-y
unfolding walk_of Inside
returns-in_err-y c =
    let p = err_from_is_err_and c.from_residual.result c.from_residual.ensures.1 in rw (p.1, p.2)
    (record {
      elements_after = counting_halt _ _ _ _ _ _ _ _ _ c.loop-done.invariant (c.args.x.left - (c.loop-done.done + 1))
          (omega (arith, c.loop-done-test.true)) _ _ c.fields.ensures.elements_after _ c.in_err-y.was;
      inside = tt;
    })

pub loop-done-preserved : goal.loop-done-preserved
loop-done-preserved c =
    counting_next _ _ _ _ _ _ _ _ _ c.loop-done.invariant (c.args.x.left - (c.loop-done.done + 1)) (omega (arith, c.loop-done-test.true)) _ _
    c.fields.ensures.elements_after _ c.in_ok-y.was c.fields.ensures.inside c.fields.auto.elements

pub shape_of-elements : goal.shape_of-elements
shape_of-elements c = c.loop-done.invariant.size

pub returns : goal.returns
unfolding walk_of
returns c =
    let e = counting_end _ _ _ _ _ _ _ _ _ c.loop-done.invariant (omega (arith, c.loop-done-test.false)) in
    record { elements_after = e.0; inside = e.1 }
