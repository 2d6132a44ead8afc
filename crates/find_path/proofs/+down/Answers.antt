use mathlib.Core.Path.{◌≡◌, sym, ◌∙◌}
use Prim.Native.Nat.{◌+◌, ◌<◌, ◌≤◌}
use native.Mathlib.Omega.{arith}
use lib.ListN.{length, length-take, length-drop}
use Rattle.plan_nodes.proofs.Nodes.{at_ref}
use Rattle.find_path.specs.Find.{outcome}
use Rattle.find_path.proofs.Seeks.{child_in}
use Rattle.find_path.proofs.Descents.{descend_here, descend_refused, descend_last, descend_past, descend_below, rest_is, rest_falls}
use Rattle.find_path.proofs.+down.Goals as goal
use Rattle.find_path.proofs.+down.Goals.{in_default-via-in-Ok-Absent+else-is_empty-2, in_default-via-in_default}

pub returns-then-is_empty : goal.returns-then-is_empty
unfolding outcome
returns-then-is_empty t c =
    let e : length c.args.path.now ≤ 0 = grind arith in descend_here _ _ _ _ _ 0 e

pub ref_of-child-requires : goal.ref_of-child-requires
ref_of-child-requires t c =
    (c.requires.0, (child_in _ _ c.requires.0 _ _ _ c.in-Ok-Present.ensures _ _ _ c.in-Ok-Present.field-0-is).refers)

pub overflow_add-base : goal.overflow_add-base
overflow_add-base t c =
    let h = (child_in _ _ c.requires.0 _ _ _ c.in-Ok-Present.ensures _ _ _ c.in-Ok-Present.field-0-is).inside in omega (arith, h, c.requires.1)

pub overflow_add-start : goal.overflow_add-start
overflow_add-start t c =
    let h = (child_in _ _ c.requires.0 _ _ _ c.in-Ok-Present.ensures _ _ _ c.in-Ok-Present.field-0-is).inside in omega (arith, h, c.requires.1)

pub slice_bounds-down-end : goal.slice_bounds-down-end
slice_bounds-down-end t c = (child_in _ _ c.requires.0 _ _ _ c.in-Ok-Present.ensures _ _ _ c.in-Ok-Present.field-0-is).inside

pub down-requires : goal.down-requires
down-requires t c = (
  (let l : 0 < length c.args.path.now = grind arith in rest_falls c.args.path.now _ c.decreases l),
  (
    (at_ref _ _ _ _ c.requires.0 c.ref_of-child.ensures).0,
    let h = (child_in _ _ c.requires.0 _ _ _ c.in-Ok-Present.ensures _ _ _ c.in-Ok-Present.field-0-is).inside in
        simp (length-take, length-drop) (omega (arith, h, c.requires.1)),
  ),
)

pub returns-in-Ok-Present : goal.returns-in-Ok-Present
unfolding outcome
returns-in-Ok-Present t c =
    let l : 0 < length c.args.path.now = grind arith in
    (rw (rest_is c.args.path.now) at c.down.ensures) ∙ descend_below _ _ _ _ _ 0 l _ c.in-Ok-Present.ensures _ _ _ _ c.in-Ok-Present.field-0-is c.ref_of-child.ensures

pub returns-in-Ok-Absent : goal.returns-in-Ok-Absent
unfolding outcome
returns-in-Ok-Absent t c =
    let l : 0 < length c.args.path.now = grind arith in
    let n : 0 + 1 ≡ length c.args.path.now = grind (arith, length-drop) in
    rw c.at.ensures (descend_last _ _ _ _ _ 0 l _ c.in-Ok-Absent.ensures _ _ c.in-Ok-Absent.field-0-is n)

pub returns-in_default : goal.returns-in_default
unfolding outcome
returns-in_default t c =
    let l : 0 < length c.args.path.now = grind arith in
    rw c.at-in_default.ensures
    (elim c.in_default.branch [
      | in_default-via-in-Ok-Absent+else-is_empty-2 w ↦ descend_past _ _ _ _ _ 0 l _ w.in-Ok-Absent.ensures _ _ w.in-Ok-Absent.field-0-is (λ e. grind (arith, length-drop))
      | in_default-via-in_default w ↦ descend_refused _ _ _ _ _ 0 l _ (sym w.in_default.is ∙ c.child_head.ensures)
    ])
