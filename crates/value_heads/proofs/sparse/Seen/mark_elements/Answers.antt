-- `value_heads::sparse::Seen::mark_elements` meets its contract: what is left of the elements leads to the same marks.
use native.Mathlib.Omega.{arith}
use native.Mathlib.Nat.{sub-zero}
use mathlib.Core.Path.{refl, ◌≡◌}
use Prim.Native.Nat.{◌+◌, ◌-◌}
use lib.ListN.{length}
use Rattle.value_heads.proofs.Marks.{marking_start, marking_next, marking_done, in_none, in_bad, in_refused, in_absent, in_there, in_whole, there_inside}
use borrow.Author.Rules.{rules}
use Rattle.value_heads.proofs.sparse.Seen.mark_elements.Goals as goal

pub loop-init : goal.loop-init
loop-init c =
    let e : length c.args.self.marks ≡ 512 = search rules in (c.requires, simp sub-zero (marking_start _ _ e))

pub bounds-marks-i : goal.bounds-marks-i
bounds-marks-i c = (in_whole c.args.s.now _ _ c.in-Ok.ensures c.loop.invariant.0).0

pub bounds-marks-i-in-loop : goal.bounds-marks-i-in-loop
bounds-marks-i-in-loop c = (in_whole c.args.s.now _ _ c.in-Ok.ensures c.loop.invariant.0).0

pub sparse_length-requires : goal.sparse_length-requires
sparse_length-requires c = (in_whole c.args.s.now _ _ c.in-Ok.ensures c.loop.invariant.0).1

pub overflow_add-pos : goal.overflow_add-pos
overflow_add-pos c =
    let w = in_whole c.args.s.now _ _ c.in-Ok.ensures c.loop.invariant.0 in
    omega (arith, there_inside _ _ _ _ _ _ _ _ _ w.1 c.in-Ok-sparse_length.ensures c.in-Present.is, c.well_formed)

pub loop-preserved : goal.loop-preserved
loop-preserved c =
    let w = in_whole c.args.s.now _ _ c.in-Ok.ensures c.loop.invariant.0 in (
      there_inside _ _ _ _ _ _ _ _ _ w.1 c.in-Ok-sparse_length.ensures c.in-Present.is,
      marking_next _ _ _ _ _ c.loop.invariant.1 _ _
          (in_there c.args.s.now _ (c.args.n - (c.loop.counter + 1)) _ (omega arith) _ c.in-Ok.ensures _ c.in-Ok-sparse_length.ensures _ _ _ c.in-Present.is),
    )

pub returns-after-loop : goal.returns-after-loop
returns-after-loop c =
    marking_done _ _ _ _ _ c.loop.invariant.1 (in_none c.args.s.now _ _ (omega arith))

pub returns-in_default : goal.returns-in_default
returns-in_default c =
    marking_done _ _ _ _ _ c.loop.invariant.1 (in_bad c.args.s.now _ (c.args.n - (c.loop.counter + 1)) _ (omega arith) _ c.in_default.ensures)

pub returns-in_default-sparse_length : goal.returns-in_default-sparse_length
returns-in_default-sparse_length c =
    let e = in_refused c.args.s.now _ (c.args.n - (c.loop.counter + 1)) _ (omega arith) _ c.in-Ok.ensures _ c.in_default-sparse_length.ensures in
    marking_done _ _ _ _ _ (marking_next _ _ _ _ _ c.loop.invariant.1 _ _ e) refl

pub returns-in_default-head : goal.returns-in_default-head
returns-in_default-head c =
    let e = in_absent c.args.s.now _ (c.args.n - (c.loop.counter + 1)) _ (omega arith) _ c.in-Ok.ensures _ c.in-Ok-sparse_length.ensures _ _ c.in_default-head.is in
    marking_done _ _ _ _ _ (marking_next _ _ _ _ _ c.loop.invariant.1 _ _ e) refl
