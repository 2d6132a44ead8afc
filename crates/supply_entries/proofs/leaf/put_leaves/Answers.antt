-- `supply_entries::leaf::put_leaves` meets its contract: what is left leads to the same place.
use mathlib.Core.Path.{refl, sym, ◌∙◌}
use native.Mathlib.Omega.{arith}
use borrow.Author.Tests.{eq-eqb}
use Rattle.value_parts.proofs.Containers.{refers_inner}
use Rattle.supply_entries.proofs.Entries.{entry_at, entry_inside}
use Rattle.supply_entries.proofs.Stands.{stood}
use Rattle.supply_entries.proofs.Elements.{turn_go, some_left, one_fewer}
use Rattle.protocol.specs.Building.{row_order}
use Rattle.supply_entries.proofs.leaf.put_leaves.Goals as goal

pub put_leaf-requires : goal.put_leaf-requires
put_leaf-requires c = (
  c.requires.0,
  refers_inner _ _ _ c.loop-index.index c.requires.1 (c.requires.2 c.loop-index.index c.loop-index-test.true),
  c.requires.2 _ (omega (arith, c.if-entry-index.false)),
  c.loop-index.invariant.1,
)

pub overflow_add-place-in-loop-index : goal.overflow_add-place-in-loop-index
overflow_add-place-in-loop-index c =
    omega (arith, entry_inside c.args.list.now c.loop-index.place.word _ c.next_entry.ensures _ c.in-Some.is)

pub overflow_add-place-in-loop-index-2 : goal.overflow_add-place-in-loop-index-2
overflow_add-place-in-loop-index-2 c =
    let e = entry_at c.args.list.now c.loop-index.place.word _ c.next_entry.ensures _ c.in-Some.is in
    omega (arith, (stood _ _ _ _ _ _ (c.put_leaf.ensures.put _ c.in-Some-put_leaf.is _ _ e)).small)

pub loop-index-preserved : goal.loop-index-preserved
loop-index-preserved c =
    let e = entry_at c.args.list.now c.loop-index.place.word _ c.next_entry.ensures _ c.in-Some.is in
    let q = c.put_leaf.ensures.put _ c.in-Some-put_leaf.is _ _ e in (
      refl,
      (stood _ _ _ _ _ _ q).small,
      c.loop-index.invariant.2
          ∙ turn_go row_order _ _ c.loop-index.index _ _ _ _ (some_left _ _ c.loop-index-test.true) _ _ e
          (eq-eqb _ _ (sym c.if-entry-index.false)) _ _ _ q _ refl _ (one_fewer _ _),
    )
