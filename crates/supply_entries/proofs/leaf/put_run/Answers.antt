-- `supply_entries::leaf::put_run` meets its contract: what is left leads to the
-- same place, with the indexes so far marked and counted, or one was given twice.
use mathlib.Core.Path.{refl, sym}
use native.Mathlib.Omega.{arith}
use Rattle.plan_nodes.proofs.Looks.{cards_length}
use Rattle.value_parts.proofs.Members.{sparse_holds}
use Rattle.supply_entries.proofs.Entries.{known_is, entry_at, entry_inside, entry_index}
use Rattle.supply_entries.proofs.Stands.{stood}
use Rattle.supply_entries.proofs.Elements.{gathering_start, gathering_next}
use Rattle.supply_entries.proofs.leaf.put_run.Goals as goal

pub loop-n-init : goal.loop-n-init
loop-n-init c = (refl, gathering_start _ _ _ _ _ _ _ _ c.requires.2)

pub put_leaf-put-requires : goal.put_leaf-put-requires
put_leaf-put-requires c =
    let k = known_is _ _ _ _ c.known_entry.ensures c.in-Some.is in (
      c.requires.0,
      record { is = sym c.requires.1; low = omega arith; high = omega arith },
      sparse_holds _ _ c.requires.0 c.requires.1 _ (omega (arith, k.1, c.second_at-known.ensures, cards_length c.args.plan.now c.args.node)),
      c.loop-n.invariant.1.3.small,
    )

pub count_given-requires : goal.count_given-requires
count_given-requires c =
    let k = known_is _ _ _ _ c.known_entry.ensures c.in-Some.is in (
      c.requires.0,
      c.requires.1,
      omega (arith, k.1, c.second_at-known.ensures),
      omega (arith, c.min-n-end.ensures),
    )

pub overflow_add-run-in-loop-n : goal.overflow_add-run-in-loop-n
overflow_add-run-in-loop-n c =
    let k = known_is _ _ _ _ c.known_entry.ensures c.in-Some.is in
    omega (arith, entry_inside c.args.list.now c.loop-n.run.word _ k.0 _ c.in-Some.is)

pub overflow_add-run-in-loop-n-2 : goal.overflow_add-run-in-loop-n-2
overflow_add-run-in-loop-n-2 c =
    let k = known_is _ _ _ _ c.known_entry.ensures c.in-Some.is in
    let e = entry_at c.args.list.now c.loop-n.run.word _ k.0 _ c.in-Some.is in
    omega (arith, (stood _ _ _ _ _ _ (c.put_leaf-put.ensures.put _ c.in-Some-put.is _ _ e)).small)

pub loop-n-preserved : goal.loop-n-preserved
loop-n-preserved c =
    let k = known_is _ _ _ _ c.known_entry.ensures c.in-Some.is in
    let e = entry_at c.args.list.now c.loop-n.run.word _ k.0 _ c.in-Some.is in
    let i = entry_index c.args.list.now c.loop-n.run.word _ k.0 _ c.in-Some.is in
    let w = entry_inside c.args.list.now c.loop-n.run.word _ k.0 _ c.in-Some.is in (
      refl,
      rw (← c.loop-n.invariant.0)
          (gathering_next _ _ _ _ _ _ _ _ _ _ _ _ _ c.loop-n.invariant.1 (omega (arith, c.min-n-end.ensures)) c.requires.0 c.requires.1 _ e i w
          (omega (arith, k.1, c.second_at-known.ensures)) _ _ (c.put_leaf-put.ensures.put _ c.in-Some-put.is _ _ e) _ c.count_given.ensures),
    )
