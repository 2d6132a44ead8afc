-- `supply_write::write_value` meets its contract, by its tests in their order.
use mathlib.Core.Path.{◌≡◌}
use native.Mathlib.Omega.{arith}
use lib.ListN.{length-drop}
use Rattle.std.proofs.lemmas.Result.{err_from_is_err_and}
use Rattle.supply_entries.proofs.Stands.{none_is, built_is}
use Rattle.supply_write.proofs.Writes.{puts_broken, puts_left, puts_full, puts_whole, puts_copied, whole_small}
use Rattle.supply_write.proofs.write_value.Goals as goal
use Rattle.supply_write.proofs.write_value.Goals.{then-scratch-built, else-scratch-built}

pub returns-in_err-built : goal.returns-in_err-built
returns-in_err-built c =
    let p = err_from_is_err_and c.from_residual.result c.from_residual.ensures.1 in
    let v = rw c.in_err-built.ensures.ok_part at c.in_err-built.ensures.value in
    let e : c.in_err-built.field-0.0 ≡ 34 = cc in
    rw (p.1, p.2, e) (puts_broken _ _ _ _ c.requires.0 _ (none_is _ _ _ _ c.build_whole.ensures c.in_err-built.ensures.ok_part))

pub returns-then-built-list : goal.returns-then-built-list
returns-then-built-list c =
    let b = built_is _ _ _ _ c.build_whole.ensures _ c.in_ok-built.ensures.ok_part in
    puts_left _ _ _ _ c.requires.0 _ _ _ _ b (simp length-drop (omega (arith, c.if-built-list.true)))

pub returns-then-out-built : goal.returns-then-out-built
returns-then-out-built c =
    let b = built_is _ _ _ _ c.build_whole.ensures _ c.in_ok-built.ensures.ok_part in
    puts_full _ _ _ _ c.requires.0 _ _ _ _ b (simp length-drop (omega (arith, c.if-built-list.false))) c.if-out-built.true

pub overflow_cast-result : goal.overflow_cast-result
overflow_cast-result c =
    let b = built_is _ _ _ _ c.build_whole.ensures _ c.in_ok-built.ensures.ok_part in
    omega (arith, whole_small _ _ _ c.args.out.now c.requires.0 _ _ _ _ b)

pub returns : goal.returns
returns c =
    let b = built_is _ _ _ _ c.build_whole.ensures _ c.in_ok-built.ensures.ok_part in
    elim c.if-scratch-built.branch [
      | then-scratch-built w ↦
          rw w.out-is (puts_whole _ _ _ _ c.requires.0 _ _ _ _ b (simp length-drop (omega (arith, c.if-built-list.false))) c.if-out-built.false _ _ w.build_whole-then-scratch-built.ensures)
      | else-scratch-built w ↦
          rw w.out-is (puts_copied _ _ _ _ c.requires.0 _ _ _ _ b (simp length-drop (omega (arith, c.if-built-list.false))) c.if-out-built.false _ w.if-scratch-built.false w.put_bytes.ensures)
    ]
