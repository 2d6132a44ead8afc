-- `run_plan::check` meets its contract: the refusals before the value, and then its own rules, with one table or the other.
use native.Mathlib.Omega.{arith}
use Prim.Native.Nat.{ℕ}
use lib.ListN.{length-take}
use Rattle.plan_nodes.proofs.Memos.{filled_memo}
use Rattle.run_plan.proofs.Runs.{early_refused, early_none, check_early, check_rest}
use Rattle.plan_nodes.proofs.Roots.{few_words}
use Rattle.run_plan.proofs.check.Goals as goal

pub returns-in-Err : goal.returns-in-Err
returns-in-Err c = rw c.at.ensures (check_early _ _ _ _ _ (early_refused _ _ _ c.in-Err.ensures))

pub fill-count-requires : goal.fill-count-requires
fill-count-requires c =
    few_words _ (early_none _ _ c.in_default.ensures).0 (λ (j : ℕ). (c.type_inv.plan j).fits)

pub slice_bounds-check_value-end : goal.slice_bounds-check_value-end
slice_bounds-check_value-end c = simp length-take (omega (arith, c.fill-count.ensures.room))

pub check_value-requires : goal.check_value-requires
check_value-requires c =
    let h = early_none _ _ c.in_default.ensures in
    (h.0, h.1, filled_memo _ _ _ _ c.fill-count.ensures)

pub returns-then-count-lt-SHORT : goal.returns-then-count-lt-SHORT
returns-then-count-lt-SHORT c =
    check_rest _ _ _ _
    (early_none _ _ c.in_default.ensures).2 _
    c.check_value.ensures

pub check_many-requires : goal.check_many-requires
check_many-requires c =
    let h = early_none _ _ c.in_default.ensures in (h.0, h.1)

pub returns : goal.returns
returns c =
    check_rest _ _ _ _
    (early_none _ _ c.in_default.ensures).2 _
    c.check_many.ensures
