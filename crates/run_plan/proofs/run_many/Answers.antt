-- `run_plan::run_many` meets its contract: the table that was filled is right.
use native.Mathlib.Omega.{arith}
use Prim.Native.Nat.{ℕ}
use lib.ListN.{length-take}
use Rattle.plan_nodes.proofs.Memos.{filled_memo}
use Rattle.plan_nodes.proofs.Roots.{few_words}
use Rattle.run_plan.proofs.run_many.Goals as goal

pub fill-count-requires : goal.fill-count-requires
fill-count-requires c =
    few_words _ c.requires.0 (λ (j : ℕ). (c.type_inv.plan j).fits)

pub slice_bounds-run_value-end : goal.slice_bounds-run_value-end
slice_bounds-run_value-end c = simp length-take (omega (arith, c.fill-count.ensures.room))

pub run_value-requires : goal.run_value-requires
run_value-requires c = (
  c.requires.0,
  c.requires.1,
  filled_memo _ _ _ _ c.fill-count.ensures,
)
