-- `supply_write::write` meets its contract: the plan's own test, and then the value, with one table or the other.
use mathlib.Core.Path.{sym, ◌∙◌}
use Prim.Native.Nat.{ℕ}
use Rattle.plan_nodes.proofs.Memos.{filled_memo}
use Rattle.plan_nodes.proofs.Roots.{few_words}
use Rattle.supply_write.proofs.Writes.{puts_unformed}
use Rattle.supply_write.proofs.write.Goals as goal

pub fill-count-requires : goal.fill-count-requires
fill-count-requires c =
    few_words _ (sym c.plan_ok.ensures ∙ c.if-not-plan_ok.false) (λ (j : ℕ). (c.type_inv.plan j).fits)

pub write_sized-requires : goal.write_sized-requires
write_sized-requires c = (
  sym c.plan_ok.ensures ∙ c.if-not-plan_ok.false,
  filled_memo _ _ _ _ c.fill-count.ensures,
)

pub returns-then-not-plan_ok : goal.returns-then-not-plan_ok
returns-then-not-plan_ok c = puts_unformed _ _ _ _ (sym c.plan_ok.ensures ∙ c.if-not-plan_ok.true)
