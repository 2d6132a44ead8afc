-- `run_plan::early_fault` meets its contract: its tests are those of the definition, in its order.
use mathlib.Core.Path.{sym, ◌∙◌}
use Rattle.run_plan.proofs.Runs.{fault_large, fault_none, fault_unformed}
use Rattle.run_plan.proofs.early_fault.Goals as goal

pub returns-then-not-plan_ok : goal.returns-then-not-plan_ok
returns-then-not-plan_ok c = fault_unformed _ _ (sym c.plan_ok.ensures ∙ c.if-not-plan_ok.true)

pub returns-then-value-gt-MOST_VALUE : goal.returns-then-value-gt-MOST_VALUE
returns-then-value-gt-MOST_VALUE c =
    fault_large _ _ (sym c.plan_ok.ensures ∙ c.if-not-plan_ok.false) c.if-value-gt-MOST_VALUE.true

pub returns : goal.returns
returns c =
    fault_none _ _ (sym c.plan_ok.ensures ∙ c.if-not-plan_ok.false) c.if-value-gt-MOST_VALUE.false
