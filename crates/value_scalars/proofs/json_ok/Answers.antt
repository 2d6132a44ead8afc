use mathlib.Core.Path.{◌∙◌}
use native.Mathlib.Omega.{arith}
use Rattle.value_scalars.proofs.Leaves.{json_none, json_other, json_text}
use Rattle.value_scalars.proofs.json_ok.Goals as goal

pub returns-in-1 : goal.returns-in-1
returns-in-1 c = c.is_utf8.ensures ∙ json_text _ (omega arith) (omega arith)

pub returns-in_default : goal.returns-in_default
returns-in_default c = json_none _ (omega arith)

pub returns-in_default-2 : goal.returns-in_default-2
returns-in_default-2 c = json_other _ (λ e. omega arith) (λ e. omega arith)
