use mathlib.Core.Path.{◌∙◌}
use borrow.Author.Tests.{eq-eqb}
use Rattle.value_scalars.proofs.Decimals.{sign_plus, sign_other}
use Rattle.value_scalars.proofs.number.sign_ok.Goals as goal

pub returns-then-s-eq0 : goal.returns-then-s-eq0
returns-then-s-eq0 c = eq-eqb _ _ c.if-s-eq0.true ∙ sign_plus _ c.if-s-eq0.true

pub returns-else-s-eq0 : goal.returns-else-s-eq0
returns-else-s-eq0 c = sign_other _ c.if-s-eq0.false
