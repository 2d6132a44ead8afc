use mathlib.Core.Path.{◌∙◌}
use borrow.Author.Tests.{eq-eqb, le-ltb}
use Rattle.value_scalars.proofs.Decimals.{whole_none, whole_negative, whole_some}
use Rattle.value_scalars.proofs.number.whole_ok.Goals as goal

pub returns-then-n-eq0 : goal.returns-then-n-eq0
returns-then-n-eq0 c = eq-eqb _ _ c.if-n-eq0.true ∙ whole_none _ _ c.if-n-eq0.true

pub returns-then-weight-lt32768 : goal.returns-then-weight-lt32768
returns-then-weight-lt32768 c = whole_some _ _ c.if-n-eq0.false c.if-weight-lt32768.true

pub returns-else-weight-lt32768 : goal.returns-else-weight-lt32768
returns-else-weight-lt32768 c =
    le-ltb _ _ c.if-weight-lt32768.false ∙ whole_negative _ _ c.if-n-eq0.false c.if-weight-lt32768.false
