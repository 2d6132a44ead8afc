use mathlib.Core.Path.{◌∙◌}
use borrow.Author.Tests.{ne_eqb}
use Rattle.value_scalars.proofs.Leaves.{boolean_length, boolean_is}
use Rattle.value_scalars.proofs.bool_ok.Goals as goal

pub returns-then-v-eq1 : goal.returns-then-v-eq1
returns-then-v-eq1 c = boolean_is _ c.if-v-eq1.true

pub returns-else-v-eq1 : goal.returns-else-v-eq1
returns-else-v-eq1 c = ne_eqb _ _ c.if-v-eq1.false ∙ boolean_length _ c.if-v-eq1.false
