use mathlib.Core.Path.{◌∙◌}
use borrow.Author.Tests.{ne_eqb}
use Rattle.value_scalars.proofs.Leaves.{duration_length, duration_is}
use Rattle.value_scalars.proofs.duration_ok.Goals as goal

pub returns-then-v-eq16 : goal.returns-then-v-eq16
returns-then-v-eq16 c = duration_is _ _ c.if-v-eq16.true c.uint_at.ensures

pub returns-else-v-eq16 : goal.returns-else-v-eq16
returns-else-v-eq16 c = ne_eqb _ _ c.if-v-eq16.false ∙ duration_length _ c.if-v-eq16.false
