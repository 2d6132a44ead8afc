use mathlib.Core.Path.{sym, ◌∙◌}
use borrow.Author.Tests.{ne_eqb}
use Rattle.value_scalars.proofs.Times.{time_length, time_whole}
use Rattle.value_scalars.proofs.local_time_ok.Goals as goal

pub returns-then-v-eq8 : goal.returns-then-v-eq8
returns-then-v-eq8 c = c.in_day.ensures ∙ time_whole _ c.if-v-eq8.true

pub returns-else-v-eq8 : goal.returns-else-v-eq8
returns-else-v-eq8 c = ne_eqb _ _ c.if-v-eq8.false ∙ sym (time_length _ c.if-v-eq8.false)
