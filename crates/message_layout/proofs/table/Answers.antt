use mathlib.Core.Path.{refl}
use Rattle.message_layout.specs.Tables.{codes}
use Rattle.message_layout.proofs.table.Goals as goal

pub returns : goal.returns
unfolding codes
returns c = refl
