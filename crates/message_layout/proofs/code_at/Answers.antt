use mathlib.Core.Path.{ap}
use lib.ListN.{length}
use native.Mathlib.Omega.{arith}
use Rattle.message_layout.proofs.Codes.{code_sound}
use Rattle.message_layout.specs.Tables.{codes}
use Rattle.message_layout.proofs.code_at.Goals as goal

pub bounds-table-p : goal.bounds-table-p
unfolding codes
bounds-table-p c = omega (arith, ap length c.requires.0)

pub returns : goal.returns
returns c = rw c.requires.0 (code_sound c.args.p c.requires.1)
