-- `wire_letters::plain::plain_block` meets its contract. The invariant: `high` is plain where each byte passed is.
use mathlib.Core.Path.{◌≡◌}
use lib.Dec.{leb, ltb}
use lib.ListN.{drop}
use Rattle.wire.specs.Scan.{plain_run}
use Rattle.wire_letters.proofs.plain.plain_block.Given as goal

abbrev pub invariant-loop-b : goal.invariant-loop-b
invariant-loop-b l = ltb l.high 0x80 ≡ leb l.b-index (plain_run (drop l.i l.s))
