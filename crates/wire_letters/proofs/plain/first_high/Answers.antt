-- `wire_letters::plain::first_high` meets its contract: a count of at most 64 fits.
use native.Mathlib.Omega.{arith}
use lib.Count.{trailing_le}
use Rattle.wire_letters.proofs.plain.first_high.Goals as goal

pub overflow_cast-result : goal.overflow_cast-result
overflow_cast-result c = omega (arith, trailing_le 64 c.args.high)
