-- `find_number::single` meets its contract.
use mathlib.Core.Path.{refl}
use native.Mathlib.Omega.{arith}
use lib.Ieee.{binary32}
use Rattle.find_number.specs.Number.{shown, Proper}
use Rattle.find_number.proofs.Bits.{pattern_plain, pattern_nan, gives_single}
use Rattle.find_number.proofs.single.Goals as goal

pub returns-then-bits-gt2139095040 : goal.returns-then-bits-gt2139095040
unfolding shown Proper
returns-then-bits-gt2139095040 c = record { is = refl; proper = pattern_nan binary32 _ (omega (arith, c.if-bits-gt2139095040.true)) }

pub float_from_bits-result : goal.float_from_bits-result
float_from_bits-result c = pattern_plain binary32 _ (omega (arith, c.if-bits-gt2139095040.false))

pub returns-else-bits-gt2139095040 : goal.returns-else-bits-gt2139095040
returns-else-bits-gt2139095040 c = gives_single _ (omega (arith, c.if-bits-gt2139095040.false)) (omega (arith, c.ranges.bits))
