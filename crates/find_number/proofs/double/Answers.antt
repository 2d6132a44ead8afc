-- `find_number::double` meets its contract.
use mathlib.Core.Path.{refl}
use native.Mathlib.Omega.{arith}
use lib.Ieee.{binary64}
use Rattle.find_number.specs.Number.{shown, Proper}
use Rattle.find_number.proofs.Bits.{pattern_plain, pattern_nan, gives_double}
use Rattle.find_number.proofs.double.Goals as goal

pub returns-then-bits-gt9218868437227405312 : goal.returns-then-bits-gt9218868437227405312
unfolding shown Proper
returns-then-bits-gt9218868437227405312 c = record { is = refl; proper = pattern_nan binary64 _ (omega (arith, c.if-bits-gt9218868437227405312.true)) }

pub float_from_bits-result : goal.float_from_bits-result
float_from_bits-result c = pattern_plain binary64 _ (omega (arith, c.if-bits-gt9218868437227405312.false))

pub returns-else-bits-gt9218868437227405312 : goal.returns-else-bits-gt9218868437227405312
returns-else-bits-gt9218868437227405312 c = gives_double _ (omega (arith, c.if-bits-gt9218868437227405312.false)) (omega (arith, c.ranges.bits))
