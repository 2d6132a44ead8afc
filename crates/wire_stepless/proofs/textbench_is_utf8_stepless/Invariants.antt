-- `wire_stepless::textbench_is_utf8_stepless` meets its contract, with the invariant and the laws of the check that has the step.
use Prim.Native.Nat.{◌-◌}
use lib.ListN.{length}
use Rattle.wire_letters.proofs.Rows.{Left}
use Rattle.wire_stepless.proofs.textbench_is_utf8_stepless.Given as goal

abbrev pub invariant-loop-i : goal.invariant-loop-i
invariant-loop-i l = Left l.s l.i

abbrev pub decreases-loop-i : goal.decreases-loop-i
decreases-loop-i l = length l.s - l.i
