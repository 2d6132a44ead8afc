-- `wire_letters::letters::is_utf8` meets its contract. The invariant: the text is well-formed where what is left of it is.
use Prim.Native.Nat.{◌-◌}
use lib.ListN.{length}
use Rattle.wire_letters.proofs.Rows.{Left}
use Rattle.wire_letters.proofs.letters.is_utf8.Given as goal

abbrev pub invariant-loop-i : goal.invariant-loop-i
invariant-loop-i l = Left l.s l.i

abbrev pub decreases-loop-i : goal.decreases-loop-i
decreases-loop-i l = length l.s - l.i
