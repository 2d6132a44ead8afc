-- `wire_letters::plain::bytes_end` meets its contract. The invariant: all bytes up to `i` are plain.
use Rattle.wire.proofs.Sequences.{Plain}
use Rattle.wire_letters.proofs.plain.bytes_end.Given as goal

abbrev pub invariant-loop-i : goal.invariant-loop-i
invariant-loop-i l = Plain l.s l.from l.i
