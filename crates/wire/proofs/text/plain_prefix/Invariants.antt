-- `wire::text::plain_prefix` meets its contract. The invariant: all bytes up to `i` are plain.
use Rattle.wire.proofs.Sequences.{Plain}
use Rattle.wire.proofs.text.plain_prefix.Given as goal

abbrev pub invariant-loop-i : goal.invariant-loop-i
invariant-loop-i l = Plain l.s l.from l.i
