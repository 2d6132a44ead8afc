-- `wire::copy::put_bytes` meets its contract. The invariant: the first `i` bytes of the part are stored.
use mathlib.Core.Path.{◌≡◌}
use lib.ListN.{length, take}
use lib.Seq.{sets}
use Rattle.wire.proofs.copy.put_bytes.Given as goal

abbrev pub invariant-loop-i : goal.invariant-loop-i
invariant-loop-i l = (l.out ≡ sets l.initial.out l.at (take l.i l.part)) × (length l.out ≡ length l.initial.out)
