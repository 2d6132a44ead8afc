use mathlib.Core.Path.{◌≡◌}
use Prim.Native.Nat.{◌*◌}
use lib.ListN.{length, drop}
use lib.Seq.{sets}
use Rattle.protocol.specs.Crossing.{bytes_out}
use Rattle.c_words.proofs.put_words.Given as goal

abbrev pub invariant-loop-i : goal.invariant-loop-i
invariant-loop-i l =
    (length l.out ≡ length l.initial.out) × (sets l.initial.out 0 (bytes_out l.words) ≡ sets l.out (4 * l.i) (bytes_out (drop l.i l.words)))
