use mathlib.Core.Path.{◌≡◌}
use Prim.Native.Nat.{◌*◌}
use lib.ListN.{length, drop}
use lib.Seq.{sets}
use Rattle.protocol.specs.Crossing.{words_in}
use Rattle.c_words.proofs.take_words.Given as goal

abbrev pub invariant-loop-i : goal.invariant-loop-i
invariant-loop-i l =
    (length l.words ≡ length l.initial.words) × (sets l.initial.words 0 (words_in l.bytes) ≡ sets l.words l.i (words_in (drop (4 * l.i) l.bytes)))
