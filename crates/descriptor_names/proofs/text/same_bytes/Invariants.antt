use mathlib.Core.Path.{◌≡◌}
use mathlib.Core.Bool.{false}
use lib.ListN.{length, drop}
use Rattle.protocol.specs.Numbers.{pick, same_bytes}
use Rattle.descriptor_names.proofs.text.same_bytes.Given as goal

abbrev pub invariant-loop-i : goal.invariant-loop-i
invariant-loop-i l =
    (length l.a ≡ length l.b) × (same_bytes l.a l.b ≡ pick l.same (same_bytes (drop l.i l.a) (drop l.i l.b)) false)
