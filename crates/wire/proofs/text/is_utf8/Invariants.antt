-- `wire::text::is_utf8` meets its contract. The invariant: the text is well-formed where what is left of it is.
use mathlib.Core.Path.{◌≡◌}
use mathlib.Core.List.{[]}
use Prim.Native.Nat.{◌-◌, ◌≤◌}
use lib.ListN.{length, drop}
use Rattle.protocol.specs.Text.{goes_on, well_formed}
use Rattle.wire.proofs.text.is_utf8.Given as goal

abbrev pub invariant-loop-i : goal.invariant-loop-i
invariant-loop-i l = (l.i ≤ length l.s) × (well_formed l.s ≡ goes_on [] (drop l.i l.s))

abbrev pub decreases-loop-i : goal.decreases-loop-i
decreases-loop-i l = length l.s - l.i
