-- `wire_letters::letters::row_end` meets its contract. The invariant: the letters at `i` end where those at `from` do.
use mathlib.Core.Path.{◌≡◌}
use mathlib.Core.List.{◌∷◌}
use Prim.Native.Nat.{◌-◌, ◌≤◌}
use lib.ListN.{length}
use Rattle.wire.specs.Scan.{ahead}
use Rattle.wire_letters.specs.Scan.{row_end}
use Rattle.protocol.specs.Text.{◌to◌}
use Rattle.wire_letters.proofs.letters.row_end.Given as goal

abbrev pub invariant-loop-i : goal.invariant-loop-i
invariant-loop-i l = (l.i ≤ length l.s) × (row_end ((l.first to l.last) ∷ ahead l.left (l.low to l.high)) l.s l.from ≡ row_end ((l.first to l.last) ∷ ahead l.left (l.low to l.high)) l.s l.i)

abbrev pub decreases-loop-i : goal.decreases-loop-i
decreases-loop-i l = length l.s - l.i
