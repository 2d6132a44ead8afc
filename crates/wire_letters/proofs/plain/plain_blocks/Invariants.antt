-- `wire_letters::plain::plain_blocks` meets its contract. The invariant: the blocks at `i` end where those at `from` do.
use mathlib.Core.Path.{◌≡◌}
use Prim.Native.Nat.{◌-◌, ◌≤◌}
use lib.ListN.{length}
use Rattle.wire.specs.Scan.{blocks_end}
use Rattle.wire_letters.proofs.plain.plain_blocks.Given as goal

abbrev pub invariant-loop-i : goal.invariant-loop-i
invariant-loop-i l = (l.i ≤ length l.s) × (blocks_end l.s l.n l.from ≡ blocks_end l.s l.n l.i)

abbrev pub decreases-loop-i : goal.decreases-loop-i
decreases-loop-i l = length l.s - l.i
