-- `descriptor_scan::read` meets its contract.
use mathlib.Core.Path.{◌≡◌}
use Prim.Native.Nat.{◌-◌}
use lib.ListN.{length}
use Rattle.descriptor_scan.proofs.Scans.{Scanning}
use Rattle.descriptor_scan.proofs.read.Given as goal

abbrev pub invariant-loop-at : goal.invariant-loop-at
invariant-loop-at l =
    (Scanning l.d l.initial.plan l.known l.plan l.n l.at l.to) × (length l.known ≡ length l.initial.known) × (length l.elements ≡ length l.initial.elements) × (length l.plan ≡ length l.initial.plan)

abbrev pub decreases-loop-at : goal.decreases-loop-at
decreases-loop-at l = length l.d - l.at
