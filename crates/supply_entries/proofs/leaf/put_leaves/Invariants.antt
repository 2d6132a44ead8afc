-- `supply_entries::leaf::put_leaves` meets its contract: what is left leads to the same place.
use mathlib.Core.Path.{◌≡◌}
use Prim.Native.Nat.{◌-◌, ◌≤◌}
use lib.ListN.{drop}
use Rattle.supply_entries.specs.Emitting.{put_at}
use Rattle.protocol.specs.Plans.{look}
use Rattle.protocol.specs.Building.{row_order, elements_made, build_of}
use Rattle.supply_entries.proofs.leaf.put_leaves.Given as goal

abbrev pub invariant-loop-index : goal.invariant-loop-index
invariant-loop-index l =
    (l.place.index ≡ l.index) × (l.place.at ≤ 65535)
    × (put_at (elements_made row_order (build_of l.src (look l.plan)) (look l.plan l.node) (l.end - l.first) l.first (drop l.word l.list)) l.at l.initial.out
    ≡ put_at (elements_made row_order (build_of l.src (look l.plan)) (look l.plan l.node) (l.end - l.index) l.index (drop l.place.word l.list)) l.place.at l.out)
