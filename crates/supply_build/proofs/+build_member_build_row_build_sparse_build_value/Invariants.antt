-- A value, its container's elements and one of them: the functions of the walk,
-- which call each other. The node falls from a value to its elements' values.
use mathlib.Core.Path.{◌≡◌}
use Prim.Native.Nat.{◌+◌, ◌-◌, ◌*◌, ◌≤◌}
use lib.ListN.{length, drop}
use Rattle.supply_entries.specs.Emitting.{put_at, Gathers}
use Rattle.protocol.specs.Plans.{look}
use Rattle.protocol.specs.Building.{row_order, elements_made, build_of}
use Rattle.supply_build.proofs.+build_member_build_row_build_sparse_build_value.Given as goal

abbrev pub decreases-build_member : goal.decreases-build_member
decreases-build_member l = 3 * l.node

abbrev pub decreases-build_row : goal.decreases-build_row
decreases-build_row l = 3 * l.node + 1

abbrev pub decreases-build_sparse : goal.decreases-build_sparse
decreases-build_sparse l = 3 * l.node + 1

abbrev pub decreases-build_value : goal.decreases-build_value
decreases-build_value l = 3 * l.node + 2

abbrev pub invariant-build_row-loop-row : goal.invariant-build_row-loop-row
invariant-build_row-loop-row l =
    (l.row.index ≤ l.end) × (l.row.at ≤ 65535) × (length l.out ≡ length l.initial.out)
    × (put_at (elements_made row_order (build_of l.src (look l.plan)) (look l.plan l.node) (l.end - l.initial.row.index) l.initial.row.index (drop l.initial.row.word l.list)) l.initial.row.at l.initial.out
    ≡ put_at (elements_made row_order (build_of l.src (look l.plan)) (look l.plan l.node) (l.end - l.row.index) l.row.index (drop l.row.word l.list)) l.row.at l.out)

abbrev pub decreases-build_row-loop-row : goal.decreases-build_row-loop-row
decreases-build_row-loop-row l = l.end - l.row.index

abbrev pub invariant-build_sparse-loop : goal.invariant-build_sparse-loop
invariant-build_sparse-loop l =
    (length l.out ≡ length l.initial.out) × Gathers l.src l.plan l.node l.end l.initial.seen.marks (drop l.initial.built.word l.list) l.initial.built.at l.initial.out l.seen.marks l.given (l.end - l.counter) (drop l.built.word l.list) l.built.at l.out

abbrev pub decreases-build_sparse-loop : goal.decreases-build_sparse-loop
decreases-build_sparse-loop l = l.end - l.counter
