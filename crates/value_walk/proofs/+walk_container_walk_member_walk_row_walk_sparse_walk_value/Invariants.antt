use Rattle.value_leaves.proofs.Stretches.{Left}
use lib.ListN.{length}
use mathlib.Core.Path.{◌≡◌}
use Rattle.value_parts.specs.Walk.{led}
use Rattle.value_parts.specs.Counted.{Counted}
use Prim.Native.Nat.{◌+◌, ◌-◌, ◌*◌, ◌≤◌}
use Rattle.protocol.specs.Nodes.{ref_at}
use Rattle.protocol.specs.Values.{elements, sparse_form, value_of}
use Rattle.protocol.specs.Plans.{look, cards_at}
use Rattle.value_walk.proofs.+walk_container_walk_member_walk_row_walk_sparse_walk_value.Given as goal

abbrev pub decreases-walk_container : goal.decreases-walk_container
decreases-walk_container l = 4 * l.node + 2

abbrev pub decreases-walk_member : goal.decreases-walk_member
decreases-walk_member l = 4 * l.node

abbrev pub decreases-walk_row : goal.decreases-walk_row
decreases-walk_row l = 4 * l.node + 1

abbrev pub decreases-walk_sparse : goal.decreases-walk_sparse
decreases-walk_sparse l = 4 * l.node + 1

abbrev pub decreases-walk_value : goal.decreases-walk_value
decreases-walk_value l = 4 * l.node + 3

abbrev pub invariant-walk_row-loop-run : goal.invariant-walk_row-loop-run
invariant-walk_row-loop-run l = Left l.plan l.node l.base l.part l.end l.initial.run.left l.initial.run.pos l.initial.run.at l.initial.list l.run.left l.run.pos l.run.at l.list

abbrev pub decreases-walk_row-loop-run : goal.decreases-walk_row-loop-run
decreases-walk_row-loop-run l = l.run.left

abbrev pub invariant-walk_sparse-loop : goal.invariant-walk_sparse-loop
invariant-walk_sparse-loop l =
    (l.pos ≤ length l.part) × (4 * l.to ≤ 5 * (l.base + l.pos) + 20) × (length l.list ≡ length l.initial.list)
    × (led (elements (sparse_form (cards_at l.plan l.node) l.part) (value_of (look l.plan)) (ref_at (look l.plan l.node)) l.base l.part l.end l.initial.seen.marks l.initial.pos) l.initial.to l.initial.list
    ≡ led (elements (sparse_form (cards_at l.plan l.node) l.part) (value_of (look l.plan)) (ref_at (look l.plan l.node)) l.base l.part (l.end - l.counter) l.seen.marks l.pos) l.to l.list)
    × Counted l.plan l.node l.seen.marks l.given
