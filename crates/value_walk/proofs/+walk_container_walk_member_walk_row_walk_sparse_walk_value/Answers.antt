use Rattle.value_leaves.proofs.Stretches.{left_next, from_end}
use Rattle.value_leaves.proofs.Gathering.{gathers_stop, gathers_go}
use Rattle.value_parts.proofs.Members.{opening_holds, is_row, opened, inner_kind, same_kind, value_wrong, value_sparse, value_row}
use Rattle.value_parts.proofs.Members.{member_absent, member_present, absent_in, present_in, end_in, within_present}
use Rattle.value_parts.proofs.Members.{within_absent, reached_in, refused_within, end_within, object_below, row_at, known_in}
use Rattle.value_parts.proofs.Members.{sparse_twice, sparse_new, sparse_turn, part_size}
use lib.ListN.{length-take, length-drop}
use mathlib.Core.Path.{◌≡◌, refl, ap, sym, ◌∙◌}
use native.Mathlib.Omega.{arith}
use native.Mathlib.Nat.{sub-zero}
use Prim.Native.Nat.{◌+◌, ◌-◌}
use Rattle.std.proofs.Common.{Ok, Err}
use Rattle.std.proofs.lemmas.Result.{err_from_is_err_and}
use Rattle.plan_nodes.proofs.Looks.{cards_length}
use Rattle.plan_nodes.proofs.Nodes.{at_ref}
use Rattle.value_parts.specs.Walk.{walk_of}
use Rattle.value_parts.proofs.Nodes.{head_bad}
use Rattle.value_parts.proofs.Walks.{single, turn_stop, turn_go, turn_fault, done}
use Rattle.value_parts.proofs.Counted.{counted_few, counted_next, counted_end}
use Rattle.protocol.specs.Values.{row_form, sparse_form}
use Rattle.protocol.specs.Plans.{look, cards_at}
use Rattle.value_walk.proofs.+walk_container_walk_member_walk_row_walk_sparse_walk_value.Goals as goal

pub walk_container-returns-in_default : goal.walk_container-returns-in_default
unfolding walk_of
walk_container-returns-in_default t c = (
  rw c.at.ensures (value_wrong _ _ c.requires.0 _ c.requires.5 _ _ _ _ _ _ c.open_node-opened.ensures _ c.unwrap_err.ensures),
  refused_within _ _ _ refl,
)

pub walk_container-put_entry-requires : goal.walk_container-put_entry-requires
walk_container-put_entry-requires t c =
    let k = c.requires.5 in
    let o =
    opened _ _ c.requires.0 _ k _ _ (sym c.in-Ok.ensures)
    in (
      omega (arith, c.requires.2, c.requires.3),
      c.requires.0.small,
      c.requires.1,
      omega (arith, c.requires.2),
      omega (arith, c.requires.2),
      omega (arith, o.0),
    )

pub walk_container-sparse_leaves-run-requires : goal.walk_container-sparse_leaves-run-requires
walk_container-sparse_leaves-run-requires t c =
    let k = c.requires.5 in
    let o =
    opened _ _ c.requires.0 _ k _ _ (sym c.in-Ok.ensures)
    in (
      c.requires.0,
      sym c.requires.5.is ∙ c.if-kind-eq-KIND_INPUT_OBJECT.true,
      c.requires.2,
      o.1,
      omega (arith, c.requires.3),
    )

pub walk_container-returns-then-run : goal.walk_container-returns-then-run
unfolding walk_of
walk_container-returns-then-run t c =
    let k = c.requires.5 in (
      rw c.at-then-run.ensures (sym (gathers_stop _ _ _ _ _ _ _ _ _ _ _ _ _ _ _ c.sparse_leaves-run.ensures c.if-run.true)
          ∙ value_sparse _ _
          c.requires.0 _ k _ _ _ _ _ _
          c.open_node-opened.ensures _ c.in-Ok.is _
          c.put_entry.ensures
          (sym c.requires.5.is
          ∙ c.if-kind-eq-KIND_INPUT_OBJECT.true)),
      refused_within _ _ _ refl,
    )

pub walk_container-returns-then-kind-eq-KIND_INPUT_OBJECT : goal.walk_container-returns-then-kind-eq-KIND_INPUT_OBJECT
walk_container-returns-then-kind-eq-KIND_INPUT_OBJECT t c =
    let k =
    c.requires.5 in (
      c.walk_sparse.ensures.0
          ∙ sym (gathers_go _ _ _ _ _ _ _ _ _ _ _ _ _ _ _ c.sparse_leaves-run.ensures c.if-run.false)
          ∙ value_sparse _ _
          c.requires.0
          _ k _ _ _ _ _ _
          c.open_node-opened.ensures _ c.in-Ok.is _
          c.put_entry.ensures
          (sym c.requires.5.is
          ∙ c.if-kind-eq-KIND_INPUT_OBJECT.true),
      c.walk_sparse.ensures.1,
    )

pub walk_container-walk_row-requires : goal.walk_container-walk_row-requires
walk_container-walk_row-requires t c =
    let k = c.requires.5 in
    let o =
    opened _ _ c.requires.0 _ k _ _ (sym c.in-Ok.ensures)
    in (
      omega (arith, c.decreases),
      (
        c.requires.0,
        same_kind _ _ _ _ k refl,
        (λ e. c.if-kind-eq-KIND_INPUT_OBJECT.false (c.requires.5.is ∙ e)),
        opening_holds _ _ _
            (is_row _ _
            c.requires.0 _ k
            (λ e. c.if-kind-eq-KIND_INPUT_OBJECT.false (c.requires.5.is ∙ e)))
            (sym c.in-Ok.ensures),
        o.0,
        c.requires.2,
        o.1,
        omega (arith, c.requires.3),
        c.requires.4,
      ),
    )

pub walk_container-returns : goal.walk_container-returns
walk_container-returns t c =
    let k = c.requires.5 in (
      c.walk_row.ensures.0
          ∙ value_row _ _
          c.requires.0 _ k _ _ _ _ _ _
          c.open_node-opened.ensures _ c.in-Ok.is _
          c.put_entry.ensures
          (λ e. c.if-kind-eq-KIND_INPUT_OBJECT.false
          (c.requires.5.is ∙ e)),
      c.walk_row.ensures.1,
    )

pub walk_member-ref_of-node-requires : goal.walk_member-ref_of-node-requires
walk_member-ref_of-node-requires t c = (
  c.requires.0,
  (absent_in _ _ _ _ c.requires.2 _ _ (c.in_default.is ∙ c.in-Absent.is)).0,
)

pub walk_member-overflow_add-base : goal.walk_member-overflow_add-base
walk_member-overflow_add-base t c =
    let f = absent_in _ _ _ _ c.requires.2 _ _ (c.in_default.is ∙ c.in-Absent.is) in
    omega (arith, f.2, c.requires.1)

pub walk_member-walk_absent-requires : goal.walk_member-walk_absent-requires
walk_member-walk_absent-requires t c =
    let f = absent_in _ _ _ _ c.requires.2 _ _ (c.in_default.is ∙ c.in-Absent.is) in
    let r = at_ref _ _ _ _ c.requires.0 c.ref_of-node.ensures in (
      r.0.small,
      f.3,
      omega (arith, f.2, c.requires.1),
      omega (
        arith,
        f.1,
        f.2,
        c.requires.1,
        c.requires.3,
      ),
    )

pub walk_member-returns-in_default : goal.walk_member-returns-in_default
walk_member-returns-in_default t c = (
  c.walk_absent.ensures.list_after ∙ member_absent _ _ _ _ _ _ _ _ _ _ c.ref_of-node.ensures (c.in_default.is ∙ c.in-Absent.is),
  within_absent _ _ _ _ _ _ _ (ap Ok c.walk_absent.ensures.within) (c.in_default.is ∙ c.in-Absent.is)
      (absent_in _ _ _ _ c.requires.2 _ _ (c.in_default.is ∙ c.in-Absent.is)).1 c.requires.3,
)

pub walk_member-ref_of-child-requires : goal.walk_member-ref_of-child-requires
walk_member-ref_of-child-requires t c = (
  c.requires.0,
  (present_in _ _ _ _ c.requires.2 _ _ _ c.in-Present.is).0,
)

pub walk_member-kind_at-kind-requires : goal.walk_member-kind_at-kind-requires
walk_member-kind_at-kind-requires t c =
    (at_ref _ _ _ _ c.requires.0 c.ref_of-child.ensures).0

pub walk_member-overflow_add-end : goal.walk_member-overflow_add-end
walk_member-overflow_add-end t c =
    let f = present_in _ _ _ _ c.requires.2 _ _ _ c.in-Present.is in
    omega (arith, f.2, c.requires.1)

pub walk_member-slice_bounds-bytes-end : goal.walk_member-slice_bounds-bytes-end
walk_member-slice_bounds-bytes-end t c =
    (present_in _ _ _ _ c.requires.2 _ _ _ c.in-Present.is).2

pub walk_member-overflow_add-place : goal.walk_member-overflow_add-place
walk_member-overflow_add-place t c =
    let f = present_in _ _ _ _ c.requires.2 _ _ _ c.in-Present.is in
    omega (arith, f.2, c.requires.1)

pub walk_member-walk_leaf-requires : goal.walk_member-walk_leaf-requires
walk_member-walk_leaf-requires t c =
    let f =
    present_in _ _ _ _
    c.requires.2 _ _ _
    c.in-Present.is
    in
    let r =
    at_ref _ _ _ _
    c.requires.0
    c.ref_of-child.ensures
    in (
      r.0,
      c.kind_at-kind.ensures.is,
      sym c.is_leaf.ensures ∙ c.if-is_leaf.true,
      f.3,
      simp (length-take, length-drop) (omega (arith, f.2, c.requires.1)),
      omega (arith, f.1, c.requires.3),
    )

pub walk_member-returns-then-is_leaf : goal.walk_member-returns-then-is_leaf
walk_member-returns-then-is_leaf t c = (
  c.walk_leaf.ensures.0
      ∙ member_present _ _ _ _ _ _ _ _ _ _ c.ref_of-child.ensures _
      c.in-Present.is,
  within_present _ _ _ _ _ _ _ c.in-Present.is
      (part_size _ _ _
      (present_in _ _ _ _
      c.requires.2 _ _ _
      c.in-Present.is).2)
      c.walk_leaf.ensures.1,
)

pub walk_member-walk_value-requires : goal.walk_member-walk_value-requires
walk_member-walk_value-requires t c =
    let f =
    present_in _ _ _ _
    c.requires.2 _ _ _
    c.in-Present.is
    in
    let r =
    at_ref _ _ _ _
    c.requires.0
    c.ref_of-child.ensures
    in (
      omega (arith, c.decreases, r.1),
      (
        r.0,
        f.3,
        simp (length-take, length-drop) (omega (arith, f.2, c.requires.1)),
        omega (arith, f.1, c.requires.3),
        c.requires.4,
      ),
    )

pub walk_member-returns : goal.walk_member-returns
walk_member-returns t c = (
  c.walk_value.ensures.0
      ∙ member_present _ _ _ _ _ _ _ _ _ _ c.ref_of-child.ensures _
      c.in-Present.is,
  within_present _ _ _ _ _ _ _ c.in-Present.is
      (part_size _ _ _
      (present_in _ _ _ _
      c.requires.2 _ _ _
      c.in-Present.is).2)
      c.walk_value.ensures.1,
)

pub walk_row-row_head-read-requires : goal.walk_row-row_head-read-requires
walk_row-row_head-read-requires t c = (
  c.requires.0,
  same_kind _ _ _ _ c.requires.1 c.kind_at-kind.ensures.is,
  (λ e. c.requires.2 (sym c.kind_at-kind.ensures.is ∙ e)),
  (λ e. object_below _ _ _ (sym c.kind_at-kind.ensures.is ∙ e)
      (c.requires.3 _ (omega (arith, c.loop-run.invariant.0, c.loop-run-test.true)))),
  c.loop-run.invariant.1,
)

pub walk_row-returns-in_default : goal.walk_row-returns-in_default
walk_row-returns-in_default t c = (
  turn_fault _ (single (look c.args.plan.now)) _ _ _ (row_form (look c.args.plan.now c.args.node) c.args.part.now) _ c.loop-run.run.pos _ _ _ c.loop-run-test.true _ (sym c.row_head-read.ensures ∙ c.unwrap_err.ensures) _ (ap Err c.at.ensures)
      ∙ sym c.loop-run.invariant.4
      ∙ sym c.walk_leaves-run.ensures.leads,
  refused_within _ _ _ refl,
)

pub walk_row-walk_member-requires : goal.walk_row-walk_member-requires
walk_row-walk_member-requires t c = (
  omega (arith, c.decreases),
  (
    c.requires.0,
    c.requires.5,
    row_at _ _ c.requires.0 _ c.requires.1 c.requires.2 _ c.requires.3 c.requires.4 _ _ _ _ _
        (from_end _ _ c.loop-run.invariant.0) c.loop-run-test.true c.loop-run.invariant.1 c.in-Ok.ensures,
    c.loop-run.invariant.2,
    c.requires.8,
  ),
)

pub walk_row-returns-in_err-next : goal.walk_row-returns-in_err-next
walk_row-returns-in_err-next t c =
    let p = err_from_is_err_and c.from_residual.result c.from_residual.ensures.1 in
    rw (p.1, p.2) (
      turn_stop _ (single (look c.args.plan.now)) _ _ _ (row_form (look c.args.plan.now c.args.node) c.args.part.now) _ c.loop-run.run.pos _ _ _ c.loop-run-test.true _ c.in-Ok.ensures _ _ c.in_err-next.ensures.0 _ refl
          ∙ sym c.loop-run.invariant.4
          ∙ sym c.walk_leaves-run.ensures.leads,
      refused_within _ _ _ refl,
    )

pub walk_row-end_of-after-requires : goal.walk_row-end_of-after-requires
walk_row-end_of-after-requires t c =
    let h = row_at _ _ c.requires.0 _ c.requires.1 c.requires.2 _ c.requires.3 c.requires.4 _ _ _ _ _
    (from_end _ _ c.loop-run.invariant.0) c.loop-run-test.true c.loop-run.invariant.1 c.in-Ok.ensures in
    omega (arith, end_in _ _ _ _ h, c.requires.5)

pub walk_row-walk_leaves-run-requires-in-loop-run : goal.walk_row-walk_leaves-run-requires-in-loop-run
walk_row-walk_leaves-run-requires-in-loop-run t c =
    let w = reached_in _ _ _ _ refl c.in_ok-next.ensures.1 in
    let h = row_at _ _ c.requires.0 _ c.requires.1 c.requires.2 _ c.requires.3 c.requires.4 _ _ _ _ _
    (from_end _ _ c.loop-run.invariant.0) c.loop-run-test.true c.loop-run.invariant.1 c.in-Ok.ensures in (
      record { node = c.requires.0; kind = c.requires.1; dense = c.requires.2 },
      (λ i q. c.requires.3 i (omega (arith, q, c.loop-run.invariant.0, c.loop-run-test.true))),
      omega (arith, c.loop-run.invariant.0, c.loop-run-test.true, c.requires.4),
      c.requires.5,
      rw c.end_of-after.ensures (end_in _ _ _ _ h),
      rw c.end_of-after.ensures w,
    )

pub walk_row-loop-run-preserved : goal.walk_row-loop-run-preserved
walk_row-loop-run-preserved t c =
    left_next _ _ _ _ _ _ _ _ _ _ _ _ _ c.loop-run.invariant c.loop-run-test.true _ _ _
    (turn_go _ (single (look c.args.plan.now)) _ _ _ (row_form (look c.args.plan.now c.args.node) c.args.part.now) _ c.loop-run.run.pos _ _ _ c.loop-run-test.true _ c.in-Ok.ensures _ _ c.in_ok-next.ensures.0 _ refl _ refl _ c.end_of-after.ensures)
    c.walk_member.auto.list _ _ _ _ c.walk_leaves-run-in-loop-run.ensures c.walk_leaves-run-in-loop-run.auto.list

pub walk_row-returns : goal.walk_row-returns
walk_row-returns t c = (
  done _ (single (look c.args.plan.now)) _ _ _ (row_form (look c.args.plan.now c.args.node) c.args.part.now) _ c.loop-run.run.pos _ _ _ c.loop-run-test.false _ _ refl refl _ c.end_elements.ensures
      ∙ sym c.loop-run.invariant.4
      ∙ sym c.walk_leaves-run.ensures.leads,
  end_within _ _ _ _ _ _ c.end_elements.ensures (omega (arith, c.loop-run.invariant.1, c.loop-run.invariant.2)),
)

pub walk_sparse-loop-init : goal.walk_sparse-loop-init
walk_sparse-loop-init t c = (c.requires.3, c.requires.4, refl, rw sub-zero refl, c.requires.6)

pub walk_sparse-index_at-index-requires : goal.walk_sparse-index_at-index-requires
walk_sparse-index_at-index-requires t c = (c.requires.0, c.requires.1, c.loop.invariant.0)

pub walk_sparse-returns-in_default : goal.walk_sparse-returns-in_default
walk_sparse-returns-in_default t c = (
  turn_fault _ (single (look c.args.plan.now)) _ _ _ (sparse_form (cards_at c.args.plan.now c.args.node) c.args.part.now) c.loop.seen.marks c.loop.pos _ _ _ (omega (arith, c.loop-test.true)) _
      (head_bad _ _ _ _ _ (sym (cards_length _ _)) _ (sym c.unwrap_err.ensures ∙ c.index_at-index.ensures)) _ (ap Err c.at.ensures)
      ∙ sym c.loop.invariant.3,
  refused_within _ _ _ refl,
)

pub walk_sparse-mark-seen-requires : goal.walk_sparse-mark-seen-requires
walk_sparse-mark-seen-requires t c = (known_in _ _ c.requires.0 c.requires.1 _ _ _ _ refl c.in-Ok.ensures c.loop.invariant.0).1

pub walk_sparse-returns-then-seen : goal.walk_sparse-returns-then-seen
walk_sparse-returns-then-seen t c = (
  turn_fault _ (single (look c.args.plan.now)) _ _ _ (sparse_form (cards_at c.args.plan.now c.args.node) c.args.part.now) c.loop.seen.marks c.loop.pos _ _ _ (omega (arith, c.loop-test.true)) _
      (sparse_twice _ _ c.requires.0 c.requires.1 _ _ _ _ refl c.in-Ok.ensures c.loop.seen.marks (sym c.mark-seen.ensures.0 ∙ c.if-seen.true)) _
      (ap Err c.at-then-seen.ensures)
      ∙ sym c.loop.invariant.3,
  refused_within _ _ _ refl,
)

pub walk_sparse-count_given-given-requires : goal.walk_sparse-count_given-given-requires
walk_sparse-count_given-given-requires t c =
    (c.requires.0, c.requires.1, (known_in _ _ c.requires.0 c.requires.1 _ _ _ _ refl c.in-Ok.ensures c.loop.invariant.0).0, counted_few _ _ _ _ c.loop.invariant.4 c.requires.0 c.requires.1)

pub walk_sparse-sparse_head-read-requires : goal.walk_sparse-sparse_head-read-requires
walk_sparse-sparse_head-read-requires t c =
    let i = known_in _ _ c.requires.0 c.requires.1 _ _ _ _ refl c.in-Ok.ensures c.loop.invariant.0 in
    (c.requires.0, c.requires.1, i.0, i.2)

pub walk_sparse-returns-in_default-read : goal.walk_sparse-returns-in_default-read
walk_sparse-returns-in_default-read t c = (
  turn_fault _ (single (look c.args.plan.now)) _ _ _ (sparse_form (cards_at c.args.plan.now c.args.node) c.args.part.now) c.loop.seen.marks c.loop.pos _ _ _ (omega (arith, c.loop-test.true)) _
      (sym (sparse_new _ _ c.requires.0 c.requires.1 _ _ _ _ refl c.in-Ok.ensures c.loop.seen.marks (sym c.mark-seen.ensures.0 ∙ c.if-seen.false) _ (sym c.unwrap_err-in_default-read.ensures ∙ c.sparse_head-read.ensures))) _
      (ap Err c.at-in_default-read.ensures)
      ∙ sym c.loop.invariant.3,
  refused_within _ _ _ refl,
)

pub walk_sparse-walk_member-requires : goal.walk_sparse-walk_member-requires
walk_sparse-walk_member-requires t c = (
  omega (arith, c.decreases),
  (c.requires.0, c.requires.2, (sparse_turn _ _ c.requires.0 c.requires.1 _ _ _ _ refl c.in-Ok.ensures c.loop.seen.marks (sym c.mark-seen.ensures.0 ∙ c.if-seen.false) _ c.in-Ok-read.ensures c.loop.invariant.0).inside, c.loop.invariant.1, c.requires.5),
)

pub walk_sparse-returns-in_err-to : goal.walk_sparse-returns-in_err-to
walk_sparse-returns-in_err-to t c =
    let r = sparse_turn _ _ c.requires.0 c.requires.1 _ _ _ _ refl c.in-Ok.ensures c.loop.seen.marks (sym c.mark-seen.ensures.0 ∙ c.if-seen.false) _ c.in-Ok-read.ensures c.loop.invariant.0 in
    let p = err_from_is_err_and c.from_residual.result c.from_residual.ensures.1 in
    rw (p.1, p.2) (
      turn_stop _ (single (look c.args.plan.now)) _ _ _ (sparse_form (cards_at c.args.plan.now c.args.node) c.args.part.now) c.loop.seen.marks c.loop.pos _ _ _ (omega (arith, c.loop-test.true)) _ r.is _ _ c.in_err-to.ensures.0 _ refl ∙ sym c.loop.invariant.3,
      refused_within _ _ _ refl,
    )

pub walk_sparse-end_of-pos-requires : goal.walk_sparse-end_of-pos-requires
walk_sparse-end_of-pos-requires t c =
    let r = sparse_turn _ _ c.requires.0 c.requires.1 _ _ _ _ refl c.in-Ok.ensures c.loop.seen.marks (sym c.mark-seen.ensures.0 ∙ c.if-seen.false) _ c.in-Ok-read.ensures c.loop.invariant.0 in
    omega (arith, end_in _ _ _ _ r.inside, c.requires.2)

pub walk_sparse-loop-preserved : goal.walk_sparse-loop-preserved
walk_sparse-loop-preserved t c =
    let i = known_in _ _ c.requires.0 c.requires.1 _ _ _ _ refl c.in-Ok.ensures c.loop.invariant.0 in
    let w = reached_in _ _ _ _ refl c.in_ok-to.ensures.1 in
    let r = sparse_turn _ _ c.requires.0 c.requires.1 _ _ _ _ refl c.in-Ok.ensures c.loop.seen.marks (sym c.mark-seen.ensures.0 ∙ c.if-seen.false) _ c.in-Ok-read.ensures c.loop.invariant.0 in
    let z : c.args.run.left - (c.loop.counter + 1) ≡ c.args.run.left - c.loop.counter - 1 = omega arith in (
      rw c.end_of-pos.ensures (end_in _ _ _ _ r.inside),
      rw c.end_of-pos.ensures w,
      c.walk_member.auto.list ∙ c.loop.invariant.2,
      c.loop.invariant.3
          ∙ rw z (turn_go _ (single (look c.args.plan.now)) _ _ _ (sparse_form (cards_at c.args.plan.now c.args.node) c.args.part.now) c.loop.seen.marks c.loop.pos _ _ _ (omega (arith, c.loop-test.true)) _ r.is _ _ c.in_ok-to.ensures.0 _ refl _ (c.mark-seen.ensures.1 ∙ r.next) _ c.end_of-pos.ensures),
      counted_next _ _ _ _ c.loop.invariant.4 _ i.0 i.1 (sym c.mark-seen.ensures.0 ∙ c.if-seen.false) _ c.mark-seen.ensures.1 _ c.count_given-given.ensures,
    )

pub walk_sparse-returns : goal.walk_sparse-returns
walk_sparse-returns t c = (
  done _ (single (look c.args.plan.now)) _ _ _ (sparse_form (cards_at c.args.plan.now c.args.node) c.args.part.now) c.loop.seen.marks c.loop.pos _ _ _ (omega (arith, c.loop-test.false)) _ _
      refl (counted_end _ _ _ _ c.loop.invariant.4 _ c.needed_of.ensures) _ c.end_elements.ensures
      ∙ sym c.loop.invariant.3,
  end_within _ _ _ _ _ _ c.end_elements.ensures (omega (arith, c.loop.invariant.0, c.loop.invariant.1)),
)

pub walk_value-walk_container-requires : goal.walk_value-walk_container-requires
walk_value-walk_container-requires t c = (
  omega (arith, c.decreases),
  (
    c.requires.0,
    c.requires.1,
    c.requires.2,
    c.requires.3,
    c.requires.4,
    inner_kind _ _ _ c.kind_at-kind.ensures (sym c.is_leaf.ensures ∙ c.if-is_leaf.false),
  ),
)
