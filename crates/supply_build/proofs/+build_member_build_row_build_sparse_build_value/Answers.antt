-- A value, its container's elements and one of them: the functions of the walk,
-- which call each other. The node falls from a value to its elements' values.
use mathlib.Core.Path.{refl, sym, ap, ◌∙◌}
use native.Mathlib.Omega.{arith}
use native.Mathlib.Nat.{add-sub_cancel_left, sub-zero}
use borrow.Author.Tests.{eq-eqb, ne_eqb, lt-ltb, le-ltb}
use Rattle.value_parts.proofs.Counted.{counted_few, counted_end}
use Rattle.plan_nodes.proofs.Looks.{cards_length}
use Rattle.plan_nodes.proofs.Nodes.{at_ref, at_few}
use Rattle.value_parts.specs.Walk.{leaf_kind}
use Rattle.value_parts.proofs.Members.{inner_kind, sparse_holds}
use Rattle.supply_entries.specs.Emitting.{stand_of}
use Rattle.supply_entries.proofs.Entries.{no_entry, entry_at, entry_inside, known_is}
use Rattle.value_parts.proofs.Containers.{refers_inner}
use Rattle.supply_entries.proofs.Heads.{size_few}
use Rattle.supply_entries.proofs.Stands.{built_is, stood}
use Rattle.supply_entries.proofs.Parts.{member_absent, member_stop, member_go}
use Rattle.supply_entries.proofs.Elements.{turn_short, turn_barred, turn_stop, turn_go, turn_unknown, done, lacks, as_many, some_left}
use Rattle.supply_entries.proofs.Elements.{none_left, one_fewer, same_index, new_index, gathers_start, gathers_next}
use Rattle.supply_entries.proofs.Values.{value_node, value_leaf, value_shut, value_sparse, value_row, opened_small, opened_holds, opened_first}
use Rattle.protocol.specs.Plans.{cards_at}
use Rattle.protocol.specs.Building.{row_order, sparse_order}
use Rattle.supply_build.proofs.+build_member_build_row_build_sparse_build_value.Goals as goal

pub build_member-build_absent-requires : goal.build_member-build_absent-requires
build_member-build_absent-requires t c = (
  c.requires.0,
  refers_inner _ _ _ _ c.kind_at-kind.ensures c.requires.1,
  c.requires.1,
  c.requires.4,
)

pub build_member-returns-then-entry-eq-ABSENT : goal.build_member-returns-then-entry-eq-ABSENT
build_member-returns-then-entry-eq-ABSENT t c =
    c.build_absent.ensures _
    ∙ member_absent _ _ _
    (refers_inner _ _ _ _ c.kind_at-kind.ensures
    c.requires.1) _ _
    _ _ _ c.ref_of-child.ensures _ _ c.if-entry-eq-ABSENT.true

pub build_member-overflow_add-from : goal.build_member-overflow_add-from
build_member-overflow_add-from t c =
    omega (
      arith,
      c.head_size.ensures,
      size_few c.kind_at-kind.result,
      c.requires.4,
    )

pub build_member-build_value-requires : goal.build_member-build_value-requires
build_member-build_value-requires t c =
    let r = at_ref _ _ _ _ c.requires.0 c.ref_of-child.ensures in (
      omega (arith, c.decreases, r.1),
      (
        r.0,
        c.requires.2,
        c.if-entry-eq-ABSENT.false,
        c.requires.3,
        omega (
          arith,
          c.head_size.ensures,
          size_few c.kind_at-kind.result,
          c.requires.4,
        ),
        c.requires.5,
      ),
    )

pub build_member-returns-in_err-built : goal.build_member-returns-in_err-built
unfolding stand_of
build_member-returns-in_err-built t c =
    rw c.from_residual.ensures
    (member_stop _ _ _
    (refers_inner _ _ _ _ c.kind_at-kind.ensures
    c.requires.1)
    _ _ _ _ _ c.ref_of-child.ensures _ _
    c.if-entry-eq-ABSENT.false _
    c.head_size.ensures
    c.in_err-built.ensures)

pub build_member-overflow_sub-built : goal.build_member-overflow_sub-built
unfolding stand_of
build_member-overflow_sub-built t c =
    omega (arith, (stood _ _ _ _ _ _ c.in_ok-built.ensures).next)

pub build_member-overflow_cast-built : goal.build_member-overflow_cast-built
unfolding stand_of
build_member-overflow_cast-built t c =
    omega (arith, (stood _ _ _ _ _ _ c.in_ok-built.ensures).small)

pub build_member-put_head-requires : goal.build_member-put_head-requires
unfolding stand_of
build_member-put_head-requires t c =
    let s = stood _ _ _ _ _ _ c.in_ok-built.ensures in (
      omega (arith, c.requires.4),
      λ e. omega (arith, s.small),
    )

pub build_member-returns : goal.build_member-returns
unfolding stand_of
build_member-returns t c =
    member_go _ _ _
    (refers_inner _ _ _ _
    c.kind_at-kind.ensures
    c.requires.1)
    _ _ _ _ _
    c.ref_of-child.ensures _ _
    c.if-entry-eq-ABSENT.false _
    c.head_size.ensures _ _ _
    c.in_ok-built.ensures _
    c.put_head.ensures

pub build_row-returns-in_err-entry : goal.build_row-returns-in_err-entry
unfolding stand_of
build_row-returns-in_err-entry t c =
    rw c.from_residual.ensures
    (turn_short row_order _ _ c.loop-row.row.index _ _ _ _
    (some_left _ _ c.loop-row-test.true)
    (no_entry c.args.list.now
    c.loop-row.row.word _ c.next_entry.ensures c.in_err-entry.was)
    ∙ sym (as_many row_order _ _
    c.args.first _ _ _ _ _
    (add-sub_cancel_left c.args.first
    c.args.count)
    ∙ c.put_leaves-row.ensures.3
    ∙ c.loop-row.invariant.3))

pub build_row-returns-then-entry-i : goal.build_row-returns-then-entry-i
unfolding stand_of
build_row-returns-then-entry-i t c =
    turn_barred row_order _ _ c.loop-row.row.index _ _ _ _
    (some_left _ _ c.loop-row-test.true) _ _
    (entry_at c.args.list.now
    c.loop-row.row.word _
    c.next_entry.ensures _ c.in_ok-entry.was)
    (ne_eqb _ _ (λ e. c.if-entry-i.true (sym e)))
    ∙ sym (as_many row_order _ _
    c.args.first _ _ _ _ _
    (add-sub_cancel_left c.args.first
    c.args.count)
    ∙ c.put_leaves-row.ensures.3
    ∙ c.loop-row.invariant.3)

pub build_row-build_member-requires : goal.build_row-build_member-requires
build_row-build_member-requires t c = (
  omega (arith, c.decreases),
  (
    c.requires.0,
    c.requires.1 _
        (omega (arith, c.if-entry-i.false, c.loop-row-test.true)),
    entry_at c.args.list.now
        c.loop-row.row.word _
        c.next_entry.ensures _ c.in_ok-entry.was,
    entry_inside c.args.list.now
        c.loop-row.row.word _
        c.next_entry.ensures _ c.in_ok-entry.was,
    c.loop-row.invariant.1,
    c.requires.4,
  ),
)

pub build_row-returns-in_err-built : goal.build_row-returns-in_err-built
unfolding stand_of
build_row-returns-in_err-built t c =
    rw c.from_residual-in_err-built.ensures
    (turn_stop row_order _ _
    c.loop-row.row.index _ _ _ _
    (some_left _ _ c.loop-row-test.true) _ _
    (entry_at c.args.list.now
    c.loop-row.row.word _
    c.next_entry.ensures _
    c.in_ok-entry.was)
    (eq-eqb _ _ (sym c.if-entry-i.false))
    c.in_err-built.ensures
    ∙ sym (as_many row_order _ _
    c.args.first _ _ _ _ _
    (add-sub_cancel_left c.args.first
    c.args.count)
    ∙ c.put_leaves-row.ensures.3
    ∙ c.loop-row.invariant.3))

pub build_row-put_leaves-row-requires-in-loop-row : goal.build_row-put_leaves-row-requires-in-loop-row
build_row-put_leaves-row-requires-in-loop-row t c =
    let q = built_is _ _ _ _ c.build_member.ensures _ c.in_ok-built.was in (
      c.requires.0,
      c.kind_at-kind.ensures,
      c.requires.1,
      omega (arith, c.loop-row-test.true),
      omega (
        arith,
        c.requires.2,
      ),
      (stood _ _ _ _ _ _ q).small,
    )

pub build_row-loop-row-preserved : goal.build_row-loop-row-preserved
build_row-loop-row-preserved t c =
    let q = built_is _ _ _ _ c.build_member.ensures _ c.in_ok-built.was in (
      c.put_leaves-row-in-loop-row.ensures.1,
      c.put_leaves-row-in-loop-row.ensures.2,
      c.put_leaves-row-in-loop-row.auto.out
          ∙ c.build_member.auto.out
          ∙ c.loop-row.invariant.2,
      c.loop-row.invariant.3
          ∙ turn_go row_order _ _
          c.loop-row.row.index _ _ _ _
          (some_left _ _ c.loop-row-test.true) _ _
          (entry_at c.args.list.now
          c.loop-row.row.word _
          c.next_entry.ensures _
          c.in_ok-entry.was)
          (eq-eqb _ _ (sym c.if-entry-i.false)) _ _ _ q _
          refl _ (one_fewer _ _)
          ∙ c.put_leaves-row-in-loop-row.ensures.3,
    )

pub build_row-returns : goal.build_row-returns
unfolding stand_of
build_row-returns t c =
    done row_order _ _ c.loop-row.row.index _ _ _ _ (none_left _ _ c.loop-row-test.false) refl c.loop-row.invariant.1
    ∙ sym (as_many row_order _ _
    c.args.first _ _ _ _ _
    (add-sub_cancel_left c.args.first
    c.args.count)
    ∙ c.put_leaves-row.ensures.3
    ∙ c.loop-row.invariant.3)

pub build_sparse-loop-init : goal.build_sparse-loop-init
build_sparse-loop-init t c =
    (refl, rw sub-zero (gathers_start _ _ _ _ _ _ _ _ _ c.requires.2 c.requires.4))

pub build_sparse-returns-in_err-entry : goal.build_sparse-returns-in_err-entry
unfolding stand_of
build_sparse-returns-in_err-entry t c =
    rw c.from_residual.ensures
    (turn_unknown c.args.plan.now
    c.args.node _ _
    c.loop.seen.marks _ _ _ _ _ (some_left _ _ c.loop-test.true)
    c.second_at-n.ensures _ c.known_entry.ensures
    c.in_err-entry.was
    ∙ sym c.loop.invariant.1.leads)

pub build_sparse-mark-seen-requires : goal.build_sparse-mark-seen-requires
build_sparse-mark-seen-requires t c =
    let k = known_is _ _ _ _ c.known_entry.ensures c.in_ok-entry.was in
    omega (
      arith,
      k.1,
      c.second_at-n.ensures,
      at_few _ _
          c.requires.0
          (omega (arith, c.requires.1))
          (omega (arith, c.requires.1)),
    )

pub build_sparse-returns-then-seen : goal.build_sparse-returns-then-seen
unfolding stand_of
build_sparse-returns-then-seen t c =
    let k = known_is _ _ _ _ c.known_entry.ensures c.in_ok-entry.was in
    turn_barred (sparse_order (cards_at c.args.plan.now
    c.args.node))
    _ _ c.loop.seen.marks _ _ _ _
    (some_left _ _ c.loop-test.true) _ _
    (entry_at c.args.list.now
    c.loop.built.word _ k.0 _
    c.in_ok-entry.was)
    (same_index c.args.plan.now
    c.args.node
    c.loop.seen.marks _ _
    c.second_at-n.ensures k.1
    (sym c.mark-seen.ensures.0 ∙ c.if-seen.true))
    ∙ sym c.loop.invariant.1.leads

pub build_sparse-count_given-given-requires : goal.build_sparse-count_given-given-requires
build_sparse-count_given-given-requires t c =
    let k = known_is _ _ _ _ c.known_entry.ensures c.in_ok-entry.was in (
      c.requires.0,
      c.requires.1,
      omega (arith, k.1, c.second_at-n.ensures),
      counted_few _ _ _ _ c.loop.invariant.1.counted
          c.requires.0
          c.requires.1,
    )

pub build_sparse-build_member-requires : goal.build_sparse-build_member-requires
build_sparse-build_member-requires t c =
    let k = known_is _ _ _ _ c.known_entry.ensures c.in_ok-entry.was in (
      omega (arith, c.decreases),
      (
        c.requires.0,
        sparse_holds _ _
            c.requires.0
            c.requires.1 _
            (omega (
              arith,
              k.1,
              c.second_at-n.ensures,
              cards_length c.args.plan.now
                  c.args.node,
            )),
        entry_at c.args.list.now
            c.loop.built.word _ k.0 _
            c.in_ok-entry.was,
        entry_inside c.args.list.now
            c.loop.built.word _ k.0 _
            c.in_ok-entry.was,
        c.loop.invariant.1.small,
        c.requires.3,
      ),
    )

pub build_sparse-returns-in_err-built : goal.build_sparse-returns-in_err-built
unfolding stand_of
build_sparse-returns-in_err-built t c =
    rw c.from_residual-in_err-built.ensures
    (let k =
    known_is _ _ _ _
    c.known_entry.ensures
    c.in_ok-entry.was
    in
    turn_stop (sparse_order (cards_at c.args.plan.now
    c.args.node)) _ _
    c.loop.seen.marks _ _ _ _
    (some_left _ _ c.loop-test.true) _ _
    (entry_at c.args.list.now
    c.loop.built.word _
    k.0 _ c.in_ok-entry.was)
    (new_index c.args.plan.now
    c.args.node
    c.loop.seen.marks _ _
    c.second_at-n.ensures
    k.1
    (sym c.mark-seen.ensures.0 ∙ c.if-seen.false))
    c.in_err-built.ensures
    ∙ sym c.loop.invariant.1.leads)

pub build_sparse-loop-preserved : goal.build_sparse-loop-preserved
build_sparse-loop-preserved t c =
    let k =
    known_is _ _ _ _
    c.known_entry.ensures
    c.in_ok-entry.was
    in (
      c.build_member.auto.out
          ∙ c.loop.invariant.0,
      gathers_next _ _ _ _ _ _ _ _ _ _ _ _ _ _
          c.loop.invariant.1
          (some_left _ _ c.loop-test.true)
          c.requires.0
          c.requires.1 _ _
          (entry_at c.args.list.now
          c.loop.built.word _
          k.0 _ c.in_ok-entry.was)
          (omega (arith, k.1, c.second_at-n.ensures))
          (sym c.mark-seen.ensures.0 ∙ c.if-seen.false) _ _ _
          (built_is _ _ _ _ c.build_member.ensures _ c.in_ok-built.was) _
          c.mark-seen.ensures.1 _
          c.count_given-given.ensures _ (one_fewer _ _),
    )

pub build_sparse-needed_of-requires : goal.build_sparse-needed_of-requires
build_sparse-needed_of-requires t c = (
  c.requires.0,
  c.requires.1,
  c.requires.3,
)

pub build_sparse-returns-then-given-needed_of : goal.build_sparse-returns-then-given-needed_of
unfolding stand_of
build_sparse-returns-then-given-needed_of t c =
    lacks (sparse_order (cards_at c.args.plan.now
    c.args.node)) _ _
    c.loop.seen.marks _ _ _ _ (none_left _ _ c.loop-test.false)
    (sym (counted_end _ _ _ _ c.loop.invariant.1.counted _ c.needed_of.ensures) ∙ lt-ltb _ _ c.if-given-needed_of.true)
    ∙ sym c.loop.invariant.1.leads

pub build_sparse-returns : goal.build_sparse-returns
unfolding stand_of
build_sparse-returns t c =
    done (sparse_order (cards_at c.args.plan.now
    c.args.node)) _ _
    c.loop.seen.marks _ _ _ _ (none_left _ _ c.loop-test.false)
    (sym (counted_end _ _ _ _ c.loop.invariant.1.counted _ c.needed_of.ensures) ∙ le-ltb _ _ c.if-given-needed_of.false)
    c.loop.invariant.1.small
    ∙ sym c.loop.invariant.1.leads

pub build_value-returns-then-entry-node : goal.build_value-returns-then-entry-node
unfolding stand_of
build_value-returns-then-entry-node t c =
    value_node _ _ _ c.requires.0 _ _ _
    c.requires.1
    c.requires.2 _ _ c.if-entry-node.true

pub build_value-build_leaf-requires : goal.build_value-build_leaf-requires
build_value-build_leaf-requires t c = (
  c.requires.0,
  c.kind_at-kind.ensures.is,
  sym c.is_leaf.ensures ∙ c.if-is_leaf.true,
  c.requires.4,
)

pub build_value-returns-then-is_leaf : goal.build_value-returns-then-is_leaf
build_value-returns-then-is_leaf t c =
    c.build_leaf.ensures _
    ∙ value_leaf _ _ _
    c.requires.0 _ _ _
    c.requires.1
    c.requires.2 _ _
    c.if-entry-node.false
    (sym (ap leaf_kind c.kind_at-kind.ensures.is)
    ∙ sym c.is_leaf.ensures
    ∙ c.if-is_leaf.true)

pub build_value-put_front-requires : goal.build_value-put_front-requires
build_value-put_front-requires t c = (
  c.requires.0,
  inner_kind _ _ _ c.kind_at-kind.ensures (sym c.is_leaf.ensures ∙ c.if-is_leaf.false),
  c.requires.4,
)

pub build_value-returns-in_err-opened : goal.build_value-returns-in_err-opened
unfolding stand_of
build_value-returns-in_err-opened t c =
    rw c.from_residual.ensures
    (value_shut _ _ _
    c.requires.0 _ _ _
    c.requires.1
    c.requires.2 _ _
    c.if-entry-node.false _
    (inner_kind _ _ _ c.kind_at-kind.ensures
    (sym c.is_leaf.ensures ∙ c.if-is_leaf.false))
    _ _ c.put_front.ensures c.in_err-opened.was)

pub build_value-put_given-run-requires : goal.build_value-put_given-run-requires
build_value-put_given-run-requires t c =
    let k =
    inner_kind _ _ _
    c.kind_at-kind.ensures
    (sym c.is_leaf.ensures
    ∙ c.if-is_leaf.false)
    in (
      c.requires.0,
      sym c.kind_at-kind.ensures.is ∙ c.if-kind-eq-KIND_INPUT_OBJECT.true,
      opened_small _ _ _
          c.requires.0 _ _ _
          c.requires.1
          c.requires.2 _ _
          c.if-entry-node.false _ k _ _
          c.put_front.ensures _ c.in_ok-opened.was,
      omega (arith, c.requires.3),
    )

pub build_value-returns-then-run : goal.build_value-returns-then-run
unfolding stand_of
build_value-returns-then-run t c =
    let k =
    inner_kind _ _ _
    c.kind_at-kind.ensures
    (sym c.is_leaf.ensures
    ∙ c.if-is_leaf.false)
    in
    sym (c.put_given-run.ensures.barred c.if-run.true)
    ∙ value_sparse _ _ _
    c.requires.0 _ _ _
    c.requires.1
    c.requires.2 _ _
    c.if-entry-node.false _ k _ _
    c.put_front.ensures _ c.in_ok-opened.was
    c.if-kind-eq-KIND_INPUT_OBJECT.true

pub build_value-build_sparse-requires : goal.build_value-build_sparse-requires
build_value-build_sparse-requires t c = (
  omega (
    arith,
    c.decreases,
  ),
  (
    c.requires.0,
    sym c.kind_at-kind.ensures.is
        ∙ c.if-kind-eq-KIND_INPUT_OBJECT.true,
    c.put_given-run.ensures.small,
    c.requires.5,
    (c.put_given-run.ensures.new c.if-run.false).counted,
  ),
)

pub build_value-returns-then-kind-eq-KIND_INPUT_OBJECT : goal.build_value-returns-then-kind-eq-KIND_INPUT_OBJECT
build_value-returns-then-kind-eq-KIND_INPUT_OBJECT t c =
    let k =
    inner_kind _ _ _
    c.kind_at-kind.ensures
    (sym c.is_leaf.ensures
    ∙ c.if-is_leaf.false)
    in
    c.build_sparse.ensures
    ∙ sym (c.put_given-run.ensures.new c.if-run.false).leads
    ∙ value_sparse _ _ _
    c.requires.0 _ _ _
    c.requires.1
    c.requires.2 _ _
    c.if-entry-node.false _ k _ _
    c.put_front.ensures _ c.in_ok-opened.was
    c.if-kind-eq-KIND_INPUT_OBJECT.true

pub build_value-build_row-requires : goal.build_value-build_row-requires
build_value-build_row-requires t c =
    let k =
    inner_kind _ _ _
    c.kind_at-kind.ensures
    (sym c.is_leaf.ensures
    ∙ c.if-is_leaf.false)
    in (
      omega (arith, c.decreases),
      (
        c.requires.0,
        opened_holds _ _ _
            c.requires.0 _ _ _
            c.requires.1
            c.requires.2 _ _
            c.if-entry-node.false _ k _ _
            c.put_front.ensures _ c.in_ok-opened.was c.if-kind-eq-KIND_INPUT_OBJECT.false,
        omega (
          arith,
          opened_first _ _ _
              c.requires.0 _ _ _
              c.requires.1
              c.requires.2 _ _
              c.if-entry-node.false _ k _ _
              c.put_front.ensures _ c.in_ok-opened.was c.if-kind-eq-KIND_INPUT_OBJECT.false,
          c.struct_known-2-1.given,
        ),
        opened_small _ _ _
            c.requires.0 _ _ _
            c.requires.1
            c.requires.2 _ _
            c.if-entry-node.false _ k _ _
            c.put_front.ensures _ c.in_ok-opened.was,
        c.requires.5,
      ),
    )

pub build_value-returns : goal.build_value-returns
build_value-returns t c =
    let k =
    inner_kind _ _ _
    c.kind_at-kind.ensures
    (sym c.is_leaf.ensures
    ∙ c.if-is_leaf.false)
    in
    c.build_row.ensures
    ∙ value_row _ _ _
    c.requires.0 _ _ _
    c.requires.1
    c.requires.2 _ _
    c.if-entry-node.false _ k _ _
    c.put_front.ensures _ c.in_ok-opened.was c.if-kind-eq-KIND_INPUT_OBJECT.false
