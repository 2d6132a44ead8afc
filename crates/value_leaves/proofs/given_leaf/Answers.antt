-- `value_leaves::given_leaf` meets its contract: the index, then the head, then the bytes.
use native.Mathlib.Omega.{arith}
use mathlib.Core.Path.{refl, ap, sym, ◌∙◌}
use Rattle.std.proofs.Common.{Ok}
use Rattle.plan_nodes.proofs.Looks.{cards_length}
use Rattle.plan_nodes.proofs.Nodes.{at_ref}
use Rattle.value_parts.proofs.Members.{known_in, sparse_holds, inner_kind}
use Rattle.value_parts.proofs.Containers.{container_none}
use Rattle.value_leaves.specs.Leaves.{whole_of, good}
use Rattle.value_leaves.proofs.Single.{pair_is, head_there, given_bad, given_refused, given_absent, given_none, given_there}
use Rattle.protocol.specs.Numbers.{pick}
use Rattle.value_leaves.proofs.given_leaf.Goals as goal
use Rattle.value_leaves.proofs.given_leaf.Goals.{then-not-is_leaf-via-then-not-is_leaf, then-not-is_leaf-via-else-not-is_leaf+then-not-is_good}

pub index_at-requires : goal.index_at-requires
index_at-requires c = (c.requires.0, c.requires.1, c.requires.2)

pub returns-in_default : goal.returns-in_default
returns-in_default c = given_bad _ _ _ _ _ c.in_default.ensures

pub sparse_head-requires : goal.sparse_head-requires
sparse_head-requires c =
    let w =
    known_in _ _ c.requires.0 c.requires.1 _ _ _ _ refl c.in-Ok.ensures c.requires.2
    in
    (c.requires.0, c.requires.1, w.0, w.2)

pub returns-in_default-sparse_head : goal.returns-in_default-sparse_head
returns-in_default-sparse_head c = given_refused _ _ _ _ _ c.in-Ok.ensures _ refl _ c.in_default-sparse_head.ensures

pub returns-in_default-head : goal.returns-in_default-head
returns-in_default-head c = given_absent _ _ _ _ _ c.in-Ok.ensures _ refl _ c.in-Ok-sparse_head.ensures _ _ c.in_default-head.is

pub ref_of-child-requires : goal.ref_of-child-requires
ref_of-child-requires c =
    let w =
    known_in _ _ c.requires.0
    c.requires.1 _ _ _ _ refl c.in-Ok.ensures c.requires.2
    in (
      c.requires.0,
      sparse_holds _ _ c.requires.0
          c.requires.1 _
          (omega (
            arith,
            w.0,
            cards_length c.args.plan.now
                c.args.node,
          )),
    )

pub kind_at-kind-requires : goal.kind_at-kind-requires
kind_at-kind-requires c =
    (at_ref _ _ _ _ c.requires.0 c.ref_of-child.ensures).0

pub returns-then-not-is_leaf : goal.returns-then-not-is_leaf
unfolding whole_of pick
returns-then-not-is_leaf c =
    let w =
    known_in _ _ c.requires.0 c.requires.1 _ _ _ _ refl c.in-Ok.ensures c.requires.2
    in
    let r = pair_is _ _ c.requires.1 _ _ w.0 c.ref_of-child.ensures in
    elim c.then-not-is_leaf.branch [
      | then-not-is_leaf-via-then-not-is_leaf v ↦
          given_none _ _ _ _ _ c.in-Ok.ensures _ r
          (container_none _ _ _ (inner_kind _ _ _ c.kind_at-kind.ensures (sym c.is_leaf.ensures ∙ v.if-not-is_leaf.true)))
      | then-not-is_leaf-via-else-not-is_leaf+then-not-is_good v ↦
          given_there _ _ _ _ _ c.in-Ok.ensures _ r
          w.2 _ c.in-Ok-sparse_head.ensures _ _ _ (ap Ok c.in-Present.is) _ (sym v.if-not-is_good.true ∙ v.is_good.ensures)
    ]

pub is_good-requires : goal.is_good-requires
is_good-requires c =
    let w =
    known_in _ _
    c.requires.0
    c.requires.1 _ _ _ _ refl c.in-Ok.ensures c.requires.2
    in (
      (at_ref _ _ _ _ c.requires.0 c.ref_of-child.ensures).0,
      c.kind_at-kind.ensures.is,
      sym c.is_leaf.ensures ∙ c.if-not-is_leaf.false,
      (head_there _ _ _ _ _ w.2 _ c.in-Ok-sparse_head.ensures _ _ _ (ap Ok c.in-Present.is)).2,
    )

pub returns : goal.returns
unfolding whole_of pick good
returns c =
    let w =
    known_in _ _ c.requires.0 c.requires.1 _ _ _ _ refl c.in-Ok.ensures c.requires.2
    in
    given_there _ _ _ _ _ c.in-Ok.ensures _ (pair_is _ _ c.requires.1 _ _ w.0 c.ref_of-child.ensures)
    w.2 _ c.in-Ok-sparse_head.ensures _ _ _ (ap Ok c.in-Present.is) _ (sym c.if-not-is_good.false ∙ c.is_good.ensures)
