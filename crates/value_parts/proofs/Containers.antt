-- What holds of a container is shown for each of its kinds.
use mathlib.Core.Path.{◌≡◌, refl, sym, ◌∙◌}
use mathlib.Core.Bool.{Bool, true, false}
use mathlib.Core.List.{List}
use mathlib.Core.Option.{none, some}
use Prim.Native.Nat.{ℕ, ◌+◌, ◌<◌, ◌≤◌}
use native.Mathlib.Omega.{arith}
use lib.ListN.{get_or, take, drop}
use Rattle.plan_nodes.specs.Readers.{Refers, KindAt}
use Rattle.plan_nodes.proofs.Looks.{look_leaf, look_row, look_arrays, look_tuple, look_object, look_sparse, look_range, look_enum, elem_in, refs_length}
use Rattle.value_parts.specs.Walk.{leaf_kind, leaf_good, Container}
use Rattle.value_parts.proofs.Members.{kinds, inner_kind}
use Rattle.protocol.specs.Nodes.{Node, row, arrays, tuple, object, sparse, range, ref_at}
use Rattle.protocol.specs.Plans.{look, refs_at, cards_at}

module _ (p : List ℕ) (k kind : ℕ) (c : Container p k kind) where
  -- of a container's kind and node
  pub by_kind : (P : ℕ → Node → Type 0) → P 2 (row (get_or p (k + 1) 0)) → P 3 (arrays (get_or p (k + 1) 0))
      → P 4 (tuple (take (get_or p (k + 1) 0) (drop (k + 2) p))) → P 5 (object (refs_at p k) (cards_at p k))
      → P 6 (sparse (refs_at p k) (cards_at p k)) → P 7 (range (get_or p (k + 1) 0)) → P kind (look p k)
  by_kind P a₂ a₃ a₄ a₅ a₆ a₇ =
      kinds (λ m. get_or p k 0 ≡ m → P m (look p k)) kind c.low c.high
      (λ e. rw (look_row p k e) a₂)
      (λ e. rw (look_arrays p k e) a₃)
      (λ e. rw (look_tuple p k e) a₄)
      (λ e. rw (look_object p k e) a₅)
      (λ e. rw (look_sparse p k e) a₆)
      (λ e. rw (look_range p k e) a₇)
      (sym c.is)

-- a node that has elements is a container
pub refers_inner : (p : List ℕ) (k kind i : ℕ) → KindAt p k kind → Refers (look p k) i → Container p k kind
unfolding ref_at
refers_inner p k kind i a r =
    let one : kind ≡ 1 → ⊥ = λ e. let q : none ≡ some r.to = rw (look_leaf p k (sym a.is ∙ e)) at r.is in let z : ◌≡◌ {A = ℕ} 0 1 = cc in omega arith in
    let eight : kind ≡ 8 → ⊥ = λ e. let q : none ≡ some r.to = rw (look_enum p k (sym a.is ∙ e)) at r.is in let z : ◌≡◌ {A = ℕ} 0 1 = cc in omega arith in
    record { is = a.is; low = omega (arith, a.low, one); high = omega (arith, a.high, eight) }

-- an object's element with a node is one of its own
pub refers_below : (p : List ℕ) (k kind i : ℕ) → Container p k kind → 5 ≤ kind → kind ≤ 6 → Refers (look p k) i → i < get_or p (k + 1) 0
unfolding ref_at
refers_below p k kind i c low high r = by_kind p k kind c (λ m v. 5 ≤ m → m ≤ 6 → ref_at v i ≡ some r.to → i < get_or p (k + 1) 0)
    (λ a b q. absurd (omega arith))
    (λ a b q. absurd (omega arith))
    (λ a b q. absurd (omega arith))
    (λ a b q. omega (arith, (elem_in (refs_at p k) i r.to q).0, refs_length p k))
    (λ a b q. omega (arith, (elem_in (refs_at p k) i r.to q).0, refs_length p k))
    (λ a b q. absurd (omega arith))
    low high r.is

-- no content is permitted in a container as in a leaf
pub container_none : (p : List ℕ) (k kind : ℕ) → Container p k kind → (b : List ℕ) → false ≡ leaf_good (look p k) b
unfolding leaf_good
container_none p k kind c b = by_kind p k kind c (λ m v. false ≡ leaf_good v b) refl refl refl refl refl refl

pub leaf_only : (p : List ℕ) (k : ℕ) → KindAt p k (get_or p k 0) → (b : List ℕ) → leaf_good (look p k) b ≡ true → leaf_kind (get_or p k 0) ≡ true
leaf_only p k a b g = go (leaf_kind (get_or p k 0)) refl
  where
    go : (t : Bool) → leaf_kind (get_or p k 0) ≡ t → leaf_kind (get_or p k 0) ≡ true
    go true e = e
    go false e =
        let x : false ≡ true = container_none p k (get_or p k 0) (inner_kind p k (get_or p k 0) a e) b ∙ g in let z : ◌≡◌ {A = ℕ} 0 1 = cc in absurd (omega arith)
