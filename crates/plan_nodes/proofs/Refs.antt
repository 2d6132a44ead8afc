-- What the readers of a node's references need: that the word stands in the plan, and that it is the node's reference.
use mathlib.Core.Path.{◌≡◌, refl, ap, sym, ◌∙◌}
use mathlib.Core.Logic.{◌⊎◌, inl, inr, ⊎_elim}
use mathlib.Core.List.{List}
use mathlib.Core.Option.{none, some}
use Prim.Native.Nat.{ℕ, ◌+◌, ◌*◌, ◌≤◌, ◌<◌}
use native.Mathlib.Decide.{dec_lt}
use native.Mathlib.Omega.{arith}
use lib.ListN.{length, get_or, take, drop, length-take}
use Rattle.plan_nodes.specs.Readers.{Refers, KindAt, At}
use Rattle.plan_nodes.proofs.Looks.{elem_in, refs_length, cards_at_lem, look_leaf, look_tuple, look_object, look_sparse, look_enum, ref_one, ref_tuple, ref_pairs}
use Rattle.plan_nodes.proofs.Nodes.{at_kind, at_second, at_tuple_size, at_pairs_size, five_six}
use Rattle.protocol.specs.Nodes.{Node, leaf, enum, tuple, object, sparse, ref_at}
use Rattle.protocol.specs.Plans.{look, pair_ref, pair_card, refs_at, cards_at}

-- ---- which nodes refer

module _ (p : List ℕ) (k : ℕ) (a : At p k) (i : ℕ) where
  pub refers_one : (get_or p k 0 ≡ 2) ⊎ ((get_or p k 0 ≡ 3) ⊎ (get_or p k 0 ≡ 7)) → Refers (look p k) i
  refers_one o = record { to = get_or p (k + 1) 0; is = ref_one p k i o }

  pub refers_tuple : get_or p k 0 ≡ 4 → i < get_or p (k + 1) 0 → Refers (look p k) i
  refers_tuple e lt = record { to = get_or p (k + 2 + i) 0; is = ref_tuple p k i e (at_tuple_size p k a e) lt }

  pub refers_pairs : (get_or p k 0 ≡ 5) ⊎ (get_or p k 0 ≡ 6) → i < get_or p (k + 1) 0 → Refers (look p k) i
  refers_pairs o lt = record { to = pair_ref p k i; is = ref_pairs p k i o lt }

-- ---- a node that refers

none_some : {r : ℕ} → none ≡ some r → ⊥
none_some e = let z : ◌≡◌ {A = ℕ} 0 1 = cc in omega arith

module _ (p : List ℕ) (k : ℕ) (a : At p k) (i : ℕ) (h : Refers (look p k) i) where
  seen_as : (v : Node) → look p k ≡ v → ref_at v i ≡ some h.to
  seen_as v e = ap (λ (w : Node). ref_at w i) (sym e) ∙ h.is

  tuple_few : get_or p k 0 ≡ 4 → i < get_or p (k + 1) 0
  unfolding ref_at
  tuple_few e =
      let n = get_or p (k + 1) 0 in
      let s = elem_in (take n (drop (k + 2) p)) i h.to (seen_as (tuple (take n (drop (k + 2) p))) (look_tuple p k e)) in
      omega (arith, s.0, length-take n (drop (k + 2) p))

  pairs_few : (get_or p k 0 ≡ 5) ⊎ (get_or p k 0 ≡ 6) → i < get_or p (k + 1) 0
  unfolding ref_at
  pairs_few o =
      let s =
      elem_in (refs_at p k) i h.to
      (⊎_elim (λ e. seen_as (object (refs_at p k) (cards_at p k)) (look_object p k e)) (λ e. seen_as (sparse (refs_at p k) (cards_at p k)) (look_sparse p k e)) o)
      in
      omega (arith, s.0, refs_length p k)

  -- neither a tuple nor an object: then it has one reference
  one_of : (4 ≤ get_or p k 0 → 6 < get_or p k 0) → (get_or p k 0 ≡ 2) ⊎ ((get_or p k 0 ≡ 3) ⊎ (get_or p k 0 ≡ 7))
  unfolding ref_at
  one_of f =
      let K = get_or p k 0 in
      let b = at_kind p k a in
      let l : K ≡ 1 → ⊥ = λ e. none_some (seen_as (leaf (get_or p (k + 1) 0)) (look_leaf p k e)) in
      let m : K ≡ 8 → ⊥ = λ e. none_some (seen_as enum (look_enum p k e)) in
      elim (dec_lt K 3) [
        | yes x ↦ inl (omega (arith, l, b))
        | no x ↦ elim (dec_lt K 4) [ yes y ↦ inr (inl (omega arith)) | no y ↦ inr (inr (omega (arith, b, m, f (omega arith)))) ]
      ]

  pub tuple_inside : get_or p k 0 ≡ 4 → k + 2 + i < length p
  tuple_inside e = omega (arith, tuple_few e, at_tuple_size p k a e)

  pub tuple_gives : get_or p k 0 ≡ 4 → ref_at (look p k) i ≡ some (get_or p (k + 2 + i) 0)
  tuple_gives e = ref_tuple p k i e (at_tuple_size p k a e) (tuple_few e)

  pub pairs_inside : 5 ≤ get_or p k 0 → get_or p k 0 ≤ 6 → k + 2 + 2 * i < length p
  pairs_inside x y = omega (arith, pairs_few (five_six (get_or p k 0) x y), at_pairs_size p k a x y)

  pub pairs_gives : 5 ≤ get_or p k 0 → get_or p k 0 ≤ 6 → ref_at (look p k) i ≡ some (get_or p (k + 2 + 2 * i) 0)
  unfolding pair_ref
  pairs_gives x y = let o = five_six (get_or p k 0) x y in ref_pairs p k i o (pairs_few o)

  pub one_inside : (4 ≤ get_or p k 0 → 6 < get_or p k 0) → k + 1 < length p
  one_inside f =
      at_second p k a (λ e. ⊎_elim (λ q. omega arith) (λ o. ⊎_elim (λ q. omega arith) (λ q. omega arith) o) (one_of f))

  pub one_gives : (4 ≤ get_or p k 0 → 6 < get_or p k 0) → ref_at (look p k) i ≡ some (get_or p (k + 1) 0)
  one_gives f = ref_one p k i (one_of f)

-- ---- an object's cardinality

module _ (p : List ℕ) (k : ℕ) (a : At p k) (i : ℕ) (low : 5 ≤ get_or p k 0) (high : get_or p k 0 ≤ 6) (few : i < get_or p (k + 1) 0) where
  pub card_inside : k + 3 + 2 * i < length p
  card_inside = omega (arith, at_pairs_size p k a low high)

  pub card_gives : get_or p (k + 3 + 2 * i) 0 ≡ get_or (cards_at p k) i 0
  unfolding pair_card
  card_gives = sym (cards_at_lem p k i few)

-- ---- the kind

pub kind_gives : (p : List ℕ) (k : ℕ) → At p k → KindAt p k (get_or p k 0)
kind_gives p k a = let b = at_kind p k a in record { is = refl; low = b.0; high = b.1 }
