-- The laws of a node's heads, by the node's kind in a plan.
use mathlib.Core.Path.{◌≡◌, ap, sym, ◌∙◌}
use mathlib.Core.Bool.{Bool, true, false}
use mathlib.Core.List.{List, []}
use mathlib.Core.Logic.{⊎_elim}
use Prim.Native.Nat.{ℕ, ◌+◌, ◌<◌, ◌≤◌}
use native.Mathlib.Omega.{arith}
use lib.ListN.{length, get_or, take, drop}
use borrow.Author.Tests.{ne_eqb}
use Rattle.wire.proofs.Picks.{same_or_not}
use Rattle.std.specs.Prelude.{Ok, Err}
use Rattle.value_heads.proofs.Cases.{sparse_bad, sparse_known, index_bad, index_marked}
use Rattle.plan_nodes.specs.Readers.{At}
use Rattle.plan_nodes.proofs.Looks.{look_leaf, look_enum, look_row, look_arrays, look_tuple, look_object, look_sparse, look_range, tuple_length, refs_length}
use Rattle.plan_nodes.proofs.Nodes.{at_tuple_size}
use Rattle.value_parts.specs.Walk.{Container, leaf_kind, leaf_good}
use Rattle.protocol.specs.Numbers.{pick}
use Rattle.protocol.specs.Scalars.{scalar, enumeration}
use Rattle.protocol.specs.Heads.{set_opening, count_opening, sparse_opening, range_opening, plain_head, object_head, envelope_head, requires, optional, word, sparse_index, sparse_head}
use Rattle.protocol.specs.Values.{opening_of, row_head}
use Rattle.protocol.specs.Plans.{look, cards_at}

-- a number that is not the least one is more
past : (a n : ℕ) → a ≤ n → (n ≡ a → ⊥) → a + 1 ≤ n
past a n h x = omega (arith, x)

between : (a n : ℕ) → a ≤ n → n ≤ a → n ≡ a
between a n h g = omega arith

last_is : (kind : ℕ) → 2 ≤ kind → kind ≤ 7 → (kind ≡ 2 → ⊥) → (kind ≡ 3 → ⊥) → (kind ≡ 4 → ⊥) → (kind ≡ 5 → ⊥) → (kind ≡ 6 → ⊥) → kind ≡ 7
last_is kind low high x₂ x₃ x₄ x₅ x₆ = between 7 kind (past 6 kind (past 5 kind (past 4 kind (past 3 kind (past 2 kind low x₂) x₃) x₄) x₅) x₆) high

-- ---- a leaf

-- the kind of a leaf that is no enumeration
pub scalar_kind : (kind : ℕ) → leaf_kind kind ≡ true → (kind ≡ 8 → ⊥) → kind ≡ 1
unfolding leaf_kind pick
scalar_kind kind l n =
    ⊎_elim
    (λ (e : kind ≡ 1). e)
    (λ (x : kind ≡ 1 → ⊥). let z : false ≡ true = rw (ne_eqb kind 1 x, ne_eqb kind 8 n) at l in let y : ◌≡◌ {A = ℕ} 0 1 = cc in absurd (omega arith))
    (same_or_not kind 1)

-- the kind of a node that is no leaf
pub leaf_not : (kind n : ℕ) → leaf_kind kind ≡ false → leaf_kind n ≡ true → kind ≡ n → ⊥
leaf_not kind n a b e = let z : false ≡ true = sym a ∙ ap leaf_kind e ∙ b in let y : ◌≡◌ {A = ℕ} 0 1 = cc in omega arith

module _ (p : List ℕ) (k kind : ℕ) (is : kind ≡ get_or p k 0) (s : List ℕ) where
  pub good_enum : kind ≡ 8 → enumeration s ≡ leaf_good (look p k) s
  unfolding leaf_good
  good_enum e = rw (look_enum p k (sym is ∙ e))

  pub good_scalar : (f : ℕ) → f ≡ get_or p (k + 1) 0 → kind ≡ 1 → scalar f s ≡ leaf_good (look p k) s
  unfolding leaf_good
  good_scalar f ef e = rw (look_leaf p k (sym is ∙ e), ef)

module _ (p : List ℕ) (k kind : ℕ) (c : Container p k kind) (s : List ℕ) where
  -- ---- a container's own head

  pub open_sparse : kind ≡ 6 → sparse_opening s ≡ opening_of (look p k) s
  unfolding opening_of
  open_sparse e = rw (look_sparse p k (sym c.is ∙ e))

  pub open_range : kind ≡ 7 → range_opening s ≡ opening_of (look p k) s
  unfolding opening_of
  open_range e = rw (look_range p k (sym c.is ∙ e))

  pub open_set : kind < 4 → set_opening s ≡ opening_of (look p k) s
  unfolding opening_of
  open_set h =
      ⊎_elim
      (λ (e : kind ≡ 2). rw (look_row p k (sym c.is ∙ e)))
      (λ (n : kind ≡ 2 → ⊥). let e : kind ≡ 3 = omega (arith, n, c.low) in rw (look_arrays p k (sym c.is ∙ e)))
      (same_or_not kind 2)

  pub open_count : At p k → (n : ℕ) → n ≡ get_or p (k + 1) 0 → (kind ≡ 6 → ⊥) → (kind ≡ 7 → ⊥) → 4 ≤ kind → count_opening n s ≡ opening_of (look p k) s
  unfolding opening_of
  open_count a n en x y h =
      ⊎_elim
      (λ (e : kind ≡ 4).
      let t : get_or p k 0 ≡ 4 = sym c.is ∙ e in
      let l : length (take (get_or p (k + 1) 0) (drop (k + 2) p)) ≡ get_or p (k + 1) 0 = tuple_length p k (get_or p (k + 1) 0) (at_tuple_size p k a t) in
      rw (look_tuple p k t, l, en))
      (λ (f : kind ≡ 4 → ⊥).
      let e : kind ≡ 5 = omega (arith, f, x, y, c.high) in
      rw (look_object p k (sym c.is ∙ e), refs_length p k, en))
      (same_or_not kind 4)

  -- ---- the head of an element in order

  module _ (i at : ℕ) where
    pub head_tuple : kind ≡ 4 → plain_head s 4 i at ≡ row_head (look p k) s i at
    unfolding row_head
    head_tuple e = rw (look_tuple p k (sym c.is ∙ e))

    pub head_arrays : kind ≡ 3 → envelope_head s i at ≡ row_head (look p k) s i at
    unfolding row_head
    head_arrays e = rw (look_arrays p k (sym c.is ∙ e))

    pub head_object : (r : Bool) → r ≡ requires (get_or (cards_at p k) i 0) → kind ≡ 5 → object_head s r i at ≡ row_head (look p k) s i at
    unfolding row_head
    head_object r g e = rw (look_object p k (sym c.is ∙ e), g)

    pub head_plain : (kind ≡ 6 → ⊥) → (kind ≡ 4 → ⊥) → (kind ≡ 3 → ⊥) → (kind ≡ 5 → ⊥) → plain_head s 0 i at ≡ row_head (look p k) s i at
    unfolding row_head
    head_plain x₆ x₄ x₃ x₅ =
        ⊎_elim
        (λ (e : kind ≡ 2). rw (look_row p k (sym c.is ∙ e)))
        (λ (n : kind ≡ 2 → ⊥). let e : kind ≡ 7 = last_is kind c.low c.high n x₃ x₄ x₅ x₆ in rw (look_range p k (sym c.is ∙ e)))
        (same_or_not kind 2)

-- ---- the head of an element of a sparse object: its index is read without the marks, and then looked for among them

module _ (s cards : List ℕ) (marks : List Bool) (at n : ℕ) (en : n ≡ length cards) where
  pub head_bad : (m : ℕ) → Err m ≡ sparse_index s n [] at → sparse_head s cards marks at ≡ Err m
  head_bad m e = sparse_bad s cards marks at m (rw (← en) (index_bad s n marks at m (sym e)))

  module _ (i : ℕ) (e : Ok i ≡ sparse_index s n [] at) where
    pub head_twice : get_or marks i false ≡ true → sparse_head s cards marks at ≡ Err 26
    unfolding pick
    head_twice g = sparse_bad s cards marks at 26 (rw (← en) (index_marked s n marks at i true (sym e) g))

    pub head_new : get_or marks i false ≡ false → sparse_head s cards marks at ≡ optional s (requires (get_or cards i 0)) i (at + 8) (word s (at + 4))
    unfolding pick
    head_new g = sparse_known s cards marks at i (rw (← en) (index_marked s n marks at i false (sym e) g))
