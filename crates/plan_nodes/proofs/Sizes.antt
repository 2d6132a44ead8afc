-- The size of a node, by its kind.
use mathlib.Core.Path.{◌≡◌, sym, ◌∙◌}
use mathlib.Core.Logic.{◌⊎◌, ⊎_elim}
use Prim.Native.Nat.{ℕ, ◌+◌, ◌*◌, ◌≤◌}
use native.Mathlib.Omega.{arith}
use lib.Dec.{eqb}
use borrow.Author.Tests.{ne_eqb}
use Rattle.wire.proofs.Picks.{pick_no, pick_case}
use Rattle.protocol.specs.Numbers.{pick}
use Rattle.protocol.specs.Plans.{node_size}

module _ (K n : ℕ) where
  pub size_tuple : (m : ℕ) → K ≡ 4 → m ≡ n → 2 + m ≡ node_size K n
  unfolding node_size pick
  size_tuple m e q = rw (e, q)

  pub size_pairs : (m : ℕ) → (K ≡ 5) ⊎ (K ≡ 6) → m ≡ n → 2 + 2 * m ≡ node_size K n
  unfolding node_size pick
  size_pairs m o q = ⊎_elim (λ (e : K ≡ 5). rw (e, q)) (λ (e : K ≡ 6). rw (e, q)) o

  pub size_enum : K ≡ 8 → 1 ≡ node_size K n
  unfolding node_size pick
  size_enum e = rw e

  pub size_other : (K ≡ 4 → ⊥) → (K ≡ 5 → ⊥) → (K ≡ 6 → ⊥) → (K ≡ 8 → ⊥) → 2 ≡ node_size K n
  unfolding node_size
  size_other a b c d =
      sym (pick_no _ _ _ (ne_eqb K 4 a) ∙ pick_no _ _ _ (ne_eqb K 5 b) ∙ pick_no _ _ _ (ne_eqb K 6 c) ∙ pick_no _ _ _ (ne_eqb K 8 d))

  -- a node is not larger than an object of as many elements
  pub size_most : node_size K n ≤ 2 + 2 * n
  unfolding node_size
  size_most =
      pick_case (λ m. m ≤ 2 + 2 * n) (eqb K 4) _ _ (λ _. omega arith)
      (λ _. pick_case (λ m. m ≤ 2 + 2 * n) (eqb K 5) _ _ (λ _. omega arith)
      (λ _. pick_case (λ m. m ≤ 2 + 2 * n) (eqb K 6) _ _ (λ _. omega arith)
      (λ _. pick_case (λ m. m ≤ 2 + 2 * n) (eqb K 8) _ _ (λ _. omega arith) (λ _. omega arith))))

-- the words of a tuple and of an object, where the whole node is there
module _ (at K n m : ℕ) (w : at + node_size K n ≤ m) where
  pub tuple_fits : K ≡ 4 → at + 2 + n ≤ m
  unfolding node_size pick
  tuple_fits e = let h : at + (2 + n) ≤ m = rw e at w in omega arith

  pub pairs_fit : (K ≡ 5) ⊎ (K ≡ 6) → at + 2 + 2 * n ≤ m
  unfolding node_size pick
  pairs_fit o = let h : at + (2 + 2 * n) ≤ m = ⊎_elim (λ (e : K ≡ 5). rw e at w) (λ (e : K ≡ 6). rw e at w) o in omega arith

  pub sparse_fits : K ≡ 6 → at + 2 + 2 * n ≤ m
  unfolding node_size pick
  sparse_fits e = let h : at + (2 + 2 * n) ≤ m = rw e at w in omega arith
