-- The height of a node by its kind, as the check's branches have it.
use mathlib.Core.Path.{◌≡◌, refl, sym, ◌∙◌}
use mathlib.Core.Logic.{◌⊎◌, ⊎_elim}
use mathlib.Core.Bool.{Bool, true, false}
use mathlib.Core.List.{List}
use Prim.Native.Nat.{ℕ, zero, suc, ◌+◌, ◌*◌, ◌≤◌, ◌<◌}
use native.Mathlib.Omega.{arith}
use lib.Dec.{ltb}
use lib.ListN.{get_or}
use Rattle.std.specs.Bool.{then_some}
use borrow.Author.Tests.{ne_eqb, lt-ltb, le-ltb}
use Rattle.std.specs.Prelude.{Some, None}
use Rattle.wire.proofs.Picks.{pick_yes, pick_no}
use Rattle.plan_heights.specs.Scan.{height_option, element_ref, cards_fit, elements_height}
use Rattle.plan_heights.proofs.Heights.{height_none, height_some}
use Rattle.protocol.specs.Numbers.{pick}
use Rattle.protocol.specs.Plans.{PlanNode, pair_ref, refer, refer_all, node_height, many_height}

-- the same references, the same height
refer_same : (seen : List PlanNode) (kind : ℕ) (f g : ℕ → ℕ) (n : ℕ) → ((k : ℕ) → f k ≡ g k) → refer_all seen kind f n ≡ refer_all seen kind g n
unfolding refer_all
refer_same seen kind f g zero e = refl
refer_same seen kind f g (suc n) e = rw (e n, refer_same seen kind f g n e)

-- a leaf's height, by whether its format is one
leaf_option : (t : Bool) → then_some t 1 ≡ height_option (pick t 1 0)
unfolding height_option pick
leaf_option true = refl
leaf_option false = refl

module _ (p : List ℕ) (at : ℕ) (seen : List PlanNode) (K n : ℕ) where
  -- ---- tuples and objects

  pub many_over : 512 < n → None ≡ height_option (many_height p at seen K n)
  unfolding many_height
  many_over l = height_none _ (pick_yes _ _ _ (lt-ltb 512 n l))

  one_word : (k : ℕ) → element_ref 1 p at k ≡ get_or p (at + 2 + k) 0
  unfolding element_ref
  one_word k = let d : at + 2 + 1 * k ≡ at + 2 + k = omega arith in rw d

  pub many_tuple : n ≤ 512 → K ≡ 4 → elements_height 1 p at seen K n ≡ many_height p at seen K n
  unfolding many_height elements_height cards_fit pick
  many_tuple l e = rw (e, le-ltb 512 n l) (refer_same seen 4 (element_ref 1 p at) (λ k. get_or p (at + 2 + k) 0) n one_word)

  pub many_pairs : n ≤ 512 → (K ≡ 5) ⊎ (K ≡ 6) → elements_height 2 p at seen K n ≡ many_height p at seen K n
  unfolding many_height elements_height cards_fit element_ref pair_ref pick
  many_pairs l o = ⊎_elim (λ (e : K ≡ 5). rw (e, le-ltb 512 n l)) (λ (e : K ≡ 6). rw (e, le-ltb 512 n l)) o

  pub many_other : n ≤ 512 → (K ≡ 4 → ⊥) → (K ≡ 5 → ⊥) → (K ≡ 6 → ⊥) → None ≡ height_option (many_height p at seen K n)
  unfolding many_height
  many_other l a b c =
      height_none _ (pick_no _ _ _ (le-ltb 512 n l) ∙ pick_no _ _ _ (ne_eqb K 4 a) ∙ pick_no _ _ _ (ne_eqb K 5 b) ∙ pick_no _ _ _ (ne_eqb K 6 c))

  -- ---- all kinds

  pub height_enum : K ≡ 8 → Some 1 ≡ height_option (node_height p at seen K n)
  unfolding node_height pick many_height
  height_enum e = rw e (height_some 1 (omega arith))

  pub height_leaf : K ≡ 1 → then_some (ltb n 20) 1 ≡ height_option (node_height p at seen K n)
  unfolding node_height pick many_height
  height_leaf e = rw e (leaf_option (ltb n 20))

  pub height_one : (K ≡ 2) ⊎ ((K ≡ 3) ⊎ (K ≡ 7)) → refer seen K n 1 ≡ node_height p at seen K n
  unfolding node_height pick many_height
  height_one o = ⊎_elim (λ e. rw e) (λ o. ⊎_elim (λ e. rw e) (λ e. rw e) o) o

  pub height_many : (K ≡ 8 → ⊥) → (K ≡ 1 → ⊥) → (K ≡ 2 → ⊥) → (K ≡ 3 → ⊥) → (K ≡ 7 → ⊥) → many_height p at seen K n ≡ node_height p at seen K n
  unfolding node_height many_height
  height_many a b c d e =
      sym (pick_no _ _ _ (ne_eqb K 8 a) ∙ pick_no _ _ _ (ne_eqb K 1 b) ∙ pick_no _ _ _ (ne_eqb K 2 c)
      ∙ pick_no _ _ _ (ne_eqb K 3 d)
      ∙ pick_no _ _ _ (ne_eqb K 7 e))
