-- A search among rising starts, and that it finds what reading a plan's nodes finds.
use mathlib.Core.Path.{◌≡◌, refl, ap, sym, ◌∙◌}
use mathlib.Core.Logic.{⊎_elim}
use mathlib.Core.Bool.{Bool, true, false}
use mathlib.Core.List.{List, [], ◌∷◌, ◌++◌}
use Prim.Native.Nat.{ℕ, zero, suc, ◌≤◌, ◌<◌}
use native.Mathlib.Nat.{eq-or-lt_of_le, le_of_suc-le-suc}
use native.Mathlib.Decide.{dec_lt}
use native.Mathlib.Numerals.{add-one}
use native.Mathlib.Omega.{arith}
use lib.Dec.{eqb}
use lib.ListN.{length, get_or, length-append}
use borrow.Author.Tests.{eq-eqb, ne_eqb}
use Rattle.wire.proofs.Picks.{pick_yes, pick_no}
use Rattle.std.specs.Prelude.{Option, Some, None, Result, Ok, Err, MatchResult}
use Rattle.std.specs.Ordering.{nat_cmp}
use Rattle.std.specs.Option.{is_some as option_is_some}
use Rattle.std.specs.Result.{result_ok}
use Rattle.std.specs.List.Sorted.{IsBinarySearchResult}
use Rattle.std.proofs.lemmas.List.Sorted.{searched}
use Rattle.plan_heights.specs.Scan.{known_at, known_of, known, Rising, Among}
use Rattle.plan_nodes.proofs.Reading.{find_append}
use Rattle.protocol.specs.Numbers.{pick}
use Rattle.protocol.specs.Plans.{PlanNode, placed_at, is_some, nodes, starts_in}
use mathlib.Core.Option.{none, some}

-- ---- the search

module _ (s : List ℕ) (r : ℕ) where
  -- what the search of the list says, where the list rises
  pub among_searched : (t : Result ℕ ℕ) → IsBinarySearchResult (λ y. nat_cmp y r) s t → Rising s → Among s r (result_ok t)
  among_searched t h u =
      let up : (i j : ℕ) → i ≤ j → j < length s → get_or s i 0 ≤ get_or s j 0 =
      λ i j a b. ⊎_elim (λ (e : i ≡ j). rw e (omega arith)) (λ (x : i < j). omega (arith, u.order i j x b)) (eq-or-lt_of_le a)
      in
      go t (searched s r t h up)
    where
      go : (t : Result ℕ ℕ)
          → MatchResult t (λ i. (i < length s) × (get_or s i 0 ≡ r)) (λ i. (i ≤ length s) × ((k : ℕ) → k < i → get_or s k 0 < r) × ((k : ℕ) → i ≤ k → k < length s → r < get_or s k 0))
          → Among s r (result_ok t)
      go (Ok i) f = f
      go (Err i) f = λ j l e. elim (dec_lt j i) [ yes x ↦ omega (arith, f.1 j x) | no x ↦ omega (arith, f.2 j (omega arith) l) ]

-- ---- the nodes read so far

module _ (p s h : List ℕ) where
  pub known_length : (n : ℕ) → length (known_of p s h n) ≡ n
  unfolding known_of
  known_length zero = refl
  known_length (suc n) = rw (length-append, known_length n) (add-one n)

  find_last : (xs : List PlanNode) (x : PlanNode) (r : ℕ) → placed_at xs r ≡ none → placed_at (xs ++ (x ∷ [])) r ≡ pick (eqb x.start r) (some x) none
  unfolding placed_at
  find_last [] x r e = refl
  find_last (y ∷ xs) x r e = go (eqb y.start r) e (find_last xs x r)
    where
      go : (t : Bool) → pick t (some y) (placed_at xs r) ≡ none
          → (placed_at xs r ≡ none → placed_at (xs ++ (x ∷ [])) r ≡ pick (eqb x.start r) (some x) none)
          → pick t (some y) (placed_at (xs ++ (x ∷ [])) r) ≡ pick (eqb x.start r) (some x) none
      go true e f = let z : ◌≡◌ {A = ℕ} 0 1 = cc (sym (pick_yes true (some y) (placed_at xs r) refl) ∙ e) in absurd (omega arith)
      go false e f = pick_no _ _ _ refl ∙ f (sym (pick_no _ _ _ refl) ∙ e)

  pub find_miss : (n r : ℕ) → ((j : ℕ) → j < n → get_or s j 0 ≡ r → ⊥) → placed_at (known_of p s h n) r ≡ none
  unfolding known_of placed_at known_at
  find_miss zero r f = refl
  find_miss (suc n) r f =
      find_last (known_of p s h n) (known_at p s h n) r (find_miss n r (λ j l. f j (omega arith)))
      ∙ pick_no _ _ _ (ne_eqb _ _ (f n (omega arith)))

  pub find_hit : (n r i : ℕ) → n ≤ length s → Rising s → i < n → get_or s i 0 ≡ r → placed_at (known_of p s h n) r ≡ some (known_at p s h i)
  unfolding known_of known_at is_some
  find_hit zero r i w u l e = absurd (omega arith)
  find_hit (suc n) r i w u l e =
      ⊎_elim
      (λ (q : i ≡ n).
      find_last (known_of p s h n) (known_at p s h n) r (find_miss n r (λ j x y. omega (arith, u.order j i (omega arith) (omega arith))))
      ∙ pick_yes _ _ _ (eq-eqb _ _ (ap (λ (m : ℕ). get_or s m 0) (sym q) ∙ e))
      ∙ ap (λ (m : ℕ). some (known_at p s h m)) (sym q))
      (λ (x : i < n).
      let f : placed_at (known_of p s h n) r ≡ some (known_at p s h i) = find_hit n r i (omega arith) u x e in
      find_append (known_of p s h n) (known_at p s h n ∷ []) r (ap is_some f) ∙ f)
      (eq-or-lt_of_le (le_of_suc-le-suc l))

  -- a node starts where the search finds one
  pub starts_here : (r : ℕ) (t : Option ℕ) → Rising s → Among s r t → option_is_some t ≡ starts_in (nodes (known p s h)) r
  unfolding starts_in is_some
  starts_here r None u a = sym (ap is_some (find_miss (length s) r a))
  starts_here r (Some i) u a = sym (ap is_some (find_hit (length s) r i (omega arith) u a.0 a.1))
