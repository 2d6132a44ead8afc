-- The shape of a plan's node by its kind, and what its lists hold.
use mathlib.Core.Path.{◌≡◌, refl, ap, sym, ◌∙◌}
use mathlib.Core.Logic.{◌⊎◌, ⊎_elim}
use mathlib.Core.List.{List, [], ◌∷◌}
use mathlib.Core.Option.{Option, none, some}
use Prim.Native.Nat.{ℕ, zero, suc, ◌+◌, ◌≤◌, ◌<◌, zero-le}
use native.Mathlib.Nat.{eq-or-lt_of_le, le_of_suc-le-suc}
use native.Mathlib.Numerals.{add-one}
use native.Mathlib.Omega.{arith}
use lib.ListN.{length, get_or, get_elem?, take, drop, length-take, length-drop, length-append, get_or-append}
use lib.Seq.{get_or-take, get_or-drop, get_or_at}
use Rattle.protocol.specs.Numbers.{pick, up_to}
use Rattle.protocol.specs.Nodes.{Node, leaf, enum, row, arrays, tuple, object, sparse, range, ref_at}
use Rattle.protocol.specs.Plans.{pair_ref, pair_card, refs_at, cards_at, look}

-- ---- lists

-- an element of a list, if there is one
pub at_cases : (Q : Option ℕ → Type 0) (l : List ℕ) (i : ℕ) → (length l ≤ i → Q none) → (i < length l → Q (some (get_or l i 0))) → Q (get_elem? l i)
at_cases Q [] i no_one one = no_one zero-le
at_cases Q (x ∷ l) zero no_one one = one (omega arith)
at_cases Q (x ∷ l) (suc i) no_one one = at_cases Q l i (λ le. no_one (omega arith)) (λ lt. one (omega arith))

pub elem_at : (l : List ℕ) (i : ℕ) → i < length l → get_elem? l i ≡ some (get_or l i 0)
elem_at l i lt = at_cases (λ o. i < length l → o ≡ some (get_or l i 0)) l i (λ ge lt. absurd (omega arith)) (λ _ _. refl) lt

-- what is found in a list stands in it
pub elem_in : (l : List ℕ) (i r : ℕ) → get_elem? l i ≡ some r → (i < length l) × (r ≡ get_or l i 0)
elem_in l i r =
    at_cases (λ o. o ≡ some r → (i < length l) × (r ≡ get_or l i 0)) l i
    (λ _ e. let z : ◌≡◌ {A = ℕ} 0 1 = cc in absurd (omega arith))
    (λ lt e. let s : r ≡ get_or l i 0 = cc in (lt, s))

module _ (f : ℕ → ℕ) where
  pub up_length : (n : ℕ) → length (up_to f n) ≡ n
  unfolding up_to
  up_length zero = refl
  up_length (suc n) = rw (length-append, up_length n) (add-one n)

  pub up_at : (n i : ℕ) → i < n → get_or (up_to f n) i 0 ≡ f i
  unfolding up_to
  up_at zero i lt = absurd (omega arith)
  up_at (suc n) i lt =
      ⊎_elim
      (λ (e : i ≡ n). get_or_at (up_to f n) (f n) [] 0 i (up_length n ∙ sym e) ∙ ap f (sym e))
      (λ (l : i < n).
      let h : i < length (up_to f n) = rw up_length l in
      get_or-append (up_to f n) (f n ∷ []) 0 i h ∙ up_at n i l)
      (eq-or-lt_of_le (le_of_suc-le-suc lt))

-- ---- the lists of the node at a position

module _ (p : List ℕ) (k : ℕ) where
  pub refs_length : length (refs_at p k) ≡ get_or p (k + 1) 0
  unfolding refs_at
  refs_length = up_length (pair_ref p k) (get_or p (k + 1) 0)

  pub cards_length : length (cards_at p k) ≡ get_or p (k + 1) 0
  unfolding cards_at
  cards_length = up_length (pair_card p k) (get_or p (k + 1) 0)

  pub refs_at_lem : (i : ℕ) → i < get_or p (k + 1) 0 → get_elem? (refs_at p k) i ≡ some (pair_ref p k i)
  unfolding refs_at
  refs_at_lem i lt =
      let n = get_or p (k + 1) 0 in
      let f = pair_ref p k in
      let h : i < length (up_to f n) = rw up_length lt in
      elem_at (up_to f n) i h ∙ ap some (up_at f n i lt)

  pub cards_at_lem : (i : ℕ) → i < get_or p (k + 1) 0 → get_or (cards_at p k) i 0 ≡ pair_card p k i
  unfolding cards_at
  cards_at_lem i lt = up_at (pair_card p k) (get_or p (k + 1) 0) i lt

  module _ (n : ℕ) (h : k + 2 + n ≤ length p) where
    pub tuple_length : length (take n (drop (k + 2) p)) ≡ n
    tuple_length = simp (length-take, length-drop) (omega arith)

    pub tuple_at : (i : ℕ) → i < n → get_elem? (take n (drop (k + 2) p)) i ≡ some (get_or p (k + 2 + i) 0)
    tuple_at i lt =
        let l : i < length (take n (drop (k + 2) p)) = rw tuple_length lt in
        elem_at (take n (drop (k + 2) p)) i l ∙ ap some (get_or-take n (drop (k + 2) p) i 0 lt ∙ get_or-drop (k + 2) p i 0)

  -- ---- the node by its kind

  pub look_leaf : get_or p k 0 ≡ 1 → look p k ≡ leaf (get_or p (k + 1) 0)
  unfolding look pick
  look_leaf e = rw e

  pub look_row : get_or p k 0 ≡ 2 → look p k ≡ row (get_or p (k + 1) 0)
  unfolding look pick
  look_row e = rw e

  pub look_arrays : get_or p k 0 ≡ 3 → look p k ≡ arrays (get_or p (k + 1) 0)
  unfolding look pick
  look_arrays e = rw e

  pub look_tuple : get_or p k 0 ≡ 4 → look p k ≡ tuple (take (get_or p (k + 1) 0) (drop (k + 2) p))
  unfolding look pick
  look_tuple e = rw e

  pub look_object : get_or p k 0 ≡ 5 → look p k ≡ object (refs_at p k) (cards_at p k)
  unfolding look pick
  look_object e = rw e

  pub look_sparse : get_or p k 0 ≡ 6 → look p k ≡ sparse (refs_at p k) (cards_at p k)
  unfolding look pick
  look_sparse e = rw e

  pub look_range : get_or p k 0 ≡ 7 → look p k ≡ range (get_or p (k + 1) 0)
  unfolding look pick
  look_range e = rw e

  pub look_enum : get_or p k 0 ≡ 8 → look p k ≡ enum
  unfolding look pick
  look_enum e = rw e

  -- ---- its references

  -- the one reference of a row, of a set of arrays, of a range
  pub ref_one : (i : ℕ) → (get_or p k 0 ≡ 2) ⊎ ((get_or p k 0 ≡ 3) ⊎ (get_or p k 0 ≡ 7)) → ref_at (look p k) i ≡ some (get_or p (k + 1) 0)
  unfolding ref_at
  ref_one i o =
      let f : Node → Option ℕ = λ v. ref_at v i in
      ⊎_elim (λ e. ap f (look_row e)) (λ o. ⊎_elim (λ e. ap f (look_arrays e)) (λ e. ap f (look_range e)) o) o

  pub ref_tuple : (i : ℕ) → get_or p k 0 ≡ 4 → k + 2 + get_or p (k + 1) 0 ≤ length p → i < get_or p (k + 1) 0 → ref_at (look p k) i ≡ some (get_or p (k + 2 + i) 0)
  unfolding ref_at
  ref_tuple i e h lt =
      let f : Node → Option ℕ = λ v. ref_at v i in
      ap f (look_tuple e) ∙ tuple_at (get_or p (k + 1) 0) h i lt

  pub ref_pairs : (i : ℕ) → (get_or p k 0 ≡ 5) ⊎ (get_or p k 0 ≡ 6) → i < get_or p (k + 1) 0 → ref_at (look p k) i ≡ some (pair_ref p k i)
  unfolding ref_at
  ref_pairs i o lt =
      let f : Node → Option ℕ = λ v. ref_at v i in
      ⊎_elim (λ e. ap f (look_object e)) (λ e. ap f (look_sparse e)) o ∙ refs_at_lem i lt
