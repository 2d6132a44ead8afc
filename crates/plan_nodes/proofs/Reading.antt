-- What reading a plan's nodes in order says of each of them: it is whole,
-- it is well formed against those before it, and those start before it.
use mathlib.Core.Path.{◌≡◌, refl, ap, sym, ◌∙◌}
use mathlib.Core.Logic.{◌⊎◌, inl, inr, ⊎_elim}
use mathlib.Core.Bool.{Bool, true, false}
use mathlib.Core.List.{List, [], ◌∷◌, ◌++◌, append_assoc}
use Prim.Native.Nat.{ℕ, zero, suc, ◌+◌, ◌≤◌, ◌<◌}
use native.Mathlib.Omega.{arith}
use lib.ListN.{length, get_or}
use lib.Dec.{eqb}
use borrow.Author.Tests.{leb-true, eqb-true, eqb-false}
use Rattle.wire.proofs.Picks.{clash, pick_case, pick_split}
use Rattle.protocol.specs.Numbers.{pick}
use Rattle.protocol.specs.Plans.{PlanNode, placed_at, is_some, node_size, node_height, NodesRead, malformed, nodes, read_node, then_nodes, read_nodes}
use mathlib.Core.Option.{none, some}

-- ---- finding

-- what is found is found in a longer list too
pub find_append : (xs ys : List PlanNode) (r : ℕ) → is_some (placed_at xs r) ≡ true → placed_at (xs ++ ys) r ≡ placed_at xs r
unfolding placed_at is_some pick
find_append [] ys r = λ e. clash e
find_append (x ∷ xs) ys r = go (find_append xs ys r) (eqb x.start r)
  where
    go : (is_some (placed_at xs r) ≡ true → placed_at (xs ++ ys) r ≡ placed_at xs r) → (t : Bool)
        → is_some (pick t (some x) (placed_at xs r)) ≡ true → pick t (some x) (placed_at (xs ++ ys) r) ≡ pick t (some x) (placed_at xs r)
    go f true e = refl
    go f false e = f e

-- what is found in a list with one more is found in the list, or is the one
pub find_snoc : (xs : List PlanNode) (x : PlanNode) (r : ℕ) → is_some (placed_at (xs ++ (x ∷ [])) r) ≡ true → (is_some (placed_at xs r) ≡ true) ⊎ (x.start ≡ r)
unfolding placed_at is_some pick
find_snoc [] x r = go (eqb x.start r) refl
  where
    go : (t : Bool) → eqb x.start r ≡ t → is_some (pick t (some x) none) ≡ true → (false ≡ true) ⊎ (x.start ≡ r)
    go true e h = inr (eqb-true _ _ e)
    go false e h = clash h
find_snoc (y ∷ xs) x r = go (find_snoc xs x r) (eqb y.start r)
  where
    go : (is_some (placed_at (xs ++ (x ∷ [])) r) ≡ true → (is_some (placed_at xs r) ≡ true) ⊎ (x.start ≡ r)) → (t : Bool)
        → is_some (pick t (some y) (placed_at (xs ++ (x ∷ [])) r)) ≡ true → (is_some (pick t (some y) (placed_at xs r)) ≡ true) ⊎ (x.start ≡ r)
    go f true h = inl refl
    go f false h = f h

-- ---- the nodes of a list that was read

-- what is known of the node at k: it is well formed against those of the list that were read before it
pub record Inside (p : List ℕ) (all : List PlanNode) (k : ℕ) : Type 0 where
  pub seen : List PlanNode
  pub rest : List PlanNode
  pub split : all ≡ seen ++ rest
  pub low : 2 ≤ k
  pub whole : k + node_size (get_or p k 0) (get_or p (k + 1) 0) ≤ length p
  pub fine : node_height p k seen (get_or p k 0) (get_or p (k + 1) 0) ≡ 0 → ⊥
  pub early : (r : ℕ) → is_some (placed_at seen r) ≡ true → r < k

-- all of a list's nodes are so, and start before a position
abbrev pub Sound : List ℕ → ℕ → List PlanNode → Type 0
Sound p at all = (r : ℕ) → is_some (placed_at all r) ≡ true → Inside p all r × (r < at)

pub size_positive : (kind n : ℕ) → 0 < node_size kind n
unfolding node_size
size_positive kind n =
    pick_case (λ m. 0 < m) (eqb kind 4) _ _ (λ _. omega arith)
    (λ _. pick_case (λ m. 0 < m) (eqb kind 5) _ _ (λ _. omega arith)
    (λ _. pick_case (λ m. 0 < m) (eqb kind 6) _ _ (λ _. omega arith)
    (λ _. pick_case (λ m. 0 < m) (eqb kind 8) _ _ (λ _. omega arith) (λ _. omega arith))))

inside_more : (p : List ℕ) (all more : List PlanNode) (k : ℕ) → Inside p all k → Inside p (all ++ more) k
inside_more p all more k i =
    record {
      seen = i.seen;
      rest = i.rest ++ more;
      split = ap (λ (l : List PlanNode). l ++ more) i.split ∙ append_assoc i.seen i.rest more;
      low = i.low;
      whole = i.whole;
      fine = i.fine;
      early = i.early;
    }

pub sound_none : (p : List ℕ) → Sound p 2 []
unfolding placed_at is_some
sound_none p r e = clash e

module _ (p : List ℕ) (at : ℕ) (seen : List PlanNode) where
  -- a node that was read
  pub record Next (s : List PlanNode) : Type 0 where
    pub known : PlanNode
    pub starts : known.start ≡ at
    pub list : s ≡ seen ++ (known ∷ [])
    pub whole : at + node_size (get_or p at 0) (get_or p (at + 1) 0) ≤ length p
    pub fine : node_height p at seen (get_or p at 0) (get_or p (at + 1) 0) ≡ 0 → ⊥

  pub next_read : (s : List PlanNode) → read_node p at seen ≡ nodes s → Next s
  unfolding read_node
  next_read s e =
      ⊎_elim
      (λ w.
      ⊎_elim
      (λ z. let z : ◌≡◌ {A = ℕ} 0 1 = cc z.1 in absurd (omega arith))
      (λ f.
      record {
        known = record { start = at; kind = get_or p at 0; height = node_height p at seen (get_or p at 0) (get_or p (at + 1) 0) };
        starts = refl;
        list = cc f.1;
        whole = leb-true _ _ w.0;
        fine = eqb-false _ _ f.0;
      })
      (pick_split _ _ _ _ w.1))
      (λ z. let z : ◌≡◌ {A = ℕ} 0 1 = cc z.1 in absurd (omega arith))
      (pick_split _ _ _ _ e)

  pub sound_next : (s : List PlanNode) → 2 ≤ at → Sound p at seen → Next s → Sound p (at + node_size (get_or p at 0) (get_or p (at + 1) 0)) s
  sound_next s low ok n r h =
      let x = n.known in
      let h' : is_some (placed_at (seen ++ (x ∷ [])) r) ≡ true = rw n.list at h in
      let pos = size_positive (get_or p at 0) (get_or p (at + 1) 0) in
      let new : Inside p (seen ++ (x ∷ [])) at =
      record {
        seen = seen;
        rest = x ∷ [];
        split = refl;
        low = low;
        whole = n.whole;
        fine = n.fine;
        early = λ q g. (ok q g).1;
      }
      in
      rw n.list
      (⊎_elim
      (λ (g : is_some (placed_at seen r) ≡ true). (inside_more p seen (x ∷ []) r (ok r g).0, omega (arith, (ok r g).1)))
      (λ (g : x.start ≡ r).
      let e : at ≡ r = sym n.starts ∙ g in
      (rw e at new, omega arith))
      (find_snoc seen x r h'))

-- all that were read are so
pub all_read : (f : ℕ) (p : List ℕ) (at : ℕ) (seen all : List PlanNode) → 2 ≤ at → Sound p at seen → read_nodes f p at seen ≡ nodes all → (k : ℕ) → is_some (placed_at all k) ≡ true → Inside p all k
unfolding read_nodes then_nodes
all_read zero p at seen all low ok e k h = let z : ◌≡◌ {A = ℕ} 0 1 = cc in absurd (omega arith)
all_read (suc f) p at seen all low ok e k h =
    ⊎_elim
    (λ done.
    let same : seen ≡ all = cc done.1 in
    let h' : is_some (placed_at seen k) ≡ true = rw same h in
    rw same at (ok k h').0)
    (λ more.
    ⊎_elim
    (λ few.
    go (read_node p at seen) refl few.1
    (λ s ok e. all_read f p (at + node_size (get_or p at 0) (get_or p (at + 1) 0)) s all (omega arith) ok e k h))
    (λ z. let z : ◌≡◌ {A = ℕ} 0 1 = cc z.1 in absurd (omega arith))
    (pick_split _ _ _ _ more.1))
    (pick_split _ _ _ _ e)
  where
    next : ℕ
    next = at + node_size (get_or p at 0) (get_or p (at + 1) 0)

    go : (t : NodesRead) → read_node p at seen ≡ t → then_nodes t (read_nodes f p next) ≡ nodes all
        → ((s : List PlanNode) → Sound p next s → read_nodes f p next s ≡ nodes all → Inside p all k) → Inside p all k
    go malformed r e f = let z : ◌≡◌ {A = ℕ} 0 1 = cc in absurd (omega arith)
    go (nodes s) r e f = f s (sound_next p at seen s low ok (next_read p at seen s r)) e
