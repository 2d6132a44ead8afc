-- The laws of a search among a container's heads.
use mathlib.Core.Path.{◌≡◌, refl, ap, sym, ◌∙◌}
use mathlib.Core.Bool.{Bool, true, false}
use mathlib.Core.List.{List, []}
use mathlib.Core.Logic.{⊎_elim}
use Prim.Native.Nat.{ℕ, zero, suc, ◌+◌, ◌-◌, ◌^◌, ◌<◌, ◌≤◌}
use native.Mathlib.Omega.{arith}
use lib.ListN.{length, get_or}
use Rattle.wire.proofs.Picks.{pick_case, pick_yes, pick_no, same_or_not}
use Rattle.value_heads.specs.Heads.{Inside}
use Rattle.forms.specs.declared.Head.{Head}
use Rattle.forms.specs.declared.Head.TheVariants.{Present}
use Rattle.std.specs.Prelude.{Result, Ok, Err, IfOk}
use Rattle.std.proofs.lemmas.Result.{IfOk-at_ok}
use Rattle.forms.specs.declared.Opening.{Opening}
use Rattle.value_heads.proofs.Bounds.{plain_inside, object_inside, envelope_inside, sparse_inside, inside_end, count_opened}
use Rattle.plan_nodes.specs.Readers.{Refers, KindAt, At}
use Rattle.plan_nodes.proofs.Looks.{look_leaf, look_enum, look_sparse, look_object, cards_length, refs_length}
use Rattle.plan_nodes.proofs.Refs.{kind_gives}
use Rattle.value_parts.specs.Walk.{IsRow, Container, HeadIn, leaf_kind}
use Rattle.value_parts.proofs.Nodes.{scalar_kind, head_bad, head_new}
use Rattle.value_parts.proofs.Members.{is_row, opening_holds, opened, row_headed, sparse_headed, present_in, inner_kind}
use Rattle.find_path.specs.Descent.{head_at, ends, seek, seek_in, child_head}
use Rattle.protocol.specs.Numbers.{pick}
use borrow.Author.Tests.{eq-eqb, ne_eqb}
use Rattle.protocol.specs.Heads.{word, optional, requires, sparse_index, sparse_head, index_of, end_of}
use Rattle.protocol.specs.Nodes.{Node, leaf, enum, row, arrays, tuple, object, sparse, range}
use Rattle.protocol.specs.Values.{row_head, opening_of}
use Rattle.protocol.specs.Plans.{look, refs_at, cards_at}

-- ---- the next head, by the node's kind

pub row_head_at : (v : Node) (s : List ℕ) (i at : ℕ) → IsRow v → row_head v s i at ≡ head_at v s i at
unfolding IsRow head_at
row_head_at (leaf f) s i at x = absurd x
row_head_at enum s i at x = absurd x
row_head_at (row r) s i at x = refl
row_head_at (arrays r) s i at x = refl
row_head_at (tuple refs) s i at x = refl
row_head_at (object refs cards) s i at x = refl
row_head_at (sparse refs cards) s i at x = absurd x
row_head_at (range r) s i at x = refl

module _ (p : List ℕ) (k : ℕ) (a : At p k) (kind : ℕ) (c : Container p k kind) (s : List ℕ) (i at : ℕ) where
  pub head_row : (kind ≡ 6 → ⊥) → (r : Result Head ℕ) → r ≡ row_head (look p k) s i at → r ≡ head_at (look p k) s i at
  head_row n r e = e ∙ row_head_at (look p k) s i at (is_row p k a kind c (λ x. n (c.is ∙ x)))

  module _ (six : kind ≡ 6) where
    sparse_is : sparse_head s (cards_at p k) [] at ≡ head_at (look p k) s i at
    unfolding head_at
    sparse_is = rw (look_sparse p k (sym c.is ∙ six))

    pub head_sparse_bad : (m : ℕ) → Err m ≡ sparse_index s (get_or p (k + 1) 0) [] at → Err m ≡ head_at (look p k) s i at
    head_sparse_bad m e = sym (head_bad s (cards_at p k) [] at _ (sym (cards_length p k)) m e) ∙ sparse_is

    pub head_sparse : (j : ℕ) → Ok j ≡ sparse_index s (get_or p (k + 1) 0) [] at
        → (r : Result Head ℕ) → r ≡ optional s (requires (get_or (cards_at p k) j 0)) j (at + 8) (word s (at + 4)) → r ≡ head_at (look p k) s i at
    head_sparse j e r er = er ∙ sym (head_new s (cards_at p k) [] at _ (sym (cards_length p k)) j e refl) ∙ sparse_is

pub head_inside : (v : Node) (s : List ℕ) (i at : ℕ) → at ≤ length s → IfOk (head_at v s i at) (Inside (length s) at)
unfolding head_at row_head
head_inside (leaf f) s i at h = tt
head_inside enum s i at h = tt
head_inside (row r) s i at h = plain_inside s 0 i at h
head_inside (arrays r) s i at h = envelope_inside s i at h
head_inside (tuple refs) s i at h = plain_inside s 4 i at h
head_inside (object refs cards) s i at h = object_inside s (requires (get_or cards i 0)) i at h
head_inside (sparse refs cards) s i at h = sparse_inside s cards [] at h
head_inside (range r) s i at h = plain_inside s 0 i at h

-- a head ends inside the bytes; what is refused has no end
pub head_end : (v : Node) (s : List ℕ) (i at : ℕ) (r : Result Head ℕ) → r ≡ head_at v s i at → at ≤ length s → end_of r ≤ length s
unfolding end_of
head_end v s i at (Err m) e b = omega arith
head_end v s i at (Ok h) e b = inside_end (length s) at h (IfOk-at_ok (Inside (length s) at) (sym e) (head_inside v s i at b))

-- ---- one head after the other

module _ (v : Node) (s : List ℕ) (w i at : ℕ) where
  module _ (n : ℕ) (some : 0 < n) where
    module _ (r : Result Head ℕ) (e : r ≡ head_at v s i at) where
      one : seek v s w n i at ≡ pick (ends w r) r (seek v s w (n - 1) (i + 1) (end_of r))
      unfolding seek
      one = go n some
        where
          go : (m : ℕ) → 0 < m → seek v s w m i at ≡ pick (ends w r) r (seek v s w (m - 1) (i + 1) (end_of r))
          go zero z = absurd (omega arith)
          go (suc m) z = let q : suc m - 1 ≡ m = omega arith in rw (e, q)

      seek_here : ends w r ≡ true → r ≡ seek v s w n i at
      seek_here t = sym (one ∙ pick_yes _ _ _ t)

    pub seek_refused : (m : ℕ) → Err m ≡ head_at v s i at → Err m ≡ seek v s w n i at
    unfolding ends
    seek_refused m e = seek_here (Err m) e refl

    module _ (h : Head) (e : Ok h ≡ head_at v s i at) (j : ℕ) (ej : j ≡ index_of (Ok h)) where
      pub seek_found : j ≡ w → Ok h ≡ seek v s w n i at
      unfolding ends
      seek_found t = seek_here (Ok h) e (eq-eqb (index_of (Ok h)) w (sym ej ∙ t))

      pub seek_next : (j ≡ w → ⊥) → (m : ℕ) → m ≡ n - 1 → seek v s w n i at ≡ seek v s w m (i + 1) (end_of (Ok h))
      unfolding ends
      seek_next t m q = rw q (one (Ok h) e ∙ pick_no _ _ _ (ne_eqb (index_of (Ok h)) w (λ z. t (ej ∙ z))))

  pub seek_none : (n : ℕ) → n ≤ 0 → Err 35 ≡ seek v s w n i at
  unfolding seek
  seek_none zero z = refl
  seek_none (suc n) z = absurd (omega arith)

-- ---- the search as a whole

module _ (p : List ℕ) (k : ℕ) (s : List ℕ) where
  -- a leaf has no elements
  pub child_leaf : (w kind : ℕ) → KindAt p k kind → leaf_kind kind ≡ true → Err 35 ≡ child_head (look p k) s w
  unfolding child_head opening_of seek_in
  child_leaf w kind c x =
      ⊎_elim
      (λ (e : kind ≡ 8). rw (look_enum p k (sym c.is ∙ e)))
      (λ (n : kind ≡ 8 → ⊥). rw (look_leaf p k (sym c.is ∙ scalar_kind kind x n)))
      (same_or_not kind 8)

  pub child_wrong : (w : ℕ) (x : Result Opening ℕ) (n : ℕ) → x ≡ opening_of (look p k) s → x ≡ Err n → Err 35 ≡ child_head (look p k) s w
  unfolding child_head seek_in
  child_wrong w x n ex e = rw (← ex, e)

  module _ (o : Opening) (e : Ok o ≡ opening_of (look p k) s) where
    pub child_seek : (w : ℕ) → seek (look p k) s w o.count o.first o.at ≡ child_head (look p k) s w
    unfolding child_head seek_in
    child_seek w = rw (← e)

    pub child_opened : At p k → (kind : ℕ) → Container p k kind → (o.first + o.count < 2 ^ 32) × (o.at ≤ length s)
    child_opened a kind c = opened p k a kind c s o (sym e)

    -- an object has as many elements as its head says
    pub object_few : (kind : ℕ) → Container p k kind → kind ≡ 5 → o.first + o.count ≤ get_or p (k + 1) 0
    unfolding opening_of
    object_few kind c five =
        let q = count_opened (length (refs_at p k)) s o (rw (look_object p k (sym c.is ∙ five)) at (sym e)) in
        omega (arith, q.0, q.1, refs_length p k)

-- ---- what holds of the head that a search ends with

-- the element has a node, and its bytes lie in those of the value
pub record Child (v : Node) (n i start size : ℕ) : Type 0 where
  pub refers : Refers v i
  pub inside : start + size ≤ n

-- a head that was read at a place, with an index that has a node where the elements come in order
module _ (P : Result Head ℕ → Type 0) (bad : (m : ℕ) → P (Err m)) (v : Node) (s : List ℕ) (w : ℕ) where
  pub seek_cases : (n i at : ℕ) → at ≤ length s → ((j b : ℕ) → j < i + n → b ≤ length s → P (head_at v s j b)) → P (seek v s w n i at)
  unfolding seek
  seek_cases zero i at h good = bad 35
  seek_cases (suc n) i at h good =
      pick_case P (ends w (head_at v s i at)) (head_at v s i at) (seek v s w n (i + 1) (end_of (head_at v s i at)))
      (λ _. good i at (omega arith) h)
      (λ _. seek_cases n (i + 1) (end_of (head_at v s i at)) (head_end v s i at _ refl h) (λ j b l g. good j b (omega arith) g))

-- the child of a node of a plan
module _ (p : List ℕ) (k : ℕ) (a : At p k) (s : List ℕ) where
  abbrev Is : Result Head ℕ → Type 0
  Is r = (i start size : ℕ) → r ≡ Ok (Present i start size) → Child (look p k) (length s) i start size

  -- a head with what a walk knows of it
  known : (at : ℕ) (r : Result Head ℕ) → IfOk r (HeadIn (look p k) (length s) at) → Is r
  known at r d i start size e =
      let q = present_in (look p k) (length s) at (Present i start size) (IfOk-at_ok (HeadIn (look p k) (length s) at) e d) i start size refl in
      record { refers = q.0; inside = q.2 }

  refused_one : (m : ℕ) → Is (Err m)
  refused_one m i start size e = let z : ◌≡◌ {A = ℕ} 0 1 = cc in absurd (omega arith)

  module _ (kind : ℕ) (c : Container p k kind) (o : Opening) (e : opening_of (look p k) s ≡ Ok o) where
    in_order : (get_or p k 0 ≡ 6 → ⊥) → (j b : ℕ) → j < o.first + o.count → b ≤ length s → Is (head_at (look p k) s j b)
    in_order x j b l h =
        let r = is_row p k a kind c x in
        let q = opened p k a kind c s o e in
        rw (← row_head_at (look p k) s j b r)
        (known b _ (row_headed s j b h (omega (arith, q.0)) (look p k) r (opening_holds (look p k) s o r e j l)))

    by_index : get_or p k 0 ≡ 6 → (j b : ℕ) → j < o.first + o.count → b ≤ length s → Is (head_at (look p k) s j b)
    by_index x j b l h =
        rw (← sparse_is p k a kind c s j b (c.is ∙ x))
        (known b _ (sparse_headed p k a x s [] b h))

    found_in : (w : ℕ) → Is (seek (look p k) s w o.count o.first o.at)
    found_in w =
        seek_cases Is refused_one (look p k) s w o.count o.first o.at (opened p k a kind c s o e).1
        (⊎_elim by_index in_order (same_or_not (get_or p k 0) 6))

  inner : (kind : ℕ) → Container p k kind → (w : ℕ) (x : Result Opening ℕ) → opening_of (look p k) s ≡ x → Is (seek_in (look p k) s w x)
  unfolding seek_in
  inner kind c w (Err n) e = refused_one 35
  inner kind c w (Ok o) e = found_in kind c o e w

  child_is : (w : ℕ) (r : Result Head ℕ) → r ≡ child_head (look p k) s w → Is r
  unfolding child_head
  child_is w r e = go (leaf_kind (get_or p k 0)) refl
    where
      kind : KindAt p k (get_or p k 0)
      kind = kind_gives p k a

      go : (b : Bool) → leaf_kind (get_or p k 0) ≡ b → Is r
      go true l = rw (e, ← child_leaf p k s w (get_or p k 0) kind l) (refused_one 35)
      go false l = rw e (inner (get_or p k 0) (inner_kind p k (get_or p k 0) kind l) w (opening_of (look p k) s) refl)

  pub child_in : (w : ℕ) (h : Head) → Ok h ≡ child_head (look p k) s w → (i start size : ℕ) → h ≡ Present i start size → Child (look p k) (length s) i start size
  child_in w h e i start size q = child_is w (Ok h) e i start size (ap Ok q)
