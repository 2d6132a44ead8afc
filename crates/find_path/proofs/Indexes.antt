-- In the list of an accepted value no two entries side by side have one index, so a path of index words names one entry alone.
use mathlib.Core.Path.{◌≡◌, refl, ap, sym, ◌∙◌, subst}
use mathlib.Core.Bool.{Bool, true, false}
use mathlib.Core.List.{List, [], ◌∷◌}
use mathlib.Core.Logic.{⊎_elim}
use mathlib.Core.Option.{Option, none, some}
use Prim.Native.Nat.{ℕ, zero, suc, ◌+◌, ◌^◌, ◌<◌, ◌≤◌}
use native.Mathlib.Omega.{arith}
use lib.Dec.{eqb}
use lib.ListN.{length, get_or, set as store, length-set}
use lib.Seq.{get_or-set_same}
use borrow.Author.Tests.{eqb-true, ne_eqb}
use Rattle.wire.proofs.Picks.{clash, pick_case, same_or_not}
use Rattle.value_heads.specs.Bounds.{Indexed, Fresh}
use Rattle.forms.specs.declared.Head.{Head}
use Rattle.forms.specs.declared.Head.TheVariants.{Present, Absent}
use Rattle.std.specs.Prelude.{Result, Ok, Err, IfOk}
use Rattle.forms.specs.declared.Opening.{Opening}
use Rattle.value_heads.proofs.Bounds.{plain_index, object_index, envelope_index, sparse_index_below}
use Rattle.plan_nodes.proofs.Looks.{look_sparse}
use Rattle.plan_nodes.proofs.Nodes.{at_ref, at_root}
use Rattle.value_parts.proofs.Members.{few_cards, step_is}
use Rattle.find_path.proofs.Calls.{passed, nothing_listed, root_listed}
use Rattle.find_path.proofs.Paths.{Owns, owns, member_listed, then_listed, done_listed, under_listed}
use Rattle.protocol.specs.Numbers.{pick}
use Rattle.protocol.specs.Constants.{ABSENT}
use Rattle.protocol.specs.Heads.{index_of, end_of}
use Rattle.protocol.specs.Nodes.{Node, leaf, enum, row, arrays, tuple, object, sparse, range, ref_at}
use Rattle.protocol.specs.Lists.{Entry, Forest, empty, tree, append, entry_of}
use Rattle.protocol.specs.Values.{ValueOutcome, then, Rule, absent, present, element_outcome, Form, container_end, elements, row_head, row_form}
use Rattle.protocol.specs.Values.{sparse_form, no_marks, leaf_rule, row_rule, sparse_rule, by_node, value_of}
use Rattle.protocol.specs.Answers.{accepted}
use Rattle.protocol.specs.Plans.{look, cards_at, without_type}
use Rattle.plan_nodes.specs.Readers.{At}
use Rattle.protocol.specs.Running.{checked}
use Rattle.protocol.specs.Finding.{nowhere, sibling}

-- no two entries side by side have one index, at any depth
unfoldable pub Distinct : Forest → Type 0
Distinct empty = Unit {0}
Distinct (tree e below next) = (sibling e.index next ≡ nowhere) × (Distinct below) × (Distinct next)

-- an entry alone, over entries that are distinct
one_distinct : (e : Entry) (g f : Forest) → f ≡ tree e g empty → Distinct g → Distinct f
unfolding Distinct sibling
one_distinct e g f x d = rw x (refl, d, tt)

-- before others
before_others : (e : Entry) (below g next f : Forest) → f ≡ append g next → g ≡ tree e below empty → f ≡ tree e below next
unfolding append
before_others e below g next f x y = rw (x, y)

abbrev NoFault : Result Head ℕ → Type 0
NoFault h = (m : ℕ) → h ≡ Err m → ⊥

-- ---- the elements of a container

module _ (rule : Rule) (own : Owns rule) (ref : ℕ → Option ℕ) (base : ℕ) (s : List ℕ) where
  -- the first element and the rest
  record Split (h : Result Head ℕ) (o : ValueOutcome) (f : Forest) : Type 0 where
    entry : Entry
    below : Forest
    next : Forest
    is : f ≡ tree entry below next
    index_is : entry.index ≡ index_of h
    no_fault : NoFault h
    first_is : element_outcome rule ref base s h ≡ accepted (tree entry below empty)
    rest_is : o ≡ accepted next

  split : (h : Result Head ℕ) (o : ValueOutcome) (f : Forest) → then (element_outcome rule ref base s h) o ≡ accepted f → Split h o f
  split h o f e =
      let t = then_listed rule own ref base s (element_outcome rule ref base s h) o f e in
      let m = member_listed rule own ref base s h t.0 t.2 in
      record {
        entry = m.entry;
        below = m.inner;
        next = t.1;
        is = before_others m.entry m.inner t.0 t.1 f t.4 m.is;
        index_is = m.index_is;
        no_fault = m.no_fault;
        first_is = t.2 ∙ ap accepted m.is;
        rest_is = t.3;
      }

  -- of a state some indexes are used: no element has one of them, and its own is used from then on
  module _ {S : Type 0} (form : Form S) (Good : S → Type 0) (Used : S → ℕ → Type 0)
      (good : (st : S) (h : Result Head ℕ) → Good st → Good (form.next st h))
      (fresh : (st : S) (at : ℕ) → NoFault (form.head st at) → Used st (index_of (form.head st at)) → ⊥)
      (marks : (st : S) (at : ℕ) → Good st → NoFault (form.head st at) → Used (form.next st (form.head st at)) (index_of (form.head st at)))
      (keeps : (st : S) (h : Result Head ℕ) (j : ℕ) → Used st j → Used (form.next st h) j)
      (inner : (h : Result Head ℕ) (g : Forest) → element_outcome rule ref base s h ≡ accepted g → Distinct g) where
    unused : (n : ℕ) (st : S) (at : ℕ) (f : Forest) → elements form rule ref base s n st at ≡ accepted f → (j : ℕ) → Used st j → sibling j f ≡ nowhere
    unfolding elements container_end sibling
    unused zero st at f e j u = rw (done_listed rule own ref base s _ _ f e)
    unused (suc n) st at f e j u =
        let x = split (form.head st at) _ f e in
        let later = unused n (form.next st (form.head st at)) (end_of (form.head st at)) x.next x.rest_is j (keeps st (form.head st at) j u) in
        rw x.is
        (pick_case (λ y. y ≡ nowhere) (eqb x.entry.index j) _ (sibling j x.next)
        (λ t. absurd (fresh st at x.no_fault (subst (Used st) (sym (eqb-true x.entry.index j t) ∙ x.index_is) u)))
        (λ _. later))

    elements_distinct : (n : ℕ) (st : S) (at : ℕ) → Good st → (f : Forest) → elements form rule ref base s n st at ≡ accepted f → Distinct f
    unfolding elements container_end Distinct
    elements_distinct zero st at g f e = rw (done_listed rule own ref base s _ _ f e) tt
    elements_distinct (suc n) st at g f e =
        let h = form.head st at in
        let x = split h _ f e in
        rw x.is (
          rw x.index_is (unused n (form.next st h) (end_of h) x.next x.rest_is (index_of h) (marks st at g x.no_fault)),
          (inner h (tree x.entry x.below empty) x.first_is).1,
          elements_distinct n (form.next st h) (end_of h) (good st h g) x.next x.rest_is,
        )

-- ---- rows: the indexes below the next one are used

row_indexed : (v : Node) (s : List ℕ) (i at : ℕ) → IfOk (row_head v s i at) (Indexed i)
unfolding row_head Indexed
row_indexed (leaf f) s i at = tt
row_indexed enum s i at = tt
row_indexed (row r) s i at = plain_index s 0 i at
row_indexed (arrays r) s i at = envelope_index s i at
row_indexed (tuple refs) s i at = plain_index s 4 i at
row_indexed (object refs cards) s i at = object_index s _ i at
row_indexed (sparse refs cards) s i at = tt
row_indexed (range r) s i at = plain_index s 0 i at

index_is : (i : ℕ) (h : Result Head ℕ) → IfOk h (Indexed i) → NoFault h → index_of h ≡ i
unfolding Indexed index_of
index_is i (Ok (Present j start size)) e n = e
index_is i (Ok (Absent j start)) e n = e
index_is i (Err m) e n = absurd (n m refl)

-- ---- sparse objects: the marked ones are used

store_keeps : (l : List Bool) (i j : ℕ) → get_or l j false ≡ true → get_or (store l i true) j false ≡ true
store_keeps [] i j e = e
store_keeps (x ∷ l) zero zero e = refl
store_keeps (x ∷ l) zero (suc j) e = e
store_keeps (x ∷ l) (suc i) zero e = e
store_keeps (x ∷ l) (suc i) (suc j) e = store_keeps l i j e

index_fresh : (n : ℕ) (marks : List Bool) (h : Result Head ℕ) → IfOk h (Fresh n marks) → NoFault h → (index_of h < n) × (get_or marks (index_of h) false ≡ false)
unfolding Fresh index_of
index_fresh n marks (Ok (Present i start size)) f q = f
index_fresh n marks (Ok (Absent i start)) f q = f
index_fresh n marks (Err m) f q = absurd (q m refl)

-- ---- a value

module _ (v : Node) (few : (refs cards : List ℕ) → v ≡ sparse refs cards → length cards ≤ 512) (rule : Rule) (own : Owns rule)
    (inner : (j c i base : ℕ) (s : List ℕ) (g : Forest) → ref_at v j ≡ some c → rule c i base s ≡ accepted g → Distinct g) where
  absent_distinct : (o : Option ℕ) (i start : ℕ) (g : Forest) → absent o i start ≡ accepted g → Distinct g
  unfolding absent Distinct
  absent_distinct none i start g e = let z : ◌≡◌ {A = ℕ} 0 1 = cc in absurd (omega arith)
  absent_distinct (some k) i start g e = one_distinct (entry_of k i start ABSENT) empty g (cc) tt

  present_distinct : (o : Option ℕ) (i : ℕ) → ref_at v i ≡ o → (start : ℕ) (b : List ℕ) (g : Forest) → present rule o i start b ≡ accepted g → Distinct g
  unfolding present
  present_distinct none i r start b g e = let z : ◌≡◌ {A = ℕ} 0 1 = cc in absurd (omega arith)
  present_distinct (some k) i r start b g e = inner i k i start b g r e

  member_distinct : (base : ℕ) (s : List ℕ) (h : Result Head ℕ) (g : Forest) → element_outcome rule (ref_at v) base s h ≡ accepted g → Distinct g
  unfolding element_outcome
  member_distinct base s (Err n) g e = let z : ◌≡◌ {A = ℕ} 0 1 = cc in absurd (omega arith)
  member_distinct base s (Ok (Absent i start)) g e = absent_distinct (ref_at v i) i (base + start) g e
  member_distinct base s (Ok (Present i start size)) g e = present_distinct (ref_at v i) i refl (base + start) _ g e

  leaf_distinct : (good : Bool) (k i base : ℕ) (s : List ℕ) (f : Forest) → leaf_rule good k i base s ≡ accepted f → Distinct f
  unfolding leaf_rule pick Distinct
  leaf_distinct true k i base s f e = one_distinct (entry_of k i base (length s)) empty f (cc) tt
  leaf_distinct false k i base s f e = let z : ◌≡◌ {A = ℕ} 0 1 = cc in absurd (omega arith)

  row_distinct : (o : Result Opening ℕ) (k i base : ℕ) (s : List ℕ) (f : Forest) → row_rule v rule o k i base s ≡ accepted f → Distinct f
  unfolding row_rule
  row_distinct (Err n) k i base s f e = let z : ◌≡◌ {A = ℕ} 0 1 = cc in absurd (omega arith)
  row_distinct (Ok c) k i base s f e =
      let u = under_listed _ _ f e in
      one_distinct _ u.0 f u.2
      (elements_distinct rule own (ref_at v) base s (row_form v s) (λ j. Unit {0}) (λ j m. m < j)
      (λ j h g. tt)
      (λ j b q (l : index_of (row_head v s j b) < j). omega (arith, index_is j _ (row_indexed v s j b) q))
      (λ j b g q. omega (arith, index_is j _ (row_indexed v s j b) q))
      (λ j h m (l : m < j). omega arith)
      (member_distinct base s) c.count c.first c.at tt u.0 u.1)

  sparse_distinct : (refs cards : List ℕ) → v ≡ sparse refs cards → (o : Result Opening ℕ) (k i base : ℕ) (s : List ℕ) (f : Forest)
      → sparse_rule refs cards rule o k i base s ≡ accepted f → Distinct f
  unfolding sparse_rule
  sparse_distinct refs cards ev (Err n) k i base s f e = let z : ◌≡◌ {A = ℕ} 0 1 = cc in absurd (omega arith)
  sparse_distinct refs cards ev (Ok c) k i base s f e =
      let u = under_listed _ _ f e in
      one_distinct _ u.0 f u.2
      (elements_distinct rule own (ref_at (sparse refs cards)) base s (sparse_form cards s) (λ marks. length marks ≡ 512) (λ marks j. get_or marks j false ≡ true)
      (λ marks h g. length-set marks (index_of h) true ∙ g)
      (λ marks b q t. clash (sym (index_fresh _ marks _ (sparse_index_below s cards marks b) q).1 ∙ t))
      (λ marks b g q. get_or-set_same marks _ true false (omega (arith, g, few refs cards ev, (index_fresh _ marks _ (sparse_index_below s cards marks b) q).0)))
      (λ marks h j t. store_keeps marks (index_of h) j t)
      (rw ev at (member_distinct base s)) c.count no_marks c.at refl u.0 u.1)

  by_node_lem : (w : Node) → v ≡ w → (k i base : ℕ) (s : List ℕ) (f : Forest) → by_node w rule k i base s ≡ accepted f → Distinct f
  unfolding by_node
  by_node_lem (leaf g) ev k i base s f e = leaf_distinct _ k i base s f e
  by_node_lem enum ev k i base s f e = leaf_distinct _ k i base s f e
  by_node_lem (row r) ev k i base s f e = row_distinct _ k i base s f (rw (← ev) at e)
  by_node_lem (arrays r) ev k i base s f e = row_distinct _ k i base s f (rw (← ev) at e)
  by_node_lem (tuple refs) ev k i base s f e = row_distinct _ k i base s f (rw (← ev) at e)
  by_node_lem (object refs cards) ev k i base s f e = row_distinct _ k i base s f (rw (← ev) at e)
  by_node_lem (sparse refs cards) ev k i base s f e = sparse_distinct refs cards ev _ k i base s f e
  by_node_lem (range r) ev k i base s f e = row_distinct _ k i base s f (rw (← ev) at e)

-- ---- a value of a plan

is_sparse : Node → Bool
is_sparse (leaf f) = false
is_sparse enum = false
is_sparse (row r) = false
is_sparse (arrays r) = false
is_sparse (tuple refs) = false
is_sparse (object refs cards) = false
is_sparse (sparse refs cards) = true
is_sparse (range r) = false

-- a node of another kind is no sparse object
other_kind : (p : List ℕ) (k : ℕ) → (get_or p k 0 ≡ 6 → ⊥) → is_sparse (look p k) ≡ false
unfolding look is_sparse
other_kind p k n =
    let P : Node → Type 0 = λ v. is_sparse v ≡ false in
    rw (ne_eqb (get_or p k 0) 6 n)
    (pick_case P _ _ _ (λ _. refl)
    (λ _. pick_case P _ _ _ (λ _. refl)
    (λ _. pick_case P _ _ _ (λ _. refl)
    (λ _. pick_case P _ _ _ (λ _. refl)
    (λ _. pick_case P _ _ _ (λ _. refl)
    (λ _. pick_case P false _ _ (λ e. clash e) (λ _. pick_case P _ _ _ (λ _. refl) (λ _. refl))))))))

few_at : (p : List ℕ) (k : ℕ) → At p k → (refs cards : List ℕ) → look p k ≡ sparse refs cards → length cards ≤ 512
unfolding is_sparse
few_at p k a refs cards e =
    ⊎_elim
    (λ (six : get_or p k 0 ≡ 6). let l = look_sparse p k six in let c : cards_at p k ≡ cards = cc in rw (← c) (few_cards p k a six))
    (λ (n : get_or p k 0 ≡ 6 → ⊥). clash (sym (other_kind p k n) ∙ ap is_sparse e))
    (same_or_not (get_or p k 0) 6)

-- by the node's position, which falls
value_distinct : (p : List ℕ) (n k : ℕ) → k < n → At p k → (i base : ℕ) (s : List ℕ) (f : Forest) → value_of (look p) k i base s ≡ accepted f → Distinct f
value_distinct p zero k l a i base s f e = absurd (omega arith)
value_distinct p (suc n) k l a i base s f e =
    by_node_lem (look p k) (few_at p k a) (value_of (look p)) (owns (look p))
    (λ j c i' base' s' g r q. let b = at_ref p k j c a r in value_distinct p n c (omega (arith, b.1)) b.0 i' base' s' g q)
    (look p k) refl k i base s f (sym (step_is p k a i base s) ∙ e)

-- No two entries side by side in the list of an accepted value have one index.
pub listed_distinct : (p s : List ℕ) (f : Forest) → ((j : ℕ) → get_or p j 0 < 2 ^ 32) → checked p s ≡ accepted f → Distinct f
unfolding Distinct
listed_distinct p s f small e = go (without_type p) refl
  where
    go : (c : Bool) → without_type p ≡ c → Distinct f
    go true n = rw (nothing_listed p s f e n) tt
    go false n =
        let a = at_root p (passed p s f e).formed n small in
        value_distinct p _ (get_or p 1 0) (small 1) a 0 0 s f (root_listed p s f e n (get_or p 1 0) refl a)
