-- Of an accepted value a descent finds what the path names in the entries that the value lists.
use mathlib.Core.Path.{◌≡◌, refl, ap, sym, ◌∙◌}
use mathlib.Core.Bool.{Bool, true, false}
use mathlib.Core.List.{List, [], ◌∷◌}
use mathlib.Core.Logic.{◌⊎◌, inl, inr, ⊎_elim}
use mathlib.Core.Option.{Option, none, some}
use Prim.Native.Nat.{ℕ, zero, suc, ◌+◌, ◌-◌, ◌≤◌}
use native.Mathlib.Omega.{arith}
use lib.Dec.{eqb, leb, ltb}
use lib.ListN.{length, take, drop, get_or, length-take, length-drop}
use borrow.Author.Tests.{eq-eqb, ne_eqb}
use Rattle.forms.specs.declared.Head.{Head}
use Rattle.forms.specs.declared.Head.TheVariants.{Present, Absent}
use Rattle.std.specs.Prelude.{Result, Ok, Err}
use Rattle.forms.specs.declared.Opening.{Opening}
use Rattle.value_laws.proofs.Parts.{Stands, stands_whole, stands_part}
use Rattle.plan_nodes.proofs.Nodes.{at_ref}
use Rattle.value_parts.specs.Walk.{IsRow}
use Rattle.value_parts.proofs.Members.{step_is}
use Rattle.find_path.proofs.Seeks.{row_head_at, child_in}
use Rattle.find_path.specs.Descent.{head_at, ends, seek, seek_in, child_head, missing, in_part, on_head, descend}
use Rattle.protocol.specs.Numbers.{pick}
use Rattle.protocol.specs.Constants.{ABSENT}
use Rattle.protocol.specs.Heads.{word, sparse_index, sparse_rest, sparse_head, end_of, index_of}
use Rattle.protocol.specs.Nodes.{Node, leaf, enum, row, arrays, tuple, object, sparse, range, ref_at}
use Rattle.protocol.specs.Lists.{Entry, Forest, empty, tree, append, entry_of}
use Rattle.protocol.specs.Values.{ValueOutcome, then, under, Rule, absent, present, element_outcome, Form, container_end, elements, row_form}
use Rattle.protocol.specs.Values.{sparse_form, no_marks, opening_of, leaf_rule, row_rule, sparse_rule, by_node, value, value_of}
use Rattle.protocol.specs.Answers.{refused, accepted}
use Rattle.protocol.specs.Plans.{look}
use Rattle.plan_nodes.specs.Readers.{At}
use Rattle.protocol.specs.Finding.{Spot, nowhere, spot, top_of, sibling, step, follow, Found, unfound, found, found_at}

-- ---- an accepted value is one tree, whose entry is its own

pub record Own (e : Entry) (f : Forest) : Type 0 where
  pub below : Forest
  pub is : f ≡ tree e below empty

abbrev pub Owns : Rule → Type 0
Owns rule = (k i base : ℕ) (s : List ℕ) (f : Forest) → rule k i base s ≡ accepted f → Own (entry_of k i base (length s)) f

under_own : (e : Entry) (o : ValueOutcome) (f : Forest) → under e o ≡ accepted f → Own e f
unfolding under
under_own e (refused n p) f h = let z : ◌≡◌ {A = ℕ} 0 1 = cc in absurd (omega arith)
under_own e (accepted g) f h = record { below = g; is = cc }

leaf_own : (good : Bool) (k i base : ℕ) (s : List ℕ) (f : Forest) → leaf_rule good k i base s ≡ accepted f → Own (entry_of k i base (length s)) f
unfolding leaf_rule pick
leaf_own true k i base s f h = record { below = empty; is = cc }
leaf_own false k i base s f h = let z : ◌≡◌ {A = ℕ} 0 1 = cc in absurd (omega arith)

row_own : (v : Node) (rule : Rule) (o : Result Opening ℕ) (k i base : ℕ) (s : List ℕ) (f : Forest) → row_rule v rule o k i base s ≡ accepted f → Own (entry_of k i base (length s)) f
unfolding row_rule
row_own v rule (Err n) k i base s f h = let z : ◌≡◌ {A = ℕ} 0 1 = cc in absurd (omega arith)
row_own v rule (Ok c) k i base s f h = under_own _ _ f h

sparse_own : (refs cards : List ℕ) (rule : Rule) (o : Result Opening ℕ) (k i base : ℕ) (s : List ℕ) (f : Forest) → sparse_rule refs cards rule o k i base s ≡ accepted f → Own (entry_of k i base (length s)) f
unfolding sparse_rule
sparse_own refs cards rule (Err n) k i base s f h = let z : ◌≡◌ {A = ℕ} 0 1 = cc in absurd (omega arith)
sparse_own refs cards rule (Ok c) k i base s f h = under_own _ _ f h

node_own : (v : Node) (rule : Rule) → Owns (by_node v rule)
unfolding by_node
node_own (leaf g) rule k i base s f h = leaf_own _ k i base s f h
node_own enum rule k i base s f h = leaf_own _ k i base s f h
node_own (row r) rule k i base s f h = row_own _ rule _ k i base s f h
node_own (arrays r) rule k i base s f h = row_own _ rule _ k i base s f h
node_own (tuple refs) rule k i base s f h = row_own _ rule _ k i base s f h
node_own (object refs cards) rule k i base s f h = row_own _ rule _ k i base s f h
node_own (sparse refs cards) rule k i base s f h = sparse_own refs cards rule _ k i base s f h
node_own (range r) rule k i base s f h = row_own _ rule _ k i base s f h

value_own : (look : ℕ → Node) (g : ℕ) → Owns (value look g)
unfolding value
value_own look zero k i base s f h = let z : ◌≡◌ {A = ℕ} 0 1 = cc in absurd (omega arith)
value_own look (suc g) k i base s f h = node_own (look k) (value look g) k i base s f h

pub owns : (look : ℕ → Node) → Owns (value_of look)
unfolding value_of
owns look = value_own look _

-- ---- the sibling that a search finds

-- what a search for the index w ends with, among siblings f: none, or a member that lists the sibling
Sought : (rule : Rule) (ref : ℕ → Option ℕ) (base : ℕ) (s : List ℕ) → ℕ → Forest → Result Head ℕ → Type 0
Sought rule ref base s w f h =
    ((h ≡ Err 35) × (sibling w f ≡ nowhere)) ⊎ ((g : Forest) × (element_outcome rule ref base s h ≡ accepted g) × (sibling w f ≡ top_of g))

module _ (rule : Rule) (own : Owns rule) (ref : ℕ → Option ℕ) (base : ℕ) (s : List ℕ) where
  -- a member that is listed is one tree with its head's index
  pub record Member (h : Result Head ℕ) (g : Forest) : Type 0 where
    pub entry : Entry
    pub inner : Forest
    pub is : g ≡ tree entry inner empty
    pub index_is : entry.index ≡ index_of h
    pub ends_is : (w : ℕ) → ends w h ≡ eqb (index_of h) w
    pub no_fault : (n : ℕ) → h ≡ Err n → ⊥

  absent_listed : (o : Option ℕ) (i start : ℕ) (g : Forest) → absent o i start ≡ accepted g → (e : Entry) × (g ≡ tree e empty empty) × (e.index ≡ i)
  unfolding absent
  absent_listed none i start g e = let z : ◌≡◌ {A = ℕ} 0 1 = cc in absurd (omega arith)
  absent_listed (some k) i start g e = (entry_of k i start ABSENT, cc, refl)

  present_listed : (o : Option ℕ) (i start : ℕ) (b : List ℕ) (g : Forest) → present rule o i start b ≡ accepted g → (e : Entry) × (inner : Forest) × (g ≡ tree e inner empty) × (e.index ≡ i)
  unfolding present
  present_listed none i start b g e = let z : ◌≡◌ {A = ℕ} 0 1 = cc in absurd (omega arith)
  present_listed (some k) i start b g e = let w = own k i start b g e in (entry_of k i start (length b), w.below, w.is, refl)

  pub member_listed : (h : Result Head ℕ) (g : Forest) → element_outcome rule ref base s h ≡ accepted g → Member h g
  unfolding element_outcome index_of ends
  member_listed (Err n) g e = let z : ◌≡◌ {A = ℕ} 0 1 = cc in absurd (omega arith)
  member_listed (Ok (Absent i start)) g e =
      let w = absent_listed (ref i) i (base + start) g e in
      record { entry = w.0; inner = empty; is = w.1; index_is = w.2; ends_is = λ w. refl; no_fault = λ n x. let z : ◌≡◌ {A = ℕ} 0 1 = cc in absurd (omega arith) }
  member_listed (Ok (Present i start size)) g e =
      let w = present_listed (ref i) i (base + start) _ g e in
      record { entry = w.0; inner = w.1; is = w.2; index_is = w.3; ends_is = λ w. refl; no_fault = λ n x. let z : ◌≡◌ {A = ℕ} 0 1 = cc in absurd (omega arith) }

  -- the first member and the rest
  pub then_listed : (a b : ValueOutcome) (f : Forest) → then a b ≡ accepted f → (g g' : Forest) × (a ≡ accepted g) × (b ≡ accepted g') × (f ≡ append g g')
  unfolding then
  then_listed (refused n p) b f e = let z : ◌≡◌ {A = ℕ} 0 1 = cc in absurd (omega arith)
  then_listed (accepted g) (refused n p) f e = let z : ◌≡◌ {A = ℕ} 0 1 = cc in absurd (omega arith)
  then_listed (accepted g) (accepted g') f e = (g, g', refl, refl, cc)

  pub done_listed : (a b : Bool) (f : Forest) → pick a (pick b (refused 27 base) (accepted empty)) (refused 21 base) ≡ accepted f → f ≡ empty
  unfolding pick
  done_listed true true f x = let z : ◌≡◌ {A = ℕ} 0 1 = cc in absurd (omega arith)
  done_listed true false f x = cc
  done_listed false b f x = let z : ◌≡◌ {A = ℕ} 0 1 = cc in absurd (omega arith)

  -- the index is that of the first member, or it is sought among the rest
  module _ (v : Node) (w i at : ℕ) (h : Result Head ℕ) (eh : h ≡ head_at v s i at) (g g' f : Forest) (m : Member h g) (ef : f ≡ append g g') where
    first_is : f ≡ tree m.entry m.inner g'
    unfolding append
    first_is = rw (ef, m.is)

    index_test : (b : Bool) → eqb m.entry.index w ≡ b → ends w h ≡ b
    index_test b e = m.ends_is w ∙ rw (← m.index_is) e

    -- the sibling among all, by the test
    sibling_here : eqb m.entry.index w ≡ true → sibling w f ≡ top_of g
    unfolding sibling top_of pick
    sibling_here e = rw (first_is, m.is, e)

    sibling_later : eqb m.entry.index w ≡ false → sibling w f ≡ sibling w g'
    unfolding sibling pick
    sibling_later e = rw (first_is, e)

    seek_first : (n : ℕ) → ends w h ≡ true → seek v s w (suc n) i at ≡ h
    unfolding seek pick
    seek_first n e = rw (← eh, e)

    seek_rest : (n : ℕ) → ends w h ≡ false → seek v s w (suc n) i at ≡ seek v s w n (i + 1) (end_of h)
    unfolding seek pick
    seek_rest n e = rw (← eh, e)

    sought_first : (n : ℕ) → element_outcome rule ref base s h ≡ accepted g → Sought rule ref base s w g' (seek v s w n (i + 1) (end_of h)) → Sought rule ref base s w f (seek v s w (suc n) i at)
    unfolding Sought
    sought_first n l rest = go (eqb m.entry.index w) refl
      where
        go : (b : Bool) → eqb m.entry.index w ≡ b → Sought rule ref base s w f (seek v s w (suc n) i at)
        go true e = rw (seek_first n (index_test true e)) (inr (g, l, sibling_here e))
        go false e =
            rw (seek_rest n (index_test false e))
            (⊎_elim (λ x. inl (x.0, sibling_later e ∙ x.1)) (λ x. inr (x.0, x.1, sibling_later e ∙ x.2)) rest)

  module _ {S : Type 0} (form : Form S) (v : Node) (Rel : S → ℕ → Type 0)
      (same : (st : S) (i at : ℕ) → Rel st i → ((m : ℕ) → form.head st at ≡ Err m → ⊥) → form.head st at ≡ head_at v s i at)
      (goes : (st : S) (i : ℕ) (h : Result Head ℕ) → Rel st i → Rel (form.next st h) (i + 1)) where
    sought : (n : ℕ) (st : S) (i at : ℕ) → Rel st i → (f : Forest) → elements form rule ref base s n st at ≡ accepted f → (w : ℕ) → Sought rule ref base s w f (seek v s w n i at)
    unfolding elements container_end seek sibling Sought
    sought zero st i at r f e w = inl (refl, rw (done_listed _ _ f e))
    sought (suc n) st i at r f e w =
        let h = form.head st at in
        let t = then_listed _ _ f e in
        let m = member_listed h t.0 t.2 in
        let eh = same st i at r m.no_fault in
        sought_first v w i at h eh t.0 t.1 f m t.4 n t.2 (sought n (form.next st h) (i + 1) (end_of h) (goes st i h r) t.1 t.3 w)

-- ---- the elements below a value

-- a value's own entry, and below it what a search among its heads finds
record Inner (rule : Rule) (v : Node) (base : ℕ) (s : List ℕ) (e : Entry) (f : Forest) : Type 0 where
  below : Forest
  is : f ≡ tree e below empty
  sought_in : (w : ℕ) → Sought rule (ref_at v) base s w below (child_head v s w)

pub under_listed : (e : Entry) (o : ValueOutcome) (f : Forest) → under e o ≡ accepted f → (g : Forest) × (o ≡ accepted g) × (f ≡ tree e g empty)
unfolding under
under_listed e (refused n p) f h = let z : ◌≡◌ {A = ℕ} 0 1 = cc in absurd (omega arith)
under_listed e (accepted g) f h = (g, refl, cc)

-- an index that was not marked is read the same without the marks
unmarked : (s cards : List ℕ) (at : ℕ) (a b c : Bool) (w : ℕ)
    → ((m : ℕ) → sparse_rest s cards at (pick a (Err 20) (pick b (Err 25) (pick c (Err 26) (Ok w)))) ≡ Err m → ⊥)
    → sparse_rest s cards at (pick a (Err 20) (pick b (Err 25) (pick c (Err 26) (Ok w)))) ≡ sparse_rest s cards at (pick a (Err 20) (pick b (Err 25) (Ok w)))
unfolding pick sparse_rest
unmarked s cards at true b c w n = refl
unmarked s cards at false true c w n = refl
unmarked s cards at false false true w n = absurd (n 26 refl)
unmarked s cards at false false false w n = refl

same_unmarked : (s cards : List ℕ) (marks : List Bool) (at : ℕ) → ((m : ℕ) → sparse_head s cards marks at ≡ Err m → ⊥) → sparse_head s cards marks at ≡ sparse_head s cards [] at
unfolding sparse_head sparse_index pick
same_unmarked s cards marks at n =
    unmarked s cards at (ltb (length s - at) 8) (leb (length cards) (word s at)) (get_or marks (word s at) false) (word s at) n

module _ (rule : Rule) (own : Owns rule) (k i base : ℕ) (s : List ℕ) (f : Forest) where
  row_inner : (v : Node) → IsRow v → (o : Result Opening ℕ) → opening_of v s ≡ o → row_rule v rule o k i base s ≡ accepted f → Inner rule v base s (entry_of k i base (length s)) f
  unfolding row_rule child_head seek_in
  row_inner v x (Err n) eo h = let z : ◌≡◌ {A = ℕ} 0 1 = cc in absurd (omega arith)
  row_inner v x (Ok c) eo h =
      let u = under_listed _ _ f h in
      record {
        below = u.0;
        is = u.2;
        sought_in = λ w.
            rw eo
            (sought rule own (ref_at v) base s (row_form v s) v (λ a b. a ≡ b)
            (λ st j b r q. rw r (row_head_at v s j b x)) (λ st j g r. ap (λ (m : ℕ). m + 1) r) c.count c.first c.first c.at refl u.0 u.1 w);
      }

  sparse_inner : (refs cards : List ℕ) (o : Result Opening ℕ) → opening_of (sparse refs cards) s ≡ o → sparse_rule refs cards rule o k i base s ≡ accepted f
      → Inner rule (sparse refs cards) base s (entry_of k i base (length s)) f
  unfolding sparse_rule child_head seek_in head_at
  sparse_inner refs cards (Err n) eo h = let z : ◌≡◌ {A = ℕ} 0 1 = cc in absurd (omega arith)
  sparse_inner refs cards (Ok c) eo h =
      let u = under_listed _ _ f h in
      record {
        below = u.0;
        is = u.2;
        sought_in = λ w.
            rw eo
            (sought rule own (ref_at (sparse refs cards)) base s (sparse_form cards s) (sparse refs cards) (λ a b. Unit {0})
            (λ marks j b r q. same_unmarked s cards marks b q) (λ marks j g r. tt) c.count no_marks c.first c.at tt u.0 u.1 w);
      }

  leaf_inner : (v : Node) → opening_of v s ≡ Err 33 → (good : Bool) → leaf_rule good k i base s ≡ accepted f → Inner rule v base s (entry_of k i base (length s)) f
  unfolding leaf_rule pick child_head seek_in Sought sibling
  leaf_inner v x true h = record { below = empty; is = cc; sought_in = λ w. rw x (inl (refl, refl)) }
  leaf_inner v x false h = let z : ◌≡◌ {A = ℕ} 0 1 = cc in absurd (omega arith)

  node_inner : (v : Node) → by_node v rule k i base s ≡ accepted f → Inner rule v base s (entry_of k i base (length s)) f
  unfolding by_node IsRow opening_of
  node_inner (leaf g) h = leaf_inner (leaf g) refl _ h
  node_inner enum h = leaf_inner enum refl _ h
  node_inner (row r) h = row_inner (row r) tt _ refl h
  node_inner (arrays r) h = row_inner (arrays r) tt _ refl h
  node_inner (tuple refs) h = row_inner (tuple refs) tt _ refl h
  node_inner (object refs cards) h = row_inner (object refs cards) tt _ refl h
  node_inner (sparse refs cards) h = sparse_inner refs cards _ refl h
  node_inner (range r) h = row_inner (range r) tt _ refl h

-- ---- by a path

pub follow_nowhere : (path : List ℕ) → follow path nowhere ≡ nowhere
unfolding follow step
follow_nowhere [] = refl
follow_nowhere (i ∷ path) = follow_nowhere path

-- the bytes of a spot that is not absent end within n
unfoldable pub Within : ℕ → Spot → Type 0
Within n nowhere = Unit {0}
Within n (spot e below) = (e.size ≡ ABSENT) ⊎ (e.start + e.size ≤ n)

-- what is found is an accepted value of a node of the plan
unfoldable pub Accepts : List ℕ → Found → Type 0
Accepts p (unfound n q) = Unit {0}
Accepts p (found k a b) = (At p k) × ((i : ℕ) × (f : Forest) × (value_of (look p) k i a b ≡ accepted f))

-- where a path leads in the top value t: a descent finds it, it lies in t, and it is accepted
pub record Led (p t : List ℕ) (x : Spot) (d : Found) : Type 0 where
  pub found_is : found_at t x ≡ d
  pub within : Within (length t) x
  pub accepts : Accepts p d

led_nowhere : (p t path : List ℕ) → Led p t (follow path nowhere) (unfound 35 0)
unfolding found_at Within Accepts
led_nowhere p t path = rw (follow_nowhere path) (record { found_is = refl; within = tt; accepts = tt })

-- to an absent element, or below it
led_absent : (p t path : List ℕ) (e : Entry) → e.size ≡ ABSENT → Led p t (follow path (spot e empty)) (missing path)
unfolding found_at follow step sibling missing Within Accepts pick
led_absent p t [] e g = record { found_is = rw (eq-eqb e.size ABSENT g); within = inl g; accepts = tt }
led_absent p t (i ∷ path) e g = led_nowhere p t path

module _ (p t : List ℕ) (few : length t ≤ 65535) where
  abbrev rule : Rule
  rule = value_of (look p)

  -- what the rest of a path leads to from any node
  abbrev Leads : List ℕ → Type 0
  Leads path =
      (k : ℕ) → At p k → (i base : ℕ) (s : List ℕ) (f : Forest) → base + length s ≤ length t → Stands t base s → rule k i base s ≡ accepted f
      → Led p t (follow path (top_of f)) (descend (look p) path k base s)

  module _ (path : List ℕ) (leads : Leads path) (k : ℕ) (a : At p k) (base : ℕ) (s : List ℕ) (le : base + length s ≤ length t) (st : Stands t base s) where
    -- from an element that is listed
    absent_leads : (o : Option ℕ) (i start : ℕ) (g : Forest) → absent o i start ≡ accepted g → Led p t (follow path (top_of g)) (missing path)
    unfolding absent top_of
    absent_leads none i start g e = let z : ◌≡◌ {A = ℕ} 0 1 = cc in absurd (omega arith)
    absent_leads (some c) i start g e =
        let q : g ≡ tree (entry_of c i start ABSENT) empty empty = cc in rw q (led_absent p t path (entry_of c i start ABSENT) refl)

    present_leads : (o : Option ℕ) (i start size : ℕ) → ref_at (look p k) i ≡ o → start + size ≤ length s → (g : Forest)
        → present rule o i (base + start) (take size (drop start s)) ≡ accepted g
        → Led p t (follow path (top_of g)) (in_part (descend (look p) path) o (base + start) (take size (drop start s)))
    unfolding present in_part
    present_leads none i start size r l g e = let z : ◌≡◌ {A = ℕ} 0 1 = cc in absurd (omega arith)
    present_leads (some c) i start size r l g e =
        leads c (at_ref p k i c a r).0 i (base + start) (take size (drop start s)) g (simp (length-take, length-drop) (omega arith)) (stands_part t base s st start size l) e

    member_leads : (w : ℕ) (h : Result Head ℕ) → h ≡ child_head (look p k) s w → (g : Forest) → element_outcome rule (ref_at (look p k)) base s h ≡ accepted g
        → Led p t (follow path (top_of g)) (on_head (descend (look p) path) (missing path) (look p k) base s h)
    unfolding element_outcome on_head
    member_leads w (Err n) eh g e = let z : ◌≡◌ {A = ℕ} 0 1 = cc in absurd (omega arith)
    member_leads w (Ok (Absent i start)) eh g e = absent_leads (ref_at (look p k) i) i (base + start) g e
    member_leads w (Ok (Present i start size)) eh g e =
        present_leads (ref_at (look p k) i) i start size refl (child_in p k a s w _ eh i start size refl).inside g e

    step_leads : (w : ℕ) (f : Forest) → Sought rule (ref_at (look p k)) base s w f (child_head (look p k) s w)
        → Led p t (follow path (sibling w f)) (on_head (descend (look p) path) (missing path) (look p k) base s (child_head (look p k) s w))
    unfolding Sought on_head
    step_leads w f x =
        ⊎_elim
        (λ y. rw (y.1, y.0) (led_nowhere p t path))
        (λ y. rw y.2 (member_leads w (child_head (look p k) s w) refl y.0 y.1))
        x

  pub leads : (path : List ℕ) → Leads path
  unfolding follow step top_of descend found_at Within Accepts pick
  leads [] k a i base s f le st e =
      let o = owns (look p) k i base s f e in
      record {
        found_is = rw (o.is, ne_eqb (length s) ABSENT (λ (z : length s ≡ ABSENT). omega (arith, z, few, le)), stands_whole t base s st);
        within = rw o.is (inr le);
        accepts = (a, (i, f, e));
      }
  leads (w ∷ path) k a i base s f le st e =
      let o = node_inner rule (owns (look p)) k i base s f (look p k) (sym (step_is p k a i base s) ∙ e) in
      rw o.is (step_leads path (leads path) k a base s le st w o.below (o.sought_in w))
