-- What holds of the heads that a walk reads, and the laws of a value by its node.
use mathlib.Core.Path.{◌≡◌, refl, sym, ◌∙◌}
use mathlib.Core.Bool.{Bool, true, false}
use mathlib.Core.List.{List, []}
use mathlib.Core.Logic.{⊎_elim}
use mathlib.Core.Option.{Option, some}
use Prim.Native.Nat.{ℕ, zero, suc, ◌+◌, ◌-◌, ◌*◌, ◌^◌, ◌<◌, ◌≤◌}
use native.Mathlib.Omega.{arith}
use native.Mathlib.Nat.{add-sub_cancel_left}
use lib.ListN.{length, get_or, set as store, take, drop, get_elem?, length-take, length-drop}
use lib.Seq.{sets}
use Rattle.std.specs.Prelude.{Result, Ok, Err, IfOk}
use Rattle.std.proofs.lemmas.Result.{IfOk-at_ok}
use Rattle.wire.proofs.Picks.{same_or_not}
use Rattle.value_heads.specs.Heads.{Inside}
use Rattle.value_heads.specs.Bounds.{From, Indexed, Fresh}
use Rattle.forms.specs.declared.Head.{Head}
use Rattle.forms.specs.declared.Head.TheVariants.{Present, Absent}
use Rattle.forms.specs.declared.Opening.{Opening}
use Rattle.forms.specs.declared.fault.Refusal.{Refusal}
use Rattle.value_heads.proofs.Bounds.{known_new, optional_index, set_opened, count_opened, range_opened, sparse_opened, inside_end}
use Rattle.value_heads.proofs.Bounds.{plain_inside, plain_from_lem, plain_index, object_inside, object_from, object_index, envelope_inside}
use Rattle.value_heads.proofs.Bounds.{envelope_from, envelope_index, sparse_inside, sparse_from_lem, sparse_index_below}
use Rattle.value_laws.proofs.Fuel.{value_step}
use Rattle.value_laws.proofs.Widths.{elements_width}
use Rattle.plan_nodes.specs.Readers.{Refers, KindAt, At}
use Rattle.plan_nodes.proofs.Looks.{elem_at, elem_in, refs_length, cards_length, look_leaf, look_row, look_arrays, look_tuple, look_object, look_sparse, look_range, look_enum, tuple_length}
use Rattle.plan_nodes.proofs.Nodes.{at_ref, at_few, at_tuple_size}
use Rattle.value_parts.specs.Walk.{stopped, reached, led, leaf_kind, leaf_good, end_step, Within, WithinHead, IsRow, Container, Holds, HeadIn}
use Rattle.value_parts.proofs.Nodes.{scalar_kind, leaf_not, head_twice, head_new}
use Rattle.value_parts.proofs.Walks.{under_go, alone}
use Rattle.protocol.specs.Numbers.{pick}
use Rattle.protocol.specs.Heads.{sparse_index, optional, word, set_opening, count_opening, sparse_head, requires, index_of, end_of}
use Rattle.protocol.specs.Nodes.{Node, leaf, enum, row, arrays, tuple, object, sparse, range, ref_at}
use Rattle.protocol.specs.Lists.{entry_words, entry_of}
use Rattle.protocol.specs.Values.{Rule, absent, present, element_outcome, elements, row_form, sparse_form, no_marks, opening_of, row_head, leaf_rule, row_rule, sparse_rule, by_node, value_of, fuel}
use Rattle.protocol.specs.Plans.{look, cards_at, refs_at}

-- ---- the heads of elements in order

-- a head of 4 bytes or more, of the element with an index
headed : (v : Node) (n at i : ℕ) (r : Result Head ℕ) → IfOk r (Inside n at) → IfOk r (From (at + 4)) → IfOk r (Indexed i) → Refers v i → i < 2 ^ 32 → IfOk r (HeadIn v n at)
unfolding Indexed index_of
headed v n at i (Ok (Present j start size)) a b e r l = record { inside = a; from = b; refers = rw e r; small = rw e l }
headed v n at i (Ok (Absent j start)) a b e r l = record { inside = a; from = b; refers = rw e r; small = rw e l }
headed v n at i (Err m) a b e r l = tt

-- a later start is a start
later : (k n : ℕ) (r : Result Head ℕ) → k ≤ n → IfOk r (From n) → IfOk r (From k)
unfolding From
later k n (Ok (Present i start size)) g f = omega arith
later k n (Ok (Absent i start)) g f = omega arith
later k n (Err m) g f = tt

module _ (s : List ℕ) (i at : ℕ) (inside : at ≤ length s) (small : i < 2 ^ 32) where
  pub row_headed : (v : Node) → IsRow v → Refers v i → IfOk (row_head v s i at) (HeadIn v (length s) at)
  unfolding IsRow row_head
  row_headed (leaf f) x r = absurd x
  row_headed enum x r = absurd x
  row_headed (row k) x r = headed _ _ _ i _ (plain_inside s 0 i at inside) (plain_from_lem s 0 i at) (plain_index s 0 i at) r small
  row_headed (arrays k) x r =
      headed _ _ _ i _ (envelope_inside s i at inside) (later (at + 4) (at + 16) _ (omega arith) (envelope_from s i at)) (envelope_index s i at) r small
  row_headed (tuple refs) x r = headed _ _ _ i _ (plain_inside s 4 i at inside) (plain_from_lem s 4 i at) (plain_index s 4 i at) r small
  row_headed (object refs cards) x r =
      let q = requires (get_or cards i 0) in
      headed _ _ _ i _ (object_inside s q i at inside) (later (at + 4) (at + 8) _ (omega arith) (object_from s q i at)) (object_index s q i at) r small
  row_headed (sparse refs cards) x r = absurd x
  row_headed (range k) x r = headed _ _ _ i _ (plain_inside s 0 i at inside) (plain_from_lem s 0 i at) (plain_index s 0 i at) r small

-- ---- the heads of a sparse object's elements

fresh : (v : Node) (n at m : ℕ) (marks : List Bool) (r : Result Head ℕ) → m ≤ 512 → Holds v m → IfOk r (Inside n at) → IfOk r (From (at + 4)) → IfOk r (Fresh m marks) → IfOk r (HeadIn v n at)
unfolding Fresh index_of
fresh v n at m marks (Ok (Present j start size)) l r a b e = record { inside = a; from = b; refers = r j e.0; small = omega (arith, e.0) }
fresh v n at m marks (Ok (Absent j start)) l r a b e = record { inside = a; from = b; refers = r j e.0; small = omega (arith, e.0) }
fresh v n at m marks (Err q) l r a b e = tt

module _ (p : List ℕ) (k : ℕ) (a : At p k) (e : get_or p k 0 ≡ 6) where
  pub sparse_holds : Holds (look p k) (length (cards_at p k))
  unfolding ref_at
  sparse_holds i h =
      let l : i < length (refs_at p k) = omega (arith, refs_length p k, cards_length p k) in
      record { to = get_or (refs_at p k) i 0; is = rw (look_sparse p k e) (elem_at (refs_at p k) i l) }

  pub few_cards : length (cards_at p k) ≤ 512
  few_cards = rw (cards_length p k) (at_few p k a (omega arith) (omega arith))

  pub sparse_headed : (s : List ℕ) (marks : List Bool) (at : ℕ) → at ≤ length s → IfOk (sparse_head s (cards_at p k) marks at) (HeadIn (look p k) (length s) at)
  sparse_headed s marks at h =
      fresh _ _ _ (length (cards_at p k)) marks _ few_cards sparse_holds (sparse_inside s (cards_at p k) marks at h)
      (later (at + 4) (at + 8) _ (omega arith) (sparse_from_lem s (cards_at p k) marks at)) (sparse_index_below s (cards_at p k) marks at)

-- ---- a container's elements have nodes

pub opening_holds : (v : Node) (s : List ℕ) (o : Opening) → IsRow v → opening_of v s ≡ Ok o → Holds v (o.first + o.count)
unfolding IsRow opening_of ref_at
opening_holds (leaf f) s o x e i h = absurd x
opening_holds enum s o x e i h = absurd x
opening_holds (row r) s o x e i h = record { to = r; is = refl }
opening_holds (arrays r) s o x e i h = record { to = r; is = refl }
opening_holds (tuple refs) s o x e i h =
    let q = count_opened (length refs) s o e in
    record { to = get_or refs i 0; is = elem_at refs i (omega (arith, q.0, q.1)) }
opening_holds (object refs cards) s o x e i h =
    let q = count_opened (length refs) s o e in
    record { to = get_or refs i 0; is = elem_at refs i (omega (arith, q.0, q.1)) }
opening_holds (sparse refs cards) s o x e i h = absurd x
opening_holds (range r) s o x e i h = record { to = r; is = refl }

-- ---- a node's kind

pub kinds : (P : ℕ → Type 0) (m : ℕ) → 2 ≤ m → m ≤ 7 → P 2 → P 3 → P 4 → P 5 → P 6 → P 7 → P m
kinds P zero l h a b c d e f = absurd (omega arith)
kinds P (suc zero) l h a b c d e f = absurd (omega arith)
kinds P (suc (suc zero)) l h a b c d e f = a
kinds P (suc (suc (suc zero))) l h a b c d e f = b
kinds P (suc (suc (suc (suc zero)))) l h a b c d e f = c
kinds P (suc (suc (suc (suc (suc zero))))) l h a b c d e f = d
kinds P (suc (suc (suc (suc (suc (suc zero)))))) l h a b c d e f = e
kinds P (suc (suc (suc (suc (suc (suc (suc zero))))))) l h a b c d e f = f
kinds P (suc (suc (suc (suc (suc (suc (suc (suc m)))))))) l h a b c d e f = absurd (omega arith)

module _ (p : List ℕ) (k : ℕ) (a : At p k) where
  -- a value by its node
  pub step_is : (i base : ℕ) (s : List ℕ) → value_of (look p) k i base s ≡ by_node (look p k) (value_of (look p)) k i base s
  step_is i base s = value_step (look p) (At p) (λ j i r. at_ref p j i r) k a a.small i base s

  -- a scalar or an enumeration
  pub value_leaf : leaf_kind (get_or p k 0) ≡ true → (i base : ℕ) (s : List ℕ) → value_of (look p) k i base s ≡ leaf_rule (leaf_good (look p k) s) k i base s
  unfolding by_node leaf_good
  value_leaf x i base s =
      ⊎_elim
      (λ (e : get_or p k 0 ≡ 8). rw (step_is i base s, look_enum p k e))
      (λ (n : get_or p k 0 ≡ 8 → ⊥). let e = scalar_kind (get_or p k 0) x n in rw (step_is i base s, look_leaf p k e))
      (same_or_not (get_or p k 0) 8)

by_row : (v : Node) (rule : Rule) (k i base : ℕ) (s : List ℕ) → IsRow v → by_node v rule k i base s ≡ row_rule v rule (opening_of v s) k i base s
unfolding IsRow by_node
by_row (leaf f) rule k i base s x = absurd x
by_row enum rule k i base s x = absurd x
by_row (row r) rule k i base s x = refl
by_row (arrays r) rule k i base s x = refl
by_row (tuple refs) rule k i base s x = refl
by_row (object refs cards) rule k i base s x = refl
by_row (sparse refs cards) rule k i base s x = absurd x
by_row (range r) rule k i base s x = refl

module _ (p : List ℕ) (k : ℕ) (a : At p k) (kind : ℕ) (c : Container p k kind) where
  low : 2 ≤ get_or p k 0
  low = omega (arith, c.is, c.low)

  high : get_or p k 0 ≤ 7
  high = omega (arith, c.is, c.high)

  pub is_row : (get_or p k 0 ≡ 6 → ⊥) → IsRow (look p k)
  unfolding IsRow
  is_row n =
      kinds (λ m. get_or p k 0 ≡ m → IsRow (look p k)) (get_or p k 0) low high
      (λ e. rw (look_row p k e) tt)
      (λ e. rw (look_arrays p k e) tt)
      (λ e. rw (look_tuple p k e) tt)
      (λ e. rw (look_object p k e) tt)
      (λ e. absurd (n e))
      (λ e. rw (look_range p k e) tt)
      refl

  -- how far an opening leads
  module _ (s : List ℕ) (o : Opening) where
    few : (m : ℕ) → m ≤ 512 → count_opening m s ≡ Ok o → (o.first + o.count < 2 ^ 32) × (o.at ≤ length s)
    few m h e = let c = count_opened m s o e in (omega (arith, c.0, c.1), omega (arith, c.2, c.3))

    many : set_opening s ≡ Ok o → (o.first + o.count < 2 ^ 32) × (o.at ≤ length s)
    many e = let c = set_opened s o e in (omega (arith, c.0, c.1), c.2)

    pub opened : opening_of (look p k) s ≡ Ok o → (o.first + o.count < 2 ^ 32) × (o.at ≤ length s)
    unfolding opening_of
    opened q =
        kinds (λ m. get_or p k 0 ≡ m → (o.first + o.count < 2 ^ 32) × (o.at ≤ length s)) (get_or p k 0) low high
        (λ e. many (rw (look_row p k e) at q))
        (λ e. many (rw (look_arrays p k e) at q))
        (λ e. few _ (rw (tuple_length p k (get_or p (k + 1) 0) (at_tuple_size p k a e)) (at_few p k a (omega arith) (omega arith))) (rw (look_tuple p k e) at q))
        (λ e. few _ (rw (refs_length p k) (at_few p k a (omega arith) (omega arith))) (rw (look_object p k e) at q))
        (λ e. let c = sparse_opened s o (rw (look_sparse p k e) at q) in (omega (arith, c.0, c.1), omega (arith, c.2, c.3)))
        (λ e. let c = range_opened s o (rw (look_range p k e) at q) in (omega (arith, c.0), omega (arith, c.1, c.2)))
        refl

  module _ (i base : ℕ) (s : List ℕ) (at : ℕ) (l : List ℕ) (x : Result Opening ℕ) (ex : x ≡ opening_of (look p k) s) where
    value_sparse_is : get_or p k 0 ≡ 6 → value_of (look p) k i base s ≡ sparse_rule (refs_at p k) (cards_at p k) (value_of (look p)) x k i base s
    unfolding by_node
    value_sparse_is e = step_is p k a i base s ∙ rw (ex, look_sparse p k e)

    value_row_is : (get_or p k 0 ≡ 6 → ⊥) → value_of (look p) k i base s ≡ row_rule (look p k) (value_of (look p)) x k i base s
    value_row_is e = step_is p k a i base s ∙ by_row (look p k) (value_of (look p)) k i base s (is_row e) ∙ rw ex

    -- a head that is refused
    pub value_wrong : (n : ℕ) → x ≡ Err n → stopped n base ≡ led (value_of (look p) k i base s) at l
    unfolding led row_rule sparse_rule
    value_wrong n e =
        ⊎_elim
        (λ (f : get_or p k 0 ≡ 6). rw (value_sparse_is f, e))
        (λ (f : get_or p k 0 ≡ 6 → ⊥). rw (value_row_is f, e))
        (same_or_not (get_or p k 0) 6)

    -- the elements of a container, once its own entry is put
    module _ (o : Opening) (e : x ≡ Ok o) (l₁ : List ℕ) (el : l₁ ≡ sets l at (entry_words (entry_of k i base (length s)) o.count)) where
      pub value_sparse : get_or p k 0 ≡ 6
          → led (elements (sparse_form (cards_at p k) s) (value_of (look p)) (ref_at (look p k)) base s o.count no_marks o.at) (at + 5) l₁ ≡ led (value_of (look p) k i base s) at l
      unfolding sparse_rule value_of
      value_sparse f =
          rw (value_sparse_is f, e, look_sparse p k f)
          (sym (under_go (entry_of k i base (length s)) o.count _ at l l₁ (elements_width (look p) fuel _ base s (sparse_form (cards_at p k) s) o.count no_marks o.at) el))

      pub value_row : (get_or p k 0 ≡ 6 → ⊥)
          → led (elements (row_form (look p k) s) (value_of (look p)) (ref_at (look p k)) base s o.count o.first o.at) (at + 5) l₁ ≡ led (value_of (look p) k i base s) at l
      unfolding row_rule value_of
      value_row f =
          rw (value_row_is f, e)
          (sym (under_go (entry_of k i base (length s)) o.count _ at l l₁ (elements_width (look p) fuel _ base s (row_form (look p k) s) o.count o.first o.at) el))

-- ---- a leaf's content

module _ (p : List ℕ) (k : ℕ) (a : At p k) (x : leaf_kind (get_or p k 0) ≡ true) (i base : ℕ) (s : List ℕ) (at : ℕ) (l : List ℕ) (good : Bool) (g : good ≡ leaf_good (look p k) s) where
  pub leaf_good_lem : good ≡ true → (l' : List ℕ) → l' ≡ sets l at (entry_words (entry_of k i base (length s)) 0) → reached (at + 5) l' ≡ led (value_of (look p) k i base s) at l
  unfolding leaf_rule pick
  leaf_good_lem e l' w = rw (value_leaf p k a x i base s, ← g, e) (alone (entry_of k i base (length s)) at l l' w)

  pub leaf_bad : good ≡ false → stopped 24 base ≡ led (value_of (look p) k i base s) at l
  unfolding leaf_rule pick led
  leaf_bad e = rw (value_leaf p k a x i base s, ← g, e)

-- ---- one element, by its head

module _ (rule : Rule) (ref : ℕ → Option ℕ) (base : ℕ) (s : List ℕ) (h : Head) (at : ℕ) (l : List ℕ) where
  module _ (i start k : ℕ) (r : ref i ≡ some k) where
    pub member_absent : h ≡ Absent i start → led (absent (some k) i (base + start)) at l ≡ led (element_outcome rule ref base s (Ok h)) at l
    unfolding element_outcome
    member_absent e = rw (e, r)

    pub member_present : (size : ℕ) → h ≡ Present i start size → led (rule k i (base + start) (take (start + size - start) (drop start s))) at l ≡ led (element_outcome rule ref base s (Ok h)) at l
    unfolding element_outcome present
    member_present size e = rw (e, r, add-sub_cancel_left)

-- ---- what a head in hand says

module _ (v : Node) (n at : ℕ) (h : Head) (x : HeadIn v n at h) where
  pub absent_in : (i start : ℕ) → h ≡ Absent i start → (Refers v i) × (at + 4 ≤ start) × (start ≤ n) × (i < 2 ^ 32)
  unfolding Inside From index_of
  absent_in i start e = let a = rw e at x.inside in (rw e at x.refers, rw e at x.from, a.1, rw e at x.small)

  pub present_in : (i start size : ℕ) → h ≡ Present i start size → (Refers v i) × (at + 4 ≤ start) × (start + size ≤ n) × (i < 2 ^ 32)
  unfolding Inside From index_of
  present_in i start size e = let a = rw e at x.inside in (rw e at x.refers, rw e at x.from, a.1, rw e at x.small)

  pub end_in : end_of (Ok h) ≤ n
  end_in = inside_end n at h x.inside

-- an element that is there: what holds at its end holds at its head's
pub within_present : (base : ℕ) (h : Head) (i start size m : ℕ) (r : Result ℕ Refusal) → h ≡ Present i start size → m ≡ size → Within (base + start + m) r → WithinHead base h r
unfolding Within WithinHead end_of
within_present base h i start size m (Err q) e g w = tt
within_present base h i start size m (Ok at) e g w = rw e (omega arith)

pub within_absent : (base : ℕ) (h : Head) (i start pos at : ℕ) (r : Result ℕ Refusal) → r ≡ Ok (at + 5) → h ≡ Absent i start → pos + 4 ≤ start → 4 * at ≤ 5 * (base + pos) + 20 → WithinHead base h r
unfolding WithinHead end_of
within_absent base h i start pos at r x e g w = rw (x, e) (omega arith)

pub reached_in : (base : ℕ) (h : Head) (r : Result ℕ Refusal) (at : ℕ) → r ≡ Ok at → WithinHead base h r → 4 * at ≤ 5 * (base + end_of (Ok h)) + 20
unfolding WithinHead
reached_in base h r at e w = rw e at w

-- a refusal, wherever it comes from
pub fault_within : (base : ℕ) (h : Head) (r : Result ℕ Refusal) (q : Refusal) → r ≡ Err q → WithinHead base h r
unfolding WithinHead
fault_within base h r q x = rw x tt

-- the end of a container's elements
pub end_within : (w b : Bool) (e base at : ℕ) (x : Result ℕ Refusal) → x ≡ end_step w b base at → 4 * at ≤ 5 * e + 20 → Within e x
unfolding Within end_step pick
end_within true true e base at x ex h = rw ex tt
end_within true false e base at x ex h = rw ex h
end_within false b e base at x ex h = rw ex tt

-- a container's kind, read again
pub same_kind : (p : List ℕ) (k kind kind' : ℕ) → Container p k kind → kind' ≡ get_or p k 0 → Container p k kind'
same_kind p k kind kind' c e = record { is = e; low = omega (arith, c.is, c.low); high = omega (arith, c.is, c.high) }

-- the kind of a node that is no leaf
pub inner_kind : (p : List ℕ) (k kind : ℕ) → KindAt p k kind → leaf_kind kind ≡ false → Container p k kind
unfolding leaf_kind pick
inner_kind p k kind c x =
    let a = leaf_not kind 1 x refl in
    let b = leaf_not kind 8 x refl in
    record { is = c.is; low = omega (arith, c.low, a); high = omega (arith, c.high, b) }

pub refused_within : (e : ℕ) (r : Result ℕ Refusal) (q : Refusal) → r ≡ Err q → Within e r
unfolding Within
refused_within e r q x = rw x tt

-- an object's element with a node is one of its own
pub object_below : (p : List ℕ) (k i : ℕ) → get_or p k 0 ≡ 5 → Refers (look p k) i → i < get_or p (k + 1) 0
unfolding ref_at
object_below p k i e r =
    let q : get_elem? (refs_at p k) i ≡ some r.to = rw (look_object p k e) at r.is in
    omega (arith, (elem_in (refs_at p k) i r.to q).0, refs_length p k)

-- a head that was read in a row, with some elements left
pub row_at : (p : List ℕ) (k : ℕ) → At p k → (kind : ℕ) → Container p k kind → (get_or p k 0 ≡ 6 → ⊥) → (m : ℕ) → Holds (look p k) m → m < 2 ^ 32
    → (s : List ℕ) (i left at : ℕ) (h : Head) → i + left ≡ m → 0 < left → at ≤ length s → Ok h ≡ row_head (look p k) s i at → HeadIn (look p k) (length s) at h
row_at p k a kind c n m r few s i left at h e z b x =
    IfOk-at_ok (HeadIn (look p k) (length s) at) (sym x) (row_headed s i at b (omega arith) (look p k) (is_row p k a kind c n) (r i (omega arith)))

-- the head of a sparse object's element with an index that is new: what it is, what holds of it, and the marks after it
pub record NewHead (p : List ℕ) (k : ℕ) (s : List ℕ) (marks : List Bool) (at i : ℕ) (h : Head) : Type 0 where
  pub is : Ok h ≡ sparse_head s (cards_at p k) marks at
  pub inside : HeadIn (look p k) (length s) at h
  pub next : store marks i true ≡ store marks (index_of (Ok h)) true

-- an index of a sparse object that was read without the marks
module _ (p : List ℕ) (k : ℕ) (a : At p k) (e : get_or p k 0 ≡ 6) (s : List ℕ) (at n i : ℕ) (en : n ≡ get_or p (k + 1) 0) (f : Ok i ≡ sparse_index s n [] at) where
  pub known_in : at ≤ length s → (i < get_or p (k + 1) 0) × (i < 512) × (at + 8 ≤ length s)
  known_in b =
      let h = known_new s n [] at i (sym f) in
      let few = at_few p k a (omega arith) (omega arith) in
      (omega (arith, h.0), omega (arith, h.0), omega (arith, h.2))

  module _ (marks : List Bool) where
    pub sparse_twice : get_or marks i false ≡ true → sparse_head s (cards_at p k) marks at ≡ Err 26
    sparse_twice g = head_twice s (cards_at p k) marks at n (en ∙ sym (cards_length p k)) i f g

    module _ (g : get_or marks i false ≡ false) where
      -- a refusal or a head
      pub sparse_new : (r : Result Head ℕ) → r ≡ optional s (requires (get_or (cards_at p k) i 0)) i (at + 8) (word s (at + 4)) → r ≡ sparse_head s (cards_at p k) marks at
      sparse_new r er = er ∙ sym (head_new s (cards_at p k) marks at n (en ∙ sym (cards_length p k)) i f g)

      module _ (h : Head) (eh : Ok h ≡ optional s (requires (get_or (cards_at p k) i 0)) i (at + 8) (word s (at + 4))) where
        marked : (q : Head) → Indexed i q → store marks i true ≡ store marks (index_of (Ok q)) true
        unfolding Indexed index_of
        marked (Present j start size) y = rw y
        marked (Absent j start) y = rw y

        pub sparse_turn : at ≤ length s → NewHead p k s marks at i h
        sparse_turn b =
            record {
              is = sparse_new (Ok h) eh;
              inside = IfOk-at_ok (HeadIn (look p k) (length s) at) (sym (sparse_new (Ok h) eh)) (sparse_headed p k a e s marks at b);
              next = marked h (IfOk-at_ok (Indexed i) (sym eh) (optional_index s _ i (at + 8) _));
            }

pub part_size : (s : List ℕ) (start size : ℕ) → start + size ≤ length s → length (take (start + size - start) (drop start s)) ≡ size
part_size s start size h = rw add-sub_cancel_left (simp (length-take, length-drop) (omega arith))
