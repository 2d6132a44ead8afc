-- What a block's fields keep true of its elements: each refers to an earlier block of a kind that suits, whose height leaves room for one
-- more, and has a cardinality where one is due; the block's height is one more than the highest.
use mathlib.Core.Path.{◌≡◌, refl, ap, sym, ◌∙◌}
use mathlib.Core.Logic.{⊎_elim}
use mathlib.Core.Bool.{Bool, true, false}
use mathlib.Core.List.{List, [], ◌∷◌, ◌++◌}
use Rattle.std.specs.Prelude.{Err, None}
use Prim.Native.Nat.{ℕ, suc, ◌+◌, ◌*◌, ◌≤◌, ◌<◌}
use native.Mathlib.Nat.{add-zero, eq-or-lt_of_le, le_of_suc-le-suc}
use native.Mathlib.Omega.{arith}
use lib.Dec.{leb, ltb, eqb}
use lib.ListN.{length, get_or, length-append, get_or-append}
use lib.Seq.{get_or_at}
use borrow.Author.Tests.{eqb-true, ltb-true, ltb-false, leb-true, leb-false, le-leb, lt-leb, le-ltb, ne_eqb}
use Rattle.wire.proofs.Picks.{clash, both, pick_yes, pick_no, pick_case}
use Rattle.descriptor_fields.specs.Layouts.{ID, NAME, CARDINALITY, DIMENSIONS, ANCESTORS, COUNT, ANCESTOR, ANY, OBJECT, ELEMENT, layout, known_tag, valued}
use Rattle.descriptor_fields.specs.Fields.{Known, Element, fine, no_block, number_at, permits, number_fault, count_fault, fits, kind_fault, ref_fault, fault, height_after, kept, grown}
use Rattle.descriptor_blocks.specs.Blocks.{Item, next, counting, fields, items, section, block_from}
use Rattle.descriptor_fields.specs.declared.Draft.{Draft}
use Rattle.descriptor_blocks.proofs.Tags.{element_kind, suited, suited_valued, carded, orderly, elements_in, total, all_orderly}
use Rattle.descriptor_blocks.proofs.Readings.{no_fault, fault_no, between, Step, fields_keep, items_keep}
use Rattle.protocol.specs.Numbers.{pick, at_least}
use Rattle.protocol.specs.Messages.{is_cardinality}

abbrev pub no_element : Element
no_element = record { name = 0; ref = 0; card = 0 }

-- the block that an element refers to
abbrev pub target : List Known → Element → Known
target known e = get_or known e.ref no_block

-- a height, raised by each of some elements to one more than that element has (R3.13)
unfoldable pub raised_by : List Known → ℕ → List Element → ℕ
raised_by known h [] = h
raised_by known h (e ∷ es) = raised_by known (at_least h ((target known e).height + 1)) es

pub raised_snoc : (known : List Known) (h : ℕ) (es : List Element) (e : Element) → raised_by known h (es ++ (e ∷ [])) ≡ at_least (raised_by known h es) ((target known e).height + 1)
unfolding raised_by
raised_snoc known h [] e = refl
raised_snoc known h (x ∷ es) e = raised_snoc known (at_least h ((target known x).height + 1)) es e

-- an element of a block with a tag
pub record Refers (known : List Known) (tag : ℕ) (e : Element) : Type 0 where
  pub below : e.ref < length known
  pub suits : suited (element_kind tag) (target known e).tag ≡ true
  pub low : (target known e).height ≤ 31
  pub card : carded tag ≡ true → is_cardinality e.card ≡ true

-- what an element may be (R3.11): each has values; and then of a set, of an array, of a range
module _ (known : List Known) (e : Element) where
  pub element_valued : (tag : ℕ) → Refers known tag e → valued (target known e).tag ≡ true
  element_valued tag r = suited_valued (element_kind tag) (target known e).tag r.suits

  pub set_element_lem : Refers known 0 e → (target known e).tag ≡ 0 → ⊥
  unfolding element_kind suited pick
  set_element_lem r q = clash (rw q at r.suits)

  pub array_element_lem : Refers known 6 e → ((target known e).tag ≡ 0 → ⊥) × ((target known e).tag ≡ 6 → ⊥)
  unfolding element_kind suited pick
  array_element_lem r = (λ q. clash (rw q at r.suits), λ q. clash (rw q at r.suits))

  pub range_element_lem : Refers known 9 e → (target known e).tag ≡ 3
  unfolding element_kind suited pick
  range_element_lem r = eqb-true _ 3 r.suits

-- what is so after some fields, of which n referred to elements
pub record Held (known : List Known) (tag n : ℕ) (x : Draft) (es : List Element) : Type 0 where
  pub each : (j : ℕ) → j < length es → Refers known tag (get_or es j no_element)
  pub high : x.height ≡ raised_by known 1 es
  pub count : length es ≡ n
  pub number : x.count ≡ n
  pub few : x.left ≤ 512

-- ---- one field

module _ (d : List ℕ) (known : List Known) (tag c : ℕ) (x : Draft) (es : List Element) (sound : fault d known tag c x es ≡ fine) where
  -- a cardinality is one of the five
  card_fine : c ≡ CARDINALITY → is_cardinality (number_at d c x.at) ≡ true
  unfolding fault number_fault permits pick
  card_fine e = let f : number_fault 7 (number_at d 7 x.at) ≡ fine = rw e at sound in rw e (no_fault _ fine 12 f).0

  -- counts and references
  late_fault : DIMENSIONS < c
      → fault d known tag c x es ≡ pick (leb c COUNT) (count_fault tag c x (number_at d c x.at)) (ref_fault d known tag c x (number_at d c x.at))
  unfolding fault
  late_fault l =
      pick_no _ _ _ (ne_eqb c ID (λ (e : c ≡ 1). omega arith)) ∙ pick_no _ _ _ (lt-leb c NAME (omega arith)) ∙ pick_no _ _ _ (lt-leb c DIMENSIONS l)

  -- a count is at most 512
  count_fine : DIMENSIONS < c → c ≤ COUNT → number_at d c x.at ≤ 512
  unfolding count_fault
  count_fine l m = ltb-false 512 _ (fault_no _ 17 _ (sym (late_fault l ∙ pick_yes _ _ _ (le-leb c COUNT m)) ∙ sound)).0

  -- an element reference goes to an earlier block that suits and has room above it
  module _ (l : ELEMENT ≤ c) where
    new_element : Element
    new_element = record { name = x.name; ref = number_at d c x.at; card = x.card }

    fits_suited : (k : Known) → fits d tag c x k ≡ suited c k.tag
    unfolding fits suited
    fits_suited k =
        pick_no _ _ _ (ne_eqb c ANCESTOR (λ (e : c ≡ 14). omega arith)) ∙ pick_no _ _ _ (ne_eqb c ANY (λ (e : c ≡ 15). omega arith))
        ∙ pick_no _ _ _ (ne_eqb c OBJECT (λ (e : c ≡ 16). omega arith))

    new_fine : c ≡ element_kind tag → (carded tag ≡ true → is_cardinality x.card ≡ true) → Refers known tag new_element
    unfolding ref_fault kind_fault new_element
    new_fine k card =
        let v = number_at d c x.at in
        let a : ref_fault d known tag c x v ≡ fine = sym (late_fault (omega arith) ∙ pick_no _ _ _ (lt-leb c COUNT (omega arith))) ∙ sound in
        let o : pick (eqb c OBJECT) (eqb x.free 1) false ≡ false = pick_no _ _ _ (ne_eqb c OBJECT (λ (e : c ≡ 16). omega arith)) in
        let b : pick (ltb v (length known)) (kind_fault d tag c x (get_or known v no_block)) (Err 13) ≡ fine = sym (pick_no _ _ _ o) ∙ a in
        let g = no_fault _ _ 13 b in
        let h = no_fault _ _ 14 g.1 in
        let i : pick (leb 32 (get_or known v no_block).height) (Err 17) fine ≡ fine = sym (pick_yes _ _ _ (le-leb ELEMENT c l)) ∙ h.1 in
        let s : suited c (get_or known v no_block).tag ≡ true = sym (fits_suited (get_or known v no_block)) ∙ h.0 in
        record {
          below = ltb-true _ _ g.0;
          suits = ap (λ (m : ℕ). suited m (get_or known v no_block).tag) (sym k) ∙ s;
          low = omega (arith, leb-false 32 (get_or known v no_block).height (fault_no (leb 32 (get_or known v no_block).height) 17 fine i).0);
          card = card;
        }

-- one more element
each_more : (known : List Known) (tag : ℕ) (es : List Element) (e : Element) → ((j : ℕ) → j < length es → Refers known tag (get_or es j no_element)) → Refers known tag e
    → (j : ℕ) → j < length (es ++ (e ∷ [])) → Refers known tag (get_or (es ++ (e ∷ [])) j no_element)
each_more known tag es e each new j l =
    let m : j < suc (length es) = omega (arith, length-append es (e ∷ [])) in
    ⊎_elim
    (λ (q : j ≡ length es). rw (get_or_at es e [] no_element j (sym q)) new)
    (λ (q : j < length es). rw (get_or-append es (e ∷ []) no_element j q) (each j q))
    (eq-or-lt_of_le (le_of_suc-le-suc m))

-- one more on either side
sum_moves : (t : Bool) (k m : ℕ) → pick t (suc k) k + m ≡ k + pick t (suc m) m
unfolding pick
sum_moves true k m = omega arith
sum_moves false k m = refl

-- what is kept of an element reference, and of any other field
module _ (d : List ℕ) (known : List Known) (tag c : ℕ) (x : Draft) (es : List Element) where
  grown_is : leb ELEMENT c ≡ true → grown d c x es ≡ es ++ (record { name = x.name; ref = number_at d c x.at; card = x.card } ∷ [])
  unfolding grown
  grown_is t = pick_yes _ _ _ t

  grown_same : leb ELEMENT c ≡ false → grown d c x es ≡ es
  unfolding grown
  grown_same t = pick_no _ _ _ t

  height_is : leb ELEMENT c ≡ true → (kept d known tag c x).height ≡ at_least x.height ((get_or known (number_at d c x.at) no_block).height + 1)
  unfolding kept height_after
  height_is t = pick_yes _ _ _ t

  count_is : leb ELEMENT c ≡ true → (kept d known tag c x).count ≡ x.count + 1
  unfolding kept
  count_is t = pick_yes _ _ _ t

  count_same : leb ELEMENT c ≡ false → (kept d known tag c x).count ≡ x.count
  unfolding kept
  count_same t = pick_no _ _ _ t

  height_same : leb ELEMENT c ≡ false → (kept d known tag c x).height ≡ x.height
  unfolding kept height_after
  height_same t = pick_no _ _ _ t

-- a field may be read with a cardinality at hand (b), or without one
abbrev Fit : ℕ → Bool → ℕ → Type 0
Fit tag b c = pick (ltb c ELEMENT) true (pick (eqb c (element_kind tag)) (pick (carded tag) b true) false) ≡ true

abbrev Ready : Bool → Draft → Type 0
Ready b x = b ≡ true → is_cardinality x.card ≡ true

module _ (d : List ℕ) (known : List Known) (tag n c : ℕ) (b : Bool) (x : Draft) (es : List Element) (h : Held known tag n x es) (r : Ready b x)
    (sound : fault d known tag c x es ≡ fine) where
  left_few : (kept d known tag c x).left ≤ 512
  unfolding kept
  left_few =
      let P : ℕ → Type 0 = λ m. m ≤ 512 in
      let count : (k : ℕ) → eqb c k ≡ true → DIMENSIONS < k → k ≤ COUNT → number_at d c x.at ≤ 512 =
      λ k t l m. let e = eqb-true c k t in count_fine d known tag c x es sound (omega arith) (omega arith)
      in
      pick_case P (eqb c ANCESTORS) _ _ (λ t. count ANCESTORS t (omega arith) (omega arith))
      (λ _. pick_case P (eqb c COUNT) _ _ (λ t. count COUNT t (omega arith) (omega arith)) (λ _. h.few))

  card_ready : Ready (pick (eqb c CARDINALITY) true b) (kept d known tag c x)
  unfolding kept pick
  card_ready = go (eqb c CARDINALITY) refl
    where
      go : (t : Bool) → eqb c CARDINALITY ≡ t → pick t true b ≡ true → is_cardinality (pick t (number_at d c x.at) x.card) ≡ true
      go true e g = card_fine d known tag c x es sound (eqb-true _ _ e)
      go false e g = r g

  kept_element : ELEMENT ≤ c → Fit tag b c → Held known tag (suc n) (kept d known tag c x) (grown d c x es)
  unfolding new_element
  kept_element l f =
      let t : leb ELEMENT c ≡ true = le-leb _ _ l in
      let g : pick (eqb c (element_kind tag)) (pick (carded tag) b true) false ≡ true = sym (pick_no _ _ _ (le-ltb c ELEMENT l)) ∙ f in
      let g2 = both _ _ g in
      let e = new_element d known tag c x es sound l in
      let new : Refers known tag e =
      new_fine d known tag c x es sound l (eqb-true _ _ g2.0) (λ q. r (sym (pick_yes _ _ _ q) ∙ g2.1))
      in
      let w : grown d c x es ≡ es ++ (e ∷ []) = grown_is d known tag c x es t in
      let high : (kept d known tag c x).height ≡ raised_by known 1 (es ++ (e ∷ [])) =
      height_is d known tag c x es t ∙ ap (λ (m : ℕ). at_least m ((target known e).height + 1)) h.high ∙ sym (raised_snoc known 1 es e)
      in
      rw w
      (record {
        each = each_more known tag es e h.each new;
        high = high;
        count = length-append es (e ∷ []) ∙ omega (arith, h.count);
        number = count_is d known tag c x es t ∙ omega (arith, h.number);
        few = left_few;
      })

  kept_other : c < ELEMENT → Held known tag n (kept d known tag c x) (grown d c x es)
  kept_other l =
      let t : leb ELEMENT c ≡ false = lt-leb _ _ l in
      rw (grown_same d known tag c x es t)
      (record {
        each = h.each;
        high = height_same d known tag c x es t ∙ h.high;
        count = h.count;
        number = count_same d known tag c x es t ∙ h.number;
        few = left_few;
      })

  kept_held : Fit tag b c → Held known tag (pick (leb ELEMENT c) (suc n) n) (kept d known tag c x) (grown d c x es)
  kept_held f =
      pick_case (λ m. Held known tag m (kept d known tag c x) (grown d c x es)) (leb ELEMENT c) _ _
      (λ t. kept_element (leb-true _ _ t) f) (λ t. kept_other (leb-false _ _ t))

-- ---- fields, a run of items, a section, a block

module _ (d : List ℕ) (known : List Known) (tag : ℕ) where
  -- with fields yet to come: n elements are held at their end
  record Ahead (n : ℕ) (cs : List ℕ) (x : Draft) (es : List Element) : Type 0 where
    so_far : ℕ
    sum : so_far + elements_in cs ≡ n
    at_hand_lem : Bool
    held : Held known tag so_far x es
    ready : Ready at_hand_lem x
    orders : orderly tag at_hand_lem cs ≡ true

  ahead_step : (n c : ℕ) (cs : List ℕ) (x : Draft) (es : List Element) → Ahead n (c ∷ cs) x es → (y : Draft) (fs : List Element) → Step d known tag c x es y fs → Ahead n cs y fs
  unfolding elements_in orderly
  ahead_step n c cs x es a y fs s =
      let o = both _ _ a.orders in
      rw (← s.draft, ← s.list)
      (record {
        so_far = pick (leb ELEMENT c) (suc a.so_far) a.so_far;
        sum = sum_moves (leb ELEMENT c) a.so_far (elements_in cs) ∙ a.sum;
        at_hand_lem = pick (eqb c CARDINALITY) true a.at_hand_lem;
        held = kept_held d known tag a.so_far c a.at_hand_lem x es a.held a.ready s.fine o.0;
        ready = card_ready d known tag a.so_far c a.at_hand_lem x es a.held a.ready s.fine;
        orders = o.1;
      })

  fields_held : (n : ℕ) (cs : List ℕ) → orderly tag false cs ≡ true → (x : Draft) (es : List Element) → Held known tag n x es
      → (y : Draft) (fs : List Element) (is : List Item) → fields d known tag cs x es ≡ next y fs is → Held known tag (n + elements_in cs) y fs
  unfolding elements_in
  fields_held n cs o x es h y fs is e =
      let a : Ahead (n + elements_in cs) [] y fs =
      fields_keep d known tag (Ahead (n + elements_in cs)) (ahead_step (n + elements_in cs)) cs x es
      (record { so_far = n; sum = refl; at_hand_lem = false; held = h; ready = λ z. clash z; orders = o }) y fs is e
      in
      let q : a.so_far ≡ n + elements_in cs = sym (add-zero a.so_far) ∙ a.sum in
      rw q at a.held

  recount : (n m : ℕ) (x : Draft) (es : List Element) → m ≤ 512 → Held known tag n x es → Held known tag n (counting m x) es
  recount n m x es l h = record { each = h.each; high = h.high; count = h.count; number = h.number; few = l }

  -- a run of m items
  items_held : (n m : ℕ) (cs : List ℕ) → orderly tag false cs ≡ true → m ≤ 512 → (x : Draft) (es : List Element) → Held known tag n x es
      → (y : Draft) (fs : List Element) (is : List Item) → items d known tag cs m x es ≡ next y fs is → Held known tag (n + m * elements_in cs) y fs
  items_held n m cs o l x es h y fs is e =
      let E = elements_in cs in
      let q : Left 0 y fs =
      items_keep d known tag cs Left
      (λ k z gs q y fs is e.
      let g : Held known tag (q.1 + E) y fs = fields_held q.1 cs o (counting (suc k) z) gs (recount q.1 (suc k) z gs q.0 q.3) y fs is e in
      (omega (arith, q.0), q.1 + E, omega (arith, q.2), g))
      m x es (l, n, refl, h) y fs is e
      in
      let w : q.1 ≡ n + m * E = omega (arith, q.2) in
      rw w at q.3
    where
      Left : ℕ → Draft → List Element → Type 0
      Left k y fs = (k ≤ 512) × (j : ℕ) × (j + k * elements_in cs ≡ n + m * elements_in cs) × Held known tag j y fs

  section_held : (n : ℕ) (cs is : List ℕ) → orderly tag false cs ≡ true → orderly tag false is ≡ true → (x : Draft) (es : List Element) → Held known tag n x es
      → (y : Draft) (fs : List Element) (js : List Item) → section d known tag cs is x es ≡ next y fs js → (m : ℕ) × (m ≤ 512) × Held known tag (n + elements_in cs + m * elements_in is) y fs
  unfolding section
  section_held n cs is o p x es h y fs js e =
      let b = between _ _ y fs js e in
      let g = fields_held n cs o (counting 0 x) es (recount n 0 x es (omega arith) h) b.draft b.list b.read b.first in
      (b.draft.left, g.few, items_held (n + elements_in cs) b.draft.left is p g.few b.draft b.list g y fs b.rest b.second)

  -- all elements of a block with a known tag
  pub block_held : known_tag tag ≡ true → (at : ℕ) (y : Draft) (fs : List Element) (js : List Item) → block_from d known tag at ≡ next y fs js
      → (n : ℕ) × (m : ℕ) × (n ≤ 512) × (m ≤ 512) × Held known tag (total tag n m) y fs
  unfolding block_from total raised_by
  block_held k at y fs js e =
      let o = all_orderly tag k in
      let b = between _ _ y fs js e in
      let start : Held known tag 0 (record { at = at; left = 0; free = 0; format = None; height = 1; card = 0; name = 0; count = 0 }) [] =
      record { each = λ j l. absurd (omega arith); high = refl; count = refl; number = refl; few = omega arith }
      in
      let f = section_held 0 (layout tag).head (layout tag).first o.head o.first _ [] start b.draft b.list b.read b.first in
      let s = section_held _ (layout tag).more (layout tag).last o.more o.last b.draft b.list f.2 y fs b.rest b.second in
      let w : 0 + elements_in (layout tag).head + f.0 * elements_in (layout tag).first + elements_in (layout tag).more + s.0 * elements_in (layout tag).last
      ≡ elements_in (layout tag).head + f.0 * elements_in (layout tag).first + (elements_in (layout tag).more + s.0 * elements_in (layout tag).last) =
      omega arith in
      (f.0, s.0, f.1, s.1, rw w at s.2)
