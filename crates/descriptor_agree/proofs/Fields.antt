-- Each field of a block, by both definitions: the same bytes, the same rule.
use mathlib.Core.Path.{◌≡◌, refl, ap, sym, ◌∙◌}
use mathlib.Core.Bool.{Bool, true, false, not}
use mathlib.Core.List.{List, [], ◌∷◌, map}
use mathlib.Core.Option.{none, some}
use Rattle.std.specs.Prelude.{Err}
use Prim.Native.Nat.{ℕ, zero, suc, ◌+◌, ◌≤◌, ◌<◌}
use native.Mathlib.Omega.{arith}
use native.Mathlib.Nat.{not-suc-le-zero}
use lib.Dec.{leb, ltb, eqb}
use lib.ListN.{length, take, drop, get_or, get_elem?}
use borrow.Author.Tests.{leb-true, leb-false, eqb-true, eqb-false, ne_eqb, eq-eqb, ltb-true, ltb-false, lt-ltb, le-ltb}
use Rattle.descriptor_fields.specs.Layouts.{ID, TEXT, NAME, BOOL, FREE, OPERATION, CARDINALITY, SHAPE_FLAGS, INPUT_FLAGS, BOUND, DIMENSIONS}
use Rattle.descriptor_fields.specs.Layouts.{ANCESTORS, COUNT, ANCESTOR, ANY, OBJECT, ELEMENT, SET_ELEMENT, ARRAY_ELEMENT, RANGE_ELEMENT}
use Rattle.descriptor_fields.specs.Layouts.{valued as valuedTag, object_type as objectTag}
use Rattle.descriptor_fields.specs.Fields.{Known, no_block, Element, Verdict, fine, id_at, extent, width_of, text_at, number_at, taken, id_fault, named}
use Rattle.descriptor_fields.specs.Fields.{text_fault, permits, number_fault, formatless, count_fault, decides, fits, kind_fault, ref_fault}
use Rattle.descriptor_fields.specs.Fields.{fault as fault_of}
use Rattle.descriptor_fields.specs.declared.Draft.{Draft}
use Rattle.protocol.specs.Descriptors.{Block, unparsed, parsed, Reader, number_field, passing, text_field, bool_field, operation, cardinal_of}
use Rattle.protocol.specs.Descriptors.{output_flags, input_flags, dimensions, unbound, item_count, new_name, new_id, refers_to, reference}
use Rattle.protocol.specs.Descriptors.{any_block, object_reference, element, height_at, has_values, of_objects, set_element, array_element}
use Rattle.protocol.specs.Descriptors.{range_element, Text}
use Rattle.descriptor_agree.proofs.Agree.{judged, verdict, then_rule, verdict_pick, number_at_lem, checked_at, checked_more, judged_then, text_at_lem, pick_at}
use Rattle.protocol.specs.Numbers.{pick, be, any, same_bytes}
use Rattle.protocol.specs.Text.{well_formed}
use Rattle.protocol.specs.Messages.{is_cardinality}

-- ---- the earlier blocks

-- what the code's own definition knows of a block, and protocol's block
pub record Pair (d : List ℕ) (k : Known) (b : Block) : Type 0 where
  pub tags : k.tag ≡ b.tag
  pub ids : id_at d (k.start + 1) ≡ b.id
  pub heights : k.height ≡ b.height

module _ (d : List ℕ) where
  abbrev pub Pairs : List Known → List Block → Type 0
  Pairs [] [] = Unit {0}
  Pairs [] (b ∷ bs) = ⊥
  Pairs (k ∷ ks) [] = ⊥
  Pairs (k ∷ ks) (b ∷ bs) = Pair d k b × Pairs ks bs

  pub pairs_length : (ks : List Known) (bs : List Block) → Pairs ks bs → length ks ≡ length bs
  pairs_length [] [] p = refl
  pairs_length [] (b ∷ bs) p = elim p [ ]
  pairs_length (k ∷ ks) [] p = elim p [ ]
  pairs_length (k ∷ ks) (b ∷ bs) p = ap suc (pairs_length ks bs p.1)

  pub pairs_at : (ks : List Known) (bs : List Block) → Pairs ks bs → (t : ℕ) → t < length ks → (b : Block) × (get_elem? bs t ≡ some b) × Pair d (get_or ks t no_block) b
  pairs_at [] bs p t h = absurd (not-suc-le-zero h)
  pairs_at (k ∷ ks) [] p t h = absurd p
  pairs_at (k ∷ ks) (b ∷ bs) p zero h = (b, refl, p.0)
  pairs_at (k ∷ ks) (b ∷ bs) p (suc t) h = pairs_at ks bs p.1 t (omega arith)

  pub pairs_past : (ks : List Known) (bs : List Block) → Pairs ks bs → (t : ℕ) → length ks ≤ t → get_elem? bs t ≡ none
  pairs_past [] [] p t h = refl
  pairs_past [] (b ∷ bs) p t h = elim p [ ]
  pairs_past (k ∷ ks) [] p t h = elim p [ ]
  pairs_past (k ∷ ks) (b ∷ bs) p zero h = absurd (not-suc-le-zero h)
  pairs_past (k ∷ ks) (b ∷ bs) p (suc t) h = pairs_past ks bs p.1 t (omega arith)

  pub pairs_height : (ks : List Known) (bs : List Block) → Pairs ks bs → (t : ℕ) → (get_or ks t no_block).height ≡ height_at bs t
  unfolding height_at
  pairs_height [] [] p t = refl
  pairs_height [] (b ∷ bs) p t = elim p [ ]
  pairs_height (k ∷ ks) [] p t = elim p [ ]
  pairs_height (k ∷ ks) (b ∷ bs) p zero = p.0.heights
  pairs_height (k ∷ ks) (b ∷ bs) p (suc t) = pairs_height ks bs p.1 t

  pub pairs_tag : (ks : List Known) (bs : List Block) → Pairs ks bs → (t : ℕ) → (get_or ks t no_block).tag ≡ get_or (map (λ (b : Block). b.tag) bs) t 0
  pairs_tag [] [] p t = refl
  pairs_tag [] (b ∷ bs) p t = elim p [ ]
  pairs_tag (k ∷ ks) [] p t = elim p [ ]
  pairs_tag (k ∷ ks) (b ∷ bs) p zero = p.0.tags
  pairs_tag (k ∷ ks) (b ∷ bs) p (suc t) = pairs_tag ks bs p.1 t

  eqb_sym : (a b : ℕ) → eqb a b ≡ eqb b a
  eqb_sym a b = go (eqb b a) refl
    where
      go : (t : Bool) → eqb b a ≡ t → eqb a b ≡ t
      go true e = eq-eqb a b (sym (eqb-true b a e))
      go false e = ne_eqb a b (λ h. eqb-false b a e (sym h))

  pub pairs_taken : (ks : List Known) (bs : List Block) → Pairs ks bs → (i : ℕ) → taken d ks i ≡ any (eqb i) (map (λ (b : Block). b.id) bs)
  unfolding taken any
  pairs_taken [] [] p i = refl
  pairs_taken [] (b ∷ bs) p i = elim p [ ]
  pairs_taken (k ∷ ks) [] p i = elim p [ ]
  pairs_taken (k ∷ ks) (b ∷ bs) p i = rw (p.0.ids, eqb_sym b.id i) (ap (pick (eqb i b.id) true) (pairs_taken ks bs p.1 i))

heard : (d : List ℕ) (fs : List Element) (t : Text) → any (λ e. same_bytes (text_at d e.name) t) fs ≡ any (λ o. same_bytes o t) (map (λ (e : Element). text_at d e.name) fs)
unfolding any
heard d [] t = refl
heard d (f ∷ fs) t = ap (pick (same_bytes (text_at d f.name) t) true) (heard d fs t)

not_pick : (t q : Bool) → not (pick t true q) ≡ pick t false (not q)
unfolding pick
not_pick true q = refl
not_pick false q = refl

pick_true : (t : Bool) → pick t true false ≡ t
unfolding pick
pick_true true = refl
pick_true false = refl

module _ (d : List ℕ) (k : Known) (b : Block) (p : Pair d k b) where
  pub valued_fit : valuedTag k.tag ≡ has_values b
  unfolding valuedTag has_values any
  valued_fit = rw p.tags (simp not_pick)

  object_fit : objectTag k.tag ≡ of_objects b
  unfolding objectTag of_objects any
  object_fit = rw p.tags (simp pick_true)

  set_fit : pick (eqb k.tag 0) false (valuedTag k.tag) ≡ set_element b
  unfolding valuedTag set_element any
  set_fit = rw p.tags (simp not_pick)

  array_fit : pick (eqb k.tag 0) false (pick (eqb k.tag 6) false (valuedTag k.tag)) ≡ array_element b
  unfolding valuedTag array_element any
  array_fit = rw p.tags (simp not_pick)

  range_fit : eqb k.tag 3 ≡ range_element b
  unfolding range_element
  range_fit = rw p.tags

tests : (s t : Bool) (h : ℕ) → then_rule (pick s (pick t fine (Err 14)) (Err 13)) (pick (ltb h 32) fine (Err 17)) ≡ pick s (pick t (pick (leb 32 h) (Err 17) fine) (Err 14)) (Err 13)
unfolding then_rule pick
tests true true h = go (leb 32 h) refl
  where
    go : (r : Bool) → leb 32 h ≡ r → ◌≡◌ {A = Verdict} (pick (ltb h 32) fine (Err 17)) (pick r (Err 17) fine)
    go true e = rw (le-ltb h 32 (leb-true 32 h e))
    go false e = rw (lt-ltb h 32 (leb-false 32 h e))
tests true false h = refl
tests false t h = refl

-- ---- fields

module _ (d : List ℕ) (known : List Known) (tag : ℕ) (bs : List Block) (pairs : Pairs d known bs) (x : Draft) (es : List Element) (inside : x.at ≤ length d) where
  -- what a reader makes of a field's bytes is what the code's own definition says of them
  abbrev pub Same : {A : Type 0} → ℕ → Reader A → A → Type 0
  Same c reader a = reader (drop x.at d) ≡ judged d x.at (extent d c x.at) (fault_of d known tag c x es) a

  here : List ℕ
  here = drop x.at d

  ruled : (c w n : ℕ) (rule : ℕ → Bool) → extent d c x.at ≡ w
      → fault_of d known tag c x es ≡ pick (rule (be (take w (drop x.at d)))) fine (Err n)
      → Same c (passing n rule (number_field w)) (be (take w (drop x.at d)))
  ruled c w n rule e f = checked_at d x.at inside n rule (number_field w) w (be (take w (drop x.at d))) (number_at_lem d x.at inside w) ∙ rw (e, f)

  pub bool_same : Same BOOL bool_field (be (take 1 (drop x.at d)))
  unfolding bool_field extent fault_of number_fault permits number_at width_of pick
  bool_same = ruled BOOL 1 12 (λ v. leb v 1) refl refl

  pub free_same : Same FREE bool_field (be (take 1 (drop x.at d)))
  unfolding bool_field extent fault_of number_fault permits number_at width_of pick
  free_same = ruled FREE 1 12 (λ v. leb v 1) refl refl

  pub operation_same : Same OPERATION operation (be (take 1 (drop x.at d)))
  unfolding operation any extent fault_of number_fault permits number_at width_of pick
  operation_same = ruled OPERATION 1 12 (λ v. any (eqb v) (1 ∷ 2 ∷ [])) refl (two (eqb (be (take 1 (drop x.at d))) 1) (eqb (be (take 1 (drop x.at d))) 2))
    where
      two : (s t : Bool) → ◌≡◌ {A = Verdict} (pick (pick s true t) fine (Err 12)) (pick (pick s true (pick t true false)) fine (Err 12))
      two true t = refl
      two false true = refl
      two false false = refl

  pub cardinal_same : Same CARDINALITY cardinal_of (be (take 1 (drop x.at d)))
  unfolding cardinal_of extent fault_of number_fault permits number_at width_of pick
  cardinal_same = ruled CARDINALITY 1 12 is_cardinality refl refl

  pub output_flags_same : Same SHAPE_FLAGS output_flags (be (take 4 (drop x.at d)))
  unfolding output_flags extent fault_of number_fault permits number_at width_of pick
  output_flags_same = ruled SHAPE_FLAGS 4 12 (λ v. ltb v 8) refl refl

  pub input_flags_same : Same INPUT_FLAGS input_flags (be (take 4 (drop x.at d)))
  unfolding input_flags extent fault_of number_fault permits number_at width_of pick
  input_flags_same = ruled INPUT_FLAGS 4 12 (λ v. eqb v 0) refl refl

  pub bound_same : Same BOUND unbound (be (take 4 (drop x.at d)))
  unfolding unbound extent fault_of number_fault permits number_at width_of pick
  bound_same = ruled BOUND 4 12 (λ v. eqb v 0xffffffff) refl refl

  pub dimensions_same : Same DIMENSIONS dimensions (be (take 2 (drop x.at d)))
  unfolding dimensions extent fault_of number_fault permits number_at width_of pick
  dimensions_same = ruled DIMENSIONS 2 12 (λ v. eqb v 1) refl refl

  -- counts
  pub over : (v : ℕ) (m : Verdict) → pick (ltb 512 v) m fine ≡ pick (leb v 512) fine m
  unfolding pick
  over v m = go (leb v 512) refl
    where
      go : (t : Bool) → leb v 512 ≡ t → pick (ltb 512 v) m fine ≡ pick t fine m
      go true e = rw (le-ltb 512 v (leb-true v 512 e))
      go false e = rw (lt-ltb 512 v (leb-false v 512 e))

  pub count_same : Same COUNT item_count (be (take 2 (drop x.at d)))
  unfolding item_count extent fault_of count_fault number_at width_of pick
  count_same = ruled COUNT 2 17 (λ v. leb v 512) refl (over (be (take 2 (drop x.at d))) (Err 17))

  idle : (t : Bool) → ◌≡◌ {A = Verdict} (pick t fine fine) fine
  unfolding pick
  idle true = refl
  idle false = refl

  pub ancestors_same : formatless tag x ≡ false → Same ANCESTORS item_count (be (take 2 (drop x.at d)))
  unfolding item_count extent fault_of count_fault number_at width_of pick
  ancestors_same e = ruled ANCESTORS 2 17 (λ v. leb v 512) refl (rw (e, idle (eqb (be (take 2 (drop x.at d))) 0)) (over (be (take 2 (drop x.at d))) (Err 17)))

  pub ancestors_some : eqb (be (take 2 (drop x.at d))) 0 ≡ false → Same ANCESTORS item_count (be (take 2 (drop x.at d)))
  unfolding item_count extent fault_of count_fault number_at width_of pick
  ancestors_some e = ruled ANCESTORS 2 17 (λ v. leb v 512) refl (rw e (over (be (take 2 (drop x.at d))) (Err 17)))

  -- ids and texts
  pub id_same : Same ID (new_id bs) (be (take 16 (drop x.at d)))
  unfolding new_id extent fault_of id_fault id_at any pick
  id_same =
      ruled ID 16 15 (λ i. not (any (eqb i) (0 ∷ map (λ (b : Block). b.id) bs))) refl
      (rw (pairs_taken d known bs pairs (be (take 16 (drop x.at d)))) (two (eqb (be (take 16 (drop x.at d))) 0) (any (eqb (be (take 16 (drop x.at d)))) (map (λ (b : Block). b.id) bs))))
    where
      two : (s t : Bool) → ◌≡◌ {A = Verdict} (pick s (Err 15) (pick t (Err 15) fine)) (pick (not (pick s true t)) fine (Err 15))
      two true t = refl
      two false true = refl
      two false false = refl

  pub text_same : Same TEXT text_field (text_at d x.at)
  unfolding extent fault_of text_fault pick
  text_same = text_at_lem d x.at inside

  -- a name that is not among the others'
  pub name_same : (others : List Text) → map (λ (e : Element). text_at d e.name) es ≡ others → Same NAME (new_name others) (text_at d x.at)
  unfolding new_name extent fault_of text_fault named then_rule pick
  name_same others e =
      checked_more d x.at inside 16 (pick (well_formed (text_at d x.at)) fine (Err 12)) (λ t. not (any (λ o. same_bytes o t) others)) text_field _ (text_at d x.at) (text_at_lem d x.at inside)
      ∙ rw (← e, ← heard d es (text_at d x.at)) (ap (λ (v : Verdict). judged d x.at (extent d NAME x.at) v (text_at d x.at))
      (two (well_formed (text_at d x.at)) (any (λ e. same_bytes (text_at d e.name) (text_at d x.at)) es)))
    where
      two : (s t : Bool) → then_rule (pick s fine (Err 12)) (pick (not t) fine (Err 16)) ≡ pick s (pick t (Err 16) fine) (Err 12)
      two true true = refl
      two true false = refl
      two false t = refl

  -- references: what is asked of the block is the same
  module _ (old : Known → Bool) (new : Block → Bool) (same : (k : Known) (b : Block) → Pair d k b → old k ≡ new b) where
    reference_at : reference bs new (drop x.at d)
        ≡ judged d x.at 2 (pick (ltb (be (take 2 (drop x.at d))) (length known)) (pick (old (get_or known (be (take 2 (drop x.at d))) no_block)) fine (Err 14)) (Err 13)) (be (take 2 (drop x.at d)))
    unfolding reference judged refers_to pick verdict
    reference_at =
        rw (number_at_lem d x.at inside 2, judged_then d x.at inside 2 (be (take 2 (drop x.at d))) (λ t. refers_to bs new t (get_elem? bs t)))
        (go (be (take 2 (drop x.at d))) (ltb (be (take 2 (drop x.at d))) (length known)) refl)
      where
        go : (v : ℕ) (t : Bool) → ltb v (length known) ≡ t
            → pick (leb (x.at + 2) (length d)) (refers_to bs new v (get_elem? bs v) (drop (x.at + 2) d)) (unparsed 10) ≡ judged d x.at 2 (pick t (pick (old (get_or known v no_block)) fine (Err 14)) (Err 13)) v
        go v true e =
            let q = pairs_at d known bs pairs v (ltb-true v (length known) e) in
            rw (q.1, same (get_or known v no_block) q.0 q.2, pick_at (new q.0)) (rw (verdict_pick (new q.0) 14 (parsed v (drop (x.at + 2) d))))
        go v false e = rw (pairs_past d known bs pairs v (ltb-false v (length known) e)) refl

    -- the height of the block comes after its kind
    element_at_lem : element bs new (drop x.at d)
        ≡ judged d x.at 2
        (pick (ltb (be (take 2 (drop x.at d))) (length known))
        (pick (old (get_or known (be (take 2 (drop x.at d))) no_block)) (pick (leb 32 (get_or known (be (take 2 (drop x.at d))) no_block).height) (Err 17) fine) (Err 14)) (Err 13))
        (be (take 2 (drop x.at d)))
    unfolding element
    element_at_lem =
        checked_more d x.at inside 17 _ (λ t. ltb (height_at bs t) 32) (reference bs new) 2 (be (take 2 (drop x.at d))) reference_at
        ∙ ap (λ (v : Verdict). judged d x.at 2 v (be (take 2 (drop x.at d))))
        (rw (pairs_height d known bs pairs) (tests (ltb (be (take 2 (drop x.at d))) (length known))
        (old (get_or known (be (take 2 (drop x.at d))) no_block)) (height_at bs (be (take 2 (drop x.at d))))))

  pub any_same : Same ANY (any_block bs) (be (take 2 (drop x.at d)))
  unfolding any_block extent fault_of ref_fault kind_fault fits number_at width_of pick
  any_same = reference_at (λ _. true) (λ _. true) (λ _ _ _. refl)

  pub ancestor_same : decides tag x ≡ false → Same ANCESTOR (any_block bs) (be (take 2 (drop x.at d)))
  unfolding any_block extent fault_of ref_fault kind_fault fits number_at width_of pick
  ancestor_same e = rw e (reference_at (λ _. true) (λ _. true) (λ _ _ _. refl))

  pub object_same : (free : ℕ) → x.free ≡ free → Same OBJECT (object_reference bs free) (be (take 2 (drop x.at d)))
  unfolding object_reference extent fault_of ref_fault kind_fault fits number_at width_of pick
  object_same free e = rw e (go (eqb free 1))
    where
      go : (t : Bool)
          → pick t (number_field 2) (reference bs of_objects) (drop x.at d)
          ≡ judged d x.at 2
          (pick t fine (pick (ltb (be (take 2 (drop x.at d))) (length known)) (pick (objectTag (get_or known (be (take 2 (drop x.at d))) no_block).tag) fine (Err 14)) (Err 13)))
          (be (take 2 (drop x.at d)))
      go true = number_at_lem d x.at inside 2
      go false = reference_at (λ k. objectTag k.tag) of_objects (object_fit d)

  pub component_same : eqb x.free 1 ≡ false → Same OBJECT (reference bs of_objects) (be (take 2 (drop x.at d)))
  unfolding extent fault_of ref_fault kind_fault fits number_at width_of pick
  component_same e = rw e (reference_at (λ k. objectTag k.tag) of_objects (object_fit d))

  pub element_same : Same ELEMENT (element bs has_values) (be (take 2 (drop x.at d)))
  unfolding extent fault_of ref_fault kind_fault fits number_at width_of pick
  element_same = element_at_lem (λ k. valuedTag k.tag) has_values (valued_fit d)

  pub set_element_same : Same SET_ELEMENT (element bs set_element) (be (take 2 (drop x.at d)))
  unfolding extent fault_of ref_fault kind_fault fits number_at width_of pick
  set_element_same = element_at_lem (λ k. pick (eqb k.tag 0) false (valuedTag k.tag)) set_element (set_fit d)

  pub array_element_same : Same ARRAY_ELEMENT (element bs array_element) (be (take 2 (drop x.at d)))
  unfolding extent fault_of ref_fault kind_fault fits number_at width_of pick
  array_element_same = element_at_lem (λ k. pick (eqb k.tag 0) false (pick (eqb k.tag 6) false (valuedTag k.tag))) array_element (array_fit d)

  pub range_element_same : Same RANGE_ELEMENT (element bs range_element) (be (take 2 (drop x.at d)))
  unfolding extent fault_of ref_fault kind_fault fits number_at width_of pick
  range_element_same = element_at_lem (λ k. eqb k.tag 3) range_element (range_fit d)
