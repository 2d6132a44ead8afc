-- Each kind of block, by both definitions.
use mathlib.Core.Path.{◌≡◌, refl, sym, ◌∙◌}
use mathlib.Core.Bool.{Bool, true, false}
use mathlib.Core.List.{List, [], ◌∷◌, ◌++◌, map, map-append}
use mathlib.Core.Option.{none, some}
use Rattle.std.specs.Prelude.{Err}
use Prim.Native.Nat.{ℕ, suc, ◌+◌, ◌≤◌, ◌<◌}
use native.Mathlib.Omega.{arith}
use lib.ListN.{length, take, drop, get_or}
use borrow.Author.Tests.{ltb-true}
use Rattle.descriptor_fields.specs.Layouts.{TEXT, NAME, BOOL, FREE, OPERATION, CARDINALITY, SHAPE_FLAGS, INPUT_FLAGS, BOUND, DIMENSIONS}
use Rattle.descriptor_fields.specs.Layouts.{ANCESTORS, COUNT, ANCESTOR, ANY, OBJECT, ELEMENT, SET_ELEMENT, ARRAY_ELEMENT, RANGE_ELEMENT}
use Rattle.descriptor_fields.specs.Layouts.{valued as valuedTag}
use Rattle.descriptor_fields.specs.Fields.{Known, no_block, Element, Verdict, fine, format_number, text_at, number_at, width_of, formatless, fault as fault_of, ref_fault, kept, grown, height_after}
use Rattle.descriptor_fields.specs.declared.Draft.{Draft}
use Rattle.descriptor_blocks.specs.Blocks.{Reading, stop, next, noted, and_then, fields, items, section, counting}
use Rattle.descriptor_blocks.specs.Descriptor.{node_of as oldNode, only_ref}
use Rattle.protocol.specs.Descriptors.{Block, BlockKind, set_of, output_shape, tuple_of, named_tuple, array_of, enum_of, input_shape}
use Rattle.protocol.specs.Descriptors.{range_of, compound_type, sql_record, types, Schema, OutputElement, InputElement, NamedElement}
use Rattle.protocol.specs.Descriptors.{Parsed, unparsed, parsed, text_field, counted, schema, element, reference, has_values, of_objects}
use Rattle.protocol.specs.Descriptors.{height_at, height_over, Text, output_element, tuple_element, input_element, record_element}
use Rattle.protocol.specs.Descriptors.{annotation_block, fields_of}
use Rattle.descriptor_agree.proofs.Agree.{Agree, agree_then, agree_map, agree_field, agree_last}
use Rattle.descriptor_agree.proofs.Fields.{Pairs, pairs_height, pairs_tag, bool_same, free_same, operation_same, cardinal_same}
use Rattle.descriptor_agree.proofs.Fields.{output_flags_same, input_flags_same, bound_same, dimensions_same, text_same, name_same}
use Rattle.descriptor_agree.proofs.Fields.{count_same, any_same, object_same, component_same, element_same, set_element_same}
use Rattle.descriptor_agree.proofs.Fields.{array_element_same, range_element_same}
use Rattle.descriptor_agree.proofs.Runs.{rest, rest_cons, rest_end, agree_run, Fresh, schema_agrees}
use Rattle.protocol.specs.Numbers.{pick, be, at_least}
use Rattle.protocol.specs.Compiling.{block_node}

-- ---- the elements' types so far

abbrev pub Below : ℕ → List ℕ → Type 0
Below n [] = Unit {0}
Below n (t ∷ ts) = (t < n) × Below n ts

below_more : (n : ℕ) (ts : List ℕ) (t : ℕ) → Below n ts → t < n → Below n (ts ++ (t ∷ []))
below_more n [] t b h = (h, tt)
below_more n (s ∷ ts) t b h = (b.0, below_more n ts t b.1 h)

height_more : (bs : List Block) (h : ℕ) (ts : List ℕ) (t : ℕ) → height_over bs h (ts ++ (t ∷ [])) ≡ at_least (height_over bs h ts) (height_at bs t + 1)
unfolding height_over
height_more bs h [] t = refl
height_more bs h (s ∷ ts) t = height_more bs (at_least h (height_at bs s + 1)) ts t

pub record Listed (known : List Known) (bs : List Block) (h : ℕ) (es : List Element) (ts : List ℕ) : Type 0 where
  pub refs : map (λ (e : Element). e.ref) es ≡ ts
  pub height : h ≡ height_over bs 1 ts
  pub below : Below (length known) ts

-- named elements so far
pub record Named {A : Type 0} (d : List ℕ) (known : List Known) (bs : List Block) (type : A → ℕ) (name : A → Text) (x : Draft) (es : List Element) (before : List A) : Type 0 where
  pub listed : Listed known bs x.height es (map type before)
  pub names : map (λ (e : Element). text_at d e.name) es ≡ map name before

-- elements of shapes so far
pub record Shaped {A : Type 0} (type cardinal : A → ℕ) (known : List Known) (bs : List Block) (x : Draft) (es : List Element) (before : List A) : Type 0 where
  pub listed : Listed known bs x.height es (map type before)
  pub cards : map (λ (e : Element). e.card) es ≡ map cardinal before

-- what both definitions make of a block
pub record Final (known : List Known) (bs : List Block) (tag : ℕ) (x : Draft) (es : List Element) (kind : BlockKind) : Type 0 where
  pub height : x.height ≡ height_over bs 1 (types kind)
  pub node : block_node bs kind ≡ pick (valuedTag tag) (some (oldNode known tag (format_number x.format) es)) none
  pub below : Below (length known) (types kind)

snoc_map : {A B C : Type 0} (f : A → C) (g : B → C) (xs : List A) (ys : List B) (a : A) (b : B) → map f xs ≡ map g ys → f a ≡ g b → map f (xs ++ (a ∷ [])) ≡ map g (ys ++ (b ∷ []))
snoc_map f g xs ys a b e h = map-append f xs (a ∷ []) ∙ rw (e, h) (sym (map-append g ys (b ∷ [])))

only_of : (fs : List Element) (t : ℕ) → map (λ (e : Element). e.ref) fs ≡ t ∷ [] → only_ref fs ≡ t
unfolding only_ref
only_of [] t e = let z : ◌≡◌ {A = ℕ} 0 1 = cc in absurd (omega arith)
only_of (f ∷ fs) t e = cc

named_13 : (t : Bool) (k : Verdict) → pick t k (Err 13) ≡ fine → t ≡ true
unfolding pick
named_13 true k e = refl
named_13 false k e = let z : ◌≡◌ {A = ℕ} 0 1 = cc in absurd (omega arith)

module _ (d : List ℕ) (known : List Known) (bs : List Block) (pairs : Pairs d known bs) where
  listed_none : (x : Draft) (es : List Element) → Fresh x es → Listed known bs x.height es []
  unfolding height_over
  listed_none x es f = record { refs = rw f.none_yet; height = f.height; below = tt }

  listed_more : (h : ℕ) (es : List Element) (ts : List ℕ) (e : Element) → Listed known bs h es ts → e.ref < length known
      → Listed known bs (at_least h ((get_or known e.ref no_block).height + 1)) (es ++ (e ∷ [])) (ts ++ (e.ref ∷ []))
  listed_more h es ts e l b =
      record {
        refs = map-append _ es (e ∷ []) ∙ rw l.refs;
        height = rw (pairs_height d known bs pairs e.ref, l.height) (sym (height_more bs 1 ts e.ref));
        below = below_more (length known) ts e.ref l.below b;
      }

  -- nothing comes after the first section
  pub agree_done : {A : Type 0} (tag : ℕ) (R Q : Draft → List Element → A → Type 0) (r : Reading) (p : Parsed A) → Agree d R r p
      → ((x : Draft) (es : List Element) (a : A) → R x es a → Q (counting 0 x) es a) → Agree d Q (and_then r (section d known tag [] [])) p
  unfolding and_then section fields items noted
  agree_done tag R Q (stop n) (unparsed m) e k = e
  agree_done tag R Q (stop n) (parsed a s) e k = e
  agree_done tag R Q (next x es is) (unparsed m) e k = e
  agree_done tag R Q (next x es is) (parsed a s) e k = (e.0, e.1, k x es a e.2)

  module _ (tag : ℕ) where
    tuple_step : (n : ℕ) (x : Draft) (es : List Element) (before : List ℕ) → x.at ≤ length d → Listed known bs x.height es before
        → Agree d (λ y fs a. Listed known bs y.height fs (before ++ (a ∷ []))) (fields d known tag (ELEMENT ∷ []) (counting (suc n) x) es) (element bs has_values (drop x.at d))
    unfolding fields kept height_after grown pick number_at width_of fault_of ref_fault
    tuple_step n x es before h i =
        agree_last d known tag _ ELEMENT (counting (suc n) x) es _ (be (take 2 (drop x.at d))) (element_same d known tag bs pairs (counting (suc n) x) es h)
        (λ l z. listed_more x.height es before (record { name = x.name; ref = be (take 2 (drop x.at d)); card = x.card }) i (ltb-true _ _ (named_13 _ _ z)))

  -- a run of fields with no items after it
  pub items_none : {A : Type 0} (tag : ℕ) (Q : Draft → List Element → A → Type 0) (n : ℕ) (x : Draft) (es : List Element) (p : Parsed A)
      → n ≡ 0 → Agree d Q (next x es []) p → Agree d Q (items d known tag [] n x es) p
  unfolding items
  items_none tag Q n x es p e a = rw e a

  final_set : (y : Draft) (fs : List Element) (v : ℕ) → Listed known bs y.height fs (v ∷ []) → Final known bs 0 y fs (set_of v)
  unfolding types block_node oldNode valuedTag pick
  final_set y fs v i = record { height = i.height; node = rw (only_of fs v i.refs, pairs_tag d known bs pairs v); below = i.below }

  final_array : (y : Draft) (fs : List Element) (s : Schema) (v : ℕ) → Listed known bs y.height fs (v ∷ []) → Final known bs 6 y fs (array_of s v)
  unfolding types block_node oldNode valuedTag pick
  final_array y fs s v i = record { height = i.height; node = rw (only_of fs v i.refs); below = i.below }

  final_range : (y : Draft) (fs : List Element) (s : Schema) (v : ℕ) → Listed known bs y.height fs (v ∷ []) → Final known bs 9 y fs (range_of s v)
  unfolding types block_node oldNode valuedTag pick
  final_range y fs s v i = record { height = i.height; node = rw (only_of fs v i.refs); below = i.below }

  -- the only element
  listed_one : (x : Draft) (es : List Element) (v : ℕ) → Fresh x es → v < length known
      → Listed known bs (at_least x.height ((get_or known v no_block).height + 1)) (es ++ (record { name = x.name; ref = v; card = x.card } ∷ [])) (v ∷ [])
  listed_one x es v f b = listed_more x.height es [] (record { name = x.name; ref = v; card = x.card }) (listed_none x es f) b

  pub set_agrees : (i : ℕ) (x : Draft) (es : List Element) → x.at ≤ length d → Fresh x es → x.left ≡ 0
      → Agree d (Final known bs 0) (and_then (rest d known 0 (SET_ELEMENT ∷ []) [] x es) (section d known 0 [] [])) (fields_of bs 0 i (drop x.at d))
  unfolding fields_of pick kept height_after grown number_at width_of fault_of ref_fault
  set_agrees i x es h f e =
      agree_done 0 (λ y fs k. Final known bs 0 (counting 0 y) fs k) _ _ _
      (rest_cons d known 0 _ SET_ELEMENT [] [] x es _
      (agree_field d known 0 _ SET_ELEMENT x es _ (be (take 2 (drop x.at d))) _ _ (set_element_same d known 0 bs pairs x es h) (λ l z.
      rest_end d known 0 _ [] (kept d known 0 SET_ELEMENT x) (grown d SET_ELEMENT x es) _
      (items_none 0 _ x.left (kept d known 0 SET_ELEMENT x) (grown d SET_ELEMENT x es) _ e
      (refl, l, final_set _ _ _ (listed_one x es (be (take 2 (drop x.at d))) f (ltb-true _ _ (named_13 _ _ z))))))))
      (λ _ _ _ i. i)

  pub array_agrees : (i : ℕ) (x : Draft) (es : List Element) → x.at ≤ length d → Fresh x es
      → Agree d (Final known bs 6)
      (and_then (rest d known 6 (TEXT ∷ BOOL ∷ ANCESTORS ∷ []) (ANCESTOR ∷ []) x es) (section d known 6 (ARRAY_ELEMENT ∷ DIMENSIONS ∷ BOUND ∷ []) []))
      (fields_of bs 6 i (drop x.at d))
  unfolding fields_of formatless pick section rest fields kept height_after grown number_at width_of fault_of ref_fault items
  array_agrees i x es h f =
      agree_then d (λ y fs s. Fresh y fs) _ _ (schema bs (drop x.at d)) _ _ (schema_agrees d known 6 bs pairs (λ y. refl) x es h f)
      (λ y fs s l g.
      let x1 = counting 0 y in
      rest_cons d known 6 _ ARRAY_ELEMENT (DIMENSIONS ∷ BOUND ∷ []) [] x1 fs _
      (agree_field d known 6 _ ARRAY_ELEMENT x1 fs _ (be (take 2 (drop y.at d))) _ _ (array_element_same d known 6 bs pairs x1 fs l) (λ l1 z.
      let x2 = kept d known 6 ARRAY_ELEMENT x1 in
      let gs = grown d ARRAY_ELEMENT x1 fs in
      rest_cons d known 6 _ DIMENSIONS (BOUND ∷ []) [] x2 gs _
      (agree_field d known 6 _ DIMENSIONS x2 gs _ (be (take 2 (drop x2.at d))) _ _ (dimensions_same d known 6 bs pairs x2 gs l1) (λ l2 _.
      let x3 = kept d known 6 DIMENSIONS x2 in
      rest_cons d known 6 _ BOUND [] [] x3 gs _
      (agree_field d known 6 _ BOUND x3 gs _ (be (take 4 (drop x3.at d))) _ _ (bound_same d known 6 bs pairs x3 gs l2) (λ l3 _.
      rest_end d known 6 _ [] (kept d known 6 BOUND x3) gs _
      (refl, l3, final_array _ _ s _ (listed_one x1 fs (be (take 2 (drop y.at d))) (record { height = g.height; free = g.free; none_yet = g.none_yet }) (ltb-true _ _ (named_13 _ _ z)))))))))))

  pub range_agrees : (i : ℕ) (x : Draft) (es : List Element) → x.at ≤ length d → Fresh x es
      → Agree d (Final known bs 9) (and_then (rest d known 9 (TEXT ∷ BOOL ∷ ANCESTORS ∷ []) (ANCESTOR ∷ []) x es) (section d known 9 (RANGE_ELEMENT ∷ []) [])) (fields_of bs 9 i (drop x.at d))
  unfolding fields_of formatless pick section rest fields kept height_after grown number_at width_of fault_of ref_fault items
  range_agrees i x es h f =
      agree_then d (λ y fs s. Fresh y fs) _ _ (schema bs (drop x.at d)) _ _ (schema_agrees d known 9 bs pairs (λ y. refl) x es h f)
      (λ y fs s l g.
      let x1 = counting 0 y in
      rest_cons d known 9 _ RANGE_ELEMENT [] [] x1 fs _
      (agree_field d known 9 _ RANGE_ELEMENT x1 fs _ (be (take 2 (drop y.at d))) _ _ (range_element_same d known 9 bs pairs x1 fs l) (λ l1 z.
      rest_end d known 9 _ [] (kept d known 9 RANGE_ELEMENT x1) (grown d RANGE_ELEMENT x1 fs) _
      (refl, l1, final_range _ _ s _ (listed_one x1 fs (be (take 2 (drop y.at d))) (record { height = g.height; free = g.free; none_yet = g.none_yet }) (ltb-true _ _ (named_13 _ _ z)))))))

  pub tuple_agrees : (i : ℕ) (x : Draft) (es : List Element) → x.at ≤ length d → Fresh x es
      → Agree d (Final known bs 4) (and_then (rest d known 4 (TEXT ∷ BOOL ∷ ANCESTORS ∷ []) (ANCESTOR ∷ []) x es) (section d known 4 (COUNT ∷ []) (ELEMENT ∷ []))) (fields_of bs 4 i (drop x.at d))
  unfolding fields_of formatless pick section rest kept height_after grown number_at width_of types block_node oldNode valuedTag
  tuple_agrees i x es h f =
      agree_then d (λ y fs s. Fresh y fs) _ _ (schema bs (drop x.at d)) _ _ (schema_agrees d known 4 bs pairs (λ y. refl) x es h f)
      (λ y fs s l g.
      agree_map d (λ y fs ts. Listed known bs y.height fs ts) _ (tuple_of s) (rest d known 4 (COUNT ∷ []) (ELEMENT ∷ []) (counting 0 y) fs) (counted (λ _. element bs has_values) (drop y.at d))
      (agree_run d known 4 COUNT (ELEMENT ∷ []) (λ _. element bs has_values) (λ n y fs ts. Listed known bs y.height fs ts) (tuple_step 4)
      (counting 0 y) fs (count_same d known 4 bs pairs (counting 0 y) fs l) refl (listed_none y fs g))
      (λ z gs ts i. record { height = i.height; node = rw i.refs; below = i.below }))

  -- ---- blocks without elements

  pub enumeration_agrees : (i : ℕ) (x : Draft) (es : List Element) → x.at ≤ length d → Fresh x es
      → Agree d (Final known bs 7) (and_then (rest d known 7 (TEXT ∷ BOOL ∷ ANCESTORS ∷ []) (ANCESTOR ∷ []) x es) (section d known 7 (COUNT ∷ []) (TEXT ∷ []))) (fields_of bs 7 i (drop x.at d))
  unfolding fields_of formatless pick section rest fields kept height_after grown number_at width_of types block_node oldNode valuedTag height_over
  enumeration_agrees i x es h f =
      agree_then d (λ y fs s. Fresh y fs) _ _ (schema bs (drop x.at d)) _ _ (schema_agrees d known 7 bs pairs (λ y. refl) x es h f)
      (λ y fs s l g.
      agree_map d (λ y fs ts. Fresh y fs) _ (enum_of s) (rest d known 7 (COUNT ∷ []) (TEXT ∷ []) (counting 0 y) fs) (counted (λ _. text_field) (drop y.at d))
      (agree_run d known 7 COUNT (TEXT ∷ []) (λ _. text_field) (λ n y fs ts. Fresh y fs)
      (λ n x es before h f. agree_last d known 7 _ TEXT (counting (suc n) x) es _ (text_at d x.at)
      (text_same d known 7 bs pairs (counting (suc n) x) es h)
      (λ l z. record { height = f.height; free = f.free; none_yet = f.none_yet }))
      (counting 0 y) fs (count_same d known 7 bs pairs (counting 0 y) fs l) refl (record { height = g.height; free = g.free; none_yet = g.none_yet }))
      (λ z gs ts i. record { height = i.height; node = refl; below = tt }))

  pub object_agrees : (i : ℕ) (x : Draft) (es : List Element) → x.at ≤ length d → Fresh x es → x.left ≡ 0
      → Agree d (Final known bs 10) (and_then (rest d known 10 (TEXT ∷ BOOL ∷ []) [] x es) (section d known 10 [] [])) (fields_of bs 10 i (drop x.at d))
  unfolding fields_of pick kept height_after grown number_at width_of types height_over block_node valuedTag
  object_agrees i x es h f e =
      agree_done 10 (λ y fs k. Final known bs 10 (counting 0 y) fs k) _ _ _
      (rest_cons d known 10 _ TEXT (BOOL ∷ []) [] x es _
      (agree_field d known 10 _ TEXT x es _ (text_at d x.at) _ _ (text_same d known 10 bs pairs x es h) (λ l _.
      let y = kept d known 10 TEXT x in
      rest_cons d known 10 _ BOOL [] [] y es _
      (agree_field d known 10 _ BOOL y es _ (be (take 1 (drop y.at d))) _ _ (bool_same d known 10 bs pairs y es l) (λ l' _.
      rest_end d known 10 _ [] (kept d known 10 BOOL y) es _
      (items_none 10 _ x.left (kept d known 10 BOOL y) es _ e
      (refl, l', record { height = f.height; node = refl; below = tt })))))))
      (λ _ _ _ i. i)

  pub compound_agrees : (i : ℕ) (x : Draft) (es : List Element) → x.at ≤ length d → Fresh x es
      → Agree d (Final known bs 11) (and_then (rest d known 11 (TEXT ∷ BOOL ∷ OPERATION ∷ COUNT ∷ []) (OBJECT ∷ []) x es) (section d known 11 [] [])) (fields_of bs 11 i (drop x.at d))
  unfolding fields_of pick fields kept height_after grown number_at width_of types height_over block_node valuedTag
  compound_agrees i x es h f =
      agree_done 11 (λ y fs k. Final known bs 11 (counting 0 y) fs k) _ _ _
      (rest_cons d known 11 _ TEXT (BOOL ∷ OPERATION ∷ COUNT ∷ []) (OBJECT ∷ []) x es _
      (agree_field d known 11 _ TEXT x es _ (text_at d x.at) _ _ (text_same d known 11 bs pairs x es h) (λ l _.
      let x1 = kept d known 11 TEXT x in
      rest_cons d known 11 _ BOOL (OPERATION ∷ COUNT ∷ []) (OBJECT ∷ []) x1 es _
      (agree_field d known 11 _ BOOL x1 es _ (be (take 1 (drop x1.at d))) _ _ (bool_same d known 11 bs pairs x1 es l) (λ l1 _.
      let x2 = kept d known 11 BOOL x1 in
      rest_cons d known 11 _ OPERATION (COUNT ∷ []) (OBJECT ∷ []) x2 es _
      (agree_field d known 11 _ OPERATION x2 es _ (be (take 1 (drop x2.at d))) _ _ (operation_same d known 11 bs pairs x2 es l1) (λ l2 _.
      let x3 = kept d known 11 OPERATION x2 in
      agree_map d (λ y fs ts. Fresh y fs) _
      (λ cs. compound_type (record { name = text_at d x.at; defined = be (take 1 (drop x1.at d)); ancestors = [] }) (be (take 1 (drop x2.at d))) cs)
      (rest d known 11 (COUNT ∷ []) (OBJECT ∷ []) x3 es) (counted (λ _. reference bs of_objects) (drop x3.at d))
      (agree_run d known 11 COUNT (OBJECT ∷ []) (λ _. reference bs of_objects) (λ n y fs ts. Fresh y fs)
      (λ n x es before h f. agree_last d known 11 _ OBJECT (counting (suc n) x) es _ (be (take 2 (drop x.at d)))
      (component_same d known 11 bs pairs (counting (suc n) x) es h (rw f.free))
      (λ l z. record { height = f.height; free = f.free; none_yet = f.none_yet }))
      x3 es (count_same d known 11 bs pairs x3 es l2) refl (record { height = f.height; free = f.free; none_yet = f.none_yet }))
      (λ z gs ts i. record { height = i.height; node = refl; below = tt }))))))))
      (λ _ _ _ i. i)

  pub record_agrees : (i : ℕ) (x : Draft) (es : List Element) → x.at ≤ length d → Fresh x es
      → Agree d (Final known bs 13) (and_then (rest d known 13 (COUNT ∷ []) (TEXT ∷ ANY ∷ []) x es) (section d known 13 [] [])) (fields_of bs 13 i (drop x.at d))
  unfolding fields_of record_element pick fields kept height_after grown number_at width_of types height_over block_node valuedTag
  record_agrees i x es h f =
      agree_done 13 (λ y fs k. Final known bs 13 (counting 0 y) fs k) _ _ _
      (agree_map d (λ y fs ts. Fresh y fs) _ sql_record (rest d known 13 (COUNT ∷ []) (TEXT ∷ ANY ∷ []) x es) (counted (λ _. record_element bs) (drop x.at d))
      (agree_run d known 13 COUNT (TEXT ∷ ANY ∷ []) (λ _. record_element bs) (λ n y fs ts. Fresh y fs)
      (λ n x es before h f.
      let x1 = counting (suc n) x in
      agree_field d known 13 _ TEXT x1 es _ (text_at d x.at) _ _ (text_same d known 13 bs pairs x1 es h) (λ l _.
      let x2 = kept d known 13 TEXT x1 in
      agree_field d known 13 _ ANY x2 es _ (be (take 2 (drop x2.at d))) _ _ (any_same d known 13 bs pairs x2 es l)
      (λ l1 _. (refl, l1, record { height = f.height; free = f.free; none_yet = f.none_yet }))))
      x es (count_same d known 13 bs pairs x es h) refl (record { height = f.height; free = f.free; none_yet = f.none_yet }))
      (λ z gs ts i. record { height = i.height; node = refl; below = tt }))
      (λ _ _ _ i. i)

  -- ---- named elements

  listed_map : {A : Type 0} (type : A → ℕ) (h : ℕ) (es : List Element) (before : List A) (e : Element) (a : A)
      → Listed known bs h es (map type before) → e.ref ≡ type a → e.ref < length known
      → Listed known bs (at_least h ((get_or known e.ref no_block).height + 1)) (es ++ (e ∷ [])) (map type (before ++ (a ∷ [])))
  listed_map type h es before e a l r b = rw (map-append type before (a ∷ []), ← r) (listed_more h es (map type before) e l b)

  named_step : (n : ℕ) (x : Draft) (es : List Element) (before : List NamedElement) → x.at ≤ length d
      → Named d known bs (λ (e : NamedElement). e.type) (λ (e : NamedElement). e.name) x es before
      → Agree d (λ y fs a. Named d known bs (λ (e : NamedElement). e.type) (λ (e : NamedElement). e.name) y fs (before ++ (a ∷ [])))
      (fields d known 5 (NAME ∷ ELEMENT ∷ []) (counting (suc n) x) es) (tuple_element bs before (drop x.at d))
  unfolding tuple_element fields kept height_after grown pick number_at width_of fault_of ref_fault
  named_step n x es before h i =
      let x1 = counting (suc n) x in
      agree_field d known 5 _ NAME x1 es _ (text_at d x.at) _ _ (name_same d known 5 bs pairs x1 es h (map (λ (e : NamedElement). e.name) before) i.names) (λ l _.
      let x2 = kept d known 5 NAME x1 in
      agree_field d known 5 _ ELEMENT x2 es _ (be (take 2 (drop x2.at d))) _ _ (element_same d known 5 bs pairs x2 es l) (λ l1 z.
      let e : Element = record { name = x.at; ref = be (take 2 (drop x2.at d)); card = x.card } in
      let a : NamedElement = record { name = text_at d x.at; type = be (take 2 (drop x2.at d)) } in (
        refl,
        l1,
        record {
          listed = listed_map (λ (e : NamedElement). e.type) x.height es before e a i.listed refl (ltb-true _ _ (named_13 _ _ z));
          names = snoc_map (λ (e : Element). text_at d e.name) (λ (e : NamedElement). e.name) es before e a i.names refl;
        },
      )))

  pub named_tuple_agrees : (i : ℕ) (x : Draft) (es : List Element) → x.at ≤ length d → Fresh x es
      → Agree d (Final known bs 5)
      (and_then (rest d known 5 (TEXT ∷ BOOL ∷ ANCESTORS ∷ []) (ANCESTOR ∷ []) x es) (section d known 5 (COUNT ∷ []) (NAME ∷ ELEMENT ∷ [])))
      (fields_of bs 5 i (drop x.at d))
  unfolding fields_of formatless pick section rest kept height_after grown number_at width_of types block_node oldNode valuedTag
  named_tuple_agrees i x es h f =
      agree_then d (λ y fs s. Fresh y fs) _ _ (schema bs (drop x.at d)) _ _ (schema_agrees d known 5 bs pairs (λ y. refl) x es h f)
      (λ y fs s l g.
      agree_map d (λ y fs ts. Named d known bs (λ (e : NamedElement). e.type) (λ (e : NamedElement). e.name) y fs ts) _ (named_tuple s)
      (rest d known 5 (COUNT ∷ []) (NAME ∷ ELEMENT ∷ []) (counting 0 y) fs) (counted (tuple_element bs) (drop y.at d))
      (agree_run d known 5 COUNT (NAME ∷ ELEMENT ∷ []) (tuple_element bs)
      (λ n y fs ts. Named d known bs (λ (e : NamedElement). e.type) (λ (e : NamedElement). e.name) y fs ts) named_step (counting 0 y) fs
      (count_same d known 5 bs pairs (counting 0 y) fs l) refl (record { listed = listed_none y fs g; names = rw g.none_yet }))
      (λ z gs ts i. record { height = i.listed.height; node = rw i.listed.refs; below = i.listed.below }))

  -- ---- shapes

  abbrev inputs : List Known → List Block → Draft → List Element → List InputElement → Type 0
  inputs k b x es before =
      Shaped (λ (e : InputElement). e.type) (λ (e : InputElement). e.cardinal) k b x es before × (map (λ (e : Element). text_at d e.name) es ≡ map (λ (e : InputElement). e.name) before)

  input_step : (n : ℕ) (x : Draft) (es : List Element) (before : List InputElement) → x.at ≤ length d → inputs known bs x es before
      → Agree d (λ y fs a. inputs known bs y fs (before ++ (a ∷ [])))
      (fields d known 8 (INPUT_FLAGS ∷ CARDINALITY ∷ NAME ∷ ELEMENT ∷ []) (counting (suc n) x) es) (input_element bs before (drop x.at d))
  unfolding input_element fields kept height_after grown pick number_at width_of fault_of ref_fault
  input_step n x es before h i =
      let x1 = counting (suc n) x in
      agree_field d known 8 _ INPUT_FLAGS x1 es _ (be (take 4 (drop x.at d))) _ _ (input_flags_same d known 8 bs pairs x1 es h) (λ l1 _.
      let x2 = kept d known 8 INPUT_FLAGS x1 in
      agree_field d known 8 _ CARDINALITY x2 es _ (be (take 1 (drop x2.at d))) _ _ (cardinal_same d known 8 bs pairs x2 es l1) (λ l2 _.
      let x3 = kept d known 8 CARDINALITY x2 in
      agree_field d known 8 _ NAME x3 es _ (text_at d x3.at) _ _ (name_same d known 8 bs pairs x3 es l2 (map (λ (e : InputElement). e.name) before) i.1) (λ l3 _.
      let x4 = kept d known 8 NAME x3 in
      agree_field d known 8 _ ELEMENT x4 es _ (be (take 2 (drop x4.at d))) _ _ (element_same d known 8 bs pairs x4 es l3) (λ l4 z.
      let e : Element = record { name = x3.at; ref = be (take 2 (drop x4.at d)); card = be (take 1 (drop x2.at d)) } in
      let a : InputElement = record { cardinal = be (take 1 (drop x2.at d)); name = text_at d x3.at; type = be (take 2 (drop x4.at d)) } in (
        refl,
        l4,
        (
          record {
            listed = listed_map (λ (e : InputElement). e.type) x.height es before e a i.0.listed refl (ltb-true _ _ (named_13 _ _ z));
            cards = snoc_map (λ (e : Element). e.card) (λ (e : InputElement). e.cardinal) es before e a i.0.cards refl;
          },
          snoc_map (λ (e : Element). text_at d e.name) (λ (e : InputElement). e.name) es before e a i.1 refl,
        ),
      )))))

  pub input_agrees : (i : ℕ) (x : Draft) (es : List Element) → x.at ≤ length d → Fresh x es
      → Agree d (Final known bs 8) (and_then (rest d known 8 (COUNT ∷ []) (INPUT_FLAGS ∷ CARDINALITY ∷ NAME ∷ ELEMENT ∷ []) x es) (section d known 8 [] [])) (fields_of bs 8 i (drop x.at d))
  unfolding fields_of pick kept height_after grown number_at width_of types block_node oldNode valuedTag
  input_agrees i x es h f =
      agree_done 8 (λ y fs k. Final known bs 8 (counting 0 y) fs k) _ _ _
      (agree_map d (inputs known bs) _ input_shape (rest d known 8 (COUNT ∷ []) (INPUT_FLAGS ∷ CARDINALITY ∷ NAME ∷ ELEMENT ∷ []) x es) (counted (input_element bs) (drop x.at d))
      (agree_run d known 8 COUNT (INPUT_FLAGS ∷ CARDINALITY ∷ NAME ∷ ELEMENT ∷ []) (input_element bs) (λ n y fs ts. inputs known bs y fs ts)
      input_step x es (count_same d known 8 bs pairs x es h) refl
      (record { listed = listed_none x es f; cards = rw f.none_yet }, rw f.none_yet))
      (λ z gs ts i. record { height = i.0.listed.height; node = rw (i.0.listed.refs, i.0.cards); below = i.0.listed.below }))
      (λ _ _ _ i. i)

  abbrev outputs : ℕ → List Known → List Block → Draft → List Element → List OutputElement → Type 0
  outputs free k b x es before = Shaped (λ (e : OutputElement). e.type) (λ (e : OutputElement). e.cardinal) k b x es before × (x.free ≡ free)

  output_step : (free n : ℕ) (x : Draft) (es : List Element) (before : List OutputElement) → x.at ≤ length d
      → outputs free known bs x es before
      → Agree d (λ y fs a. outputs free known bs y fs (before ++ (a ∷ [])))
      (fields d known 1 (SHAPE_FLAGS ∷ CARDINALITY ∷ TEXT ∷ ELEMENT ∷ OBJECT ∷ []) (counting (suc n) x) es)
      (output_element bs free (drop x.at d))
  unfolding output_element fields kept height_after grown pick number_at width_of fault_of ref_fault
  output_step free n x es before h i =
      let x1 = counting (suc n) x in
      agree_field d known 1 _ SHAPE_FLAGS x1 es _ (be (take 4 (drop x.at d))) _ _ (output_flags_same d known 1 bs pairs x1 es h) (λ l1 _.
      let x2 = kept d known 1 SHAPE_FLAGS x1 in
      agree_field d known 1 _ CARDINALITY x2 es _ (be (take 1 (drop x2.at d))) _ _ (cardinal_same d known 1 bs pairs x2 es l1) (λ l2 _.
      let x3 = kept d known 1 CARDINALITY x2 in
      agree_field d known 1 _ TEXT x3 es _ (text_at d x3.at) _ _ (text_same d known 1 bs pairs x3 es l2) (λ l3 _.
      let x4 = kept d known 1 TEXT x3 in
      agree_field d known 1 _ ELEMENT x4 es _ (be (take 2 (drop x4.at d))) _ _ (element_same d known 1 bs pairs x4 es l3) (λ l4 z.
      let x5 = kept d known 1 ELEMENT x4 in
      let e : Element = record { name = x.name; ref = be (take 2 (drop x4.at d)); card = be (take 1 (drop x2.at d)) } in
      agree_field d known 1 _ OBJECT x5 (es ++ (e ∷ [])) _ (be (take 2 (drop x5.at d))) _ _ (object_same d known 1 bs pairs x5 (es ++ (e ∷ [])) l4 free i.1) (λ l5 _.
      let a : OutputElement =
      record {
        flags = be (take 4 (drop x.at d));
        cardinal = be (take 1 (drop x2.at d));
        name = text_at d x3.at;
        type = be (take 2 (drop x4.at d));
        source = be (take 2 (drop x5.at d));
      }
      in (
        refl,
        l5,
        (
          record {
            listed = listed_map (λ (e : OutputElement). e.type) x.height es before e a i.0.listed refl (ltb-true _ _ (named_13 _ _ z));
            cards = snoc_map (λ (e : Element). e.card) (λ (e : OutputElement). e.cardinal) es before e a i.0.cards refl;
          },
          i.1,
        ),
      ))))))

  pub output_agrees : (i : ℕ) (x : Draft) (es : List Element) → x.at ≤ length d → Fresh x es
      → Agree d (Final known bs 1)
      (and_then (rest d known 1 (FREE ∷ OBJECT ∷ COUNT ∷ []) (SHAPE_FLAGS ∷ CARDINALITY ∷ TEXT ∷ ELEMENT ∷ OBJECT ∷ []) x es) (section d known 1 [] []))
      (fields_of bs 1 i (drop x.at d))
  unfolding fields_of pick kept height_after grown number_at width_of types block_node oldNode valuedTag
  output_agrees i x es h f =
      agree_done 1 (λ y fs k. Final known bs 1 (counting 0 y) fs k) _ _ _
      (rest_cons d known 1 _ FREE (OBJECT ∷ COUNT ∷ []) (SHAPE_FLAGS ∷ CARDINALITY ∷ TEXT ∷ ELEMENT ∷ OBJECT ∷ []) x es _
      (agree_field d known 1 _ FREE x es _ (be (take 1 (drop x.at d))) _ _ (free_same d known 1 bs pairs x es h) (λ l1 _.
      let free = be (take 1 (drop x.at d)) in
      let x1 = kept d known 1 FREE x in
      rest_cons d known 1 _ OBJECT (COUNT ∷ []) (SHAPE_FLAGS ∷ CARDINALITY ∷ TEXT ∷ ELEMENT ∷ OBJECT ∷ []) x1 es _
      (agree_field d known 1 _ OBJECT x1 es _ (be (take 2 (drop x1.at d))) _ _ (object_same d known 1 bs pairs x1 es l1 free refl) (λ l2 _.
      let x2 = kept d known 1 OBJECT x1 in
      agree_map d (outputs free known bs) _ (output_shape free (be (take 2 (drop x1.at d))))
      (rest d known 1 (COUNT ∷ []) (SHAPE_FLAGS ∷ CARDINALITY ∷ TEXT ∷ ELEMENT ∷ OBJECT ∷ []) x2 es)
      (counted (λ _. output_element bs free) (drop x2.at d))
      (agree_run d known 1 COUNT (SHAPE_FLAGS ∷ CARDINALITY ∷ TEXT ∷ ELEMENT ∷ OBJECT ∷ []) (λ _. output_element bs free)
      (λ n y fs ts. outputs free known bs y fs ts) (output_step free) x2 es (count_same d known 1 bs pairs x2 es l2) refl
      (record { listed = listed_none x es f; cards = rw f.none_yet }, refl))
      (λ z gs ts i. record { height = i.0.listed.height; node = rw (i.0.listed.refs, i.0.cards); below = i.0.listed.below }))))))
      (λ _ _ _ i. i)

  -- ---- annotations

  pub annotation_agrees : (x : Draft) (es : List Element) → x.at ≤ length d → x.left ≡ 0
      → Agree d (λ y fs b. b ≡ none) (and_then (rest d known 127 (ANY ∷ TEXT ∷ TEXT ∷ []) [] x es) (section d known 127 [] [])) (annotation_block bs (drop x.at d))
  unfolding annotation_block pick kept grown number_at width_of
  annotation_agrees x es h e =
      agree_done 127 (λ y fs b. b ≡ none) _ _ _
      (rest_cons d known 127 _ ANY (TEXT ∷ TEXT ∷ []) [] x es _
      (agree_field d known 127 _ ANY x es _ (be (take 2 (drop x.at d))) _ _ (any_same d known 127 bs pairs x es h) (λ l1 _.
      let x1 = kept d known 127 ANY x in
      rest_cons d known 127 _ TEXT (TEXT ∷ []) [] x1 es _
      (agree_field d known 127 _ TEXT x1 es _ (text_at d x1.at) _ _ (text_same d known 127 bs pairs x1 es l1) (λ l2 _.
      let x2 = kept d known 127 TEXT x1 in
      rest_cons d known 127 _ TEXT [] [] x2 es _
      (agree_field d known 127 _ TEXT x2 es _ (text_at d x2.at) _ _ (text_same d known 127 bs pairs x2 es l2) (λ l3 _.
      rest_end d known 127 _ [] (kept d known 127 TEXT x2) es _
      (items_none 127 _ x.left (kept d known 127 TEXT x2) es _ e (refl, l3, refl)))))))))
      (λ _ _ _ i. i)
