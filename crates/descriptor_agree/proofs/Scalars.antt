-- A scalar's format, by both definitions: its own, or its last ancestor's.
use mathlib.Core.Path.{◌≡◌, refl, sym, subst, ◌∙◌}
use mathlib.Core.Bool.{Bool, true, false}
use mathlib.Core.List.{List, [], ◌∷◌, ◌++◌}
use mathlib.Core.Option.{Option, none, some}
use Prim.Native.Nat.{ℕ, zero, suc, ◌+◌, ◌-◌, ◌≤◌}
use native.Mathlib.Omega.{arith}
use lib.Dec.{leb, ltb, eqb}
use lib.ListN.{length, take, drop, get_or, get_elem?}
use borrow.Author.Tests.{ltb-true, ne_eqb}
use Rattle.descriptor_fields.specs.Layouts.{TEXT, BOOL, ANCESTORS, ANCESTOR, valued as valuedTag}
use Rattle.descriptor_fields.specs.Fields.{Known, no_block, Element, fine, format_number, extent, text_at, number_at, width_of, format_of as oldFormat, format_by}
use Rattle.descriptor_fields.specs.Fields.{formatless, decides, count_fault, fits, kind_fault, ref_fault, fault as fault_of, kept, grown}
use Rattle.descriptor_fields.specs.Fields.{height_after, format_after}
use Rattle.descriptor_fields.specs.declared.Draft.{Draft}
use Rattle.descriptor_blocks.specs.Blocks.{next, noted, and_then, field, fields, items, section, counting}
use Rattle.descriptor_blocks.specs.Descriptor.{node_of as oldNode}
use Rattle.protocol.specs.Descriptors.{Block, BlockKind, scalar_of, types, Schema, unparsed, parsed, Reader, parse_then, give, item_count}
use Rattle.protocol.specs.Descriptors.{any_block, height_over, Text, format_by_id, format_given as knownFormat, format_from, scalar_with, fields_of}
use Rattle.protocol.specs.Descriptors.{item_run as items_of}
use Rattle.descriptor_blocks.proofs.Readings.{refusal_fine}
use Rattle.std.specs.Prelude.{Option as KeptOption, Some, None, is_some, Err}
use Rattle.descriptor_agree.proofs.Agree.{judged, verdict, judged_then, Agree, agree_then, agree_map, agree_assoc, agree_field, agree_last, then_give, then_assoc, then_pick}
use Rattle.descriptor_agree.proofs.Fields.{Pair, Pairs, pairs_at, bool_same, text_same, count_same, any_same, ancestor_same, ancestors_same, ancestors_some}
use Rattle.descriptor_agree.proofs.Runs.{rest, rest_cons, rest_end, agree_items, Fresh}
use Rattle.descriptor_agree.proofs.Contents.{Final, agree_done}
use Rattle.protocol.specs.Numbers.{pick, be}
use Rattle.protocol.specs.Compiling.{block_node}

-- the format, as the code keeps it
abbrev pub kept_format : Option ℕ → KeptOption ℕ
kept_format none = None
kept_format (some f) = Some f

pub format_number_same : (i : ℕ) → oldFormat i ≡ kept_format (format_by_id i)
unfolding oldFormat format_by_id pick
format_number_same i = go (ltb i 0x100) (ltb i 0x113) (eqb i 0x130)
  where
    go : (r s t : Bool) → pick r None (pick s (Some (i - 0x100)) (pick t (Some 19) None)) ≡ kept_format (pick r none (pick s (some (i - 0x100)) (pick t (some 19) none)))
    go true s t = refl
    go false true t = refl
    go false false true = refl
    go false false false = refl

-- nothing of elements, and a format
pub record Formed (f : KeptOption ℕ) (x : Draft) (es : List Element) : Type 0 where
  pub fresh : Fresh x es
  pub format : x.format ≡ f

-- a format that must be there, and what is made of it
known_at : (o : Option ℕ) (bs : List Block) (s : List ℕ) (K : ℕ → BlockKind)
    → parse_then (knownFormat bs o s) (λ f. give (K f)) ≡ verdict (pick (is_some (kept_format o)) fine (Err 14)) (parsed (K (format_number (kept_format o))) s)
unfolding knownFormat parse_then verdict pick
known_at none bs s K = refl
known_at (some f) bs s K = refl

refused_then : {A B : Type 0} (d : List ℕ) (at : ℕ) (a : A) (b : B) (g : A → Reader B) → parse_then (judged d at 2 (Err 13) a) g ≡ judged d at 2 (Err 13) b
unfolding judged verdict parse_then pick
refused_then d at a b g = then_pick (leb (at + 2) (length d)) (unparsed 13) (unparsed 10) g

module _ (d : List ℕ) (known : List Known) (bs : List Block) (pairs : Pairs d known bs) where
  -- the format that a scalar's own id stands for (R3.15)
  by_number : (k : Known) (b : Block) → Pair d k b → format_by d k ≡ kept_format (pick (eqb b.tag 3) (format_by_id b.id) none)
  unfolding format_by pick
  by_number k b p = rw (p.tags, p.ids, format_number_same b.id) (go (eqb b.tag 3))
    where
      go : (t : Bool) → pick t (kept_format (format_by_id b.id)) None ≡ kept_format (pick t (format_by_id b.id) none)
      go true = refl
      go false = refl

  -- the last ancestor, and its format
  deciding : (ℕ → ℕ → BlockKind) → Reader BlockKind
  deciding K s = parse_then (any_block bs s) (λ last. λ s. parse_then (format_from bs (get_elem? bs last) s) (λ f. give (K last f)))

  module _ (x : Draft) (inside : x.at ≤ length d) (K : ℕ → ℕ → BlockKind) where
    deciding_at : deciding K (drop x.at d)
        ≡ judged d x.at 2
        (pick (ltb (be (take 2 (drop x.at d))) (length known)) (pick (is_some (format_by d (get_or known (be (take 2 (drop x.at d))) no_block))) fine (Err 14)) (Err 13))
        (K (be (take 2 (drop x.at d))) (format_number (format_by d (get_or known (be (take 2 (drop x.at d))) no_block))))
    unfolding deciding extent fault_of ref_fault kind_fault fits number_at width_of pick format_from judged
    deciding_at =
        let e : any_block bs (drop x.at d) ≡ judged d x.at 2 (pick (ltb (be (take 2 (drop x.at d))) (length known)) fine (Err 13)) (be (take 2 (drop x.at d))) =
        any_same d known 3 bs pairs x [] inside in
        rw e (go (be (take 2 (drop x.at d))) (ltb (be (take 2 (drop x.at d))) (length known)) refl)
      where
        go : (v : ℕ) (t : Bool) → ltb v (length known) ≡ t
            → parse_then (judged d x.at 2 (pick t fine (Err 13)) v) (λ last. λ s. parse_then (format_from bs (get_elem? bs last) s) (λ f. give (K last f)))
            ≡ judged d x.at 2 (pick t (pick (is_some (format_by d (get_or known v no_block))) fine (Err 14)) (Err 13)) (K v (format_number (format_by d (get_or known v no_block))))
        go v true e =
            let q = pairs_at d known bs pairs v (ltb-true v (length known) e) in
            let b = q.0 in
            judged_then d x.at inside 2 v (λ last. λ s. parse_then (format_from bs (get_elem? bs last) s) (λ f. give (K last f)))
            ∙ rw (q.1, by_number (get_or known v no_block) q.0 q.2)
            (rw (known_at (pick (eqb b.tag 3) (format_by_id b.id) none) bs (drop (x.at + 2) d) (K v)))
        go v false e = refused_then d x.at v (K v (format_number (format_by d (get_or known v no_block)))) (λ last. λ s. parse_then (format_from bs (get_elem? bs last) s) (λ f. give (K last f)))

  abbrev Done : Draft → List Element → BlockKind → Type 0
  Done = λ y fs k. Final known bs 3 (counting 0 y) fs k

  done_scalar : (f : ℕ) (y : Draft) (fs : List Element) (s : Schema) → Formed (Some f) y fs → Done y fs (scalar_of s f)
  unfolding types height_over block_node oldNode valuedTag pick
  done_scalar f y fs s i = record { height = i.fresh.height; node = rw i.format; below = tt }

  -- an ancestor that decides nothing
  ancestor_step : (f : KeptOption ℕ) (n : ℕ) (x : Draft) (es : List Element) → x.at ≤ length d → Formed f x es → decides 3 (counting (suc n) x) ≡ false
      → Agree d (λ y fs a. Formed f y fs) (fields d known 3 (ANCESTOR ∷ []) (counting (suc n) x) es) (any_block bs (drop x.at d))
  unfolding fields kept height_after format_after grown pick
  ancestor_step f n x es h i e =
      agree_last d known 3 _ ANCESTOR (counting (suc n) x) es (any_block bs (drop x.at d)) (be (take 2 (drop x.at d))) (ancestor_same d known 3 bs pairs (counting (suc n) x) es h e)
      (λ l z. record { fresh = record { height = i.fresh.height; free = i.fresh.free; none_yet = i.fresh.none_yet }; format = rw e i.format })

  module _ (name : Text) (defined : ℕ) where
    abbrev made : List ℕ → ℕ → ℕ → BlockKind
    made before last f = scalar_of (record { name = name; defined = defined; ancestors = before ++ (last ∷ []) }) f

    -- so many ancestors, and then the one that decides
    open_items : (m : ℕ) (x : Draft) (es : List Element) (before : List ℕ) → x.at ≤ length d → Formed None x es
        → Agree d Done (items d known 3 (ANCESTOR ∷ []) (suc m) x es) (parse_then (items_of (λ _. any_block bs) m before (drop x.at d)) (λ as'. deciding (made as')))
    unfolding items fields items_of parse_then and_then noted kept height_after format_after grown pick decides formatless extent fault_of
        ref_fault kind_fault fits number_at width_of types height_over block_node oldNode valuedTag
    open_items zero x es before h i =
        agree_assoc d Done (field d known 3 ANCESTOR (counting 1 x) es) (λ y fs. next y fs []) (λ y fs. next y fs []) (deciding (made before) (drop x.at d))
        (agree_last d known 3 Done ANCESTOR (counting 1 x) es (deciding (made before) (drop x.at d))
        (made before (be (take 2 (drop x.at d))) (format_number (format_by d (get_or known (be (take 2 (drop x.at d))) no_block))))
        (rw i.format (deciding_at x h (made before)))
        (λ l z. record { height = i.fresh.height; node = rw i.format; below = tt }))
    open_items (suc m) x es before h i =
        rw (then_assoc (any_block bs (drop x.at d)))
        (agree_then d (λ y fs a. Formed None y fs) Done (fields d known 3 (ANCESTOR ∷ []) (counting (suc (suc m)) x) es)
        (any_block bs (drop x.at d)) (items d known 3 (ANCESTOR ∷ []) (suc m))
        (λ a s. parse_then (items_of (λ _. any_block bs) m (before ++ (a ∷ [])) s) (λ as'. deciding (made as')))
        (ancestor_step None (suc m) x es h i (rw (i.format, ne_eqb (suc (suc m)) 1 (λ e. omega arith))))
        (λ y fs a l j. open_items m y fs (before ++ (a ∷ [])) l j))

    -- no ancestor
    fault_12 : (x : Draft) (es : List Element) → x.format ≡ None → be (take 2 (drop x.at d)) ≡ 0 → fault_of d known 3 ANCESTORS x es ≡ Err 12
    unfolding fault_of count_fault formatless number_at width_of pick
    fault_12 x es f e = rw (e, f)

    no_ancestor : (x : Draft) (es : List Element) → x.at ≤ length d → x.format ≡ None → be (take 2 (drop x.at d)) ≡ 0
        → parse_then (item_count (drop x.at d)) (λ n. scalar_with bs none n name defined) ≡ judged d x.at (extent d ANCESTORS x.at) (fault_of d known 3 ANCESTORS x es) (made [] 0 0)
    unfolding extent fault_of count_fault number_at width_of pick scalar_with formatless judged verdict
    no_ancestor x es h f e =
        let q : item_count (drop x.at d) ≡ judged d x.at 2 (pick (ltb 512 (be (take 2 (drop x.at d)))) (Err 17) fine) (be (take 2 (drop x.at d))) = count_same d known 3 bs pairs x es h in
        rw q (rw (e, f) (judged_then d x.at h 2 0 (λ n. scalar_with bs none n name defined)))

    -- the count of ancestors, and they
    counted : (o : Option ℕ) (x : Draft) (es : List Element) → x.at ≤ length d
        → Formed (kept_format o) x es
        → Agree d Done (and_then (field d known 3 ANCESTORS x es) (rest d known 3 [] (ANCESTOR ∷ []))) (parse_then (item_count (drop x.at d)) (λ n. scalar_with bs o n name defined))
    unfolding deciding scalar_with kept height_after format_after grown pick decides formatless number_at width_of
    counted (some f) x es h i =
        agree_field d known 3 Done ANCESTORS x es (item_count (drop x.at d)) (be (take 2 (drop x.at d)))
        (rest d known 3 [] (ANCESTOR ∷ [])) _ (ancestors_same d known 3 bs pairs x es h (rw i.format)) (λ l z.
        rest_end d known 3 Done (ANCESTOR ∷ []) (kept d known 3 ANCESTORS x) es _
        (agree_map d (λ y fs ts. Formed (Some f) y fs) Done
        (λ ancestors. scalar_of (record { name = name; defined = defined; ancestors = ancestors }) f)
        (items d known 3 (ANCESTOR ∷ []) (be (take 2 (drop x.at d))) (kept d known 3 ANCESTORS x) es)
        (items_of (λ _. any_block bs) (be (take 2 (drop x.at d))) [] (drop (x.at + extent d ANCESTORS x.at) d))
        (agree_items d known 3 (ANCESTOR ∷ []) (λ _. any_block bs) (λ n y fs ts. Formed (Some f) y fs)
        (λ n y fs ts l j. ancestor_step (Some f) n y fs l j (rw j.format)) (be (take 2 (drop x.at d))) (kept d known 3 ANCESTORS x) es [] l
        (record { fresh = record { height = i.fresh.height; free = i.fresh.free; none_yet = i.fresh.none_yet }; format = i.format }))
        (λ y fs ts j. done_scalar f y fs _ j)))
    counted none x es h i = go (be (take 2 (drop x.at d))) refl
      where
        go : (n : ℕ) → be (take 2 (drop x.at d)) ≡ n
            → Agree d Done (and_then (field d known 3 ANCESTORS x es) (rest d known 3 [] (ANCESTOR ∷ []))) (parse_then (item_count (drop x.at d)) (λ n. scalar_with bs none n name defined))
        go zero e =
            rw then_give at (agree_field d known 3 Done ANCESTORS x es
            (parse_then (item_count (drop x.at d)) (λ n. scalar_with bs none n name defined)) (made [] 0 0)
            (rest d known 3 [] (ANCESTOR ∷ [])) give (no_ancestor x es h i.format e)
            (λ l z. refusal_fine 12 (sym (fault_12 x es i.format e) ∙ z)))
        go (suc m) e =
            agree_field d known 3 Done ANCESTORS x es (item_count (drop x.at d)) (be (take 2 (drop x.at d)))
            (rest d known 3 [] (ANCESTOR ∷ [])) _
            (ancestors_some d known 3 bs pairs x es h (rw e (ne_eqb (suc m) 0 (λ e. omega arith)))) (λ l z.
            rest_end d known 3 Done (ANCESTOR ∷ []) (kept d known 3 ANCESTORS x) es _
            (subst (λ (n : ℕ). Agree d Done (items d known 3 (ANCESTOR ∷ []) n (kept d known 3 ANCESTORS x) es) (scalar_with bs none n name defined (drop (x.at + extent d ANCESTORS x.at) d)))
            (sym e)
            (open_items m (kept d known 3 ANCESTORS x) es [] l (record { fresh = record { height = i.fresh.height; free = i.fresh.free; none_yet = i.fresh.none_yet }; format = i.format }))))

  pub scalar_agrees : (i : ℕ) (x : Draft) (es : List Element) → x.at ≤ length d → Fresh x es → x.format ≡ oldFormat i
      → Agree d (Final known bs 3) (and_then (rest d known 3 (TEXT ∷ BOOL ∷ ANCESTORS ∷ []) (ANCESTOR ∷ []) x es) (section d known 3 [] [])) (fields_of bs 3 i (drop x.at d))
  unfolding fields_of pick kept height_after format_after grown
  scalar_agrees i x es h f e =
      agree_done d known bs pairs 3 Done _ _ _
      (rest_cons d known 3 _ TEXT (BOOL ∷ ANCESTORS ∷ []) (ANCESTOR ∷ []) x es _
      (agree_field d known 3 _ TEXT x es _ (text_at d x.at) _ _ (text_same d known 3 bs pairs x es h) (λ l1 _.
      let x1 = kept d known 3 TEXT x in
      rest_cons d known 3 _ BOOL (ANCESTORS ∷ []) (ANCESTOR ∷ []) x1 es _
      (agree_field d known 3 _ BOOL x1 es _ (be (take 1 (drop x1.at d))) _ _ (bool_same d known 3 bs pairs x1 es l1) (λ l2 _.
      let x2 = kept d known 3 BOOL x1 in
      rest_cons d known 3 _ ANCESTORS [] (ANCESTOR ∷ []) x2 es _
      (counted (text_at d x.at) (be (take 1 (drop x1.at d))) (format_by_id i) x2 es l2
      (record { fresh = record { height = f.height; free = f.free; none_yet = f.none_yet }; format = e ∙ format_number_same i })))))))
      (λ _ _ _ i. i)
