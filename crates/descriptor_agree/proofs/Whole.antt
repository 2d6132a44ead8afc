-- A descriptor's blocks, its root and its plan, by both definitions.
use mathlib.Core.Path.{◌≡◌, refl, ap, sym, subst, ◌∙◌}
use mathlib.Core.Bool.{Bool, true, false, not}
use mathlib.Core.List.{List, [], ◌∷◌, ◌++◌}
use mathlib.Core.Option.{Option, none, some, map}
use Rattle.std.specs.Prelude.{Option as FoundOption, Some, None}
use Rattle.std.specs.Option.{option_map}
use Prim.Native.Nat.{ℕ, zero, suc, ◌+◌, ◌-◌, ◌≤◌, ◌<◌}
use native.Mathlib.Omega.{arith}
use native.Mathlib.Numerals.{add-one}
use lib.Dec.{leb, ltb, eqb}
use lib.ListN.{length, take, drop, get_or, length-drop, length-map, drop_of_length-le}
use lib.Seq.{drop-cons, take_all}
use borrow.Author.Tests.{leb-true, leb-false, eqb-true}
use Rattle.wire.proofs.Picks.{clash}
use Rattle.descriptor_fields.specs.Layouts.{known_tag, indexed, valued as valuedTag}
use Rattle.descriptor_fields.specs.Fields.{Element, id_at, index_in, format_number}
use Rattle.descriptor_fields.specs.declared.Draft.{Draft}
use Rattle.descriptor_blocks.specs.Blocks.{Item, Reading, stop, next, block_from}
use Rattle.descriptor_blocks.specs.Descriptor.{Block as OldBlock, Blocks, faulty, whole, summary, summaries, all_words, node_at}
use Rattle.descriptor_blocks.specs.Descriptor.{node_of as oldNode, words_of as oldWordsOf, block_of, extended, full}
use Rattle.descriptor_blocks.specs.Descriptor.{onward as oldOnward, blocks_from as oldFrom, blocks_of as oldBlocks}
use Rattle.descriptor_blocks.specs.Descriptor.{Description as OldDescription, refused_by, without_type, described as oldDescribed, index_of, tag_at, root_at}
use Rattle.descriptor_blocks.specs.Descriptor.{rooted as oldRooted, description_of, plan_words as oldPlan, Compiled, refused_plan, plan}
use Rattle.descriptor_blocks.specs.Descriptor.{plan_of, roomed as oldRoomed, compile_of}
use Rattle.protocol.specs.Descriptors.{Block, BlockKind, types, Parsed, unparsed, parsed, annotation_block, indexed_block, tagged, block}
use Rattle.protocol.specs.Descriptors.{bare_form, with_block, after_block, read_blocks, all_blocks, has_values, DescribedType, no_type}
use Rattle.protocol.specs.Descriptors.{block_type, root_in, rooted_at, rooted_blocks, describe}
use Rattle.descriptor_agree.proofs.Agree.{Agree}
use Rattle.descriptor_agree.proofs.Fields.{Pairs, pairs_length, valued_fit}
use Rattle.descriptor_agree.proofs.Contents.{Below}
use Rattle.descriptor_agree.proofs.Block.{Twin, tags, block_agrees, note_agrees, tag_known}
use Rattle.descriptor_agree.proofs.Words.{Twins, twins_more, end_at}
use Rattle.protocol.specs.Numbers.{pick, be, any}
use Rattle.protocol.specs.Nodes.{Node, rename}
use Rattle.protocol.specs.Answers.{Outcome, refused, accepted}
use Rattle.protocol.specs.Compiling.{block_node, block_words, words_by, node_position, whole_plan, plan_roomed, compile_by, node_as_words}

-- ---- the blocks

module _ (d : List ℕ) where
  abbrev Both : Blocks → Outcome (List Block) → Type 0
  Both (faulty n p) (refused m q) = (n ≡ m) × (p ≡ q)
  Both (faulty n p) (accepted bs) = ⊥
  Both (whole os) (refused m q) = ⊥
  Both (whole os) (accepted bs) = Twins d os bs

  after_both : (R : Draft → List Element → Option Block → Type 0) (at : ℕ) (bs : List Block) (r : Reading) (p : Parsed (Option Block))
      (k : Draft → List Element → List Item → Blocks) (j : List ℕ → List Block → Outcome (List Block))
      → Agree d R r p
      → ((x : Draft) (es : List Element) (is : List Item) (o : Option Block) → x.at ≤ length d → R x es o → Both (k x es is) (j (drop x.at d) (with_block bs o)))
      → Both (oldOnward at r k) (after_block at bs p j)
  unfolding oldOnward after_block
  after_both R at bs (stop n) (unparsed m) k j e f = (e, refl)
  after_both R at bs (stop n) (parsed o s) k j e f = absurd e
  after_both R at bs (next x es is) (unparsed m) k j e f = absurd e
  after_both R at bs (next x es is) (parsed o s) k j e f = rw e.0 (f x es is o e.1 e.2)

  words_by_lem : (t : Bool) (os : List OldBlock) (bs : List Block) (kind : BlockKind) (n : Node) → block_node bs kind ≡ pick t (some n) none
      → pick t (node_as_words (rename (node_at (summaries os)) n)) [] ≡ block_words (node_at (summaries os)) (block_node bs kind)
  unfolding block_words pick
  words_by_lem true os bs kind n e = rw e
  words_by_lem false os bs kind n e = rw e

  -- one more block
  more : (os : List OldBlock) (bs : List Block) → Twins d os bs
      → (at tag : ℕ) (x : Draft) (es : List Element) (is : List Item) (o : Option Block) → Twin d (summaries os) bs tag (at + 1) x es o
      → Twins d (os ++ (block_of os at tag x es is ∷ [])) (with_block bs o)
  unfolding with_block summary block_of oldWordsOf
  more os bs t at tag x es is o w =
      let b = w.block in
      rw w.is
      (twins_more d os bs t (block_of os at tag x es is) b
      (record { tags = sym w.tags; ids = sym w.ids; heights = sym w.height })
      (words_by_lem (valuedTag tag) os bs b.kind (oldNode (summaries os) tag (format_number x.format) es) w.final.node)
      refl
      (subst (λ (n : ℕ). Below n (types b.kind)) (pairs_length d (summaries os) bs t.pairs) w.final.below)
      w.final.node)

  module _ (f : ℕ)
      (again : (at : ℕ) (os : List OldBlock) (bs : List Block) → at ≤ length d → Twins d os bs → Both (oldFrom d f at os) (read_blocks bare_form d f (drop at d) bs))
      (at : ℕ) (h : at < length d) (os : List OldBlock) (bs : List Block) (t : Twins d os bs) where
    abbrev older : ℕ → Draft → List Element → List Item → Blocks
    older tag x es is = oldFrom d f x.at (extended os at tag x es is)

    note_both : Both (oldOnward at (block_from d (summaries os) 127 (at + 1)) (older 127)) (after_block at bs (annotation_block bs (drop (at + 1) d)) (read_blocks bare_form d f))
    unfolding extended indexed pick with_block
    note_both =
        after_both (λ y fs o. o ≡ none) at bs (block_from d (summaries os) 127 (at + 1)) (annotation_block bs (drop (at + 1) d)) (older 127)
        (read_blocks bare_form d f) (note_agrees d (summaries os) bs t.pairs (at + 1) (omega arith))
        (λ x es is o l e. rw e (again x.at os bs l t))

    indexed_both : (tag : ℕ) → eqb tag 127 ≡ false → any (eqb tag) tags ≡ true
        → Both (oldOnward at (block_from d (summaries os) tag (at + 1)) (older tag)) (after_block at bs (indexed_block bs tag (drop (at + 1) d)) (read_blocks bare_form d f))
    unfolding extended indexed pick
    indexed_both tag n e =
        after_both (Twin d (summaries os) bs tag (at + 1)) at bs (block_from d (summaries os) tag (at + 1))
        (indexed_block bs tag (drop (at + 1) d)) (older tag) (read_blocks bare_form d f)
        (block_agrees d (summaries os) bs t.pairs (at + 1) (omega arith) tag e)
        (λ x es is o l w. rw n (again x.at (os ++ (block_of os at tag x es is ∷ [])) (with_block bs o) l (more os bs t at tag x es is o w)))

    same_length : length os ≡ length bs
    same_length = sym (length-map os summary) ∙ pairs_length d (summaries os) bs t.pairs

    full_same : (tag : ℕ) → eqb tag 127 ≡ false → full os tag ≡ leb 1024 (length bs)
    unfolding full indexed pick
    full_same tag e = rw (e, same_length)

    counted_both : (tag : ℕ) → eqb tag 127 ≡ false → any (eqb tag) tags ≡ true → (b : Bool)
        → Both (pick b (faulty 17 at) (oldOnward at (block_from d (summaries os) tag (at + 1)) (older tag)))
        (after_block at bs (pick b (λ s. unparsed 17) (indexed_block bs tag) (drop (at + 1) d)) (read_blocks bare_form d f))
    unfolding pick after_block
    counted_both tag n e true = (refl, refl)
    counted_both tag n e false = indexed_both tag n e

    known_both : (tag : ℕ) → eqb tag 127 ≡ false → (b : Bool) → any (eqb tag) tags ≡ b
        → Both (pick b (pick (full os tag) (faulty 17 at) (oldOnward at (block_from d (summaries os) tag (at + 1)) (older tag))) (faulty 11 at))
        (after_block at bs (pick (not b) (λ s. unparsed 11) (pick (leb 1024 (length bs)) (λ s. unparsed 17) (indexed_block bs tag)) (drop (at + 1) d)) (read_blocks bare_form d f))
    unfolding pick after_block
    known_both tag n true e = rw (full_same tag n) (counted_both tag n e (leb 1024 (length bs)))
    known_both tag n false e = (refl, refl)

    full_note : full os 127 ≡ false
    unfolding full indexed pick
    full_note = refl

    tag_both : (tag : ℕ)
        → Both (pick (known_tag tag) (pick (full os tag) (faulty 17 at) (oldOnward at (block_from d (summaries os) tag (at + 1)) (older tag))) (faulty 11 at))
        (after_block at bs (tagged bs tag (drop (at + 1) d)) (read_blocks bare_form d f))
    unfolding tagged pick
    tag_both tag = rw (tag_known tag) (go (eqb tag 127) refl)
      where
        go : (b : Bool) → eqb tag 127 ≡ b
            → Both (pick (pick b true (any (eqb tag) tags)) (pick (full os tag) (faulty 17 at) (oldOnward at (block_from d (summaries os) tag (at + 1)) (older tag))) (faulty 11 at))
            (after_block at bs
            (pick b (annotation_block bs) (pick (not (any (eqb tag) tags)) (λ s. unparsed 11) (pick (leb 1024 (length bs)) (λ s. unparsed 17) (indexed_block bs tag))) (drop (at + 1) d))
            (read_blocks bare_form d f))
        go true e =
            subst (λ (g : ℕ). Both (pick (full os g) (faulty 17 at) (oldOnward at (block_from d (summaries os) g (at + 1)) (older g)))
            (after_block at bs (annotation_block bs (drop (at + 1) d)) (read_blocks bare_form d f)))
            (sym (eqb-true tag 127 e)) (rw full_note note_both)
        go false e = known_both tag e (any (eqb tag) tags) refl

  step_new : (f at : ℕ) (bs : List Block) → at < length d → read_blocks bare_form d (suc f) (drop at d) bs ≡ after_block at bs (tagged bs (get_or d at 0) (drop (at + 1) d)) (read_blocks bare_form d f)
  unfolding read_blocks block
  step_new f at bs h = rw (drop-cons d at 0 h, place) (rw add-one)
    where
      place : length d - suc (length (drop (suc at) d)) ≡ at
      place = rw length-drop (omega arith)

  blocks_both : (f at : ℕ) (os : List OldBlock) (bs : List Block) → at ≤ length d → Twins d os bs → Both (oldFrom d f at os) (read_blocks bare_form d f (drop at d) bs)
  unfolding oldFrom read_blocks pick
  blocks_both zero at os bs h t = (refl, rw length-drop (omega arith))
  blocks_both (suc f) at os bs h t = go (leb (length d) at) refl (blocks_both f)
    where
      go : (b : Bool) → leb (length d) at ≡ b
          → ((at : ℕ) (os : List OldBlock) (bs : List Block) → at ≤ length d → Twins d os bs → Both (oldFrom d f at os) (read_blocks bare_form d f (drop at d) bs))
          → Both (pick b (whole os)
          (pick (known_tag (get_or d at 0))
          (pick (full os (get_or d at 0)) (faulty 17 at) (oldOnward at (block_from d (summaries os) (get_or d at 0) (at + 1)) (λ x es is. oldFrom d f x.at (extended os at (get_or d at 0) x es is))))
          (faulty 11 at)))
          (read_blocks bare_form d (suc f) (drop at d) bs)
      go true e again = rw (drop_of_length-le d (leb-true (length d) at e)) t
      go false e again = let l = leb-false (length d) at e in rw (step_new f at bs l) (tag_both f again at l os bs t (get_or d at 0))

  -- ---- the root

  map_pick : (t : Bool) (k : ℕ) → map suc (pick t (some k) none) ≡ pick t (some (suc k)) none
  unfolding pick
  map_pick true k = refl
  map_pick false k = refl

  -- the index of the root, if the block there has values
  abbrev root_of : List OldBlock → FoundOption ℕ → Option ℕ
  root_of os None = none
  root_of os (Some k) = pick (valuedTag (tag_at os k)) (some k) none

  root_same : (os : List OldBlock) (bs : List Block) (i : ℕ) → Pairs d (summaries os) bs → root_in i bs ≡ root_of os (index_of d os i)
  unfolding root_in tag_at index_in summary pick
  root_same [] [] i p = refl
  root_same [] (b ∷ bs) i p = absurd p
  root_same (o ∷ os) [] i p = absurd p
  root_same (o ∷ os) (b ∷ bs) i p = let e : id_at d (o.start + 1) ≡ b.id = p.0.ids in rw e (go (eqb b.id i) (index_of d os i) (root_same os bs i p.1))
    where
      go : (t : Bool) (j : FoundOption ℕ) → root_in i bs ≡ root_of os j
          → pick t (pick (has_values b) (some 0) none) (map suc (root_in i bs)) ≡ root_of (o ∷ os) (pick t (Some 0) (option_map suc j))
      go true j ih = let e : valuedTag o.tag ≡ has_values b = valued_fit d (summary o) b p.0 in rw e
      go false None ih = rw ih
      go false (Some k) ih = rw ih (map_pick (valuedTag (tag_at os k)) k)

  root_below : (os : List OldBlock) (k : ℕ) → valuedTag (tag_at os k) ≡ true → k < length os
  unfolding tag_at valuedTag pick
  root_below [] k e = clash e
  root_below (o ∷ os) zero e = omega arith
  root_below (o ∷ os) (suc k) e = let h = root_below os k e in omega arith

-- ---- the plan

-- protocol's outcome, as the code's definitions say it
unfoldable pub as_compiled : Outcome (List ℕ) → Compiled
as_compiled (refused n p) = refused_plan n p
as_compiled (accepted ws) = plan ws

module _ (d : List ℕ) where
  plan_same : (os : List OldBlock) (bs : List Block) → Twins d os bs → (k : ℕ) → k < length bs → whole_plan (block_type bs k) ≡ oldPlan os k
  unfolding whole_plan oldPlan
  plan_same os bs t k h =
      let total : node_position bs (length bs) ≡ 2 + length (all_words os) = end_at bs ∙ ap (λ (l : List ℕ). 2 + length l) (sym t.words) in
      let at : node_position bs k ≡ node_at (summaries os) k = sym (t.nodes k h) in
      let words : words_by (node_position bs) bs bs ≡ all_words os = sym t.words in
      cc

  plan_none : whole_plan no_type ≡ 2 ∷ 0 ∷ []
  unfolding whole_plan
  plan_none = refl

  room_same : (room : ℕ) (a b : List ℕ) → a ≡ b → as_compiled (pick (ltb room (length a)) (refused 30 0) (accepted a)) ≡ oldRoomed room (plan b)
  unfolding as_compiled oldRoomed pick
  room_same room a b e = rw e (go (ltb room (length b)))
    where
      go : (t : Bool) → as_compiled (pick t (refused 30 0) (accepted b)) ≡ pick t (refused_plan 30 0) (plan b)
      go true = refl
      go false = refl

  start : Both d (oldBlocks d) (all_blocks bare_form d)
  unfolding oldBlocks all_blocks all_words words_by
  start = blocks_both d (suc (length d)) 0 [] [] (omega arith) (record { pairs = tt; words = refl; nodes = λ k h. absurd (omega arith); belows = tt; shapes = tt })

  -- both refuse alike; both see no type; or both see blocks that go together, and the same root among them
  abbrev pub Alike : OldDescription → Outcome DescribedType → Type 0
  Alike (refused_by n p) (refused m q) = (n ≡ m) × (p ≡ q)
  Alike (refused_by n p) (accepted a) = ⊥
  Alike without_type (refused m q) = ⊥
  Alike without_type (accepted no_type) = Unit {0}
  Alike without_type (accepted (block_type bs k)) = ⊥
  Alike (oldDescribed os j) (refused m q) = ⊥
  Alike (oldDescribed os j) (accepted no_type) = ⊥
  Alike (oldDescribed os j) (accepted (block_type bs k)) = Twins d os bs × (j ≡ k) × (k < length bs)

  rooted_alike : (i : ℕ) (o : Blocks) (a : Outcome (List Block)) → Both d o a → Alike (oldRooted d i o) (rooted_blocks (length d) i a)
  unfolding rooted_blocks rooted_at oldRooted root_at pick
  rooted_alike i (faulty n p) (refused m q) e = e
  rooted_alike i (faulty n p) (accepted bs) e = absurd e
  rooted_alike i (whole os) (refused m q) e = absurd e
  rooted_alike i (whole os) (accepted bs) t = rw (root_same d os bs i t.pairs) (go (index_of d os i))
    where
      at_root : (k : ℕ) (v : Bool) → valuedTag (tag_at os k) ≡ v
          → Alike (pick v (oldDescribed os k) (refused_by 18 (length d))) (rooted_at (length d) bs (pick v (some k) none))
      at_root k true e = (t, refl, let h = root_below d os k e in let l = sym (length-map os summary) ∙ pairs_length d (summaries os) bs t.pairs in omega arith)
      at_root k false e = (refl, refl)

      go : (j : FoundOption ℕ) → Alike (root_at d os j) (rooted_at (length d) bs (root_of d os j))
      go None = (refl, refl)
      go (Some k) = at_root k (valuedTag (tag_at os k)) refl

  plan_alike : (room : ℕ) (o : OldDescription) (a : Outcome DescribedType) → Alike o a → as_compiled (plan_roomed room a) ≡ oldRoomed room (plan_of o)
  unfolding as_compiled plan_roomed oldRoomed plan_of
  plan_alike room (refused_by n p) (refused m q) e = rw (e.0, e.1)
  plan_alike room (refused_by n p) (accepted a) e = absurd e
  plan_alike room without_type (refused m q) e = absurd e
  plan_alike room without_type (accepted no_type) e = room_same room (whole_plan no_type) (2 ∷ 0 ∷ []) plan_none
  plan_alike room without_type (accepted (block_type bs k)) e = absurd e
  plan_alike room (oldDescribed os j) (refused m q) e = absurd e
  plan_alike room (oldDescribed os j) (accepted no_type) e = absurd e
  plan_alike room (oldDescribed os j) (accepted (block_type bs k)) e = room_same room (whole_plan (block_type bs k)) (oldPlan os j) (plan_same os bs e.0 k e.2 ∙ ap (oldPlan os) (sym e.1))

-- every descriptor and root id is described alike
pub description_same : (d root : List ℕ) → Alike d (description_of d root) (describe bare_form d root)
unfolding describe description_of id_at pick
description_same d root = go (ltb 65535 (length d)) (eqb (length root) 16) refl
  where
    sized : eqb (length root) 16 ≡ true → take 16 root ≡ root
    sized e = take_all 16 root (let h = eqb-true (length root) 16 e in omega arith)

    inner : (i : ℕ) (t z : Bool)
        → Alike d (pick t (pick z without_type (refused_by 18 (length d))) (oldRooted d i (oldBlocks d)))
        (pick (not t) (rooted_blocks (length d) i (all_blocks bare_form d)) (pick z (accepted no_type) (refused 18 (length d))))
    inner i true true = tt
    inner i true false = (refl, refl)
    inner i false z = rooted_alike d i (oldBlocks d) (all_blocks bare_form d) (start d)

    go : (s t : Bool) → eqb (length root) 16 ≡ t
        → Alike d
        (pick s (refused_by 17 0)
        (pick t (pick (eqb (be (take 16 root)) 0) (pick (eqb (length d) 0) without_type (refused_by 18 (length d))) (oldRooted d (be (take 16 root)) (oldBlocks d))) (refused_by 18 (length d))))
        (pick s (refused 17 0)
        (pick (not t) (refused 18 (length d))
        (pick (not (eqb (be root) 0)) (rooted_blocks (length d) (be root) (all_blocks bare_form d)) (pick (eqb (length d) 0) (accepted no_type) (refused 18 (length d))))))
    go true t e = (refl, refl)
    go false true e = rw (sized e) (inner (be root) (eqb (be root) 0) (eqb (length d) 0))
    go false false e = (refl, refl)

-- and compiled alike
pub compile_same : (d root : List ℕ) (room : ℕ) → as_compiled (compile_by bare_form d root room) ≡ compile_of d root room
unfolding compile_by compile_of
compile_same d root room = plan_alike d room (description_of d root) (describe bare_form d root) (description_same d root)

-- ---- what one definition gives, of the other

module _ (o : Outcome (List ℕ)) where
  as_refused : (n p : ℕ) → as_compiled o ≡ refused_plan n p → o ≡ refused n p
  unfolding as_compiled
  as_refused n p e = go o e
    where
      go : (o : Outcome (List ℕ)) → as_compiled o ≡ refused_plan n p → o ≡ refused n p
      go (refused m q) e = let a : m ≡ n = cc in let b : q ≡ p = cc in rw (a, b)
      go (accepted ws) e = let z : ◌≡◌ {A = ℕ} 0 1 = cc in absurd (omega arith)

  as_plan : (ws : List ℕ) → as_compiled o ≡ plan ws → o ≡ accepted ws
  unfolding as_compiled
  as_plan ws e = go o e
    where
      go : (o : Outcome (List ℕ)) → as_compiled o ≡ plan ws → o ≡ accepted ws
      go (refused m q) e = let z : ◌≡◌ {A = ℕ} 0 1 = cc in absurd (omega arith)
      go (accepted vs) e = let a : vs ≡ ws = cc in rw a

module _ (d root : List ℕ) (room : ℕ) where
  pub refused_by_lem : (n p : ℕ) → compile_of d root room ≡ refused_plan n p → compile_by bare_form d root room ≡ refused n p
  refused_by_lem n p e = as_refused (compile_by bare_form d root room) n p (compile_same d root room ∙ e)

  pub planned_by : (ws : List ℕ) → compile_of d root room ≡ plan ws → compile_by bare_form d root room ≡ accepted ws
  planned_by ws e = as_plan (compile_by bare_form d root room) ws (compile_same d root room ∙ e)

  pub planned_of : (ws : List ℕ) → compile_by bare_form d root room ≡ accepted ws → compile_of d root room ≡ plan ws
  unfolding as_compiled
  planned_of ws e = sym (compile_same d root room) ∙ ap as_compiled e

-- an accepted descriptor's plan is the same
pub plan_is : (d root : List ℕ) (t : DescribedType) → describe bare_form d root ≡ accepted t → plan_of (description_of d root) ≡ plan (whole_plan t)
unfolding plan_of
plan_is d root t e = go (description_of d root) t (subst (Alike d (description_of d root)) e (description_same d root))
  where
    go : (o : OldDescription) (t : DescribedType) → Alike d o (accepted t) → plan_of o ≡ plan (whole_plan t)
    go (refused_by n p) t a = absurd a
    go without_type no_type a = ap plan (sym (plan_none d))
    go without_type (block_type bs k) a = absurd a
    go (oldDescribed os j) no_type a = absurd a
    go (oldDescribed os j) (block_type bs k) a = ap plan (sym (plan_same d os bs a.0 k a.2 ∙ ap (oldPlan os) (sym a.1)))
