-- A block, by both definitions.
use mathlib.Core.Path.{◌≡◌, refl, sym, subst}
use mathlib.Core.Bool.{Bool, true, false, not}
use mathlib.Core.List.{List, [], ◌∷◌}
use mathlib.Core.Option.{Option, none, some}
use Rattle.std.specs.Prelude.{None}
use Prim.Native.Nat.{ℕ, ◌≤◌, ◌<◌}
use native.Mathlib.Omega.{arith}
use native.Mathlib.Decide.{dec_lt}
use lib.Dec.{eqb}
use lib.ListN.{length, take, drop}
use borrow.Author.Tests.{le-ltb, lt-leb, eqb-true, ne_eqb}
use Rattle.wire.proofs.Picks.{clash}
use Rattle.wire.proofs.Tables.{each_at}
use Rattle.descriptor_fields.specs.Layouts.{ID, layout, known_tag}
use Rattle.descriptor_fields.specs.Fields.{Known, Element, id_at, format_of as oldFormat, kept, grown, height_after, format_after}
use Rattle.descriptor_fields.specs.declared.Draft.{Draft}
use Rattle.descriptor_blocks.specs.Blocks.{Reading, and_then, field, fields, items, section, block_from}
use Rattle.protocol.specs.Descriptors.{Block, BlockKind, types, Reader, parse_then, give, new_id, height_over, indexed_block, annotation_block}
use Rattle.descriptor_agree.proofs.Agree.{Agree, agree_map, agree_assoc, agree_unassoc, agree_field}
use Rattle.descriptor_agree.proofs.Fields.{Pairs, id_same}
use Rattle.descriptor_agree.proofs.Runs.{rest, Fresh}
use Rattle.descriptor_agree.proofs.Contents.{Final, set_agrees, output_agrees, tuple_agrees, named_tuple_agrees, array_agrees}
use Rattle.descriptor_agree.proofs.Contents.{enumeration_agrees, input_agrees, range_agrees, object_agrees, compound_agrees}
use Rattle.descriptor_agree.proofs.Contents.{record_agrees, annotation_agrees}
use Rattle.descriptor_agree.proofs.Scalars.{scalar_agrees}
use Rattle.protocol.specs.Numbers.{pick, be, any}

-- a block that was read after a tag, by both definitions
pub record Twin (d : List ℕ) (known : List Known) (bs : List Block) (tag at : ℕ) (x : Draft) (es : List Element) (o : Option Block) : Type 0 where
  pub block : Block
  pub is : o ≡ some block
  pub tags : block.tag ≡ tag
  pub ids : block.id ≡ id_at d at
  pub height : block.height ≡ x.height
  pub final : Final known bs tag x es block.kind

abbrev blank : ℕ → Draft
blank at = record { at = at; left = 0; free = 0; format = None; height = 1; card = 0; name = 0; count = 0 }

abbrev pub tags : List ℕ
tags = 0 ∷ 1 ∷ 3 ∷ 4 ∷ 5 ∷ 6 ∷ 7 ∷ 8 ∷ 9 ∷ 10 ∷ 11 ∷ 13 ∷ []

module _ (d : List ℕ) (known : List Known) (bs : List Block) (pairs : Pairs d known bs) (at : ℕ) (inside : at ≤ length d) where
  abbrev block_by : ℕ → (ℕ → Reader BlockKind) → Reader (Option Block)
  block_by tag K s = parse_then (new_id bs s) (λ id s. parse_then (K id s) (λ kind. give (some (record { tag = tag; id = id; kind = kind; height = height_over bs 1 (types kind) }))))

  from_id : (tag : ℕ) (cs is : List ℕ) (k : Draft → List Element → Reading) (K : ℕ → Reader BlockKind)
      → ((i : ℕ) (y : Draft) → y.at ≤ length d → Fresh y [] → y.left ≡ 0 → y.format ≡ oldFormat i → Agree d (Final known bs tag) (and_then (rest d known tag cs is y []) k) (K i (drop y.at d)))
      → Agree d (Twin d known bs tag at) (and_then (section d known tag (ID ∷ cs) is (blank at) []) k) (block_by tag K (drop at d))
  unfolding section fields rest kept height_after format_after grown pick id_at
  from_id tag cs is k K all =
      let Q = Twin d known bs tag at in
      let x = blank at in
      let i = be (take 16 (drop at d)) in
      let last : Draft → List Element → Reading = λ y fs. items d known tag is y.left y fs in
      agree_assoc d Q (and_then (field d known tag ID x []) (fields d known tag cs)) last k _
      (agree_assoc d Q (field d known tag ID x []) (fields d known tag cs) (λ y fs. and_then (last y fs) k) _
      (agree_field d known tag Q ID x [] (new_id bs (drop at d)) i _ _ (id_same d known tag bs pairs x [] inside) (λ l z.
      let y = kept d known tag ID x in
      agree_unassoc d Q (fields d known tag cs y []) last k _
      (agree_map d (Final known bs tag) Q (λ kind. some (record { tag = tag; id = i; kind = kind; height = height_over bs 1 (types kind) }))
      (and_then (rest d known tag cs is y []) k) (K i (drop y.at d))
      (all i y l (record { height = refl; free = refl; none_yet = refl }) refl refl)
      (λ w fs kind f. record { block = record { tag = tag; id = i; kind = kind; height = height_over bs 1 (types kind) }; is = refl; tags = refl; ids = refl; height = sym f.height; final = f })))))

  abbrev Good : ℕ → Type 0
  Good tag = Agree d (Twin d known bs tag at) (block_from d known tag at) (indexed_block bs tag (drop at d))

  good_0 : Good 0
  unfolding block_from layout indexed_block pick
  good_0 = from_id 0 _ _ _ _ (λ i y l f e _. set_agrees d known bs pairs i y [] l f e)

  good_1 : Good 1
  unfolding block_from layout indexed_block pick
  good_1 = from_id 1 _ _ _ _ (λ i y l f e g. output_agrees d known bs pairs i y [] l f)

  good_3 : Good 3
  unfolding block_from layout indexed_block pick
  good_3 = from_id 3 _ _ _ _ (λ i y l f e g. scalar_agrees d known bs pairs i y [] l f g)

  good_4 : Good 4
  unfolding block_from layout indexed_block pick
  good_4 = from_id 4 _ _ _ _ (λ i y l f e g. tuple_agrees d known bs pairs i y [] l f)

  good_5 : Good 5
  unfolding block_from layout indexed_block pick
  good_5 = from_id 5 _ _ _ _ (λ i y l f e g. named_tuple_agrees d known bs pairs i y [] l f)

  good_6 : Good 6
  unfolding block_from layout indexed_block pick
  good_6 = from_id 6 _ _ _ _ (λ i y l f e g. array_agrees d known bs pairs i y [] l f)

  good_7 : Good 7
  unfolding block_from layout indexed_block pick
  good_7 = from_id 7 _ _ _ _ (λ i y l f e g. enumeration_agrees d known bs pairs i y [] l f)

  good_8 : Good 8
  unfolding block_from layout indexed_block pick
  good_8 = from_id 8 _ _ _ _ (λ i y l f e g. input_agrees d known bs pairs i y [] l f)

  good_9 : Good 9
  unfolding block_from layout indexed_block pick
  good_9 = from_id 9 _ _ _ _ (λ i y l f e g. range_agrees d known bs pairs i y [] l f)

  good_10 : Good 10
  unfolding block_from layout indexed_block pick
  good_10 = from_id 10 _ _ _ _ (λ i y l f e g. object_agrees d known bs pairs i y [] l f e)

  good_11 : Good 11
  unfolding block_from layout indexed_block pick
  good_11 = from_id 11 _ _ _ _ (λ i y l f e g. compound_agrees d known bs pairs i y [] l f)

  good_13 : Good 13
  unfolding block_from layout indexed_block pick
  good_13 = from_id 13 _ _ _ _ (λ i y l f e g. record_agrees d known bs pairs i y [] l f)

  abbrev All : (ℕ → Type 0) → List ℕ → Type 0
  All P [] = Unit {0}
  All P (t ∷ ts) = P t × All P ts

  among : (P : ℕ → Type 0) (tag : ℕ) (ts : List ℕ) → All P ts → any (eqb tag) ts ≡ true → P tag
  unfolding any pick
  among P tag [] a e = clash e
  among P tag (t ∷ ts) a e = go (eqb tag t) refl e (among P tag ts a.1)
    where
      go : (b : Bool) → eqb tag t ≡ b → pick b true (any (eqb tag) ts) ≡ true → (any (eqb tag) ts ≡ true → P tag) → P tag
      go true q e k = subst P (sym (eqb-true tag t q)) a.0
      go false q e k = k e

  pub block_agrees : (tag : ℕ) → any (eqb tag) tags ≡ true → Good tag
  block_agrees tag e = among Good tag tags (good_0, (good_1, (good_3, (good_4, (good_5, (good_6, (good_7, (good_8, (good_9, (good_10, (good_11, (good_13, tt)))))))))))) e

  pub note_agrees : Agree d (λ y fs o. o ≡ none) (block_from d known 127 at) (annotation_block bs (drop at d))
  unfolding block_from layout section rest pick
  note_agrees = annotation_agrees d known bs pairs (blank at) [] inside refl

-- ---- the known tags

listed : ℕ → Bool
listed tag = pick (eqb tag 127) true (any (eqb tag) tags)

alike : Bool → Bool → Bool
alike a b = pick a b (not b)

alike_same : (a b : Bool) → alike a b ≡ true → a ≡ b
unfolding alike pick
alike_same true true e = refl
alike_same true false e = clash e
alike_same false true e = clash e
alike_same false false e = refl

tag_low : (tag : ℕ) → tag < 128 → alike (known_tag tag) (listed tag) ≡ true
unfolding alike known_tag listed any pick
tag_low tag h = each_at (λ t. alike (known_tag t) (listed t)) 0 128 refl tag (omega arith) (omega arith)

pub tag_known : (tag : ℕ) → known_tag tag ≡ pick (eqb tag 127) true (any (eqb tag) tags)
unfolding known_tag any pick listed
tag_known tag = elim (dec_lt tag 128) [
  | yes h ↦ alike_same (known_tag tag) (listed tag) (tag_low tag h)
  | no h ↦ let l : 128 ≤ tag = omega (arith, h) in
      rw (
        lt-leb tag 1 (omega arith),
        le-ltb tag 3 (omega arith),
        lt-leb tag 11 (omega arith),
        ne_eqb tag 13 (λ e. omega arith),
        ne_eqb tag 127 (λ e. omega arith),
        ne_eqb tag 0 (λ e. omega arith),
        ne_eqb tag 1 (λ e. omega arith),
        ne_eqb tag 3 (λ e. omega arith),
        ne_eqb tag 4 (λ e. omega arith),
        ne_eqb tag 5 (λ e. omega arith),
        ne_eqb tag 6 (λ e. omega arith),
        ne_eqb tag 7 (λ e. omega arith),
        ne_eqb tag 8 (λ e. omega arith),
        ne_eqb tag 9 (λ e. omega arith),
        ne_eqb tag 10 (λ e. omega arith),
        ne_eqb tag 11 (λ e. omega arith),
      )
]
