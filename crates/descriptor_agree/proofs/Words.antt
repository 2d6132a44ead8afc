-- The words of the plan, by both definitions.
use mathlib.Core.Path.{◌≡◌, refl, ap, ap₂, sym, ◌∙◌}
use mathlib.Core.Bool.{Bool, true, false}
use mathlib.Core.List.{List, [], ◌∷◌, ◌++◌, map, map-append, append_assoc}
use mathlib.Core.Option.{Option, none, some}
use Prim.Native.Nat.{ℕ, zero, suc, ◌+◌, ◌≤◌, ◌<◌}
use native.Mathlib.Omega.{arith}
use native.Mathlib.Decide.{dec_lt}
use native.Mathlib.Numerals.{add-one}
use lib.Dec.{eqb}
use lib.ListN.{length, take, get_or, length-append, length-map, get_or-append}
use lib.Seq.{take-append-le, take-length, get_or_at}
use Rattle.descriptor_fields.specs.Layouts.{valued as valuedTag}
use Rattle.descriptor_fields.specs.Fields.{Known, no_block}
use Rattle.descriptor_blocks.specs.Descriptor.{Block as OldBlock, summary, summaries, all_words, node_at}
use Rattle.protocol.specs.Descriptors.{Block, BlockKind, set_of, output_shape, scalar_of, tuple_of, named_tuple, array_of, enum_of}
use Rattle.protocol.specs.Descriptors.{input_shape, range_of, object_type, compound_type, sql_record, types, OutputElement, InputElement}
use Rattle.protocol.specs.Descriptors.{NamedElement}
use Rattle.descriptor_agree.proofs.Contents.{Below}
use Rattle.descriptor_agree.proofs.Fields.{Pair, Pairs}
use Rattle.descriptor_agree.proofs.Fields
use Rattle.protocol.specs.Numbers.{pick}
use Rattle.protocol.specs.Nodes.{Node, leaf, enum, row, arrays, tuple, object, sparse, range, rename}
use Rattle.protocol.specs.Compiling.{block_node, ref_cards, node_as_words, block_words, words_by, node_position}

-- ---- the words of a node

-- their number does not depend on where references lead
module _ (ρ σ : ℕ → ℕ) where
  pairs_length : (rs cs : List ℕ) → length (ref_cards (map ρ rs) cs) ≡ length (ref_cards (map σ rs) cs)
  unfolding ref_cards
  pairs_length [] cs = refl
  pairs_length (r ∷ rs) [] = refl
  pairs_length (r ∷ rs) (c ∷ cs) = ap (λ n. suc (suc n)) (pairs_length rs cs)

  words_length : (o : Option Node) → length (block_words ρ o) ≡ length (block_words σ o)
  unfolding block_words node_as_words rename
  words_length none = refl
  words_length (some (leaf f)) = refl
  words_length (some enum) = refl
  words_length (some (row r)) = refl
  words_length (some (arrays r)) = refl
  words_length (some (tuple rs)) = simp length-map
  words_length (some (object rs cs)) = ap (λ n. suc (suc n)) (pairs_length rs cs)
  words_length (some (sparse rs cs)) = ap (λ n. suc (suc n)) (pairs_length rs cs)
  words_length (some (range r)) = refl

  by_length : (all xs : List Block) → length (words_by ρ all xs) ≡ length (words_by σ all xs)
  unfolding words_by
  by_length all [] = refl
  by_length all (b ∷ xs) = simp length-append (ap₂ ◌+◌ (words_length (block_node all b.kind)) (by_length all xs))

  -- where references lead to the same words, the words are the same
  module _ (n : ℕ) (same : (r : ℕ) → r < n → ρ r ≡ σ r) where
    map_below : (ts : List ℕ) → Below n ts → map ρ ts ≡ map σ ts
    map_below [] b = refl
    map_below (t ∷ ts) b = ap₂ ◌∷◌ (same t b.0) (map_below ts b.1)

    kind_below : (bs : List Block) (k : BlockKind) → Below n (types k) → block_words ρ (block_node bs k) ≡ block_words σ (block_node bs k)
    unfolding block_words block_node node_as_words rename types pick
    kind_below bs (set_of t) b = go (eqb (get_or (map (λ (b : Block). b.tag) bs) t 0) 6)
      where
        go : (q : Bool) → block_words ρ (some (pick q (arrays t) (row t))) ≡ block_words σ (some (pick q (arrays t) (row t)))
        go true = rw (same t b.0)
        go false = rw (same t b.0)
    kind_below bs (output_shape free t es) b = rw (map_below (map (λ (e : OutputElement). e.type) es) b)
    kind_below bs (scalar_of s f) b = refl
    kind_below bs (tuple_of s ts) b = rw (map_below ts b)
    kind_below bs (named_tuple s es) b = rw (map_below (map (λ (e : NamedElement). e.type) es) b)
    kind_below bs (array_of s t) b = rw (same t b.0)
    kind_below bs (enum_of s ms) b = refl
    kind_below bs (input_shape es) b = rw (map_below (map (λ (e : InputElement). e.type) es) b)
    kind_below bs (range_of s t) b = rw (same t b.0)
    kind_below bs (object_type s) b = refl
    kind_below bs (compound_type s o cs) b = refl
    kind_below bs (sql_record es) b = refl

-- ---- one more block

-- each block's references are to blocks below an index
abbrev pub Belows : ℕ → List Block → Type 0
Belows n [] = Unit {0}
Belows n (b ∷ bs) = Below n (types b.kind) × Belows n bs

below_up : (n m : ℕ) (ts : List ℕ) → n ≤ m → Below n ts → Below m ts
below_up n m [] h b = tt
below_up n m (t ∷ ts) h b = (let l = b.0 in omega arith, below_up n m ts h b.1)

belows_take : (n k : ℕ) (bs : List Block) → Belows n bs → Belows n (take k bs)
belows_take n zero bs b = tt
belows_take n (suc k) [] b = tt
belows_take n (suc k) (x ∷ bs) b = (b.0, belows_take n k bs b.1)

belows_more : (n : ℕ) (bs : List Block) (x : Block) → Belows n bs → Below n (types x.kind) → Belows (suc n) (bs ++ (x ∷ []))
belows_more n [] x b h = (below_up n (suc n) (types x.kind) (omega arith) h, tt)
belows_more n (y ∷ bs) x b h = (below_up n (suc n) (types y.kind) (omega arith) b.0, belows_more n bs x b.1 h)

module _ (bs : List Block) (x : Block) where
  node_more : (k : BlockKind) → Below (length bs) (types k) → block_node (bs ++ (x ∷ [])) k ≡ block_node bs k
  unfolding block_node types
  node_more (set_of t) b =
      let tag : Block → ℕ = λ b. b.tag in
      rw (map-append tag bs (x ∷ []), get_or-append (map tag bs) (x.tag ∷ []) 0 t (rw (length-map bs tag) b.0))
  node_more (output_shape free t es) b = refl
  node_more (scalar_of s f) b = refl
  node_more (tuple_of s ts) b = refl
  node_more (named_tuple s es) b = refl
  node_more (array_of s t) b = refl
  node_more (enum_of s ms) b = refl
  node_more (input_shape es) b = refl
  node_more (range_of s t) b = refl
  node_more (object_type s) b = refl
  node_more (compound_type s o cs) b = refl
  node_more (sql_record es) b = refl

  by_more : (ρ : ℕ → ℕ) (ys : List Block) → Belows (length bs) ys → words_by ρ (bs ++ (x ∷ [])) ys ≡ words_by ρ bs ys
  unfolding words_by
  by_more ρ [] b = refl
  by_more ρ (y ∷ ys) b = ap₂ ◌++◌ (ap (block_words ρ) (node_more y.kind b.0)) (by_more ρ ys b.1)

  position_more : Belows (length bs) bs → (k : ℕ) → k ≤ length bs → node_position (bs ++ (x ∷ [])) k ≡ node_position bs k
  unfolding node_position
  position_more b k h = rw (take-append-le k bs (x ∷ []) h) (ap (λ (l : List ℕ). 2 + length l) (by_more (λ r. r) (take k bs) (belows_take (length bs) k bs b)))

by_below : (ρ σ : ℕ → ℕ) (n : ℕ) → ((r : ℕ) → r < n → ρ r ≡ σ r) → (all ys : List Block) → Belows n ys → words_by ρ all ys ≡ words_by σ all ys
unfolding words_by
by_below ρ σ n same all [] b = refl
by_below ρ σ n same all (y ∷ ys) b = ap₂ ◌++◌ (kind_below ρ σ n same all y.kind b.0) (by_below ρ σ n same all ys b.1)

by_append : (ρ : ℕ → ℕ) (all xs ys : List Block) → words_by ρ all (xs ++ ys) ≡ words_by ρ all xs ++ words_by ρ all ys
unfolding words_by
by_append ρ all [] ys = refl
by_append ρ all (x ∷ xs) ys =
    ap (λ (l : List ℕ). block_words ρ (block_node all x.kind) ++ l) (by_append ρ all xs ys) ∙ sym (append_assoc (block_words ρ (block_node all x.kind)) (words_by ρ all xs) (words_by ρ all ys))

all_append : (xs ys : List OldBlock) → all_words (xs ++ ys) ≡ all_words xs ++ all_words ys
unfolding all_words
all_append [] ys = refl
all_append (x ∷ xs) ys = ap (λ (l : List ℕ). x.words ++ l) (all_append xs ys) ∙ sym (append_assoc x.words (all_words xs) (all_words ys))

-- where the code's own definition says that a node is
old_before : (os : List OldBlock) (o : OldBlock) (k : ℕ) → k < length (summaries os) → node_at (summaries (os ++ (o ∷ []))) k ≡ node_at (summaries os) k
unfolding node_at
old_before os o k h =
    ap (λ (ks : List Known). (get_or ks k no_block).node) (map-append summary os (o ∷ []))
    ∙ ap (λ (k : Known). k.node) (get_or-append (summaries os) (summary o ∷ []) no_block k h)

old_last : (os : List OldBlock) (o : OldBlock) (k : ℕ) → length (summaries os) ≡ k → node_at (summaries (os ++ (o ∷ []))) k ≡ (summary o).node
unfolding node_at
old_last os o k h =
    ap (λ (ks : List Known). (get_or ks k no_block).node) (map-append summary os (o ∷ []))
    ∙ ap (λ (k : Known). k.node) (get_or_at (summaries os) (summary o) [] no_block k h)

-- the node of each block, where it has one, is that of the code's own definition
abbrev pub Shapes : List Block → List OldBlock → List Block → Type 0
Shapes all [] [] = Unit {0}
Shapes all [] (b ∷ bs) = ⊥
Shapes all (o ∷ os) [] = ⊥
Shapes all (o ∷ os) (b ∷ bs) = (block_node all b.kind ≡ pick (valuedTag o.tag) (some o.shape) none) × Shapes all os bs

shapes_more : (all : List Block) (x : Block) (os : List OldBlock) (bs : List Block) → Belows (length all) bs → Shapes all os bs → Shapes (all ++ (x ∷ [])) os bs
shapes_more all x [] [] b s = tt
shapes_more all x [] (c ∷ bs) b s = s
shapes_more all x (o ∷ os) [] b s = s
shapes_more all x (o ∷ os) (c ∷ bs) b s = (node_more all x c.kind b.0 ∙ s.0, shapes_more all x os bs b.1 s.1)

shapes_end : (all : List Block) (os : List OldBlock) (bs : List Block) (o : OldBlock) (b : Block) → Shapes all os bs
    → block_node all b.kind ≡ pick (valuedTag o.tag) (some o.shape) none → Shapes all (os ++ (o ∷ [])) (bs ++ (b ∷ []))
shapes_end all [] [] o b s e = (e, tt)
shapes_end all [] (c ∷ bs) o b s e = absurd s
shapes_end all (p ∷ os) [] o b s e = absurd s
shapes_end all (p ∷ os) (c ∷ bs) o b s e = (s.0, shapes_end all os bs o b s.1 e)

-- ---- the blocks of both definitions

pub record Twins (d : List ℕ) (os : List OldBlock) (bs : List Block) : Type 0 where
  pub pairs : Pairs d (summaries os) bs
  pub words : all_words os ≡ words_by (node_position bs) bs bs
  pub nodes : (k : ℕ) → k < length bs → node_at (summaries os) k ≡ node_position bs k
  pub belows : Belows (length bs) bs
  pub shapes : Shapes bs os bs

-- the end of the blocks' words
pub end_at : (bs : List Block) → node_position bs (length bs) ≡ 2 + length (words_by (node_position bs) bs bs)
unfolding node_position
end_at bs = rw take-length (ap (λ (n : ℕ). 2 + n) (by_length (λ r. r) (node_position bs) bs bs))

pairs_more : (d : List ℕ) (ks : List Known) (bs : List Block) (k : Known) (b : Block) → Pairs d ks bs → Pair d k b → Pairs d (ks ++ (k ∷ [])) (bs ++ (b ∷ []))
pairs_more d [] [] k b p q = (q, tt)
pairs_more d [] (c ∷ bs) k b p q = elim p [ ]
pairs_more d (j ∷ ks) [] k b p q = elim p [ ]
pairs_more d (j ∷ ks) (c ∷ bs) k b p q = (p.0, pairs_more d ks bs k b p.1 q)

module _ (d : List ℕ) (os : List OldBlock) (bs : List Block) (t : Twins d os bs) (o : OldBlock) (b : Block) (p : Pair d (summary o) b)
    (w : o.words ≡ block_words (node_at (summaries os)) (block_node bs b.kind)) (n : o.node ≡ 2 + length (all_words os))
    (low : Below (length bs) (types b.kind)) (shape : block_node bs b.kind ≡ pick (valuedTag o.tag) (some o.shape) none) where
  agree_at : (r : ℕ) → r < length bs → node_at (summaries os) r ≡ node_position (bs ++ (b ∷ [])) r
  agree_at r h = t.nodes r h ∙ sym (position_more bs b t.belows r (omega arith))

  words_more : all_words (os ++ (o ∷ [])) ≡ words_by (node_position (bs ++ (b ∷ []))) (bs ++ (b ∷ [])) (bs ++ (b ∷ []))
  unfolding all_words words_by
  words_more =
      all_append os (o ∷ [])
      ∙ ap₂ (λ (l m : List ℕ). l ++ (m ++ []))
      (t.words
      ∙ by_below (node_position bs) (node_position (bs ++ (b ∷ []))) (length bs) (λ r h. sym (position_more bs b t.belows r (omega arith))) bs bs t.belows
      ∙ sym (by_more bs b (node_position (bs ++ (b ∷ []))) bs t.belows))
      (w
      ∙ kind_below (node_at (summaries os)) (node_position (bs ++ (b ∷ []))) (length bs) agree_at bs b.kind low
      ∙ ap (block_words (node_position (bs ++ (b ∷ [])))) (sym (node_more bs b b.kind low)))
      ∙ sym (by_append (node_position (bs ++ (b ∷ []))) (bs ++ (b ∷ [])) bs (b ∷ []))

  same_length : length (summaries os) ≡ length bs
  same_length = Fields.pairs_length d (summaries os) bs t.pairs

  nodes_more : (k : ℕ) → k < length (bs ++ (b ∷ [])) → node_at (summaries (os ++ (o ∷ []))) k ≡ node_position (bs ++ (b ∷ [])) k
  unfolding summary
  nodes_more k h = elim (dec_lt k (length bs)) [
    | yes l ↦ old_before os o k (rw same_length l) ∙ agree_at k l
    | no l ↦
        let e : k ≡ length bs = omega (arith, l, length-append bs (b ∷ [])) in
        old_last os o k (same_length ∙ sym e)
        ∙ n
        ∙ ap (λ (l : List ℕ). 2 + length l) t.words
        ∙ sym (end_at bs)
        ∙ sym (position_more bs b t.belows (length bs) (omega arith))
        ∙ ap (node_position (bs ++ (b ∷ []))) (sym e)
  ]

  pub twins_more : Twins d (os ++ (o ∷ [])) (bs ++ (b ∷ []))
  twins_more =
      record {
        pairs = rw map-append (pairs_more d (summaries os) bs (summary o) b t.pairs p);
        words = words_more;
        nodes = nodes_more;
        belows = rw (length-append bs (b ∷ []), add-one) (belows_more (length bs) bs b t.belows low);
        shapes = shapes_end (bs ++ (b ∷ [])) os bs o b (shapes_more bs b os bs t.belows t.shapes) (node_more bs b b.kind low ∙ shape);
      }
