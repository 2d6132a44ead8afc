-- Nobody has to believe these definitions: they are what the code says to itself of a whole descriptor, its blocks, its root and its plan;
-- that they give what protocol's give is proved (descriptor_agree).
use Rattle.std.specs.Prelude.{ℕ, zero, suc, ◌+◌, Bool, false, List, [], ◌∷◌, ◌++◌, map, leb, ltb, eqb, length, get_or, Option, Some, None}
use Rattle.descriptor_fields.specs.Layouts.{known_tag, indexed, valued}
use Rattle.descriptor_fields.specs.Fields.{Known, no_block, Element, id_at, index_in, format_number}
use Rattle.descriptor_blocks.specs.Blocks.{Item, Reading, stop, next, block_from}
use Rattle.descriptor_fields.specs.declared.Draft.{Draft}
use Rattle.protocol.specs.Numbers.{pick}
use Rattle.protocol.specs.Nodes.{Node, leaf, enum, row, arrays, tuple, object, sparse, range, rename}
use Rattle.protocol.specs.Compiling.{node_as_words}

-- ---- the node of a block

abbrev pub refs : List Element → List ℕ
refs es = map (λ (e : Element). e.ref) es

abbrev pub cards : List Element → List ℕ
cards es = map (λ (e : Element). e.card) es

-- the reference of a set, an array or a range
unfoldable pub only_ref : List Element → ℕ
only_ref [] = 0
only_ref (e ∷ es) = e.ref

-- the node of a block, with block indexes as references (R4.8)
unfoldable pub node_of : List Known → ℕ → ℕ → List Element → Node
node_of known tag format es =
    pick (eqb tag 0) (pick (eqb (get_or known (only_ref es) no_block).tag 6) (arrays (only_ref es)) (row (only_ref es)))
    (pick (eqb tag 1) (object (refs es) (cards es))
    (pick (eqb tag 3) (leaf format)
    (pick (eqb tag 6) (row (only_ref es))
    (pick (eqb tag 7) enum
    (pick (eqb tag 8) (sparse (refs es) (cards es)) (pick (eqb tag 9) (range (only_ref es)) (tuple (refs es))))))))

-- the word of the plan at which a block's node starts
unfoldable pub node_at : List Known → ℕ → ℕ
node_at known r = (get_or known r no_block).node

-- the words of a block's node, if it has values
unfoldable pub words_of : List Known → ℕ → ℕ → List Element → List ℕ
words_of known tag format es = pick (valued tag) (node_as_words (rename (node_at known) (node_of known tag format es))) []

-- ---- the blocks

-- a block that was read: all of its fields, and what they say
pub record Block : Type 0 where
  pub start : ℕ
  pub tag : ℕ
  pub format : ℕ
  pub height : ℕ
  pub elements : List Element
  pub items : List Item
  -- its kind, with blocks as references
  pub shape : Node
  -- where its node starts in the plan, and its words there
  pub node : ℕ
  pub words : List ℕ

unfoldable pub summary : Block → Known
summary b = record { start = b.start; tag = b.tag; height = b.height; node = b.node }

abbrev pub summaries : List Block → List Known
summaries bs = map summary bs

-- the words of all nodes, in the order of the blocks
unfoldable pub all_words : List Block → List ℕ
all_words [] = []
all_words (b ∷ bs) = b.words ++ all_words bs

-- a block, after those before it
unfoldable pub block_of : List Block → ℕ → ℕ → Draft → List Element → List Item → Block
block_of bs start tag x es is =
    record {
      start = start;
      tag = tag;
      format = format_number x.format;
      height = x.height;
      elements = es;
      items = is;
      shape = node_of (summaries bs) tag (format_number x.format) es;
      node = 2 + length (all_words bs);
      words = words_of (summaries bs) tag (format_number x.format) es;
    }

-- number and place of a refusal, or the blocks
pub data Blocks : Type 0 where
  faulty : ℕ → ℕ → Blocks
  whole : List Block → Blocks

-- the blocks after one more
unfoldable pub extended : List Block → ℕ → ℕ → Draft → List Element → List Item → List Block
extended bs start tag x es is = pick (indexed tag) (bs ++ (block_of bs start tag x es is ∷ [])) bs

-- one block more would be one too many (R3.14)
unfoldable pub full : List Block → ℕ → Bool
full bs tag = pick (indexed tag) (leb 1024 (length bs)) false

-- what comes after a block, or its refusal: the places of 10 and 12 to 17 are the tag's
unfoldable pub onward : ℕ → Reading → (Draft → List Element → List Item → Blocks) → Blocks
onward at (stop n) f = faulty n at
onward at (next x es is) f = f x es is

module _ (d : List ℕ) where
  -- the blocks from a place on: an unknown tag is 11 (R3.2), and then one block too many 17 (R3.14)
  unfoldable pub blocks_from : ℕ → ℕ → List Block → Blocks
  blocks_from zero at bs = faulty 10 at
  blocks_from (suc f) at bs =
      pick (leb (length d) at) (whole bs)
      (pick (known_tag (get_or d at 0))
      (pick (full bs (get_or d at 0)) (faulty 17 at)
      (onward at (block_from d (summaries bs) (get_or d at 0) (at + 1)) (λ x es is. blocks_from f x.at (extended bs at (get_or d at 0) x es is))))
      (faulty 11 at))

  -- each block has a byte
  unfoldable pub blocks_of : Blocks
  blocks_of = blocks_from (suc (length d)) 0 []

-- ---- the root, and the descriptor

-- an accepted descriptor: no type, or blocks and the index of the root; else number and place
pub data Description : Type 0 where
  refused_by : ℕ → ℕ → Description
  without_type : Description
  described : List Block → ℕ → Description

-- the index of the block with an id
abbrev pub index_of : List ℕ → List Block → ℕ → Option ℕ
index_of d bs i = index_in d (summaries bs) i

-- the tag of the block with an index
unfoldable pub tag_at : List Block → ℕ → ℕ
tag_at [] k = 10
tag_at (b ∷ bs) zero = b.tag
tag_at (b ∷ bs) (suc k) = tag_at bs k

-- 18 for a root that is missing or without values (R3.17)
unfoldable pub root_at : List ℕ → List Block → Option ℕ → Description
root_at d bs None = refused_by 18 (length d)
root_at d bs (Some i) = pick (valued (tag_at bs i)) (described bs i) (refused_by 18 (length d))

unfoldable pub rooted : List ℕ → ℕ → Blocks → Description
rooted d i (faulty n p) = refused_by n p
rooted d i (whole bs) = root_at d bs (index_of d bs i)

-- first the size, then the root's id, then the blocks (R3.14, R3.17)
unfoldable pub description_of : List ℕ → List ℕ → Description
description_of d root =
    pick (ltb 65535 (length d)) (refused_by 17 0)
    (pick (eqb (length root) 16)
    (pick (eqb (id_at root 0) 0) (pick (eqb (length d) 0) without_type (refused_by 18 (length d))) (rooted d (id_at root 0) (blocks_of d)))
    (refused_by 18 (length d)))

-- ---- the plan

-- the words of a plan (R4.1, R4.7)
unfoldable pub plan_words : List Block → ℕ → List ℕ
plan_words bs root = (2 + length (all_words bs)) ∷ node_at (summaries bs) root ∷ all_words bs

-- number and place of a refusal, or the plan's words
pub data Compiled : Type 0 where
  refused_plan : ℕ → ℕ → Compiled
  plan : List ℕ → Compiled

-- the plan of no type (R4.6)
unfoldable pub plan_of : Description → Compiled
plan_of (refused_by n p) = refused_plan n p
plan_of without_type = plan (2 ∷ 0 ∷ [])
plan_of (described bs root) = plan (plan_words bs root)

-- 30 for a plan that has no room, last of all (R4.9)
unfoldable pub roomed : ℕ → Compiled → Compiled
roomed room (refused_plan n p) = refused_plan n p
roomed room (plan ws) = pick (ltb room (length ws)) (refused_plan 30 0) (plan ws)

-- the call, for a plan of `room` words
unfoldable pub compile_of : List ℕ → List ℕ → ℕ → Compiled
compile_of d root room = roomed room (plan_of (description_of d root))
