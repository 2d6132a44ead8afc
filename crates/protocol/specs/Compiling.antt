-- The plan that is made from the blocks of an accepted descriptor (R4.1, R4.6 to R4.9), in the order of R1.8.
use Rattle.std.specs.Prelude.{ℕ, ◌+◌, List, [], ◌∷◌, ◌++◌, map, eqb, ltb, length, take, get_or}
use Rattle.std.proofs.Math.Option.{Option, none, some}
use Rattle.protocol.specs.Constants.{PLAN_ROOM, TAG_ARRAY, KIND_LEAF, KIND_SET_OR_ARRAY, KIND_SET_OF_ARRAYS, KIND_TUPLE, KIND_OUTPUT_OBJECT, KIND_INPUT_OBJECT, KIND_RANGE, KIND_ENUMERATION}
use Rattle.protocol.specs.Numbers.{pick}
use Rattle.protocol.specs.Answers.{Outcome, refused, accepted, over}
use Rattle.protocol.specs.Nodes.{Node, leaf, enum, row, arrays, tuple, object, sparse, range, rename}
use Rattle.protocol.specs.Descriptors.{OutputElement, InputElement, BlockKind, set_of, output_shape, scalar_of, tuple_of, named_tuple}
use Rattle.protocol.specs.Descriptors.{array_of, enum_of, input_shape, range_of, object_type, compound_type, sql_record, Block, types}
use Rattle.protocol.specs.Descriptors.{BlockForm, DescribedType, no_type, block_type, describe}

-- The node of a block, with block indexes as references (R4.8); blocks without values have none.
unfoldable pub block_node : List Block → BlockKind → Option Node
block_node bs (set_of t) = some (pick (eqb (get_or (map (λ (b : Block). b.tag) bs) t 0) TAG_ARRAY) (arrays t) (row t))
block_node bs (output_shape free t es) = some (object (types (output_shape free t es)) (map (λ (e : OutputElement). e.cardinal) es))
block_node bs (scalar_of s f) = some (leaf f)
block_node bs (tuple_of s ts) = some (tuple ts)
block_node bs (named_tuple s es) = some (tuple (types (named_tuple s es)))
block_node bs (array_of s t) = some (row t)
block_node bs (enum_of s ms) = some enum
block_node bs (input_shape es) = some (sparse (types (input_shape es)) (map (λ (e : InputElement). e.cardinal) es))
block_node bs (range_of s t) = some (range t)
block_node bs (object_type s) = none
block_node bs (compound_type s o cs) = none
block_node bs (sql_record es) = none

-- references and cardinalities in turn
unfoldable pub ref_cards : List ℕ → List ℕ → List ℕ
ref_cards [] cs = []
ref_cards (r ∷ rs) [] = []
ref_cards (r ∷ rs) (c ∷ cs) = r ∷ c ∷ ref_cards rs cs

-- a node as words: its kind first, then a format, a reference, or a count and what is counted (R4.2)
unfoldable pub node_as_words : Node → List ℕ
node_as_words (leaf f) = KIND_LEAF ∷ f ∷ []
node_as_words (row r) = KIND_SET_OR_ARRAY ∷ r ∷ []
node_as_words (arrays r) = KIND_SET_OF_ARRAYS ∷ r ∷ []
node_as_words (tuple rs) = KIND_TUPLE ∷ length rs ∷ rs
node_as_words (object rs cs) = KIND_OUTPUT_OBJECT ∷ length rs ∷ ref_cards rs cs
node_as_words (sparse rs cs) = KIND_INPUT_OBJECT ∷ length rs ∷ ref_cards rs cs
node_as_words (range r) = KIND_RANGE ∷ r ∷ []
node_as_words enum = KIND_ENUMERATION ∷ []

-- the words of a node if there is one, with references put as ρ says
unfoldable pub block_words : (ℕ → ℕ) → Option Node → List ℕ
block_words ρ none = []
block_words ρ (some n) = node_as_words (rename ρ n)

-- the words of some blocks' nodes, with references put as ρ says
unfoldable pub words_by : (ℕ → ℕ) → List Block → List Block → List ℕ
words_by ρ all [] = []
words_by ρ all (b ∷ bs) = block_words ρ (block_node all b.kind) ++ words_by ρ all bs

-- where a block's node starts: after two words and the nodes of the blocks before it, whose sizes no reference changes
unfoldable pub node_position : List Block → ℕ → ℕ
node_position bs k = 2 + length (words_by (λ r. r) bs (take k bs))

-- The whole plan: how long it is, where the root's node is, and the nodes in the order of the blocks (R4.1, R4.7). No type has a plan
-- of its own (R4.6).
unfoldable pub whole_plan : DescribedType → List ℕ
whole_plan no_type = 2 ∷ 0 ∷ []
whole_plan (block_type bs root) = node_position bs (length bs) ∷ node_position bs root ∷ words_by (node_position bs) bs bs

-- R4.9: the room for the plan comes last
unfoldable pub plan_roomed : ℕ → Outcome DescribedType → Outcome (List ℕ)
plan_roomed room (refused n p) = refused n p
plan_roomed room (accepted a) = pick (ltb room (length (whole_plan a))) (refused PLAN_ROOM 0) (accepted (whole_plan a))

-- the call, for a plan of `room` words
unfoldable pub compile_by : BlockForm → List ℕ → List ℕ → ℕ → Outcome (List ℕ)
compile_by form d root room = plan_roomed room (describe form d root)

-- R1.1, R1.2: what the plan's room then holds
unfoldable pub plan_after : Outcome (List ℕ) → List ℕ → List ℕ
plan_after (refused n p) l = l
plan_after (accepted ws) l = over ws l
