-- The rules of values read off a descriptor (R4.10 to R4.13). They are given descriptor, root id, value and the list's room, and never a plan: a
-- block of the descriptor is a node, and its index is the node's key.
use Rattle.std.specs.Prelude.{ℕ, List, ltb, length}
use Rattle.std.proofs.Math.Option.{Option, none, some}
use Rattle.std.proofs.Math.ListN.{get_elem?}
use Rattle.protocol.specs.Constants.{MOST_VALUE, VALUE_SIZE}
use Rattle.protocol.specs.Numbers.{pick}
use Rattle.protocol.specs.Answers.{Outcome, refused, accepted}
use Rattle.protocol.specs.Nodes.{Node, enum}
use Rattle.protocol.specs.Values.{ValueOutcome, renamed, value_of}
use Rattle.protocol.specs.Running.{nothing_in, list_roomed}
use Rattle.protocol.specs.Descriptors.{Block, BlockForm, DescribedType, no_type, block_type, describe}
use Rattle.protocol.specs.Compiling.{block_node, node_position}

-- the node of a block; any node for one without values, which no accepted reference names
unfoldable pub node_or_any : Option Node → Node
node_or_any none = enum
node_or_any (some v) = v

unfoldable pub node_of_block : List Block → Option Block → Node
node_of_block bs none = enum
node_of_block bs (some b) = node_or_any (block_node bs b.kind)

-- the node of the block with an index (R4.11)
unfoldable pub block_look : List Block → ℕ → Node
block_look bs k = node_of_block bs (get_elem? bs k)

-- a value of the root's block; the list names a block by the word at which its node starts in the plan (R4.12)
unfoldable pub value_off : List Block → ℕ → List ℕ → ValueOutcome
value_off bs root s = renamed (node_position bs) (value_of (block_look bs) root 0 0 s)

unfoldable pub type_off : DescribedType → List ℕ → ValueOutcome
type_off no_type s = nothing_in s
type_off (block_type bs root) s = value_off bs root s

-- the descriptor's own refusal; then a value that is too long (R5.1); then the rules of its type (R4.13)
unfoldable pub judged_off : Outcome DescribedType → List ℕ → ValueOutcome
judged_off (refused n p) s = refused n p
judged_off (accepted t) s = pick (ltb MOST_VALUE (length s)) (refused VALUE_SIZE 0) (type_off t s)

-- the room for the list comes last (R6.9)
unfoldable pub rules_by : BlockForm → List ℕ → List ℕ → List ℕ → ℕ → ValueOutcome
rules_by form d root s room = list_roomed room (judged_off (describe form d root) s)

-- R4.14: of compiling and then running: the refusal of the descriptor or of the plan's room, or the outcome of the rules
unfoldable pub compiled_then : Outcome (List ℕ) → ValueOutcome → ValueOutcome
compiled_then (refused n p) o = refused n p
compiled_then (accepted ws) o = o
