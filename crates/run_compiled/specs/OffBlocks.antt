-- Nobody has to believe these definitions: they are the rules read off the code's own blocks, by which the plan's are proved; that they
-- give what protocol's give is proved too (proofs/RulesSame).
use Rattle.std.specs.Prelude.{ℕ, zero, suc, List, [], ◌∷◌, ltb, length}
use Rattle.descriptor_blocks.specs.Descriptor.{Block, summaries, node_at, Description, refused_by, without_type, described, description_of}
use Rattle.protocol.specs.Numbers.{pick}
use Rattle.protocol.specs.Nodes.{Node, enum}
use Rattle.protocol.specs.Values.{renamed, ValueOutcome, value_of}
use Rattle.protocol.specs.Answers.{refused}
use Rattle.protocol.specs.Running.{nothing_in, list_roomed}

-- the node of the block with an index
unfoldable pub block_at : List Block → ℕ → Node
block_at [] k = enum
block_at (b ∷ bs) zero = b.shape
block_at (b ∷ bs) (suc k) = block_at bs k

-- a value of the root's block; the list names blocks by their node words (R4.12)
unfoldable pub value_in : List Block → ℕ → List ℕ → ValueOutcome
value_in bs root s = renamed (node_at (summaries bs)) (value_of (block_at bs) root 0 0 s)

-- 28, and then the value's own faults; a descriptor that is not accepted has its own number and place (R4.13)
unfoldable pub judged : Description → List ℕ → ValueOutcome
judged (refused_by n p) s = refused n p
judged without_type s = pick (ltb 65535 (length s)) (refused 28 0) (nothing_in s)
judged (described bs root) s = pick (ltb 65535 (length s)) (refused 28 0) (value_in bs root s)

-- and 31 last
unfoldable pub rules_of : List ℕ → List ℕ → List ℕ → ℕ → ValueOutcome
rules_of d root s room = list_roomed room (judged (description_of d root) s)
