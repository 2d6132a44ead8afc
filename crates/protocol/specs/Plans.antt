-- Plans (R4): the node at a position of a plan's words, and which plans are well formed.
use Rattle.std.specs.Prelude.{ℕ, zero, suc, ◌+◌, ◌*◌, Bool, true, false, not, List, [], ◌∷◌, ◌++◌, leb, ltb, eqb, length, take, drop, get_or}
use Rattle.std.proofs.Math.Option.{Option, none, some}
use Rattle.protocol.specs.Constants.{MOST_BLOCKS, MOST_ITEMS, MOST_HEIGHT, FORMATS, KIND_LEAF, KIND_SET_OR_ARRAY, KIND_SET_OF_ARRAYS}
use Rattle.protocol.specs.Constants.{KIND_TUPLE, KIND_OUTPUT_OBJECT, KIND_INPUT_OBJECT, KIND_RANGE, KIND_ENUMERATION}
use Rattle.protocol.specs.Numbers.{pick, up_to, at_least}
use Rattle.protocol.specs.Messages.{is_cardinality}
use Rattle.protocol.specs.Nodes.{Node, leaf, enum, row, arrays, tuple, object, sparse, range}

-- ---- the node at a position (R4.2)

-- the k-th reference and cardinality of the object at a position
unfoldable pub pair_ref : List ℕ → ℕ → ℕ → ℕ
pair_ref p at k = get_or p (at + 2 + 2 * k) 0

unfoldable pub pair_card : List ℕ → ℕ → ℕ → ℕ
pair_card p at k = get_or p (at + 3 + 2 * k) 0

unfoldable pub refs_at : List ℕ → ℕ → List ℕ
refs_at p at = up_to (pair_ref p at) (get_or p (at + 1) 0)

unfoldable pub cards_at : List ℕ → ℕ → List ℕ
cards_at p at = up_to (pair_card p at) (get_or p (at + 1) 0)

unfoldable pub look : List ℕ → ℕ → Node
look p at =
    pick (eqb (get_or p at 0) KIND_LEAF) (leaf (get_or p (at + 1) 0))
    (pick (eqb (get_or p at 0) KIND_SET_OR_ARRAY) (row (get_or p (at + 1) 0))
    (pick (eqb (get_or p at 0) KIND_SET_OF_ARRAYS) (arrays (get_or p (at + 1) 0))
    (pick (eqb (get_or p at 0) KIND_TUPLE) (tuple (take (get_or p (at + 1) 0) (drop (at + 2) p)))
    (pick (eqb (get_or p at 0) KIND_OUTPUT_OBJECT) (object (refs_at p at) (cards_at p at))
    (pick (eqb (get_or p at 0) KIND_INPUT_OBJECT) (sparse (refs_at p at) (cards_at p at))
    (pick (eqb (get_or p at 0) KIND_RANGE) (range (get_or p (at + 1) 0)) enum))))))

-- ---- well-formedness (R4.4): the nodes are read in order, each against those before it

-- a node that was read
pub record PlanNode : Type 0 where
  pub start : ℕ
  pub kind : ℕ
  pub height : ℕ

-- the node that starts at r, if one does
unfoldable pub placed_at : List PlanNode → ℕ → Option PlanNode
placed_at [] r = none
placed_at (x ∷ xs) r = pick (eqb x.start r) (some x) (placed_at xs r)

-- R4.3
unfoldable pub may_refer : ℕ → ℕ → Bool
may_refer kind other =
    pick (eqb kind KIND_SET_OR_ARRAY) (not (pick (eqb other KIND_SET_OR_ARRAY) true (eqb other KIND_SET_OF_ARRAYS)))
    (pick (eqb kind KIND_SET_OF_ARRAYS) (eqb other KIND_SET_OR_ARRAY) (pick (eqb kind KIND_RANGE) (eqb other KIND_LEAF) true))

-- R4.5: the height of a node so far (0: not well formed), raised by a reference
unfoldable pub raised : ℕ → ℕ → Option PlanNode → ℕ
raised kind h none = 0
raised kind h (some x) = pick (may_refer kind x.kind) (pick (ltb x.height MOST_HEIGHT) (at_least h (x.height + 1)) 0) 0

unfoldable pub refer : List PlanNode → ℕ → ℕ → ℕ → ℕ
refer seen kind r zero = 0
refer seen kind r (suc h) = raised kind (suc h) (placed_at seen r)

-- the height after n references, the k-th of which is `f k`
unfoldable pub refer_all : List PlanNode → ℕ → (ℕ → ℕ) → ℕ → ℕ
refer_all seen kind f zero = 1
refer_all seen kind f (suc n) = refer seen kind (f n) (refer_all seen kind f n)

unfoldable pub all_cardinalities : (ℕ → ℕ) → ℕ → Bool
all_cardinalities f zero = true
all_cardinalities f (suc n) = pick (all_cardinalities f n) (is_cardinality (f n)) false

-- R4.2: how many words a node has
unfoldable pub node_size : ℕ → ℕ → ℕ
node_size kind n =
    pick (eqb kind KIND_TUPLE) (2 + n)
    (pick (eqb kind KIND_OUTPUT_OBJECT) (2 + 2 * n) (pick (eqb kind KIND_INPUT_OBJECT) (2 + 2 * n) (pick (eqb kind KIND_ENUMERATION) 1 2)))

-- The height of the node at a position, whose second word is n, against the nodes before it; 0 where it is not well formed (R4.4, R4.5).
-- First of one that has a count:
unfoldable pub many_height : List ℕ → ℕ → List PlanNode → ℕ → ℕ → ℕ
many_height p at seen kind n =
    pick (ltb MOST_ITEMS n) 0
    (pick (eqb kind KIND_TUPLE) (refer_all seen KIND_TUPLE (λ k. get_or p (at + 2 + k) 0) n)
    (pick (eqb kind KIND_OUTPUT_OBJECT) (pick (all_cardinalities (pair_card p at) n) (refer_all seen KIND_OUTPUT_OBJECT (pair_ref p at) n) 0)
    (pick (eqb kind KIND_INPUT_OBJECT) (pick (all_cardinalities (pair_card p at) n) (refer_all seen KIND_INPUT_OBJECT (pair_ref p at) n) 0) 0)))

unfoldable pub node_height : List ℕ → ℕ → List PlanNode → ℕ → ℕ → ℕ
node_height p at seen kind n =
    pick (eqb kind KIND_ENUMERATION) 1
    (pick (eqb kind KIND_LEAF) (pick (ltb n FORMATS) 1 0)
    (pick (eqb kind KIND_SET_OR_ARRAY) (refer seen KIND_SET_OR_ARRAY n 1)
    (pick (eqb kind KIND_SET_OF_ARRAYS) (refer seen KIND_SET_OF_ARRAYS n 1)
    (pick (eqb kind KIND_RANGE) (refer seen KIND_RANGE n 1) (many_height p at seen kind n)))))

-- the nodes that were read, or that the plan is not well formed
pub data NodesRead : Type 0 where
  malformed : NodesRead
  nodes : List PlanNode → NodesRead

-- the next node is whole, and is well formed with a height that is not 0
unfoldable pub read_node : List ℕ → ℕ → List PlanNode → NodesRead
read_node p at seen =
    pick (leb (at + node_size (get_or p at 0) (get_or p (at + 1) 0)) (length p))
    (pick (eqb (node_height p at seen (get_or p at 0) (get_or p (at + 1) 0)) 0) malformed
    (nodes (seen ++ (record { start = at; kind = get_or p at 0; height = node_height p at seen (get_or p at 0) (get_or p (at + 1) 0) } ∷ []))))
    malformed

unfoldable pub then_nodes : NodesRead → (List PlanNode → NodesRead) → NodesRead
then_nodes malformed f = malformed
then_nodes (nodes seen) f = f seen

-- R4.4: the nodes fill the plan from a position to its end, and are not too many
unfoldable pub read_nodes : ℕ → List ℕ → ℕ → List PlanNode → NodesRead
read_nodes zero p at seen = malformed
read_nodes (suc f) p at seen =
    pick (eqb at (length p)) (nodes seen)
    (pick (ltb (length seen) MOST_BLOCKS)
    (then_nodes (read_node p at seen) (read_nodes f p (at + node_size (get_or p at 0) (get_or p (at + 1) 0))))
    malformed)

-- the nodes of a plan
unfoldable pub nodes_of : List ℕ → NodesRead
nodes_of p = read_nodes (suc (length p)) p 2 []

unfoldable pub is_some : Option PlanNode → Bool
is_some none = false
is_some (some x) = true

-- a node starts at a position
unfoldable pub starts_in : NodesRead → ℕ → Bool
starts_in malformed k = false
starts_in (nodes seen) k = is_some (placed_at seen k)

-- R4.6: the plan of no type, which has no node
unfoldable pub without_type : List ℕ → Bool
without_type p = pick (eqb (length p) 2) (pick (eqb (get_or p 0 0) 2) (eqb (get_or p 1 0) 0) false) false

-- R4.1, R4.4: the first word is the plan's length, and the second the start of a node
unfoldable pub plan_formed : List ℕ → Bool
plan_formed p =
    pick (without_type p) true
    (pick (leb 2 (length p)) (pick (eqb (get_or p 0 0) (length p)) (starts_in (nodes_of p) (get_or p 1 0)) false) false)
