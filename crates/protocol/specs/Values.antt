-- The rules of values (R5), over any description of nodes: `look k` is the node with the key k. They speak of no plan and of no descriptor. A
-- value's bytes are its own; `base` is where they start in the top value.
use Rattle.std.specs.Prelude.{ℕ, zero, suc, ◌+◌, ◌^◌, Bool, true, false, List, eqb, length, take, drop, get_or, replicate, Result, Ok, Err, set as store}
use Rattle.std.proofs.Math.Option.{Option, none, some}
use Rattle.protocol.specs.Constants.{MOST_ITEMS, VALUE_LEFT, BAD_SCALAR, REQUIRED, BAD_PLAN, ABSENT}
use Rattle.protocol.specs.Numbers.{pick}
use Rattle.protocol.specs.Answers.{Outcome, refused, accepted}
use Rattle.protocol.specs.Scalars.{scalar, enumeration}
use Rattle.protocol.specs.Heads.{set_opening, count_opening, sparse_opening, range_opening, plain_head, object_head, envelope_head, requires, sparse_head, lacking, end_of, index_of}
use Rattle.protocol.specs.Nodes.{Node, leaf, enum, row, arrays, tuple, object, sparse, range, ref_at}
use Rattle.protocol.specs.Lists.{Entry, entry_of, Forest, empty, tree, append, renamed_forest}
use Rattle.forms.specs.declared.Opening.{Opening}
use Rattle.forms.specs.declared.Head.{Head}
use Rattle.forms.specs.declared.Head.TheVariants.{Present, Absent}

-- ---- outcomes

-- a refusal with its number and place, or what is listed
abbrev pub ValueOutcome : Type 0
ValueOutcome = Outcome Forest

-- R5.2: the first refusal, or what both list
unfoldable pub then : ValueOutcome → ValueOutcome → ValueOutcome
then (refused n p) o = refused n p
then (accepted f) (refused n p) = refused n p
then (accepted f) (accepted g) = accepted (append f g)

-- an entry and what is listed below it
unfoldable pub under : Entry → ValueOutcome → ValueOutcome
under e (refused n p) = refused n p
under e (accepted f) = accepted (tree e f empty)

-- the same refusal, or what is listed with other node words
unfoldable pub renamed : (ℕ → ℕ) → ValueOutcome → ValueOutcome
renamed ρ (refused n p) = refused n p
renamed ρ (accepted f) = accepted (renamed_forest ρ f)

-- what a rule for values is: of a key, an index, a base and bytes
abbrev pub Rule : Type 0
Rule = ℕ → ℕ → ℕ → List ℕ → ValueOutcome

-- ---- one element

-- R6.5: an absent element's start is just past its head. No container has an element without a node.
unfoldable pub absent : Option ℕ → ℕ → ℕ → ValueOutcome
absent none i start = refused BAD_PLAN 0
absent (some k) i start = accepted (tree (entry_of k i start ABSENT) empty empty)

unfoldable pub present : Rule → Option ℕ → ℕ → ℕ → List ℕ → ValueOutcome
present rule none i start s = refused BAD_PLAN 0
present rule (some k) i start s = rule k i start s

-- R5.2: an element that fits is judged as a value before the next head is read
unfoldable pub element_outcome : Rule → (ℕ → Option ℕ) → ℕ → List ℕ → Result Head ℕ → ValueOutcome
element_outcome rule ref base s (Err n) = refused n base
element_outcome rule ref base s (Ok (Absent i at)) = absent (ref i) i (base + at)
element_outcome rule ref base s (Ok (Present i at size)) = present rule (ref i) i (base + at) (take size (drop at s))

-- ---- the elements of a container

-- how they are read, with a state that each element changes
pub record Form (S : Type 0) : Type 0 where
  -- the head of the element at a position
  pub head : S → ℕ → Result Head ℕ
  -- the state after an element with that head
  pub next : S → Result Head ℕ → S
  -- after the last: an element that is required was not given
  pub lacks : S → Bool

module _ {S : Type 0} (form : Form S) (rule : Rule) (ref : ℕ → Option ℕ) (base : ℕ) (s : List ℕ) where
  -- R5.14
  unfoldable pub container_end : S → ℕ → ValueOutcome
  container_end st at =
      pick (eqb at (length s)) (pick (form.lacks st) (refused REQUIRED base) (accepted empty)) (refused VALUE_LEFT base)

  -- n elements from `at` on
  unfoldable pub elements : ℕ → S → ℕ → ValueOutcome
  elements zero st at = container_end st at
  elements (suc n) st at =
      then (element_outcome rule ref base s (form.head st at)) (elements n (form.next st (form.head st at)) (end_of (form.head st at)))

-- elements in the order of their indexes: the state is the next index
unfoldable pub row_head : Node → List ℕ → ℕ → ℕ → Result Head ℕ
row_head (leaf f) s i at = Err BAD_PLAN
row_head enum s i at = Err BAD_PLAN
row_head (row r) s i at = plain_head s 0 i at
row_head (arrays r) s i at = envelope_head s i at
row_head (tuple refs) s i at = plain_head s 4 i at
row_head (object refs cards) s i at = object_head s (requires (get_or cards i 0)) i at
row_head (sparse refs cards) s i at = Err BAD_PLAN
row_head (range r) s i at = plain_head s 0 i at

abbrev pub row_form : Node → List ℕ → Form ℕ
row_form v s = record { head = row_head v s; next = λ i h. i + 1; lacks = λ i. false }

-- R5.9, R5.10: elements in any order, each with its index, of which none is given twice: the state marks those that were given
abbrev pub sparse_form : List ℕ → List ℕ → Form (List Bool)
sparse_form cards s =
    record {
      head = sparse_head s cards;
      next = λ marks h. store marks (index_of h) true;
      lacks = λ marks. lacking cards marks (length cards);
    }

abbrev pub no_marks : List Bool
no_marks = replicate MOST_ITEMS false

-- ---- a value

unfoldable pub opening_of : Node → List ℕ → Result Opening ℕ
opening_of (leaf f) s = Err BAD_PLAN
opening_of enum s = Err BAD_PLAN
opening_of (row r) s = set_opening s
opening_of (arrays r) s = set_opening s
opening_of (tuple refs) s = count_opening (length refs) s
opening_of (object refs cards) s = count_opening (length refs) s
opening_of (sparse refs cards) s = sparse_opening s
opening_of (range r) s = range_opening s

-- R5.15, R5.17: the place is the value's own
unfoldable pub leaf_rule : Bool → Rule
leaf_rule good k i base s = pick good (accepted (tree (entry_of k i base (length s)) empty empty)) (refused BAD_SCALAR base)

-- a container: its own entry, and its elements below it
unfoldable pub row_rule : Node → Rule → Result Opening ℕ → Rule
row_rule v rule (Err n) k i base s = refused n base
row_rule v rule (Ok o) k i base s =
    under (entry_of k i base (length s)) (elements (row_form v s) rule (ref_at v) base s o.count o.first o.at)

unfoldable pub sparse_rule : List ℕ → List ℕ → Rule → Result Opening ℕ → Rule
sparse_rule refs cards rule (Err n) k i base s = refused n base
sparse_rule refs cards rule (Ok o) k i base s =
    under (entry_of k i base (length s)) (elements (sparse_form cards s) rule (ref_at (sparse refs cards)) base s o.count no_marks o.at)

-- a value of a node, with a rule for values of the nodes that it refers to
unfoldable pub by_node : Node → Rule → Rule
by_node (leaf f) rule k i base s = leaf_rule (scalar f s) k i base s
by_node enum rule k i base s = leaf_rule (enumeration s) k i base s
by_node (row r) rule k i base s = row_rule (row r) rule (opening_of (row r) s) k i base s
by_node (arrays r) rule k i base s = row_rule (arrays r) rule (opening_of (arrays r) s) k i base s
by_node (tuple refs) rule k i base s = row_rule (tuple refs) rule (opening_of (tuple refs) s) k i base s
by_node (object refs cards) rule k i base s = row_rule (object refs cards) rule (opening_of (object refs cards) s) k i base s
by_node (sparse refs cards) rule k i base s = sparse_rule refs cards rule (opening_of (sparse refs cards) s) k i base s
by_node (range r) rule k i base s = row_rule (range r) rule (opening_of (range r) s) k i base s

-- a value of the node with a key, where no chain of references is longer than the fuel
unfoldable pub value : (ℕ → Node) → ℕ → Rule
value look zero k i base s = refused BAD_PLAN 0
value look (suc f) k i base s = by_node (look k) (value look f) k i base s

-- more than any key: each node refers only to nodes with smaller keys
abbrev pub fuel : ℕ
fuel = 2 ^ 32

unfoldable pub value_of : (ℕ → Node) → Rule
value_of look = value look fuel
