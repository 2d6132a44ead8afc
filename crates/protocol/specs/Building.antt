-- The value that a supply makes, with the reserved fields of its containers zero (R8.4, R8.5). A fault of any kind is one, since all of them get
-- the same number and place.
use Rattle.std.specs.Prelude.{ℕ, zero, suc, ◌+◌, Bool, true, false, not, List, [], ◌∷◌, ◌++◌, leb, ltb, eqb, length, take, drop, get_or, Result, Ok, Err, set as store}
use Rattle.std.proofs.Math.Option.{Option, none, some}
use Rattle.protocol.specs.Constants.{MOST_VALUE, BAD_PLAN, NO_VALUE, ABSENT}
use Rattle.protocol.specs.Numbers.{pick, bytes_be}
use Rattle.protocol.specs.Answers.{Put, refused_put, put_out, output_roomed}
use Rattle.protocol.specs.Scalars.{scalar, enumeration}
use Rattle.protocol.specs.Heads.{range_flags, bounds, requires, lacking}
use Rattle.protocol.specs.Nodes.{Node, leaf, enum, row, arrays, tuple, object, sparse, range, ref_at}
use Rattle.protocol.specs.Values.{no_marks, fuel}
use Rattle.protocol.specs.Plans.{look, without_type, plan_formed}
use Rattle.protocol.specs.Supplies.{zeros, Claim, Next, short, next, next_of}
use Rattle.forms.specs.declared.Opening.{Opening}

-- ---- what is made

-- a fault, or the bytes that are made and the words left
pub data Made : Type 0 where
  wrong : Made
  made : List ℕ → List ℕ → Made

-- bytes before what is made
unfoldable pub made_before : List ℕ → Made → Made
made_before b wrong = wrong
made_before b (made c ws) = made (b ++ c) ws

-- one after the other
unfoldable pub then_made : Made → (List ℕ → Made) → Made
then_made wrong f = wrong
then_made (made b ws) f = made_before b (f ws)

-- of a node, as an element with an index, from the words
abbrev pub Builder : Type 0
Builder = ℕ → ℕ → List ℕ → Made

-- ---- heads

-- how a container begins: not at all, or with these bytes, and its elements from an index on
pub data Front : Type 0 where
  no_front : Front
  front : List ℕ → ℕ → Front

-- R5.4, R8.9: an empty set or array has no dimension
unfoldable pub set_bytes : ℕ → List ℕ
set_bytes n = pick (eqb n 0) (zeros 12) (bytes_be 4 1 ++ (zeros 8 ++ (bytes_be 4 n ++ bytes_be 4 1)))

-- R5.13: a range's bounds must be those that its flags promise
unfoldable pub bounds_front : ℕ → ℕ → Result Opening ℕ → Front
bounds_front flags n (Err m) = no_front
bounds_front flags n (Ok o) = pick (eqb n o.count) (front (flags ∷ []) o.first) no_front

unfoldable pub range_front : List ℕ → Claim → Front
range_front src c =
    pick (ltb c.start (length src))
    (pick (range_flags (get_or src c.start 0)) (bounds_front (get_or src c.start 0) c.count (bounds (get_or src c.start 0))) no_front)
    no_front

unfoldable pub count_front : ℕ → Claim → Front
count_front n c = pick (eqb c.count n) (front (bytes_be 4 n) 0) no_front

-- the head of a container by its node
unfoldable pub front_of : Node → List ℕ → Claim → Front
front_of (leaf f) src c = no_front
front_of enum src c = no_front
front_of (row r) src c = front (set_bytes c.count) 0
front_of (arrays r) src c = front (set_bytes c.count) 0
front_of (tuple refs) src c = count_front (length refs) c
front_of (object refs cards) src c = count_front (length refs) c
front_of (sparse refs cards) src c = front (bytes_be 4 c.count) 0
front_of (range r) src c = range_front src c

-- the head of an element with an index and a length
unfoldable pub head_bytes : Node → ℕ → ℕ → List ℕ
head_bytes (leaf f) i n = []
head_bytes enum i n = []
head_bytes (row r) i n = bytes_be 4 n
head_bytes (arrays r) i n = bytes_be 4 (12 + n) ++ (bytes_be 4 1 ++ (zeros 4 ++ bytes_be 4 n))
head_bytes (tuple refs) i n = zeros 4 ++ bytes_be 4 n
head_bytes (object refs cards) i n = zeros 4 ++ bytes_be 4 n
head_bytes (sparse refs cards) i n = bytes_be 4 i ++ bytes_be 4 n
head_bytes (range r) i n = bytes_be 4 n

-- ---- elements

-- which indexes may come, with a state that each element changes
pub record Order (S : Type 0) : Type 0 where
  pub admits : S → ℕ → Bool
  pub after : S → ℕ → S
  -- after the last: an element that is required was not given
  pub lacks : S → Bool

-- one after the other
abbrev pub row_order : Order ℕ
row_order = record { admits = eqb; after = λ i j. i + 1; lacks = λ i. false }

-- R8.9: any that the shape has, each once
abbrev pub sparse_order : List ℕ → Order (List Bool)
sparse_order cards =
    record {
      admits = λ marks i. pick (ltb i (length cards)) (not (get_or marks i false)) false;
      after = λ marks i. store marks i true;
      lacks = λ marks. lacking cards marks (length cards);
    }

-- R5.11
unfoldable pub may_lack : Node → ℕ → Bool
may_lack (leaf f) i = false
may_lack enum i = false
may_lack (row r) i = false
may_lack (arrays r) i = false
may_lack (tuple refs) i = false
may_lack (object refs cards) i = not (requires (get_or cards i 0))
may_lack (sparse refs cards) i = not (requires (get_or cards i 0))
may_lack (range r) i = false

-- R8.8: an absent element: its head alone, and no entries below it
unfoldable pub absent_made : Node → ℕ → Claim → List ℕ → Made
absent_made v r c ws =
    pick (may_lack v c.index)
    (pick (eqb c.node r) (pick (eqb c.count 0) (made (head_bytes v c.index ABSENT) ws) wrong) wrong)
    wrong

-- what is made of an element, after its head
unfoldable pub headed : Node → ℕ → Made → Made
headed v i wrong = wrong
headed v i (made b ws) = made (head_bytes v i (length b) ++ b) ws

-- an element that refers to r: c is its entry, `rest` what is after that, and ws both
unfoldable pub part_made : Builder → Node → Option ℕ → Claim → List ℕ → List ℕ → Made
part_made rule v none c rest ws = wrong
part_made rule v (some r) c rest ws =
    pick (eqb c.size ABSENT) (absent_made v r c rest) (headed v c.index (rule r c.index ws))

module _ {S : Type 0} (order : Order S) (rule : Builder) (v : Node) where
  unfoldable pub member_made : S → List ℕ → Next → Made
  member_made st ws short = wrong
  member_made st ws (next c rest) = pick (order.admits st c.index) (part_made rule v (ref_at v c.index) c rest ws) wrong

  unfoldable pub state_after : S → Next → S
  state_after st short = st
  state_after st (next c rest) = order.after st c.index

  -- n elements
  unfoldable pub elements_made : ℕ → S → List ℕ → Made
  elements_made zero st ws = pick (order.lacks st) wrong (made [] ws)
  elements_made (suc n) st ws = then_made (member_made st ws (next_of ws)) (elements_made n (state_after st (next_of ws)))

-- ---- a value

-- R8.7
unfoldable pub leaf_made : (List ℕ → Bool) → List ℕ → Claim → List ℕ → Made
leaf_made good src c ws =
    pick (eqb c.count 0)
    (pick (leb (c.start + c.size) (length src))
    (pick (good (take c.size (drop c.start src))) (made (take c.size (drop c.start src)) ws) wrong)
    wrong)
    wrong

unfoldable pub row_made : Builder → Node → Front → Claim → List ℕ → Made
row_made rule v no_front c ws = wrong
row_made rule v (front b first) c ws = made_before b (elements_made row_order rule v c.count first ws)

unfoldable pub sparse_made : Builder → List ℕ → List ℕ → Front → Claim → List ℕ → Made
sparse_made rule refs cards no_front c ws = wrong
sparse_made rule refs cards (front b first) c ws =
    made_before b (elements_made (sparse_order cards) rule (sparse refs cards) c.count no_marks ws)

module _ (src : List ℕ) where
  -- a present value of a node, whose entry is c
  unfoldable pub node_made : Node → Builder → Claim → List ℕ → Made
  node_made (leaf f) rule c ws = leaf_made (scalar f) src c ws
  node_made enum rule c ws = leaf_made enumeration src c ws
  node_made (row r) rule c ws = row_made rule (row r) (front_of (row r) src c) c ws
  node_made (arrays r) rule c ws = row_made rule (arrays r) (front_of (arrays r) src c) c ws
  node_made (tuple refs) rule c ws = row_made rule (tuple refs) (front_of (tuple refs) src c) c ws
  node_made (object refs cards) rule c ws = row_made rule (object refs cards) (front_of (object refs cards) src c) c ws
  node_made (sparse refs cards) rule c ws = sparse_made rule refs cards (front_of (sparse refs cards) src c) c ws
  node_made (range r) rule c ws = row_made rule (range r) (front_of (range r) src c) c ws

  -- its entry must be that of the node with the key k and of the index i, and present
  unfoldable pub entry_made : Node → Builder → ℕ → ℕ → Next → Made
  entry_made v rule k i short = wrong
  entry_made v rule k i (next c ws) =
      pick (eqb c.node k) (pick (eqb c.index i) (pick (eqb c.size ABSENT) wrong (node_made v rule c ws)) wrong) wrong

  -- a value of the node with a key, where no chain of references is longer than the fuel
  unfoldable pub build : (ℕ → Node) → ℕ → Builder
  build look zero k i ws = wrong
  build look (suc f) k i ws = entry_made (look k) (build look f) k i (next_of ws)

  unfoldable pub build_of : (ℕ → Node) → Builder
  build_of look = build look fuel

-- ---- the call

-- R8.11: no type has the supply of no words
unfoldable pub made_by : List ℕ → List ℕ → List ℕ → Made
made_by p ws src = pick (without_type p) (made [] ws) (build_of src (look p) (get_or p 1 0) 0 ws)

-- R8.6, R8.10: nor has an accepted value one with words left over, or one that makes too many bytes
unfoldable pub supplied_by : Made → Put
supplied_by wrong = refused_put NO_VALUE
supplied_by (made b (w ∷ ws)) = refused_put NO_VALUE
supplied_by (made b []) = pick (ltb MOST_VALUE (length b)) (refused_put NO_VALUE) (put_out b)

-- R1.10: the call, for a plan, a list, source bytes, and `room` bytes of output
unfoldable pub write_of : List ℕ → List ℕ → List ℕ → ℕ → Put
write_of p ws src room = pick (plan_formed p) (output_roomed room (supplied_by (made_by p ws src))) (refused_put BAD_PLAN)
