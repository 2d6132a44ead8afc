-- Nobody has to believe these definitions: they are the building of a value as the code does it, the list by the next word's index, the output
-- by the next byte's. What would pass 65,535 bytes stops at once, so that a supply costs no more than its own words and the bytes of the
-- largest value.
use Rattle.std.specs.Prelude.{◌≡◌, ℕ, ◌+◌, ◌-◌, ◌≤◌, Bool, true, false, List, [], eqb, leb, ltb, length, take, drop, Option, Some, None}
use Rattle.std.proofs.lemmas.List.Edits.{sets}
use Rattle.std.proofs.Math.Option.{some}
use Rattle.value_parts.specs.Walk.{leaf_good}
use Rattle.value_parts.specs.Counted.{Counted}
use Rattle.supply_entries.specs.declared.Entry.{Entry}
use Rattle.supply_entries.specs.declared.Opened.{Opened}
use Rattle.supply_entries.specs.declared.Built.{Built}
use Rattle.value_heads.specs.Marks.{marked, repeats, indexes_apart}
use Rattle.protocol.specs.Numbers.{pick}
use Rattle.protocol.specs.Nodes.{Node, row, arrays, tuple, sparse, range, ref_at}
use Rattle.protocol.specs.Values.{no_marks}
use Rattle.protocol.specs.Plans.{look, cards_at}
use Rattle.protocol.specs.Supplies.{Claim, Next, short, next, next_of}
use Rattle.protocol.specs.Building.{head_bytes, no_front, elements_made, front, part_made, wrong, sparse_order, build_of, Made, made, Front}

-- ---- entries

abbrev pub claim : Entry → Claim
claim e = record { node = e.node; index = e.index; start = e.start; size = e.size; count = e.count }

-- the next entry, without the words after it
unfoldable pub read_of : Next → Option Entry
read_of short = None
read_of (next c ws) = Some (record { node = c.node; index = c.index; start = c.start; size = c.size; count = c.count })

-- the next entry, if its index is one of n; one with another counts as none
unfoldable pub known : ℕ → Next → Next
known n short = short
known n (next c ws) = pick (ltb c.index n) (next c ws) short

-- ---- heads

-- a container of a kind, without its elements: an output object has the heads of a tuple
unfoldable pub with_kind : ℕ → Node
with_kind kind =
    pick (eqb kind 3) (arrays 0) (pick (eqb kind 6) (sparse [] []) (pick (eqb kind 2) (row 0) (pick (eqb kind 7) (range 0) (tuple []))))

-- the head of an element by the kind of its container
unfoldable pub head_of : ℕ → ℕ → ℕ → List ℕ
head_of kind i n = head_bytes (with_kind kind) i n

unfoldable pub head_size : ℕ → ℕ
head_size kind = pick (eqb kind 3) 16 (pick (eqb kind 2) 4 (pick (eqb kind 7) 4 8))

-- where a container's elements begin: the first's index, the next byte, and the output
pub data Beginning : Type 0 where
  shut : Beginning
  begins : ℕ → ℕ → List ℕ → Beginning

unfoldable pub begin_at : Front → ℕ → List ℕ → Beginning
begin_at no_front at out = shut
begin_at (front b first) at out = pick (leb (at + length b) 65535) (begins first (at + length b) (sets out at b)) shut

unfoldable pub beginning_of : Option Opened → List ℕ → Beginning
beginning_of None out = shut
beginning_of (Some o) out = begins o.first o.at out

-- ---- values

-- where a building stands: the words left, the next byte, and the output. A fault says nothing of the output.
pub data Stand : Type 0 where
  broken : Stand
  stands : List ℕ → ℕ → List ℕ → Stand

-- where a building from `at` on leads
unfoldable pub put_at : Made → ℕ → List ℕ → Stand
put_at wrong at out = broken
put_at (made b ws) at out = pick (leb (at + length b) 65535) (stands ws (at + length b) (sets out at b)) broken

unfoldable pub stand_of : Option Built → List ℕ → List ℕ → Stand
stand_of None ws out = broken
stand_of (Some b) ws out = stands (drop b.word ws) b.at out

-- ---- a leaf

-- how many bytes the leaf of an entry has with its head, if it is one: its node is the element's own, no entry is below it, it fits, lies inside the
-- source and is permitted
unfoldable pub leaf_size : List ℕ → List ℕ → ℕ → ℕ → Entry → ℕ → Option ℕ
leaf_size src p kind child e at =
    pick (eqb e.node child)
    (pick (eqb e.count 0)
    (pick (ltb 65535 (at + (head_size kind + e.size))) None
    (pick (ltb (length src) (e.start + e.size)) None
    (pick (leaf_good (look p child) (take e.size (drop e.start src))) (Some (head_size kind + e.size)) None))) None) None

-- whether it was put out, and what then stands there: the element's part of the building. Otherwise the output is as it was.
pub record LeafPut (src p : List ℕ) (k kind : ℕ) (e : Entry) (at : ℕ) (out : List ℕ) (r : Option ℕ) (out' : List ℕ) : Type 0 where
  pub is : (child : ℕ) → ref_at (look p k) e.index ≡ some child → r ≡ leaf_size src p kind child e at
  pub kept : r ≡ None → out' ≡ out
  pub put : (n : ℕ) → r ≡ Some n → (rest ws : List ℕ) → next_of ws ≡ next (claim e) rest
      → stands rest (at + n) out' ≡ put_at (part_made (build_of src (look p)) (look p k) (ref_at (look p k) e.index) (claim e) rest ws) at out

-- ---- a stretch of leaves

-- Of n elements of the sparse object at k, whose entries are ws and before which the indexes `from` were given, `left` are left, whose
-- entries are us: from there on they lead to the same place. The indexes given by then are marked, and those of them that are required
-- counted. How many are left is free.
pub record Gathers (src p : List ℕ) (k n : ℕ) (from : List Bool) (ws : List ℕ) (at : ℕ) (out : List ℕ) (marks : List Bool) (count left : ℕ) (us : List ℕ) (at' : ℕ) (out' : List ℕ) : Type 0 where
  pub small : at' ≤ 65535
  pub counted : Counted p k marks count
  pub leads : put_at (elements_made (sparse_order (cards_at p k)) (build_of src (look p)) (look p k) n from ws) at out
      ≡ put_at (elements_made (sparse_order (cards_at p k)) (build_of src (look p)) (look p k) left marks us) at' out'

-- The same from the first element on, or an index was given twice: then no value is built.
pub record GathersNew (src p : List ℕ) (k n : ℕ) (ws : List ℕ) (at : ℕ) (out : List ℕ) (marks : List Bool) (twice : Bool) (count left : ℕ) (us : List ℕ) (at' : ℕ) (out' : List ℕ) : Type 0 where
  pub small : at' ≤ 65535
  pub barred : twice ≡ true → put_at (elements_made (sparse_order (cards_at p k)) (build_of src (look p)) (look p k) n no_marks ws) at out ≡ broken
  pub new : twice ≡ false → Gathers src p k n no_marks ws at out marks count left us at' out'

-- The same of m leaves whose entries start at `first` in the list: their indexes are those that are marked.
abbrev pub GathersRun : List ℕ → List ℕ → ℕ → ℕ → List ℕ → ℕ → ℕ → List ℕ → ℕ → ℕ → ℕ → ℕ → List ℕ → Type 0
GathersRun src p k n list first at out m count word at' out' =
    GathersNew src p k n (drop first list) at out (marked no_marks (indexes_apart list 5 m (first + 1))) (repeats no_marks (indexes_apart list 5 m (first + 1)))
    count (n - m) (drop word list) at' out'
