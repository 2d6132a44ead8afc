-- Nobody has to believe these definitions: they are what the code says to itself of a stretch of leaves, and of what is then left to the walk.
use Rattle.std.specs.Prelude.{◌≡◌, Bool, true, false, List, [], ℕ, ◌+◌, ◌-◌, ◌*◌, ◌≤◌, eqb, ltb, length, take, drop, get_or, Option, Some, None, option_map, Result, Ok, Err}
use Rattle.std.proofs.Math.Option.{some}
use Rattle.forms.specs.declared.Head.{Head}
use Rattle.forms.specs.declared.Head.TheVariants.{Present, Absent}
use Rattle.forms.specs.declared.Span.{Span}
use Rattle.value_scalars.specs.Sizes.{fixed_size}
use Rattle.value_parts.specs.Walk.{stopped, led, leaf_kind, leaf_good, Container}
use Rattle.value_parts.specs.Counted.{Counted}
use Rattle.value_leaves.specs.declared.Given.{Given}
use Rattle.value_leaves.specs.declared.Told.{Told}
use Rattle.value_leaves.specs.declared.Told.TheVariants.{Size, Time}
use Rattle.protocol.specs.Constants.{FORMATS, FORMAT_LOCAL_TIME}
use Rattle.protocol.specs.Numbers.{pick}
use Rattle.protocol.specs.Scalars.{of_size, local_time}
use Rattle.protocol.specs.Heads.{word, plain_head, optional, requires, sparse_index}
use Rattle.protocol.specs.Nodes.{Node, leaf, enum, row, arrays, tuple, object, sparse, range, ref_at}
use Rattle.protocol.specs.Values.{elements, row_head, row_form, sparse_form, no_marks, value_of}
use Rattle.protocol.specs.Plans.{look, pair_ref, cards_at}
use Rattle.plan_nodes.specs.Readers.{At}

-- the format of a leaf, and of each other node one that is not there
unfoldable pub format_in : Node → ℕ
format_in (leaf f) = f
format_in enum = FORMATS
format_in (row r) = FORMATS
format_in (arrays r) = FORMATS
format_in (tuple refs) = FORMATS
format_in (object refs cards) = FORMATS
format_in (sparse refs cards) = FORMATS
format_in (range r) = FORMATS

-- the size of a leaf whose values are any bytes of that size; of each other node none
unfoldable pub fixed_of : Node → Option ℕ
fixed_of v = pick (eqb (fixed_size (format_in v)) 0) None (Some (fixed_size (format_in v)))

-- what it says of the node's values
pub record FixedAt (p : List ℕ) (k size : ℕ) : Type 0 where
  pub small : size ≤ 16
  pub kind : leaf_kind (get_or p k 0) ≡ true
  pub rule : (s : List ℕ) → leaf_good (look p k) s ≡ eqb (length s) size

-- how the values of a leaf are told: they are times of day, or any bytes of a size; of each other node, nothing
unfoldable pub told_of : Node → Option Told
told_of v = pick (eqb (format_in v) FORMAT_LOCAL_TIME) (Some Time) (option_map Size (fixed_of v))

-- the size of values that are so told, and what is asked of them
unfoldable pub told_size : Told → ℕ
told_size (Size n) = n
told_size Time = 8

unfoldable pub told_good : Told → List ℕ → Bool
told_good (Size n) v = of_size n v
told_good Time v = local_time v

-- what it says of the node's values
pub record ToldAt (p : List ℕ) (k : ℕ) (t : Told) : Type 0 where
  pub small : told_size t ≤ 16
  pub kind : leaf_kind (get_or p k 0) ≡ true
  pub rule : (s : List ℕ) → leaf_good (look p k) s ≡ told_good t s

-- a leaf's bytes in hand
unfoldable pub good : ℕ → ℕ → Option Span
good at size = Some (record { start = at; len = size })

-- an element that is so told and permitted, and stands at a position, its length before it
unfoldable pub fixed_leaf : List ℕ → ℕ → Told → Option Span
fixed_leaf s at t =
    pick (ltb (length s - at) (told_size t + 4)) None
    (pick (eqb (word s at) (told_size t)) (pick (told_good t (take (told_size t) (drop (at + 4) s))) (good (at + 4) (told_size t)) None) None)

-- the reserved bytes before an element's length, by the kind of its container (R5.7, R5.8)
unfoldable pub gap_of : ℕ → ℕ
gap_of kind = pick (eqb kind 4) 4 (pick (eqb kind 5) 4 0)

-- a container whose elements come in the order of their indexes
pub record Ordered (p : List ℕ) (k : ℕ) : Type 0 where
  pub node : At p k
  pub kind : Container p k (get_or p k 0)
  pub dense : get_or p k 0 ≡ 6 → ⊥

-- what an element's head leads to, by its node: a leaf that is there and is permitted, or another element
unfoldable pub leaf_in : Node → List ℕ → Result Head ℕ → Option Span
leaf_in v s (Ok (Present i start size)) = pick (leaf_good v (take size (drop start s))) (good start size) None
leaf_in v s (Ok (Absent i start)) = None
leaf_in v s (Err n) = None

-- of an element in a row, after `gap` reserved bytes: its index does not count
unfoldable pub leaf_at : Node → List ℕ → ℕ → ℕ → Option Span
leaf_at v s gap at = leaf_in v s (plain_head s gap 0 at)

-- The element i of a container, whose head stands at a position, is a leaf that is there and is permitted: its node, and its bytes.
pub record LeafOf (p : List ℕ) (k : ℕ) (s : List ℕ) (i pos child : ℕ) (b : Span) : Type 0 where
  pub head : row_head (look p k) s i pos ≡ Ok (Present i b.start b.len)
  pub after : pos + 4 ≤ b.start
  pub fits : b.start + b.len ≤ length s
  pub node : ref_at (look p k) i ≡ some child
  pub kind : leaf_kind (get_or p child 0) ≡ true
  pub good : leaf_good (look p child) (take b.len (drop b.start s)) ≡ true

-- Of n elements from the index `first` on, which stand at `from`, `left` are left, which stand at `pos`: from there on they lead to the same
-- place. How many of them are left is free.
pub record Stretched (p : List ℕ) (k base : ℕ) (s : List ℕ) (end n first from at : ℕ) (l : List ℕ) (left pos to : ℕ) (l' : List ℕ) : Type 0 where
  pub some : left ≤ n
  pub inside : pos ≤ length s
  pub few : 4 * to ≤ 5 * (base + pos) + 20
  pub leads : led (elements (row_form (look p k) s) (value_of (look p)) (ref_at (look p k)) base s n first from) at l
      ≡ led (elements (row_form (look p k) s) (value_of (look p)) (ref_at (look p k)) base s left (end - left) pos) to l'

-- of an element of a sparse object, whose index must be known
unfoldable pub whole_of : ℕ → ℕ → Option Span → Option Given
whole_of i child r = option_map (λ (b : Span). record { index = i; node = child; bytes = b }) r

unfoldable pub given_by : List ℕ → ℕ → List ℕ → ℕ → Result ℕ ℕ → Option Given
given_by p k s at (Err n) = None
given_by p k s at (Ok i) =
    whole_of i (pair_ref p k i) (leaf_in (look p (pair_ref p k i)) s (optional s (requires (get_or (cards_at p k) i 0)) i (at + 8) (word s (at + 4))))

unfoldable pub given_at : List ℕ → ℕ → List ℕ → ℕ → Option Given
given_at p k s at = given_by p k s at (sparse_index s (get_or p (k + 1) 0) [] at)

-- The same as `Stretched` of a sparse object, from its first element on: those that were passed are marked, and how many of them are
-- required is counted. Or an index was given twice: then the object is refused (26).
pub record Gathers (p : List ℕ) (k base : ℕ) (s : List ℕ) (n from at : ℕ) (l : List ℕ) (marks : List Bool) (twice : Bool) (count left pos to : ℕ) (l' : List ℕ) : Type 0 where
  pub inside : pos ≤ length s
  pub few : 4 * to ≤ 5 * (base + pos) + 20
  pub counted : twice ≡ false → Counted p k marks count
  pub leads : led (elements (sparse_form (cards_at p k) s) (value_of (look p)) (ref_at (look p k)) base s n no_marks from) at l
      ≡ pick twice (stopped 26 base) (led (elements (sparse_form (cards_at p k) s) (value_of (look p)) (ref_at (look p k)) base s left marks pos) to l')
