-- Finding an element and its number (R7), in the entries that the value lists, in the order of R1.11.
use Rattle.std.specs.Prelude.{ℕ, zero, suc, ◌+◌, ◌-◌, ◌*◌, ◌^◌, Bool, true, List, [], ◌∷◌, eqb, ltb, length, take, drop}
use Rattle.protocol.specs.Constants.{NO_ENTRY, ABSENT_ELEMENT, NO_NUMBER, ABSENT, FORMAT_INT16, FORMAT_INT32, FORMAT_INT64, FORMAT_FLOAT32, FORMAT_FLOAT64, FORMAT_BOOL, FORMAT_MEMORY}
use Rattle.protocol.specs.Numbers.{pick, be}
use Rattle.protocol.specs.Answers.{refused, accepted}
use Rattle.protocol.specs.Nodes.{Node, leaf, enum, row, arrays, tuple, object, sparse, range}
use Rattle.protocol.specs.Lists.{Entry, Forest, empty, tree}
use Rattle.protocol.specs.Values.{ValueOutcome}
use Rattle.protocol.specs.Plans.{look}
use Rattle.protocol.specs.Running.{checked}

-- ---- the entry that a path leads to (R7.2)

-- no entry; or one, with those below it
pub data Spot : Type 0 where
  nowhere : Spot
  spot : Entry → Forest → Spot

-- the first of some siblings
unfoldable pub top_of : Forest → Spot
top_of empty = nowhere
top_of (tree e below next) = spot e below

-- the one of some siblings that has an index
unfoldable pub sibling : ℕ → Forest → Spot
sibling i empty = nowhere
sibling i (tree e below next) = pick (eqb e.index i) (spot e below) (sibling i next)

-- one step down
unfoldable pub step : ℕ → Spot → Spot
step i nowhere = nowhere
step i (spot e below) = sibling i below

-- down from a spot; R7.6: no step at all stays there
unfoldable pub follow : List ℕ → Spot → Spot
follow [] x = x
follow (i ∷ path) x = follow path (step i x)

-- ---- what is found

-- a refusal with its number and place; or the node, the start and the bytes of an element
pub data Found : Type 0 where
  unfound : ℕ → ℕ → Found
  found : ℕ → ℕ → List ℕ → Found

-- R7.3, R7.4, R7.5: the bytes are those of the top value t at the entry's start and length
unfoldable pub found_at : List ℕ → Spot → Found
found_at t nowhere = unfound NO_ENTRY 0
found_at t (spot e below) =
    pick (eqb e.size ABSENT) (unfound ABSENT_ELEMENT 0) (found e.node e.start (take e.size (drop e.start t)))

-- R7.1: the value is checked whole, and only then the path. Under no type nothing is listed, so every path leads nowhere (R7.6).
unfoldable pub found_in : List ℕ → List ℕ → ValueOutcome → Found
found_in t path (refused n p) = unfound n p
found_in t path (accepted f) = found_at t (follow path (top_of f))

-- the call, for a plan, a value and a path
unfoldable pub find_of : List ℕ → List ℕ → List ℕ → Found
find_of p s path = found_in s path (checked p s)

-- ---- the same in the words of a list (R6.1, R7.2): that a call's whole answer is read off them is a theorem

pub record Line : Type 0 where
  pub node : ℕ
  pub index : ℕ
  pub start : ℕ
  pub size : ℕ
  pub below : ℕ

-- a list's entries
unfoldable pub lines_in : List ℕ → List Line
lines_in [] = []
lines_in (k ∷ []) = []
lines_in (k ∷ i ∷ []) = []
lines_in (k ∷ i ∷ a ∷ []) = []
lines_in (k ∷ i ∷ a ∷ n ∷ []) = []
lines_in (k ∷ i ∷ a ∷ n ∷ c ∷ ws) = record { node = k; index = i; start = a; size = n; below = c } ∷ lines_in ws

-- R6.2: what comes after n entries side by side, each with all below it
unfoldable pub past_lines : List Line → ℕ → List Line
past_lines [] n = []
past_lines (l ∷ ls) zero = l ∷ ls
past_lines (l ∷ ls) (suc n) = past_lines ls (l.below + n)

-- of n entries side by side, the first that has an index, with all that comes after it; nothing if none has
unfoldable pub among : ℕ → ℕ → List Line → List Line
among i zero ls = []
among i (suc n) [] = []
among i (suc n) (l ∷ ls) = pick (eqb l.index i) (l ∷ ls) (among i n (past_lines ls l.below))

-- down from the first of some entries, by the entries directly below
unfoldable pub lead : List ℕ → List Line → List Line
lead [] ls = ls
lead (i ∷ path) [] = []
lead (i ∷ path) (l ∷ ls) = lead path (among i l.below ls)

unfoldable pub found_on : List ℕ → List Line → Found
found_on t [] = unfound NO_ENTRY 0
found_on t (l ∷ ls) =
    pick (eqb l.size ABSENT) (unfound ABSENT_ELEMENT 0) (found l.node l.start (take l.size (drop l.start t)))

-- ---- the number of an element (R7.8)

-- a refusal with its number and place, or a format and the bits of a number of it
pub data Numbered : Type 0 where
  unnumbered : ℕ → ℕ → Numbered
  numbered : ℕ → ℕ → Numbered

-- R7.9
unfoldable pub integral : ℕ → Bool
integral f =
    pick (eqb f FORMAT_INT16) true (pick (eqb f FORMAT_INT32) true (pick (eqb f FORMAT_INT64) true (eqb f FORMAT_MEMORY)))

-- R7.9, R7.10: the bits are those of the bytes
unfoldable pub plain_bits : ℕ → Bool
plain_bits f = pick (eqb f FORMAT_FLOAT32) true (pick (eqb f FORMAT_FLOAT64) true (eqb f FORMAT_BOOL))

-- R7.9: a two's complement of w bytes, in 8: its sign is its highest bit, and fills the bytes before it
unfoldable pub extended : ℕ → ℕ → ℕ
extended w n = pick (ltb (2 * n) (256 ^ w)) n (n + (256 ^ 8 - 256 ^ w))

-- R7.11: any other format has none
unfoldable pub of_format : ℕ → List ℕ → Numbered
of_format f b =
    pick (integral f) (numbered f (extended (length b) (be b))) (pick (plain_bits f) (numbered f (be b)) (unnumbered NO_NUMBER 0))

unfoldable pub of_node : Node → List ℕ → Numbered
of_node (leaf f) b = of_format f b
of_node enum b = unnumbered NO_NUMBER 0
of_node (row r) b = unnumbered NO_NUMBER 0
of_node (arrays r) b = unnumbered NO_NUMBER 0
of_node (tuple refs) b = unnumbered NO_NUMBER 0
of_node (object refs cards) b = unnumbered NO_NUMBER 0
of_node (sparse refs cards) b = unnumbered NO_NUMBER 0
of_node (range r) b = unnumbered NO_NUMBER 0

unfoldable pub of_found : List ℕ → Found → Numbered
of_found p (unfound n q) = unnumbered n q
of_found p (found k a b) = of_node (look p k) b

-- the call, for a plan, a value and a path
unfoldable pub number_of : List ℕ → List ℕ → List ℕ → Numbered
number_of p s path = of_found p (find_of p s path)
