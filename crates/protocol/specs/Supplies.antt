-- Supplies (R8): a list and source bytes. When a value has a supply, and which of a value's fields are reserved.
use Rattle.std.specs.Prelude.{◌≡◌, ℕ, zero, suc, ◌+◌, ◌-◌, ◌≤◌, ◌<◌, Bool, true, false, List, [], ◌++◌, eqb, ltb, length, take, drop, get_or, replicate, Result, Ok, Err}
use Rattle.std.proofs.Math.Option.{Option, none, some}
use Rattle.protocol.specs.Constants.{ENTRY_WORDS, ABSENT}
use Rattle.protocol.specs.Numbers.{pick}
use Rattle.protocol.specs.Answers.{accepted}
use Rattle.protocol.specs.Heads.{end_of}
use Rattle.protocol.specs.Nodes.{Node, leaf, enum, row, arrays, tuple, object, sparse, range, ref_at}
use Rattle.protocol.specs.Lists.{Entry, Forest, empty, tree, width}
use Rattle.protocol.specs.Values.{Form, row_form, sparse_form, no_marks, opening_of, fuel}
use Rattle.protocol.specs.Plans.{look, without_type}
use Rattle.protocol.specs.Running.{checked}
use Rattle.forms.specs.declared.Head.{Head}
use Rattle.forms.specs.declared.Head.TheVariants.{Present, Absent}
use Rattle.forms.specs.declared.Opening.{Opening}

-- ---- the entries of a supply

-- the words of an entry
pub record Claim : Type 0 where
  pub node : ℕ
  pub index : ℕ
  pub start : ℕ
  pub size : ℕ
  pub count : ℕ

pub data Next : Type 0 where
  short : Next
  next : Claim → List ℕ → Next

abbrev pub claim_of : List ℕ → Claim
claim_of ws = record { node = get_or ws 0 0; index = get_or ws 1 0; start = get_or ws 2 0; size = get_or ws 3 0; count = get_or ws 4 0 }

-- the next entry, and the words after it; R8.6: words that are no whole entry leave one that is short
unfoldable pub next_of : List ℕ → Next
next_of ws = pick (ltb (length ws) ENTRY_WORDS) short (next (claim_of ws) (drop ENTRY_WORDS ws))

-- ---- a value has a supply (R8.3)

-- R8.7: n bytes from a on in the value t, and n' from a' on in the source, which must have them
unfoldable pub SameLeaf : (t src : List ℕ) → ℕ → ℕ → ℕ → ℕ → Type 0
SameLeaf t src a n a' n' = (a' + n' ≤ length src) × (take n (drop a t) ≡ take n' (drop a' src))

-- R8.2: the flags byte with which a range starts
unfoldable pub SameFlags : (t src : List ℕ) → ℕ → ℕ → Type 0
SameFlags t src a a' = (a' < length src) × (get_or t a 0 ≡ get_or src a' 0)

-- R8.2: what of a present entry's start and length counts, by its node
unfoldable pub SameBytes : (t src : List ℕ) → Node → ℕ → ℕ → ℕ → ℕ → Type 0
SameBytes t src (leaf f) a n a' n' = SameLeaf t src a n a' n'
SameBytes t src enum a n a' n' = SameLeaf t src a n a' n'
SameBytes t src (row r) a n a' n' = Unit {0}
SameBytes t src (arrays r) a n a' n' = Unit {0}
SameBytes t src (tuple refs) a n a' n' = Unit {0}
SameBytes t src (object refs cards) a n a' n' = Unit {0}
SameBytes t src (sparse refs cards) a n a' n' = Unit {0}
SameBytes t src (range r) a n a' n' = SameFlags t src a a'

-- R8.8: an absent entry has no bytes
unfoldable pub SamePart : (t src : List ℕ) → Node → Bool → ℕ → ℕ → ℕ → ℕ → Type 0
SamePart t src v true a n a' n' = Unit {0}
SamePart t src v false a n a' n' = SameBytes t src v a n a' n'

-- R8.3: an entry of a value t with c entries below it, and one of the supply
pub record Agree (v : Node) (t src : List ℕ) (e : Entry) (c : ℕ) (d : Claim) : Type 0 where
  pub node : e.node ≡ d.node
  pub index : e.index ≡ d.index
  pub count : c ≡ d.count
  pub absence : eqb e.size ABSENT ≡ eqb d.size ABSENT
  pub part : SamePart t src v (eqb e.size ABSENT) e.start e.size d.start d.size

unfoldable pub AgreeNext : (v : Node) (t src : List ℕ) → Entry → ℕ → Next → Type 0
AgreeNext v t src e c short = ⊥
AgreeNext v t src e c (next d ws) = Agree v t src e c d

-- the entries of a value t, one by one, and the words ws of the supply up to `rest`: an entry, what is below it up to some words `mid`, and
-- its next siblings
unfoldable pub Agrees : (look : ℕ → Node) (t src : List ℕ) → Forest → List ℕ → List ℕ → Type 0
Agrees look t src empty ws rest = ws ≡ rest
Agrees look t src (tree e below sib) ws rest =
    (AgreeNext (look e.node) t src e (width below) (next_of ws))
    × ((mid : List ℕ) × (Agrees look t src below (drop ENTRY_WORDS ws) mid) × (Agrees look t src sib mid rest))

-- the value s is accepted, and has the supply of a list and source bytes
pub record HasSupply (p s ws src : List ℕ) : Type 0 where
  pub forest : Forest
  pub accepted : checked p s ≡ accepted forest
  pub agrees : Agrees (look p) s src forest ws []

-- ---- reserved fields are zero (R8.5)

abbrev pub zeros : ℕ → List ℕ
zeros n = replicate n 0

-- a container's own head
unfoldable pub zero_opening : Node → List ℕ → List ℕ
zero_opening (leaf f) h = h
zero_opening enum h = h
zero_opening (row r) h = take 4 h ++ (zeros 8 ++ drop 12 h)
zero_opening (arrays r) h = take 4 h ++ (zeros 8 ++ drop 12 h)
zero_opening (tuple refs) h = h
zero_opening (object refs cards) h = h
zero_opening (sparse refs cards) h = h
zero_opening (range r) h = h

-- the head of an element
unfoldable pub zero_head : Node → List ℕ → List ℕ
zero_head (leaf f) h = h
zero_head enum h = h
zero_head (row r) h = h
zero_head (arrays r) h = take 8 h ++ (zeros 4 ++ drop 12 h)
zero_head (tuple refs) h = zeros 4 ++ drop 4 h
zero_head (object refs cards) h = zeros 4 ++ drop 4 h
zero_head (sparse refs cards) h = h
zero_head (range r) h = h

-- the bytes from a position up to another
unfoldable pub between : List ℕ → ℕ → ℕ → List ℕ
between s a b = take (b - a) (drop a s)

unfoldable pub zero_part : (ℕ → List ℕ → List ℕ) → Option ℕ → List ℕ → List ℕ
zero_part rule none s = s
zero_part rule (some k) s = rule k s

-- an element with its head that was read at a position
unfoldable pub zero_member : (ℕ → List ℕ → List ℕ) → Node → List ℕ → ℕ → Result Head ℕ → List ℕ
zero_member rule v s at (Err n) = []
zero_member rule v s at (Ok (Absent i start)) = zero_head v (between s at start)
zero_member rule v s at (Ok (Present i start size)) = zero_head v (between s at start) ++ zero_part rule (ref_at v i) (take size (drop start s))

module _ {S : Type 0} (form : Form S) (rule : ℕ → List ℕ → List ℕ) (v : Node) (s : List ℕ) where
  -- n elements from `at` on
  unfoldable pub zero_elements : ℕ → S → ℕ → List ℕ
  zero_elements zero st at = []
  zero_elements (suc n) st at =
      zero_member rule v s at (form.head st at) ++ zero_elements n (form.next st (form.head st at)) (end_of (form.head st at))

unfoldable pub zero_row : (ℕ → List ℕ → List ℕ) → Node → Result Opening ℕ → List ℕ → List ℕ
zero_row rule v (Err n) s = s
zero_row rule v (Ok o) s = zero_opening v (take o.at s) ++ zero_elements (row_form v s) rule v s o.count o.first o.at

unfoldable pub zero_sparse : (ℕ → List ℕ → List ℕ) → List ℕ → List ℕ → Result Opening ℕ → List ℕ → List ℕ
zero_sparse rule refs cards (Err n) s = s
zero_sparse rule refs cards (Ok o) s =
    zero_opening (sparse refs cards) (take o.at s) ++ zero_elements (sparse_form cards s) rule (sparse refs cards) s o.count no_marks o.at

-- a value of a node with its containers' reserved fields zero
unfoldable pub zero_node : Node → (ℕ → List ℕ → List ℕ) → List ℕ → List ℕ
zero_node (leaf f) rule s = s
zero_node enum rule s = s
zero_node (row r) rule s = zero_row rule (row r) (opening_of (row r) s) s
zero_node (arrays r) rule s = zero_row rule (arrays r) (opening_of (arrays r) s) s
zero_node (tuple refs) rule s = zero_row rule (tuple refs) (opening_of (tuple refs) s) s
zero_node (object refs cards) rule s = zero_row rule (object refs cards) (opening_of (object refs cards) s) s
zero_node (sparse refs cards) rule s = zero_sparse rule refs cards (opening_of (sparse refs cards) s) s
zero_node (range r) rule s = zero_row rule (range r) (opening_of (range r) s) s

unfoldable pub zero_value : (ℕ → Node) → ℕ → ℕ → List ℕ → List ℕ
zero_value look zero k s = s
zero_value look (suc f) k s = zero_node (look k) (zero_value look f) s

-- an accepted value of a plan with its containers' reserved fields zero
unfoldable pub zeroed : List ℕ → List ℕ → List ℕ
zeroed p s = pick (without_type p) s (zero_value (look p) fuel (get_or p 1 0) s)
