-- Nobody has to believe these definitions: they are finding as the code does it, by a container's heads, read one after the other up to the
-- element that the path names. Of an accepted value this finds what protocol's definition says (proofs/Paths).
use Rattle.std.specs.Prelude.{ℕ, zero, suc, ◌+◌, Bool, true, List, [], ◌∷◌, eqb, take, drop, Result, Ok, Err}
use Rattle.std.proofs.Math.Option.{Option, none, some}
use Rattle.forms.specs.declared.Head.{Head}
use Rattle.forms.specs.declared.Head.TheVariants.{Present, Absent}
use Rattle.forms.specs.declared.Opening.{Opening}
use Rattle.protocol.specs.Numbers.{pick}
use Rattle.protocol.specs.Heads.{index_of, end_of, sparse_head}
use Rattle.protocol.specs.Nodes.{Node, leaf, enum, row, arrays, tuple, object, sparse, range, ref_at}
use Rattle.protocol.specs.Values.{row_head, opening_of}
use Rattle.protocol.specs.Finding.{Found, unfound, found}

-- the head of the next element: a sparse object's names its index, and no mark is asked for, since an accepted value gives none twice
unfoldable pub head_at : Node → List ℕ → ℕ → ℕ → Result Head ℕ
head_at (leaf f) s i at = Err 35
head_at enum s i at = Err 35
head_at (row r) s i at = row_head (row r) s i at
head_at (arrays r) s i at = row_head (arrays r) s i at
head_at (tuple refs) s i at = row_head (tuple refs) s i at
head_at (object refs cards) s i at = row_head (object refs cards) s i at
head_at (sparse refs cards) s i at = sparse_head s cards [] at
head_at (range r) s i at = row_head (range r) s i at

-- whether a head ends the search for the index w: a refusal does
unfoldable pub ends : ℕ → Result Head ℕ → Bool
ends w (Err n) = true
ends w (Ok h) = eqb (index_of (Ok h)) w

-- the head of the element with the index w, among n from `at` on
unfoldable pub seek : Node → List ℕ → ℕ → ℕ → ℕ → ℕ → Result Head ℕ
seek v s w zero i at = Err 35
seek v s w (suc n) i at = pick (ends w (head_at v s i at)) (head_at v s i at) (seek v s w n (i + 1) (end_of (head_at v s i at)))

unfoldable pub seek_in : Node → List ℕ → ℕ → Result Opening ℕ → Result Head ℕ
seek_in v s w (Err n) = Err 35
seek_in v s w (Ok o) = seek v s w o.count o.first o.at

-- the head of the element with the index w, in a value of a node; a leaf has none
unfoldable pub child_head : Node → List ℕ → ℕ → Result Head ℕ
child_head v s w = seek_in v s w (opening_of v s)

-- 36 for a path that ends with an absent element (R7.5), 35 for one that goes on from it (R7.4)
unfoldable pub missing : List ℕ → Found
missing [] = unfound 36 0
missing (i ∷ path) = unfound 35 0

-- what the rest of a path leads to, from a node, a place and the bytes there
abbrev pub Rest : Type 0
Rest = ℕ → ℕ → List ℕ → Found

unfoldable pub in_part : Rest → Option ℕ → ℕ → List ℕ → Found
in_part rest none base s = unfound 35 0
in_part rest (some k) base s = rest k base s

-- from an element of a value of the node v, with what it is where the element is absent
unfoldable pub on_head : Rest → Found → Node → ℕ → List ℕ → Result Head ℕ → Found
on_head rest lost v base s (Err n) = unfound 35 0
on_head rest lost v base s (Ok (Absent i start)) = lost
on_head rest lost v base s (Ok (Present i start size)) = in_part rest (ref_at v i) (base + start) (take size (drop start s))

-- what a path leads to from a value of the node k, whose bytes s start at `base`
unfoldable pub descend : (ℕ → Node) → List ℕ → Rest
descend look [] k base s = found k base s
descend look (i ∷ path) k base s = on_head (descend look path) (missing path) (look k) base s (child_head (look k) s i)
