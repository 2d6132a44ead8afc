-- Nobody has to believe these definitions: they are what the code says to itself of how many elements of a plan's sparse objects are
-- required, and of a table that keeps it.
use Rattle.std.specs.Prelude.{◌≡◌, ℕ, zero, suc, ◌+◌, ◌≤◌, ◌<◌, Bool, List, [], ◌∷◌, ◌++◌, leb, ltb, eqb, length, take, set, get_or}
use Rattle.std.proofs.lemmas.List.Edits.{sets}
use Rattle.plan_nodes.specs.declared.needs.Need.{Need}
use Rattle.value_heads.specs.Heads.{needed}
use Rattle.protocol.specs.Numbers.{pick}
use Rattle.protocol.specs.Plans.{cards_at, node_size}

-- how many elements of the object at a position are required (R5.11)
unfoldable pub needed_at : List ℕ → ℕ → ℕ
needed_at p k = needed (cards_at p k) (length (cards_at p k))

-- the starts of the sparse objects from a position on, in their order, up to where a node is not whole
unfoldable pub sparse_from : ℕ → List ℕ → ℕ → List ℕ
sparse_from zero p at = []
sparse_from (suc f) p at =
    pick (leb (at + node_size (get_or p at 0) (get_or p (at + 1) 0)) (length p))
    (pick (eqb (get_or p at 0) 6) (at ∷ []) [] ++ sparse_from f p (at + node_size (get_or p at 0) (get_or p (at + 1) 0)))
    []

unfoldable pub sparse_starts : List ℕ → List ℕ
sparse_starts p = sparse_from (length p) p 2

-- the need of an object, and of some objects
unfoldable pub need_at : List ℕ → ℕ → Need
need_at p k = record { node = k; count = needed_at p k }

unfoldable pub needs_of : List ℕ → List ℕ → List Need
needs_of p [] = []
needs_of p (k ∷ ks) = need_at p k ∷ needs_of p ks

-- the objects that a table has room for
unfoldable pub kept : List ℕ → List Need → List ℕ
kept p t = take (length t) (sparse_starts p)

-- a table that was filled from its start: how many needs there are, and each of them; and, as follows from that, they are inside it
pub record Filled (p : List ℕ) (t t' : List Need) (m : ℕ) : Type 0 where
  pub count : m ≡ length (kept p t)
  pub needs : t' ≡ sets t 0 (needs_of p (kept p t))
  pub room : m ≤ length t'

-- one more need after the first m, where there is room for it
unfoldable pub room_for : List Need → ℕ → Bool
room_for t m = ltb m (length t)

pub record OneMore (p : List ℕ) (t t' : List Need) (m at r : ℕ) : Type 0 where
  pub count : r ≡ pick (room_for t m) (m + 1) m
  pub needs : t' ≡ pick (room_for t m) (set t m (need_at p at)) t

-- every need of a table is right
pub record Memo (p : List ℕ) (t : List Need) : Type 0 where
  pub right : (k : ℕ) (none : Need) → k < length t → (get_or t k none).count ≡ needed_at p (get_or t k none).node
