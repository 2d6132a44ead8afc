-- A builder is only asked of the keys that a node refers to, so constant fuel is enough for every key.
use mathlib.Core.Path.{◌≡◌, refl}
use mathlib.Core.List.{List}
use mathlib.Core.Option.{Option, none, some}
use Prim.Native.Nat.{ℕ, zero, suc, ◌<◌, ◌^◌}
use native.Mathlib.Omega.{arith}
use Rattle.protocol.specs.Nodes.{Node, leaf, enum, row, arrays, tuple, object, sparse, range, ref_at}
use Rattle.protocol.specs.Values.{fuel}
use Rattle.protocol.specs.Supplies.{Claim, Next, short, next, next_of}
use Rattle.protocol.specs.Building.{Made, wrong, made, then_made, Builder, Front, no_front, front, Order, row_order, sparse_order, part_made}
use Rattle.protocol.specs.Building.{member_made, state_after, elements_made, row_made, sparse_made, node_made, entry_made, build, build_of}

-- two builders that agree on what a node refers to
abbrev Alike : Node → Builder → Builder → Type 0
Alike v rule rule' = (j r : ℕ) → ref_at v j ≡ some r → (i : ℕ) (ws : List ℕ) → rule r i ws ≡ rule' r i ws

then_alike : (m : Made) (f g : List ℕ → Made) → ((ws : List ℕ) → f ws ≡ g ws) → then_made m f ≡ then_made m g
unfolding then_made
then_alike wrong f g h = refl
then_alike (made b ws) f g h = rw (h ws)

module _ (v : Node) (rule rule' : Builder) (alike : Alike v rule rule') where
  part_alike : (c : Claim) (rest ws : List ℕ) (o : Option ℕ) → ref_at v c.index ≡ o → part_made rule v o c rest ws ≡ part_made rule' v o c rest ws
  unfolding part_made
  part_alike c rest ws none e = refl
  part_alike c rest ws (some r) e = rw (alike c.index r e c.index ws)

  module _ {S : Type 0} (order : Order S) where
    member_alike : (st : S) (ws : List ℕ) (x : Next) → member_made order rule v st ws x ≡ member_made order rule' v st ws x
    unfolding member_made
    member_alike st ws short = refl
    member_alike st ws (next c rest) = rw (part_alike c rest ws (ref_at v c.index) refl)

    elements_alike : (n : ℕ) (st : S) (ws : List ℕ) → elements_made order rule v n st ws ≡ elements_made order rule' v n st ws
    unfolding elements_made state_after
    elements_alike zero st ws = refl
    elements_alike (suc n) st ws =
        rw (member_alike st ws (next_of ws)) (then_alike _ _ _ (elements_alike n (state_after order rule' v st (next_of ws))))

  row_alike : (x : Front) (c : Claim) (ws : List ℕ) → row_made rule v x c ws ≡ row_made rule' v x c ws
  unfolding row_made
  row_alike no_front c ws = refl
  row_alike (front b first) c ws = rw (elements_alike row_order c.count first ws)

sparse_alike : (refs cards : List ℕ) (rule rule' : Builder) → Alike (sparse refs cards) rule rule' → (x : Front) (c : Claim) (ws : List ℕ)
    → sparse_made rule refs cards x c ws ≡ sparse_made rule' refs cards x c ws
unfolding sparse_made
sparse_alike refs cards rule rule' alike no_front c ws = refl
sparse_alike refs cards rule rule' alike (front b first) c ws = rw (elements_alike (sparse refs cards) rule rule' alike (sparse_order cards) c.count _ ws)

module _ (src : List ℕ) where
  node_alike : (v : Node) (rule rule' : Builder) → Alike v rule rule' → (c : Claim) (ws : List ℕ) → node_made src v rule c ws ≡ node_made src v rule' c ws
  unfolding node_made
  node_alike (leaf f) rule rule' a c ws = refl
  node_alike enum rule rule' a c ws = refl
  node_alike (row r) rule rule' a c ws = row_alike (row r) rule rule' a _ c ws
  node_alike (arrays r) rule rule' a c ws = row_alike (arrays r) rule rule' a _ c ws
  node_alike (tuple refs) rule rule' a c ws = row_alike (tuple refs) rule rule' a _ c ws
  node_alike (object refs cards) rule rule' a c ws = row_alike (object refs cards) rule rule' a _ c ws
  node_alike (sparse refs cards) rule rule' a c ws = sparse_alike refs cards rule rule' a _ c ws
  node_alike (range r) rule rule' a c ws = row_alike (range r) rule rule' a _ c ws

  entry_alike : (v : Node) (rule rule' : Builder) → Alike v rule rule' → (k i : ℕ) (x : Next) → entry_made src v rule k i x ≡ entry_made src v rule' k i x
  unfolding entry_made
  entry_alike v rule rule' a k i short = refl
  entry_alike v rule rule' a k i (next c ws) = rw (node_alike v rule rule' a c ws)

  -- each node of Good refers to smaller keys of Good
  module _ (look : ℕ → Node) (Good : ℕ → Type 0) (closed : (k i r : ℕ) → Good k → ref_at (look k) i ≡ some r → (Good r) × (r < k)) where
    -- the fuel does not matter where it is enough
    enough : (f g k : ℕ) → Good k → k < f → k < g → (i : ℕ) (ws : List ℕ) → build src look f k i ws ≡ build src look g k i ws
    unfolding build
    enough zero g k good x y i ws = absurd (omega arith)
    enough (suc f) zero k good x y i ws = absurd (omega arith)
    enough (suc f) (suc g) k good x y i ws =
        entry_alike (look k) (build src look f) (build src look g)
        (λ j r e. let c = closed k j r good e in enough f g r c.0 (omega (arith, c.1)) (omega (arith, c.1))) k i (next_of ws)

    build_next : (f k : ℕ) → Good k → k < f → (i : ℕ) (ws : List ℕ) → build src look f k i ws ≡ entry_made src (look k) (build src look f) k i (next_of ws)
    unfolding build
    build_next f k good x = enough f (suc f) k good x (omega arith)

    -- with the builder as it is for what the node refers to
    pub build_step : (k : ℕ) → Good k → k < 2 ^ 32 → (i : ℕ) (ws : List ℕ) → build_of src look k i ws ≡ entry_made src (look k) (build_of src look) k i (next_of ws)
    unfolding build_of
    build_step = build_next fuel
