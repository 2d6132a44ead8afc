-- The laws of a value by its node.
use mathlib.Core.Path.{◌≡◌, refl, ap, sym, ◌∙◌}
use mathlib.Core.Bool.{Bool, true, false}
use mathlib.Core.List.{List, []}
use mathlib.Core.Logic.{⊎_elim}
use Prim.Native.Nat.{ℕ, ◌+◌, ◌≤◌}
use native.Mathlib.Omega.{arith}
use lib.Dec.{eqb}
use Rattle.std.specs.Prelude.{Option, Some, None}
use lib.ListN.{length, get_or}
use borrow.Author.Tests.{eq-eqb, ne_eqb, eqb-true}
use Rattle.wire.proofs.Picks.{same_or_not}
use Rattle.plan_nodes.proofs.Looks.{elem_at, look_leaf, look_enum, look_sparse}
use Rattle.plan_nodes.proofs.Nodes.{at_ref}
use Rattle.value_parts.specs.Walk.{leaf_kind, leaf_good, IsRow, Container, Holds}
use Rattle.value_parts.proofs.Nodes.{scalar_kind}
use Rattle.value_parts.proofs.Members.{is_row}
use Rattle.supply_entries.specs.Emitting.{broken, put_at, shut, begin_at, beginning_of}
use Rattle.supply_entries.specs.declared.Opened.{Opened}
use Rattle.supply_entries.proofs.Enough.{build_step}
use Rattle.supply_entries.proofs.Stands.{put_before_lem, before_past}
use Rattle.supply_entries.proofs.Fronts.{Began, began_is, shut_is, range_first}
use Rattle.protocol.specs.Numbers.{pick, bytes_be}
use Rattle.protocol.specs.Constants.{ABSENT}
use Rattle.protocol.specs.Nodes.{Node, leaf, enum, row, arrays, tuple, object, sparse, range, ref_at}
use Rattle.protocol.specs.Values.{no_marks}
use Rattle.protocol.specs.Plans.{look, refs_at, cards_at}
use Rattle.plan_nodes.specs.Readers.{At}
use Rattle.protocol.specs.Supplies.{Claim, short, next, next_of}
use Rattle.protocol.specs.Building.{wrong, Builder, Front, no_front, front, front_of, count_front, row_order, sparse_order, elements_made, leaf_made, row_made, sparse_made, node_made, entry_made, build_of}

-- ---- a container's front and its elements

-- as many elements as a tuple's or an object's node says
count_is : (n : ℕ) (c : Claim) (b : List ℕ) (first : ℕ) → count_front n c ≡ front b first → (c.count ≡ n) × (first ≡ 0)
unfolding count_front pick
count_is n c b first e = go (eqb c.count n) refl e
  where
    go : (t : Bool) → eqb c.count n ≡ t → pick t (front (bytes_be 4 n) 0) no_front ≡ front b first → (c.count ≡ n) × (first ≡ 0)
    go true f g = (eqb-true c.count n f, cc)
    go false f g = let z : ◌≡◌ {A = ℕ} 0 1 = cc in absurd (omega arith)

-- its elements have nodes
front_holds : (v : Node) (src : List ℕ) (c : Claim) (b : List ℕ) (first : ℕ) → IsRow v → front_of v src c ≡ front b first → Holds v (first + c.count)
unfolding IsRow front_of ref_at
front_holds (leaf f) src c b first x e i h = absurd x
front_holds enum src c b first x e i h = absurd x
front_holds (row r) src c b first x e i h = record { to = r; is = refl }
front_holds (arrays r) src c b first x e i h = record { to = r; is = refl }
front_holds (tuple refs) src c b first x e i h =
    let o = count_is (length refs) c b first e in
    record { to = get_or refs i 0; is = elem_at refs i (omega (arith, o.0, o.1)) }
front_holds (object refs cards) src c b first x e i h =
    let o = count_is (length refs) c b first e in
    record { to = get_or refs i 0; is = elem_at refs i (omega (arith, o.0, o.1)) }
front_holds (sparse refs cards) src c b first x e i h = absurd x
front_holds (range r) src c b first x e i h = record { to = r; is = refl }

front_first : (v : Node) (src : List ℕ) (c : Claim) (b : List ℕ) (first : ℕ) → IsRow v → front_of v src c ≡ front b first → first ≤ 2
unfolding IsRow front_of
front_first (leaf f) src c b first x e = absurd x
front_first enum src c b first x e = absurd x
front_first (row r) src c b first x e = let z : 0 ≡ first = cc in omega arith
front_first (arrays r) src c b first x e = let z : 0 ≡ first = cc in omega arith
front_first (tuple refs) src c b first x e = omega (arith, (count_is (length refs) c b first e).1)
front_first (object refs cards) src c b first x e = omega (arith, (count_is (length refs) c b first e).1)
front_first (sparse refs cards) src c b first x e = absurd x
front_first (range r) src c b first x e = range_first src c 0 [] b first e

by_row : (src : List ℕ) (v : Node) (rule : Builder) (c : Claim) (ws : List ℕ) → IsRow v → node_made src v rule c ws ≡ row_made rule v (front_of v src c) c ws
unfolding IsRow node_made
by_row src (leaf f) rule c ws x = absurd x
by_row src enum rule c ws x = absurd x
by_row src (row r) rule c ws x = refl
by_row src (arrays r) rule c ws x = refl
by_row src (tuple refs) rule c ws x = refl
by_row src (object refs cards) rule c ws x = refl
by_row src (sparse refs cards) rule c ws x = absurd x
by_row src (range r) rule c ws x = refl

-- a container whose head was not put out
row_shut : (rule : Builder) (v : Node) (x : Front) (c : Claim) (ws : List ℕ) (at : ℕ) (out : List ℕ) → shut ≡ begin_at x at out → broken ≡ put_at (row_made rule v x c ws) at out
unfolding row_made put_at
row_shut rule v x c ws at out e =
    shut_is (λ y. broken ≡ put_at (row_made rule v y c ws) at out) x at out e refl
    (λ b first h. before_past b _ at out h)

sparse_shut : (rule : Builder) (refs cards : List ℕ) (x : Front) (c : Claim) (ws : List ℕ) (at : ℕ) (out : List ℕ) → shut ≡ begin_at x at out
    → broken ≡ put_at (sparse_made rule refs cards x c ws) at out
unfolding sparse_made put_at
sparse_shut rule refs cards x c ws at out e =
    shut_is (λ y. broken ≡ put_at (sparse_made rule refs cards y c ws) at out) x at out e refl
    (λ b first h. before_past b _ at out h)

-- and one whose head was
row_begun : (rule : Builder) (v : Node) (x : Front) (c : Claim) (ws : List ℕ) (at : ℕ) (out : List ℕ) (first from : ℕ) (out' : List ℕ) → Began x at out first from out'
    → put_at (elements_made row_order rule v c.count first ws) from out' ≡ put_at (row_made rule v x c ws) at out
unfolding row_made
row_begun rule v x c ws at out first from out' g = rw (g.is, g.next, g.output) (sym (put_before_lem g.bytes _ at out))

sparse_begun : (rule : Builder) (refs cards : List ℕ) (x : Front) (c : Claim) (ws : List ℕ) (at : ℕ) (out : List ℕ) (first from : ℕ) (out' : List ℕ) → Began x at out first from out'
    → put_at (elements_made (sparse_order cards) rule (sparse refs cards) c.count no_marks ws) from out' ≡ put_at (sparse_made rule refs cards x c ws) at out
unfolding sparse_made
sparse_begun rule refs cards x c ws at out first from out' g = rw (g.is, g.next, g.output) (sym (put_before_lem g.bytes _ at out))

-- ---- a value's entry

module _ (src p : List ℕ) (k : ℕ) (a : At p k) (i : ℕ) (ws : List ℕ) (at : ℕ) (out : List ℕ) where
  step_is : build_of src (look p) k i ws ≡ entry_made src (look p k) (build_of src (look p)) k i (next_of ws)
  step_is = build_step src (look p) (At p) (λ j n r. at_ref p j n r) k a a.small i ws

  pub value_short : next_of ws ≡ short → broken ≡ put_at (build_of src (look p) k i ws) at out
  unfolding entry_made put_at
  value_short e = rw (step_is, e)

  module _ (c : Claim) (rest : List ℕ) (e : next_of ws ≡ next c rest) where
    pub value_index : (c.index ≡ i → ⊥) → broken ≡ put_at (build_of src (look p) k i ws) at out
    unfolding entry_made put_at pick
    value_index n = rw (step_is, e, ne_eqb c.index i n) (go (eqb c.node k))
      where
        go : (t : Bool) → broken ≡ put_at (pick t wrong wrong) at out
        go true = refl
        go false = refl

    pub value_absent : c.size ≡ ABSENT → broken ≡ put_at (build_of src (look p) k i ws) at out
    unfolding entry_made put_at pick
    value_absent n = rw (step_is, e, eq-eqb c.size ABSENT n) (go (eqb c.node k) (eqb c.index i))
      where
        go : (t u : Bool) → broken ≡ put_at (pick t (pick u wrong wrong) wrong) at out
        go true true = refl
        go true false = refl
        go false u = refl

-- ---- a value by its node

module _ (src p : List ℕ) (k : ℕ) (a : At p k) (c : Claim) (rest ws : List ℕ) (e : next_of ws ≡ next c rest) (there : c.size ≡ ABSENT → ⊥) (at : ℕ) (out : List ℕ) where
  value_is : build_of src (look p) k c.index ws ≡ pick (eqb c.node k) (node_made src (look p k) (build_of src (look p)) c rest) wrong
  unfolding entry_made pick
  value_is = step_is src p k a c.index ws at out ∙ rw (e, eq-eqb c.index c.index refl, ne_eqb c.size ABSENT there)

  pub value_node : (c.node ≡ k → ⊥) → broken ≡ put_at (build_of src (look p) k c.index ws) at out
  unfolding put_at pick
  value_node n = rw (value_is, ne_eqb c.node k n)

  module _ (n : c.node ≡ k) where
    node_is : build_of src (look p) k c.index ws ≡ node_made src (look p k) (build_of src (look p)) c rest
    unfolding pick
    node_is = value_is ∙ rw (eq-eqb c.node k n)

    pub value_leaf : leaf_kind (get_or p k 0) ≡ true → put_at (leaf_made (leaf_good (look p k)) src c rest) at out ≡ put_at (build_of src (look p) k c.index ws) at out
    unfolding node_made leaf_made leaf_good
    value_leaf x =
        ⊎_elim
        (λ (f : get_or p k 0 ≡ 8). rw (node_is, look_enum p k f))
        (λ (y : get_or p k 0 ≡ 8 → ⊥). let f = scalar_kind (get_or p k 0) x y in rw (node_is, look_leaf p k f))
        (same_or_not (get_or p k 0) 8)

    module _ (kind : ℕ) (is : Container p k kind) where
      row_is : (kind ≡ 6 → ⊥) → build_of src (look p) k c.index ws ≡ row_made (build_of src (look p)) (look p k) (front_of (look p k) src c) c rest
      row_is y = node_is ∙ by_row src (look p k) (build_of src (look p)) c rest (is_row p k a kind is (λ f. y (is.is ∙ f)))

      sparse_is : kind ≡ 6 → build_of src (look p) k c.index ws ≡ sparse_made (build_of src (look p)) (refs_at p k) (cards_at p k) (front_of (look p k) src c) c rest
      unfolding node_made
      sparse_is y = node_is ∙ rw (look_sparse p k (sym is.is ∙ y))

      module _ (r : Option Opened) (out' : List ℕ) (q : beginning_of r out' ≡ begin_at (front_of (look p k) src c) at out) where
        pub value_shut : r ≡ None → broken ≡ put_at (build_of src (look p) k c.index ws) at out
        unfolding beginning_of
        value_shut o =
            let s = rw o at q in
            ⊎_elim
            (λ (y : kind ≡ 6). rw (sparse_is y) (sparse_shut (build_of src (look p)) (refs_at p k) (cards_at p k) (front_of (look p k) src c) c rest at out s))
            (λ (y : kind ≡ 6 → ⊥). rw (row_is y) (row_shut (build_of src (look p)) (look p k) (front_of (look p k) src c) c rest at out s))
            (same_or_not kind 6)

        module _ (b : Opened) (o : r ≡ Some b) where
          began : Began (front_of (look p k) src c) at out b.first b.at out'
          unfolding beginning_of
          began = began_is (front_of (look p k) src c) at out b.first b.at out' (rw o at q)

          pub opened_small : b.at ≤ 65535
          opened_small = began.small

          pub value_sparse : kind ≡ 6
              → put_at (elements_made (sparse_order (cards_at p k)) (build_of src (look p)) (look p k) c.count no_marks rest) b.at out'
              ≡ put_at (build_of src (look p) k c.index ws) at out
          value_sparse y =
              rw (sparse_is y) (ap (λ (v : Node). put_at (elements_made (sparse_order (cards_at p k)) (build_of src (look p)) v c.count no_marks rest) b.at out') (look_sparse p k (sym is.is ∙ y))
              ∙ sparse_begun (build_of src (look p)) (refs_at p k) (cards_at p k) (front_of (look p k) src c) c rest at out b.first b.at out' began)

          module _ (y : kind ≡ 6 → ⊥) where
            pub value_row : put_at (elements_made row_order (build_of src (look p)) (look p k) c.count b.first rest) b.at out' ≡ put_at (build_of src (look p) k c.index ws) at out
            value_row = rw (row_is y) (row_begun (build_of src (look p)) (look p k) (front_of (look p k) src c) c rest at out b.first b.at out' began)

            pub opened_holds : Holds (look p k) (b.first + c.count)
            opened_holds = front_holds (look p k) src c began.bytes b.first (is_row p k a kind is (λ f. y (is.is ∙ f))) began.is

            pub opened_first : b.first ≤ 2
            opened_first = front_first (look p k) src c began.bytes b.first (is_row p k a kind is (λ f. y (is.is ∙ f))) began.is
