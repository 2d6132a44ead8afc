-- The plan of an accepted descriptor is well formed: its nodes, read in order, are those of the blocks with values, with the blocks' own
-- heights. And looking one up gives the block's node, with places in the plan for references.
use mathlib.Core.Path.{◌≡◌, refl, ap, ap₂, sym, ◌∙◌}
use mathlib.Core.Bool.{Bool, true, false}
use mathlib.Core.List.{List, [], ◌∷◌, ◌++◌, append-nil}
use Prim.Native.Nat.{ℕ, zero, suc, ◌+◌, ◌≤◌, ◌<◌}
use native.Mathlib.Nat.{add-zero}
use native.Mathlib.Omega.{arith}
use lib.ListN.{length, get_or, take, length-take, length-map}
use lib.Seq.{take-length}
use borrow.Author.Tests.{le-leb, lt-ltb, eq-eqb, ne_eqb}
use Rattle.wire.proofs.Picks.{pick_yes, pick_no}
use Rattle.descriptor_fields.specs.Layouts.{valued}
use Rattle.descriptor_fields.specs.Fields.{Known, Element}
use Rattle.descriptor_blocks.specs.Descriptor.{node_at, Block, summary, summaries, all_words, plan_words}
use Rattle.descriptor_blocks.proofs.Elements.{no_element}
use Rattle.descriptor_blocks.proofs.Sound.{raised_least}
use Rattle.descriptor_blocks.proofs.Accepted.{missing, Accepted, Valued}
use Rattle.run_compiled.specs.OffBlocks.{block_at}
use Rattle.run_compiled.proofs.Words.{kind_of, refs_of, Stands}
use Rattle.run_compiled.proofs.Shapes.{Kinded}
use Rattle.run_compiled.proofs.Places.{node_at_lem, words_some, known_of, seen_of, seen_few, place, node_is, words_none, words_are, place_next, seen_next, find_block}
use Rattle.run_compiled.proofs.Renames.{map_at, rename_kind, rename_refs}
use Rattle.run_compiled.proofs.Climbs.{Reached, climb_all}
use Rattle.run_compiled.proofs.Blocks.{shape_at, facts, earlier, refs_count, refs_at_lem, renames_same, stands_block}
use Rattle.protocol.specs.Nodes.{Node, rename}
use Rattle.protocol.specs.Plans.{PlanNode, placed_at, look, refer_all, node_size, node_height, NodesRead, nodes, read_node}
use Rattle.protocol.specs.Plans.{then_nodes, read_nodes, nodes_of, is_some, starts_in, without_type, plan_formed}
use Rattle.protocol.specs.Compiling.{node_as_words}

-- a node that is whole, with its kind and its height
read_gives : (p : List ℕ) (at : ℕ) (seen : List PlanNode) (k h : ℕ) → at + node_size (get_or p at 0) (get_or p (at + 1) 0) ≤ length p → get_or p at 0 ≡ k
    → node_height p at seen (get_or p at 0) (get_or p (at + 1) 0) ≡ h → (h ≡ 0 → ⊥) → read_node p at seen ≡ nodes (seen ++ (record { start = at; kind = k; height = h } ∷ []))
unfolding read_node
read_gives p at seen k h w e g n =
    pick_yes _ _ _ (le-leb _ _ w) ∙ pick_no _ _ _ (ne_eqb _ 0 (λ z. n (sym g ∙ z)))
    ∙ ap₂ (λ (k h : ℕ). nodes (seen ++ (record { start = at; kind = k; height = h } ∷ []))) e g

module _ (bs : List Block) (a : Accepted bs) (root : ℕ) where
  abbrev block : ℕ → Block
  block i = get_or bs i missing

  abbrev p : List ℕ
  p = plan_words bs root

  -- ---- a block with values

  module _ (i : ℕ) (v : Valued bs i) where
    abbrev shape : Node
    shape = rename (node_at (summaries bs)) (block i).shape

    abbrev list : List Element
    list = (facts bs a i v).list

    at_node : Stands p (place bs i) shape
    at_node = stands_block bs a i v root

    pub node_place : node_at (summaries bs) i ≡ place bs i
    node_place = node_at_lem bs i ∙ node_is bs a i v.inside

    pub look_block : look p (node_at (summaries bs) i) ≡ rename (node_at (summaries bs)) (block_at bs i)
    look_block = rw (node_place, shape_at bs i) at_node.looks

    -- its references, in the plan
    plan_refs : length (refs_of shape) ≡ length list
    plan_refs = ap length (rename_refs (node_at (summaries bs)) (block i).shape) ∙ length-map (refs_of (block i).shape) (node_at (summaries bs)) ∙ refs_count bs a i v

    plan_ref : (k : ℕ) → k < length list → get_or (refs_of shape) k 0 ≡ (block (get_or list k no_element).ref).node
    plan_ref k l =
        let m : k < length (refs_of (block i).shape) = rw (refs_count bs a i v) l in
        ap (λ (rs : List ℕ). get_or rs k 0) (rename_refs (node_at (summaries bs)) (block i).shape)
        ∙ map_at (node_at (summaries bs)) (refs_of (block i).shape) k m
        ∙ ap (node_at (summaries bs)) (refs_at_lem bs a i v k)
        ∙ node_at_lem bs (get_or list k no_element).ref

    reached : (k : ℕ) → k < length list → Reached (summaries (take i bs)) (seen_of (take i bs)) (kind_of shape) (get_or (refs_of shape) k 0) (get_or list k no_element)
    unfolding known_of summary
    reached k l =
        let r = (get_or list k no_element).ref in
        let h = earlier bs a i v k l in
        let o : Kinded (block r).tag (kind_of (block r).shape) = (facts bs a r h.has).own in
        record {
          node = known_of (block r);
          found = rw (plan_ref k l) (find_block bs a i r (omega (arith, v.inside)) h.less h.has.values);
          may =
              rw (rename_kind (node_at (summaries bs)) (block i).shape)
              ((facts bs a i v).may k (kind_of (block r).shape) l (rw h.is o));
          same = ap (λ (k : Known). k.height) (sym h.is);
          low = ((facts bs a i v).each k l).low;
        }

    height_block : node_height p (place bs i) (seen_of (take i bs)) (get_or p (place bs i) 0) (get_or p (place bs i + 1) 0) ≡ (block i).height
    height_block =
        at_node.height (seen_of (take i bs)) ∙ ap (refer_all (seen_of (take i bs)) (kind_of shape) (λ k. get_or (refs_of shape) k 0)) plan_refs
        ∙ climb_all (summaries (take i bs)) (seen_of (take i bs)) (kind_of shape) list (λ k. get_or (refs_of shape) k 0) reached
        ∙ sym (facts bs a i v).high

    height_some : (block i).height ≡ 0 → ⊥
    height_some e = omega (arith, (facts bs a i v).high, raised_least (summaries (take i bs)) 1 list)

    words_shape : (block i).words ≡ node_as_words shape
    words_shape = words_are bs a i v.inside v.values ∙ ap node_as_words (renames_same bs a i v)

    -- it is the next node read, and it ends where the next place is
    size_block : place bs i + node_size (get_or p (place bs i) 0) (get_or p (place bs i + 1) 0) ≡ place bs (suc i)
    size_block = ap (λ (n : ℕ). place bs i + n) (at_node.size ∙ ap length (sym words_shape)) ∙ sym (place_next bs a i v.inside)

    place_inside : place bs i < length p
    place_inside = omega (arith, at_node.inside, words_some shape)

    read_block : read_node p (place bs i) (seen_of (take i bs)) ≡ nodes (seen_of (take (suc i) bs))
    unfolding known_of
    read_block =
        let k : get_or p (place bs i) 0 ≡ kind_of (block i).shape = at_node.kind ∙ rename_kind (node_at (summaries bs)) (block i).shape in
        let known : seen_of (take (suc i) bs) ≡ seen_of (take i bs) ++ (known_of (block i) ∷ []) =
        seen_next bs a i v.inside ∙ ap (λ (l : List PlanNode). seen_of (take i bs) ++ l) (pick_yes _ _ _ v.values)
        in
        read_gives p (place bs i) (seen_of (take i bs)) (kind_of (block i).shape) (block i).height (omega (arith, at_node.size, at_node.inside)) k height_block height_some
        ∙ ap (λ (n : ℕ). nodes (seen_of (take i bs) ++ (record { start = n; kind = kind_of (block i).shape; height = (block i).height } ∷ []))) (sym (node_is bs a i v.inside))
        ∙ ap nodes (sym known)

  -- ---- all blocks

  place_end : place bs (length bs) ≡ length p
  unfolding place plan_words
  place_end = rw (take-length bs) (omega arith)

  read_end : (f i : ℕ) → i ≡ length bs → read_nodes (suc f) p (place bs i) (seen_of (take i bs)) ≡ nodes (seen_of bs)
  unfolding read_nodes
  read_end f i e = rw e (pick_yes _ _ _ (eq-eqb _ _ place_end) ∙ ap (λ (l : List Block). nodes (seen_of l)) (take-length bs))

  -- a block with values is one node
  read_on : (f i : ℕ) (v : Valued bs i) → read_nodes (suc f) p (place bs i) (seen_of (take i bs)) ≡ read_nodes f p (place bs (suc i)) (seen_of (take (suc i) bs))
  unfolding read_nodes then_nodes
  read_on f i v =
      let few : length (seen_of (take i bs)) < 1024 = omega (arith, seen_few (take i bs), length-take i bs, v.inside, a.few) in
      pick_no _ _ _ (ne_eqb (place bs i) (length p) (λ (e : place bs i ≡ length p). omega (arith, place_inside i v)))
      ∙ pick_yes _ _ _ (lt-ltb _ _ few)
      ∙ ap (λ (r : NodesRead). then_nodes r (read_nodes f p (place bs i + node_size (get_or p (place bs i) 0) (get_or p (place bs i + 1) 0)))) (read_block i v)
      ∙ ap (λ (k : ℕ). read_nodes f p k (seen_of (take (suc i) bs))) (size_block i v)

  -- one without values is none
  read_past : (f i : ℕ) → i < length bs → valued (block i).tag ≡ false → read_nodes f p (place bs i) (seen_of (take i bs)) ≡ read_nodes f p (place bs (suc i)) (seen_of (take (suc i) bs))
  read_past f i l e =
      let w : place bs (suc i) ≡ place bs i = place_next bs a i l ∙ ap (λ (ws : List ℕ). place bs i + length ws) (words_none bs a i l e) ∙ add-zero (place bs i) in
      let k : seen_of (take (suc i) bs) ≡ seen_of (take i bs) =
      seen_next bs a i l ∙ ap (λ (l : List PlanNode). seen_of (take i bs) ++ l) (pick_no _ _ _ e) ∙ append-nil (seen_of (take i bs))
      in
      rw (w, k)

  reads : (n i f : ℕ) → i + n ≡ length bs → length p < place bs i + f → read_nodes f p (place bs i) (seen_of (take i bs)) ≡ nodes (seen_of bs)
  reads zero i zero e l = let q : i ≡ length bs = omega arith in absurd (omega (arith, place_end, ap (place bs) q))
  reads zero i (suc f) e l = read_end f i (omega arith)
  reads (suc n) i f e l = go (valued (block i).tag) refl f l (λ f m. reads n (suc i) f (omega arith) m)
    where
      go : (t : Bool) → valued (block i).tag ≡ t → (f : ℕ) → length p < place bs i + f
          → ((f : ℕ) → length p < place bs (suc i) + f → read_nodes f p (place bs (suc i)) (seen_of (take (suc i) bs)) ≡ nodes (seen_of bs))
          → read_nodes f p (place bs i) (seen_of (take i bs)) ≡ nodes (seen_of bs)
      go true t zero l r =
          let v : Valued bs i = record { inside = omega arith; values = t } in
          absurd (omega (arith, place_inside i v))
      go true t (suc f) l r =
          let v : Valued bs i = record { inside = omega arith; values = t } in
          read_on f i v ∙ r f (omega (arith, place_next bs a i v.inside, ap length (words_shape i v), words_some (shape i v)))
      go false t f l r =
          let k : i < length bs = omega arith in
          read_past f i k t ∙ r f (omega (arith, place_next bs a i k))

  all_nodes : nodes_of p ≡ nodes (seen_of bs)
  unfolding nodes_of place seen_of all_words
  all_nodes = reads (length bs) 0 (suc (length p)) (omega arith) (omega arith)

  -- ---- the plan

  module _ (v : Valued bs root) where
    plan_long : 2 < length p
    unfolding place
    plan_long = omega (arith, place_inside root v)

    pub some_type : without_type p ≡ false
    unfolding without_type
    some_type = pick_no _ _ _ (ne_eqb (length p) 2 (λ (e : length p ≡ 2). omega (arith, plan_long)))

    root_starts : starts_in (nodes_of p) (node_at (summaries bs) root) ≡ true
    unfolding starts_in is_some
    root_starts =
        rw (all_nodes, node_at_lem bs root)
        (ap is_some
        (ap (λ (l : List Block). placed_at (seen_of l) (block root).node) (sym (take-length bs)) ∙ find_block bs a (length bs) root (omega arith) v.inside v.values))

    pub plan_formed_lem : plan_formed p ≡ true
    unfolding plan_formed plan_words
    plan_formed_lem =
        pick_no _ _ _ some_type ∙ pick_yes _ _ _ (le-leb 2 (length p) (omega (arith, plan_long)))
        ∙ pick_yes _ _ _ (eq-eqb (2 + length (all_words bs)) (length p) (omega arith))
        ∙ root_starts
