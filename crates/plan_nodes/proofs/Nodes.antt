-- What is known of a node that starts in a well-formed plan: its kind, its
-- size, its counts, and that its references are the starts of earlier nodes.
use mathlib.Core.Path.{◌≡◌, refl, ap, sym, ◌∙◌}
use mathlib.Core.Logic.{◌⊎◌, inl, inr, ⊎_elim}
use mathlib.Core.Bool.{Bool, true, false}
use mathlib.Core.List.{List, []}
use mathlib.Core.Option.{some, Option, none}
use Prim.Native.Nat.{ℕ, zero, suc, ◌+◌, ◌*◌, ◌^◌, ◌≤◌, ◌<◌}
use native.Mathlib.Nat.{eq-or-lt_of_le, le_of_suc-le-suc}
use native.Mathlib.Decide.{dec_lt}
use native.Mathlib.Omega.{arith}
use lib.ListN.{length, get_or, get_elem?, take, drop, length-take}
use lib.Seq.{get_or-take, get_or-drop}
use lib.Dec.{ltb, eqb}
use borrow.Author.Tests.{eqb-true, le-ltb, lt-ltb, leb-true, ne_eqb}
use Rattle.wire.proofs.Picks.{clash, both, pick_no, pick_case}
use Rattle.plan_nodes.proofs.Looks.{elem_in, up_length, up_at}
use Rattle.plan_nodes.proofs.Reading.{find_append, Inside, size_positive, sound_none, all_read}
use Rattle.protocol.specs.Numbers.{pick, up_to}
use Rattle.protocol.specs.Nodes.{Node, ref_at}
use Rattle.protocol.specs.Messages.{is_cardinality}
use Rattle.protocol.specs.Plans.{PlanNode, placed_at, is_some, pair_ref, pair_card, refs_at, look, raised, refer, refer_all, all_cardinalities}
use Rattle.protocol.specs.Plans.{node_size, node_height, NodesRead, malformed, nodes, nodes_of, starts_in, without_type, plan_formed, many_height}
use Rattle.plan_nodes.specs.Readers.{At}

-- ---- references that were found

-- a node whose height is not 0 refers to a node that was read
pub refer_found : (seen : List PlanNode) (kind r h : ℕ) → (refer seen kind r h ≡ 0 → ⊥) → (is_some (placed_at seen r) ≡ true) × (h ≡ 0 → ⊥)
unfolding refer raised is_some
refer_found seen kind r zero f = absurd (f refl)
refer_found seen kind r (suc h) f = (go (placed_at seen r) f, λ z. omega arith)
  where
    go : (t : (Option PlanNode)) → (raised kind (suc h) t ≡ 0 → ⊥) → is_some t ≡ true
    go none f = absurd (f refl)
    go (some x) f = refl

pub refers_found : (seen : List PlanNode) (kind : ℕ) (g : ℕ → ℕ) (n i : ℕ) → (refer_all seen kind g n ≡ 0 → ⊥) → i < n → is_some (placed_at seen (g i)) ≡ true
unfolding refer_all
refers_found seen kind g zero i f lt = absurd (omega arith)
refers_found seen kind g (suc n) i f lt =
    let h = refer_found seen kind (g n) (refer_all seen kind g n) f in
    ⊎_elim (λ (e : i ≡ n). rw e h.0) (λ (l : i < n). refers_found seen kind g n i h.1 l) (eq-or-lt_of_le (le_of_suc-le-suc lt))

-- ---- a node by its kind

-- no other kind is well formed
height_other : (p : List ℕ) (k : ℕ) (seen : List PlanNode) (K n : ℕ) → (K ≡ 0) ⊎ (8 < K) → node_height p k seen K n ≡ 0
unfolding node_height pick many_height
height_other p k seen K n o =
    let other : (m : ℕ) → 1 ≤ m → m ≤ 8 → eqb K m ≡ false =
    λ m a b. ne_eqb K m (λ (e : K ≡ m). ⊎_elim (λ (z : K ≡ 0). omega arith) (λ (z : 8 < K). omega arith) o)
    in
    rw (
      other 8 (omega arith) (omega arith),
      other 1 (omega arith) (omega arith),
      other 2 (omega arith) (omega arith),
      other 3 (omega arith) (omega arith),
      other 7 (omega arith) (omega arith),
      other 4 (omega arith) (omega arith),
      other 5 (omega arith) (omega arith),
      other 6 (omega arith) (omega arith),
    )
    (pick_case (λ m. m ≡ 0) (ltb 512 n) 0 0 (λ _. refl) (λ _. refl))

pub size_two : (kind n : ℕ) → (kind ≡ 8 → ⊥) → 2 ≤ node_size kind n
unfolding node_size
size_two kind n h =
    pick_case (λ m. 2 ≤ m) (eqb kind 4) _ _ (λ _. omega arith)
    (λ _. pick_case (λ m. 2 ≤ m) (eqb kind 5) _ _ (λ _. omega arith)
    (λ _. pick_case (λ m. 2 ≤ m) (eqb kind 6) _ _ (λ _. omega arith)
    (λ _. pick_case (λ m. 2 ≤ m) (eqb kind 8) _ _ (λ e. absurd (h (eqb-true _ _ e))) (λ _. omega arith))))

-- a choice that is not 0, with 0 for the rest
chosen : (t : Bool) (x : ℕ) → (pick t x 0 ≡ 0 → ⊥) → (t ≡ true) × (x ≡ 0 → ⊥)
unfolding pick
chosen true x f = (refl, f)
chosen false x f = absurd (f refl)

cards_in : (g : ℕ → ℕ) (n i : ℕ) → all_cardinalities g n ≡ true → i < n → is_cardinality (g i) ≡ true
unfolding all_cardinalities
cards_in g zero i e lt = absurd (omega arith)
cards_in g (suc n) i e lt =
    let h = both _ _ e in
    ⊎_elim (λ (q : i ≡ n). rw q h.1) (λ (l : i < n). cards_in g n i h.0 l) (eq-or-lt_of_le (le_of_suc-le-suc lt))

-- one of two kinds
pub five_six : (K : ℕ) → 5 ≤ K → K ≤ 6 → (K ≡ 5) ⊎ (K ≡ 6)
five_six K a b = elim (dec_lt K 6) [ yes l ↦ inl (omega arith) | no l ↦ inr (omega arith) ]

-- the place of a node among those that were read
pub record Placed (p : List ℕ) (k : ℕ) : Type 0 where
  pub all : List PlanNode
  pub read : nodes_of p ≡ nodes all
  pub inside : Inside p all k

module _ (p : List ℕ) (k : ℕ) (a : At p k) where
  pub placed : Placed p k
  unfolding starts_in nodes_of
  placed = go (nodes_of p) refl a.start
    where
      go : (t : NodesRead) → nodes_of p ≡ t → starts_in t k ≡ true → Placed p k
      go malformed r e = clash e
      go (nodes all) r e = record { all = all; read = r; inside = all_read (suc (length p)) p 2 [] all (omega arith) (sound_none p) r k e }

  -- the node's height, by its kind, is not 0
  fine_as : (K : ℕ) → get_or p k 0 ≡ K → node_height p k placed.inside.seen K (get_or p (k + 1) 0) ≡ 0 → ⊥
  fine_as K e z = placed.inside.fine (ap (λ (m : ℕ). node_height p k placed.inside.seen m (get_or p (k + 1) 0)) e ∙ z)

  -- a reference that was found leads to where an earlier node starts
  ref_in : (r : ℕ) → is_some (placed_at placed.inside.seen r) ≡ true → At p r × (r < k)
  unfolding starts_in
  ref_in r h =
      let i = placed.inside in
      let e : is_some (placed_at placed.all r) ≡ true = rw i.split (ap is_some (find_append i.seen i.rest r h) ∙ h) in
      let s : starts_in (nodes_of p) r ≡ true = ap (λ (t : NodesRead). starts_in t r) placed.read ∙ e in
      (record { formed = a.formed; start = s; small = omega (arith, i.early r h, a.small) }, i.early r h)

  -- ---- sizes and counts

  pub at_low : 2 ≤ k
  at_low = placed.inside.low

  pub at_size : k + node_size (get_or p k 0) (get_or p (k + 1) 0) ≤ length p
  at_size = placed.inside.whole

  pub at_inside : k < length p
  at_inside = omega (arith, at_size, size_positive (get_or p k 0) (get_or p (k + 1) 0))

  pub at_kind : (1 ≤ get_or p k 0) × (get_or p k 0 ≤ 8)
  at_kind =
      let K = get_or p k 0 in
      let never : (K ≡ 0) ⊎ (8 < K) → ⊥ = λ o. placed.inside.fine (height_other p k placed.inside.seen K (get_or p (k + 1) 0) o) in
      elim (dec_lt 0 K) [
        | yes l ↦ elim (dec_lt 8 K) [ yes m ↦ absurd (never (inr m)) | no m ↦ (omega arith, omega arith) ]
        | no l ↦ absurd (never (inl (omega arith)))
      ]

  pub at_format : get_or p k 0 ≡ 1 → get_or p (k + 1) 0 < 20
  unfolding node_height pick many_height
  at_format e = elim (dec_lt (get_or p (k + 1) 0) 20) [ yes l ↦ l | no l ↦ absurd (fine_as 1 e (rw (le-ltb (get_or p (k + 1) 0) 20 (omega arith)))) ]

  -- the second word stands in the plan, but of an enumeration, which has none
  pub at_second : (get_or p k 0 ≡ 8 → ⊥) → k + 1 < length p
  at_second n = omega (arith, at_size, size_two (get_or p k 0) (get_or p (k + 1) 0) n)

  -- a tuple or an object has at most 512 elements (R4.4)
  pub at_few : 4 ≤ get_or p k 0 → get_or p k 0 ≤ 6 → get_or p (k + 1) 0 ≤ 512
  unfolding node_height pick many_height
  at_few a b =
      let n = get_or p (k + 1) 0 in
      elim (dec_lt 512 n) [
        | yes l ↦
            absurd
            (elim (dec_lt (get_or p k 0) 5) [
              | yes m ↦ fine_as 4 (omega arith) (rw (lt-ltb 512 n l))
              | no m ↦
                  ⊎_elim
                  (λ e. fine_as 5 e (rw (lt-ltb 512 n l)))
                  (λ e. fine_as 6 e (rw (lt-ltb 512 n l)))
                  (five_six (get_or p k 0) (omega arith) b)
            ])
        | no l ↦ omega arith
      ]

  -- all references of a tuple stand in the plan, and all pairs of an object
  pub at_tuple_size : get_or p k 0 ≡ 4 → k + 2 + get_or p (k + 1) 0 ≤ length p
  unfolding node_size pick
  at_tuple_size e =
      let s : k + (2 + get_or p (k + 1) 0) ≤ length p = rw e at at_size in
      omega arith

  pub at_pairs_size : 5 ≤ get_or p k 0 → get_or p k 0 ≤ 6 → k + 2 + 2 * get_or p (k + 1) 0 ≤ length p
  unfolding node_size pick
  at_pairs_size a b =
      let s : k + (2 + 2 * get_or p (k + 1) 0) ≤ length p =
      ⊎_elim (λ e. rw e at at_size) (λ e. rw e at at_size) (five_six (get_or p k 0) a b)
      in
      omega arith

  -- ---- references

  one_found : (K : ℕ) → (K ≡ 2) ⊎ ((K ≡ 3) ⊎ (K ≡ 7)) → get_or p k 0 ≡ K → is_some (placed_at placed.inside.seen (get_or p (k + 1) 0)) ≡ true
  unfolding node_height pick many_height
  one_found K o e =
      let n = get_or p (k + 1) 0 in
      let seen = placed.inside.seen in
      ⊎_elim
      (λ q. (refer_found seen 2 n 1 (fine_as 2 (e ∙ q))).0)
      (λ o. ⊎_elim (λ q. (refer_found seen 3 n 1 (fine_as 3 (e ∙ q))).0) (λ q. (refer_found seen 7 n 1 (fine_as 7 (e ∙ q))).0) o)
      o

  tuple_found : get_or p k 0 ≡ 4 → (i : ℕ) → i < get_or p (k + 1) 0 → is_some (placed_at placed.inside.seen (get_or p (k + 2 + i) 0)) ≡ true
  unfolding node_height pick many_height
  tuple_found e i lt =
      let n = get_or p (k + 1) 0 in
      let few : n ≤ 512 = at_few (omega arith) (omega arith) in
      refers_found placed.inside.seen 4 (λ j. get_or p (k + 2 + j) 0) n i (λ z. fine_as 4 e (rw (le-ltb 512 n few) z)) lt

  pairs_fine : (K : ℕ) → (K ≡ 5) ⊎ (K ≡ 6) → get_or p k 0 ≡ K → (all_cardinalities (pair_card p k) (get_or p (k + 1) 0) ≡ true) × (refer_all placed.inside.seen K (pair_ref p k) (get_or p (k + 1) 0) ≡ 0 → ⊥)
  unfolding node_height pick many_height
  pairs_fine K o e =
      let n = get_or p (k + 1) 0 in
      let few : n ≤ 512 = at_few (⊎_elim (λ q. omega arith) (λ q. omega arith) o) (⊎_elim (λ q. omega arith) (λ q. omega arith) o) in
      ⊎_elim
      (λ q. rw q (chosen _ _ (λ z. fine_as 5 (e ∙ q) (rw (le-ltb 512 n few) z))))
      (λ q. rw q (chosen _ _ (λ z. fine_as 6 (e ∙ q) (rw (le-ltb 512 n few) z))))
      o

  pairs_found : 5 ≤ get_or p k 0 → get_or p k 0 ≤ 6 → (i : ℕ) → i < get_or p (k + 1) 0 → is_some (placed_at placed.inside.seen (pair_ref p k i)) ≡ true
  pairs_found a b i lt =
      refers_found placed.inside.seen (get_or p k 0) (pair_ref p k) (get_or p (k + 1) 0) i (pairs_fine (get_or p k 0) (five_six (get_or p k 0) a b) refl).1 lt

  -- the cardinalities of an object are of the five
  pub at_card : 5 ≤ get_or p k 0 → get_or p k 0 ≤ 6 → (i : ℕ) → i < get_or p (k + 1) 0 → is_cardinality (pair_card p k i) ≡ true
  at_card a b i lt = cards_in (pair_card p k) (get_or p (k + 1) 0) i (pairs_fine (get_or p k 0) (five_six (get_or p k 0) a b) refl).0 lt

  -- each reference of a node leads to where an earlier one starts
  refers : (i r : ℕ) → ref_at (look p k) i ≡ some r → At p r × (r < k)
  unfolding look ref_at refs_at
  refers i r =
      let K = get_or p k 0 in
      let n = get_or p (k + 1) 0 in
      let Q : Node → Type 0 = λ v. ref_at v i ≡ some r → At p r × (r < k) in
      let one : (m : ℕ) → (m ≡ 2) ⊎ ((m ≡ 3) ⊎ (m ≡ 7)) → K ≡ m → some n ≡ some r → At p r × (r < k) =
      λ m o e h. let q : n ≡ r = cc in ref_in r (rw q at (one_found m o e))
      in
      let pairs : 5 ≤ K → K ≤ 6 → get_elem? (up_to (pair_ref p k) n) i ≡ some r → At p r × (r < k) =
      λ a b h.
      let s = elem_in (up_to (pair_ref p k) n) i r h in
      let lt : i < n = omega (arith, s.0, up_length (pair_ref p k) n) in
      let q : pair_ref p k i ≡ r = sym (s.1 ∙ up_at (pair_ref p k) n i lt) in
      ref_in r (rw q at (pairs_found a b i lt))
      in
      pick_case Q (eqb K 1) _ _ (λ _ h. let z : ◌≡◌ {A = ℕ} 0 1 = cc in absurd (omega arith))
      (λ _. pick_case Q (eqb K 2) _ _ (λ e. one 2 (inl refl) (eqb-true _ _ e))
      (λ _. pick_case Q (eqb K 3) _ _ (λ e. one 3 (inr (inl refl)) (eqb-true _ _ e))
      (λ _. pick_case Q (eqb K 4) _ _
      (λ e h.
      let s = elem_in (take n (drop (k + 2) p)) i r h in
      let lt : i < n = omega (arith, s.0, length-take n (drop (k + 2) p)) in
      let q : get_or p (k + 2 + i) 0 ≡ r = sym (s.1 ∙ get_or-take n (drop (k + 2) p) i 0 lt ∙ get_or-drop (k + 2) p i 0) in
      ref_in r (rw q at (tuple_found (eqb-true _ _ e) i lt)))
      (λ _. pick_case Q (eqb K 5) _ _ (λ e. let five : K ≡ 5 = eqb-true _ _ e in pairs (omega arith) (omega arith))
      (λ _. pick_case Q (eqb K 6) _ _ (λ e. let six : K ≡ 6 = eqb-true _ _ e in pairs (omega arith) (omega arith))
      (λ _. pick_case Q (eqb K 7) _ _ (λ e. one 7 (inr (inr refl)) (eqb-true _ _ e))
      (λ _ h. let z : ◌≡◌ {A = ℕ} 0 1 = cc in absurd (omega arith))))))))

pub at_ref : (p : List ℕ) (k i r : ℕ) → At p k → ref_at (look p k) i ≡ some r → At p r × (r < k)
at_ref p k i r a e = refers p k a i r e

-- the root of a plan that has a type
pub at_root : (p : List ℕ) → plan_formed p ≡ true → without_type p ≡ false → ((j : ℕ) → get_or p j 0 < 2 ^ 32) → At p (get_or p 1 0)
unfolding plan_formed
at_root p f t w =
    let h = both _ _ (sym (pick_no _ _ _ t) ∙ f) in
    let g = both _ _ h.1 in
    record { formed = f; start = g.1; small = w 1 }

pub root_inside : (p : List ℕ) → plan_formed p ≡ true → without_type p ≡ false → 2 ≤ length p
unfolding plan_formed
root_inside p f t = leb-true _ _ (both _ _ (sym (pick_no _ _ _ t) ∙ f)).0
