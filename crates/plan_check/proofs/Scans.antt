-- Reading a plan's nodes one by one, with their starts and heights kept in two lists: what is left of the reading leads to the same end.
use mathlib.Core.Path.{◌≡◌, refl, ap, sym, ◌∙◌}
use mathlib.Core.Logic.{⊎_elim}
use mathlib.Core.Bool.{false}
use mathlib.Core.List.{List, [], ◌∷◌, ◌++◌}
use Prim.Native.Nat.{ℕ, zero, suc, ◌+◌, ◌-◌, ◌≤◌, ◌<◌}
use native.Mathlib.Nat.{eq-or-lt_of_le, sub-zero}
use native.Mathlib.Numerals.{add-one}
use native.Mathlib.Omega.{arith}
use lib.ListN.{length, get_or, set, take, length-set, length-take}
use lib.Seq.{get_or-take, get_or-set_same, get_or-set_other}
use borrow.Author.Tests.{eq-eqb, ne_eqb, lt-ltb, le-ltb, le-leb, lt-leb}
use Rattle.wire.proofs.Picks.{pick_yes, pick_no}
use Rattle.plan_heights.specs.Scan.{known_at, known_of, known, Rising, Scanned, Among, height_option}
use Rattle.plan_check.specs.Reading.{read_of, count_of, Reads}
use Rattle.std.specs.Prelude.{Option, Some, None}
use Rattle.std.specs.Option.{is_some as option_is_some}
use Rattle.plan_nodes.proofs.Reading.{size_positive}
use Rattle.plan_heights.proofs.Starts.{known_length, starts_here}
use Rattle.plan_heights.proofs.Heights.{height_zero, height_is}
use Rattle.protocol.specs.Plans.{PlanNode, node_size, node_height, NodesRead, malformed, nodes, read_node, then_nodes, read_nodes, nodes_of, starts_in}

-- ---- one step of the reading

module _ (f : ℕ) (p : List ℕ) (at : ℕ) (seen : List PlanNode) where
  read_end : at ≡ length p → read_nodes (suc f) p at seen ≡ nodes seen
  unfolding read_nodes
  read_end e = pick_yes _ _ _ (eq-eqb _ _ e)

  module _ (l : at < length p) where
    read_many : 1024 ≤ length seen → read_nodes (suc f) p at seen ≡ malformed
    unfolding read_nodes
    read_many m = pick_no _ _ _ (ne_eqb _ _ (λ (e : at ≡ length p). omega arith)) ∙ pick_no _ _ _ (le-ltb _ _ m)

    module _ (few : length seen < 1024) where
      read_on : read_nodes (suc f) p at seen ≡ then_nodes (read_node p at seen) (read_nodes f p (at + node_size (get_or p at 0) (get_or p (at + 1) 0)))
      unfolding read_nodes
      read_on = pick_no _ _ _ (ne_eqb _ _ (λ (e : at ≡ length p). omega arith)) ∙ pick_yes _ _ _ (lt-ltb _ _ few)

      next : NodesRead → NodesRead
      next r = then_nodes r (read_nodes f p (at + node_size (get_or p at 0) (get_or p (at + 1) 0)))

      read_short : length p < at + node_size (get_or p at 0) (get_or p (at + 1) 0) → read_nodes (suc f) p at seen ≡ malformed
      unfolding then_nodes read_node next
      read_short w = read_on ∙ ap next (pick_no _ _ _ (lt-leb _ _ w))

      module _ (w : at + node_size (get_or p at 0) (get_or p (at + 1) 0) ≤ length p) where
        read_bad : node_height p at seen (get_or p at 0) (get_or p (at + 1) 0) ≡ 0 → read_nodes (suc f) p at seen ≡ malformed
        unfolding then_nodes read_node next
        read_bad e = read_on ∙ ap next (pick_yes _ _ _ (le-leb _ _ w) ∙ pick_yes _ _ _ (eq-eqb _ _ e))

        read_next : (h : ℕ) → h ≡ node_height p at seen (get_or p at 0) (get_or p (at + 1) 0) → (h ≡ 0 → ⊥)
            → read_nodes (suc f) p at seen ≡ read_nodes f p (at + node_size (get_or p at 0) (get_or p (at + 1) 0)) (seen ++ (record { start = at; kind = get_or p at 0; height = h } ∷ []))
        unfolding then_nodes read_node next
        read_next h e z =
            rw e (read_on ∙ ap next (pick_yes _ _ _ (le-leb _ _ w) ∙ pick_no _ _ _ (ne_eqb _ _ (λ q. z (e ∙ q)))))

-- ---- the lists

known_same : (p s h t g : List ℕ) (n : ℕ) → ((i : ℕ) → i < n → get_or t i 0 ≡ get_or s i 0) → ((i : ℕ) → i < n → get_or g i 0 ≡ get_or h i 0) → known_of p t g n ≡ known_of p s h n
unfolding known_of known_at
known_same p s h t g zero a b = refl
known_same p s h t g (suc n) a b = rw (known_same p s h t g n (λ i l. a i (omega arith)) (λ i l. b i (omega arith)), a n (omega arith), b n (omega arith))

-- one more start and height
known_next : (p s h : List ℕ) (n x y : ℕ) → n < length s → n < length h → known_of p (set s n x) (set h n y) (n + 1) ≡ known_of p s h n ++ (record { start = x; kind = get_or p x 0; height = y } ∷ [])
unfolding known_of known_at
known_next p s h n x y l m =
    rw (
      add-one,
      known_same p s h (set s n x) (set h n y) n (λ i v. get_or-set_other s n i x 0 (λ e. omega arith)) (λ i v. get_or-set_other h n i y 0 (λ e. omega arith)),
      get_or-set_same s n x 0 l,
      get_or-set_same h n y 0 m,
    )

-- the first of them alone
known_first : (p s h : List ℕ) (n : ℕ) → n ≤ length s → known p (take n s) (take n h) ≡ known_of p s h n
known_first p s h n l =
    let e : length (take n s) ≡ n = omega (arith, length-take n s) in
    rw e (known_same p s h (take n s) (take n h) n (λ i v. get_or-take n s i 0 v) (λ i v. get_or-take n h i 0 v))

-- ---- the loop

pub record Going (p s h : List ℕ) (n at : ℕ) : Type 0 where
  pub order : (i j : ℕ) → i < j → j < n → get_or s i 0 < get_or s j 0
  pub below : (i : ℕ) → i < n → get_or s i 0 < at
  pub inside : at ≤ length p
  pub room : n ≤ length s
  pub tall : n ≤ length h
  pub low : n + 2 ≤ at
  pub few : n ≤ 1024
  pub same : nodes_of p ≡ read_nodes (suc (length p) - n) p at (known_of p s h n)

pub going_start : (p s h : List ℕ) → 2 ≤ length p → Going p s h 0 2
unfolding nodes_of known_of
going_start p s h l =
    record {
      order = λ i j a b. absurd (omega arith);
      below = λ i a. absurd (omega arith);
      inside = l;
      room = omega arith;
      tall = omega arith;
      low = omega arith;
      few = omega arith;
      same = rw sub-zero;
    }

module _ (p s h : List ℕ) (n at : ℕ) (g : Going p s h n at) where
  fuel : suc (length p) - n ≡ suc (suc (length p) - (n + 1))
  fuel = omega (arith, g.low, g.inside)

  from_here : nodes_of p ≡ read_nodes (suc (suc (length p) - (n + 1))) p at (known_of p s h n)
  from_here = g.same ∙ ap (λ (f : ℕ). read_nodes f p at (known_of p s h n)) fuel

  count : length (known_of p s h n) ≡ n
  count = known_length p s h n

  first : length (take n s) ≡ n
  first = omega (arith, length-take n s, g.room)

  rising : Rising (take n s)
  rising =
      record {
        order = λ i j a b.
            let y : j < n = rw first at b in
            let x : i < n = omega arith in
            rw (get_or-take n s i 0 x, get_or-take n s j 0 y) (g.order i j a y);
      }

  -- the nodes so far, as those before the next one
  pub going_scanned : at < length p → Scanned p (take n s) (take n h)
  going_scanned l =
      record {
        rising = rising;
        tall = omega (arith, first, length-take n h, g.tall);
        inside = λ i a.
            let x : i < n = rw first at a in
            rw (get_or-take n s i 0 x) (omega (arith, g.below i x));
      }

  -- the reading is over, with what it gives
  stopped : nodes_of p ≡ malformed → Reads p s h None
  unfolding read_of count_of
  stopped e = record { same = e; room = omega arith; rising = record { order = λ i j a b. absurd (omega arith) } }

  pub going_end : length p ≤ at → Reads p s h (Some n)
  unfolding read_of count_of
  going_end l =
      let e : at ≡ length p = omega (arith, g.inside) in
      record {
        same = from_here ∙ read_end (suc (length p) - (n + 1)) p at (known_of p s h n) e;
        room = g.room;
        rising = rising;
      }

  module _ (l : at < length p) where
    pub going_many : 1024 ≤ n → Reads p s h None
    going_many m = stopped (from_here ∙ read_many (suc (length p) - (n + 1)) p at (known_of p s h n) l (rw count m))

    module _ (few : n < 1024) (size : ℕ) (is : size ≡ node_size (get_or p at 0) (get_or p (at + 1) 0)) where
      small : length (known_of p s h n) < 1024
      small = rw count few

      pub going_short : length p - at < size → Reads p s h None
      going_short w =
          let short : length p < at + size = omega arith in
          stopped (from_here ∙ read_short (suc (length p) - (n + 1)) p at (known_of p s h n) l small (rw is at short))

      module _ (w : size ≤ length p - at) where
        pub going_whole : at + node_size (get_or p at 0) (get_or p (at + 1) 0) ≤ length p
        going_whole = let whole : at + size ≤ length p = omega arith in rw is at whole

        -- what the code answers of the next node's height
        abbrev pub height : Option ℕ
        height = height_option (node_height p at (known p (take n s) (take n h)) (get_or p at 0) (get_or p (at + 1) 0))

        pub going_bad : None ≡ height → Reads p s h None
        going_bad e =
            let z : node_height p at (known_of p s h n) (get_or p at 0) (get_or p (at + 1) 0) ≡ 0 = height_zero _ (rw (known_first p s h n g.room) at e) in
            stopped (from_here ∙ read_bad (suc (length p) - (n + 1)) p at (known_of p s h n) l small going_whole z)

        pub going_next : (y : ℕ) → Some y ≡ height → n < length s → n < length h → Going p (set s n at) (set h n y) (n + 1) (at + size)
        going_next y e a b =
            let f = height_is y _ (rw (known_first p s h n g.room) at e) in
            let pos : 0 < size = rw is (size_positive (get_or p at 0) (get_or p (at + 1) 0)) in
            let new : get_or (set s n at) n 0 ≡ at = get_or-set_same s n at 0 a in
            let old : (i : ℕ) → i < n → get_or (set s n at) i 0 ≡ get_or s i 0 = λ i v. get_or-set_other s n i at 0 (λ (q : i ≡ n). omega arith) in
            record {
              order = λ i j x v.
                  ⊎_elim
                  (λ (q : j ≡ n). rw (q, new, old i (omega arith)) (g.below i (omega arith)))
                  (λ (r : j < n). rw (old j r, old i (omega arith)) (g.order i j x r))
                  (eq-or-lt_of_le (omega arith));
              below = λ i v.
                  ⊎_elim
                  (λ (q : i ≡ n). rw (q, new) (omega arith))
                  (λ (x : i < n). rw (old i x) (omega (arith, g.below i x)))
                  (eq-or-lt_of_le (omega arith));
              inside = omega arith;
              room = rw length-set (omega arith);
              tall = rw length-set (omega arith);
              low = omega (arith, g.low);
              few = omega arith;
              same =
                  from_here
                  ∙ read_next (suc (length p) - (n + 1)) p at (known_of p s h n) l small going_whole y f.0 (λ z. omega (arith, f.1))
                  ∙ rw (known_next p s h n at y a b, is);
            }

-- ---- what a whole reading says of the root

module _ (p s h : List ℕ) where
  pub reads_faulty : (k : ℕ) → Reads p s h None → false ≡ starts_in (nodes_of p) k
  unfolding read_of starts_in
  reads_faulty k u = sym (ap (λ (t : NodesRead). starts_in t k) u.same)

  module _ (n : ℕ) (u : Reads p s h (Some n)) where
    pub reads_room : n ≤ length s
    unfolding count_of
    reads_room = u.room

    pub reads_rising : Rising (take n s)
    unfolding count_of
    reads_rising = u.rising

    pub reads_found : (k : ℕ) (t : Option ℕ) → Among (take n s) k t → option_is_some t ≡ starts_in (nodes_of p) k
    unfolding read_of
    reads_found k t a =
        starts_here p (take n s) (take n h) k t reads_rising a
        ∙ ap (λ (all : List PlanNode). starts_in (nodes all) k) (known_first p s h n reads_room)
        ∙ sym (ap (λ (r : NodesRead). starts_in r k) u.same)
