-- The height of a node after its references, one by one.
use mathlib.Core.Path.{◌≡◌, refl, ap, sym, ◌∙◌}
use mathlib.Core.Logic.{⊎_elim}
use mathlib.Core.Bool.{Bool, true, false}
use mathlib.Core.List.{List}
use Prim.Native.Nat.{ℕ, zero, suc, ◌+◌, ◌*◌, ◌≤◌, ◌<◌, max}
use native.Mathlib.Nat.{eq-or-lt_of_le, le_of_suc-le-suc}
use native.Mathlib.Numerals.{add-one}
use native.Mathlib.Omega.{arith}
use lib.Dec.{ltb, eqb}
use lib.ListN.{length, get_or}
use native.Mathlib.Decide.{dec_lt}
use borrow.Author.Tests.{le-leb, lt-leb, lt-ltb, le-ltb, eq-eqb, eqb-true}
use Rattle.wire.proofs.Picks.{pick_yes, pick_no, pick_case}
use Rattle.std.specs.Prelude.{Some, None}
use Rattle.plan_heights.specs.Scan.{known_at, known, Among, Rising, height_option, element_ref, cards_fit, elements_height}
use Rattle.plan_heights.proofs.Starts.{find_miss, find_hit}
use Rattle.protocol.specs.Numbers.{pick, at_least}
use Rattle.protocol.specs.Messages.{is_cardinality}
use Rattle.protocol.specs.Plans.{PlanNode, pair_card, placed_at, may_refer, raised, refer, refer_all, all_cardinalities}

-- ---- one reference

refer_some : (seen : List PlanNode) (kind r h : ℕ) → 1 ≤ h → refer seen kind r h ≡ raised kind h (placed_at seen r)
unfolding refer
refer_some seen kind r zero l = absurd (omega arith)
refer_some seen kind r (suc h) l = refl

-- a height that is not 0 is answered as it is
pub height_some : (n : ℕ) → 1 ≤ n → Some n ≡ height_option n
unfolding height_option
height_some zero l = absurd (omega arith)
height_some (suc n) l = refl

pub height_none : (n : ℕ) → n ≡ 0 → None ≡ height_option n
unfolding height_option
height_none n e = rw e

pub height_zero : (n : ℕ) → None ≡ height_option n → n ≡ 0
unfolding height_option
height_zero zero e = refl
height_zero (suc n) e = cc

pub height_is : (b n : ℕ) → Some b ≡ height_option n → (b ≡ n) × (1 ≤ b)
unfolding height_option
height_is b zero e = cc
height_is b (suc n) e = let f : b ≡ suc n = cc in (f, omega arith)

max_at_least : (a b : ℕ) → max a b ≡ at_least a b
unfolding at_least pick
max_at_least a b = elim (dec_lt b a) [ yes l ↦ rw (lt-leb a b l) (omega arith) | no l ↦ rw (le-leb a b (omega arith)) (omega arith) ]

module _ (p s hs : List ℕ) (kind r h : ℕ) (u : Rising s) (pos : 1 ≤ h) where
  pub refer_miss : Among s r None → None ≡ height_option (refer (known p s hs) kind r h)
  unfolding raised
  refer_miss a =
      height_none _ (refer_some (known p s hs) kind r h pos ∙ ap (raised kind h) (find_miss p s hs (length s) r a))

  module _ (i : ℕ) (a : Among s r (Some i)) where
    refer_hit : refer (known p s hs) kind r h ≡ pick (may_refer kind (get_or p (get_or s i 0) 0)) (pick (ltb (get_or hs i 0) 32) (at_least h (get_or hs i 0 + 1)) 0) 0
    unfolding raised known_at
    refer_hit = refer_some (known p s hs) kind r h pos ∙ ap (raised kind h) (find_hit p s hs (length s) r i (omega arith) u a.0 a.1)

    module _ (w : ℕ) (e : w ≡ get_or s i 0) where
      pub refer_barred : may_refer kind (get_or p w 0) ≡ false → None ≡ height_option (refer (known p s hs) kind r h)
      refer_barred t = height_none _ (refer_hit ∙ pick_no _ _ _ (rw e at t))

      module _ (t : may_refer kind (get_or p w 0) ≡ true) where
        pub refer_high : 31 < get_or hs i 0 → None ≡ height_option (refer (known p s hs) kind r h)
        refer_high g = height_none _ (refer_hit ∙ pick_yes _ _ _ (rw e at t) ∙ pick_no _ _ _ (le-ltb (get_or hs i 0) 32 (omega (arith, g))))

        pub refer_rise : get_or hs i 0 ≤ 31 → (y : ℕ) → y ≡ max h (get_or hs i 0 + 1) → Some y ≡ height_option (refer (known p s hs) kind r h)
        refer_rise g y q =
            let f : refer (known p s hs) kind r h ≡ y = refer_hit ∙ pick_yes _ _ _ (rw e at t) ∙ pick_yes _ _ _ (lt-ltb (get_or hs i 0) 32 (omega (arith, g))) ∙ sym (q ∙ max_at_least h (get_or hs i 0 + 1)) in
            height_some y (omega arith) ∙ ap height_option (sym f)

-- ---- many references

module _ (seen : List PlanNode) (kind : ℕ) (f : ℕ → ℕ) where
  pub refers_none : 1 ≡ refer_all seen kind f 0
  unfolding refer_all
  refers_none = refl

  pub refers_next : (k h : ℕ) → h ≡ refer_all seen kind f k → refer seen kind (f k) h ≡ refer_all seen kind f (k + 1)
  unfolding refer_all
  refers_next k h e = rw (add-one, e)

  -- once it is 0 it stays 0
  pub refers_over : (k n : ℕ) → k ≤ n → refer_all seen kind f k ≡ 0 → refer_all seen kind f n ≡ 0
  unfolding refer_all refer
  refers_over k zero l e = let z : k ≡ 0 = omega arith in rw z at e
  refers_over k (suc n) l e =
      ⊎_elim
      (λ (q : k ≡ suc n). rw q at e)
      (λ (x : k < suc n). ap (refer seen kind (f n)) (refers_over k n (omega arith) e))
      (eq-or-lt_of_le l)

-- ---- cardinalities

module _ (f : ℕ → ℕ) where
  pub cards_none : all_cardinalities f 0 ≡ true
  unfolding all_cardinalities
  cards_none = refl

  pub cards_next : (k : ℕ) → all_cardinalities f k ≡ true → is_cardinality (f k) ≡ true → all_cardinalities f (k + 1) ≡ true
  unfolding all_cardinalities
  cards_next k e g = rw add-one (pick_yes _ _ _ e ∙ g)

  -- one that is none makes all so
  pub cards_bad : (k n : ℕ) → k < n → is_cardinality (f k) ≡ false → all_cardinalities f n ≡ false
  unfolding all_cardinalities
  cards_bad k zero l e = absurd (omega arith)
  cards_bad k (suc n) l e =
      ⊎_elim
      (λ (q : k ≡ n). last (all_cardinalities f n) (is_cardinality (f n)) (rw q at e))
      (λ (x : k < n). pick_no _ _ _ (cards_bad k n x e))
      (eq-or-lt_of_le (le_of_suc-le-suc l))
    where
      last : (t b : Bool) → b ≡ false → pick t b false ≡ false
      last true b e = pick_yes _ _ _ refl ∙ e
      last false b e = pick_no _ _ _ refl

-- ---- a loop over the elements

-- the height after k of the elements, whose cardinalities are of the five
pub record Climbed (step : ℕ) (p : List ℕ) (at : ℕ) (seen : List PlanNode) (kind h k : ℕ) : Type 0 where
  pub same : h ≡ refer_all seen kind (element_ref step p at) k
  pub fit : cards_fit step p at k ≡ true
  pub some : 1 ≤ h

module _ (step : ℕ) (p : List ℕ) (at : ℕ) (seen : List PlanNode) (kind : ℕ) where
  pub climb_start : Climbed step p at seen kind 1 0
  unfolding refer_all cards_fit all_cardinalities pick
  climb_start = record { same = refl; fit = pick_case (λ b. b ≡ true) (eqb step 2) true true (λ _. refl) (λ _. refl); some = omega arith }

  module _ (h k : ℕ) (u : Climbed step p at seen kind h k) where
    pub climb_end : (n : ℕ) → k ≡ n → Some h ≡ height_option (elements_height step p at seen kind n)
    unfolding elements_height
    climb_end n e = rw (← e) (height_some h u.some ∙ ap height_option (u.same ∙ sym (pick_yes _ _ _ u.fit)))

    pub climb_barred : (n : ℕ) → k < n → step ≡ 2 → is_cardinality (get_or p (at + 2 + step * k + 1) 0) ≡ false → None ≡ height_option (elements_height step p at seen kind n)
    unfolding elements_height cards_fit pair_card
    climb_barred n l e c =
        let d : at + 2 + step * k + 1 ≡ at + 3 + 2 * k = rw e (omega arith) in
        height_none _ (pick_no _ _ _ (pick_yes _ _ _ (eq-eqb step 2 e) ∙ cards_bad (pair_card p at) k n l (rw d at c)))

    module _ (n : ℕ) (l : k < n) where
      pub climb_stop : None ≡ height_option (refer seen kind (element_ref step p at k) h) → None ≡ height_option (elements_height step p at seen kind n)
      unfolding elements_height
      climb_stop e =
          let z : refer_all seen kind (element_ref step p at) n ≡ 0 =
          refers_over seen kind (element_ref step p at) (k + 1) n (omega arith) (sym (refers_next seen kind (element_ref step p at) k h u.same) ∙ height_zero _ e)
          in
          height_none _ (pick_case (λ m. m ≡ 0) (cards_fit step p at n) _ _ (λ _. z) (λ _. refl))

      pub climb_next : (b : ℕ) → (step ≡ 2 → is_cardinality (get_or p (at + 2 + step * k + 1) 0) ≡ true)
          → Some b ≡ height_option (refer seen kind (element_ref step p at k) h) → Climbed step p at seen kind b (k + 1)
      unfolding cards_fit pair_card
      climb_next b c e =
          let f = height_is b _ e in
          record {
            same = f.0 ∙ refers_next seen kind (element_ref step p at) k h u.same;
            fit =
                pick_case (λ t. t ≡ true) (eqb step 2) _ true
                (λ two.
                let is : step ≡ 2 = eqb-true step 2 two in
                let d : at + 2 + step * k + 1 ≡ at + 3 + 2 * k = rw is (omega arith) in
                cards_next (pair_card p at) k (sym (pick_yes _ _ _ two) ∙ u.fit) (rw d at (c is)))
                (λ _. refl);
            some = f.1;
          }
