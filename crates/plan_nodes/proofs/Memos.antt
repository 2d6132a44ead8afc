-- The table of how many elements of the sparse objects are required: counting them, filling it, and reading a pair.
use mathlib.Core.Path.{◌≡◌, refl, ap, sym, ◌∙◌}
use mathlib.Core.Bool.{true, false}
use mathlib.Core.List.{List, [], ◌∷◌, ◌++◌}
use Prim.Native.Nat.{ℕ, zero, suc, ◌+◌, ◌*◌, ◌-◌, ◌≤◌, ◌<◌}
use native.Mathlib.Nat.{zero-add, add-zero, sub-zero, not-suc-le-zero}
use native.Mathlib.Numerals.{add-one, sub-one}
use native.Mathlib.Decide.{dec_lt}
use native.Mathlib.Omega.{arith}
use lib.Dec.{eqb}
use lib.ListN.{length, get_or, set, take, drop, length-set}
use lib.Seq.{sets, sets-eq, length-sets, take-nil, take_at}
use borrow.Author.Tests.{le-leb, lt-leb, lt-ltb, le-ltb, eq-eqb, ne_eqb}
use Rattle.wire.proofs.Picks.{pick_yes, pick_no}
use Rattle.value_heads.specs.Heads.{needed}
use Rattle.value_heads.proofs.Counts.{needed_next, needed_most}
use Rattle.plan_nodes.specs.declared.needs.Need.{Need}
use Rattle.plan_nodes.specs.Memo.{needed_at, sparse_from, sparse_starts, need_at, needs_of, kept, Filled, room_for, OneMore, Memo}
use Rattle.plan_nodes.proofs.Looks.{cards_length, cards_at_lem}
use Rattle.plan_nodes.proofs.Reading.{size_positive}
use Rattle.protocol.specs.Numbers.{pick}
use Rattle.protocol.specs.Heads.{requires}
use Rattle.protocol.specs.Plans.{pair_card, cards_at, node_size}

-- ---- counting

module _ (p : List ℕ) (at : ℕ) where
  -- one more element, whose cardinality stands in the plan
  module _ (i found : ℕ) (l : i < get_or p (at + 1) 0) (e : found ≡ needed (cards_at p at) i) where
    card_here : get_or (cards_at p at) i 0 ≡ get_or p (at + 3 + 2 * i) 0
    unfolding pair_card
    card_here = cards_at_lem p at i l

    pub count_yes : requires (get_or p (at + 3 + 2 * i) 0) ≡ true → found + 1 ≡ needed (cards_at p at) (i + 1)
    count_yes r =
        ap (λ (m : ℕ). m + 1) e ∙ ap (λ (m : ℕ). needed (cards_at p at) i + m) (sym (pick_yes _ 1 0 (ap requires card_here ∙ r))) ∙ needed_next (cards_at p at) i

    pub count_no : requires (get_or p (at + 3 + 2 * i) 0) ≡ false → found ≡ needed (cards_at p at) (i + 1)
    count_no r =
        let z : needed (cards_at p at) i ≡ needed (cards_at p at) i + 0 = omega arith in
        e ∙ z ∙ ap (λ (m : ℕ). needed (cards_at p at) i + m) (sym (pick_no _ 1 0 (ap requires card_here ∙ r))) ∙ needed_next (cards_at p at) i

  pub count_end : (n i found : ℕ) → n ≡ get_or p (at + 1) 0 → i ≡ n → found ≡ needed (cards_at p at) i → found ≡ needed_at p at
  unfolding needed_at
  count_end n i found a b e = e ∙ ap (needed (cards_at p at)) (b ∙ a ∙ sym (cards_length p at))

  pub needed_few : needed_at p at ≤ get_or p (at + 1) 0
  unfolding needed_at
  needed_few = omega (arith, needed_most (cards_at p at) (length (cards_at p at)), cards_length p at)

-- ---- filling a table

module _ (p : List ℕ) (t : List Need) (m at : ℕ) where
  pub one_more : (n : ℕ) → m < length t → n ≡ needed_at p at → OneMore p t (set t m (record { node = at; count = n })) m at (m + 1)
  unfolding room_for need_at
  one_more n l e =
      let w = lt-ltb m (length t) l in
      record { count = sym (pick_yes _ _ _ w); needs = rw e (sym (pick_yes _ _ _ w)) }

  pub no_more : length t ≤ m → OneMore p t t m at m
  unfolding room_for
  no_more l =
      let w = le-ltb m (length t) l in
      record { count = sym (pick_no _ _ _ w); needs = sym (pick_no _ _ _ w) }

-- what is left of the starts, of which the table has room for so many
abbrev left : List ℕ → List Need → ℕ → ℕ → ℕ → List ℕ
left p t m f at = take (length t - m) (sparse_from f p at)

-- a table that was filled up to a position: what is left of the plan leads to the same needs
pub record Filling (p : List ℕ) (t₀ t : List Need) (m at : ℕ) : Type 0 where
  pub fuel : ℕ
  pub enough : length p ≤ at + fuel
  pub same : length t ≡ length t₀
  pub few : m ≤ length t₀
  pub count : length (kept p t₀) ≡ m + length (left p t₀ m fuel at)
  pub needs : sets t₀ 0 (needs_of p (kept p t₀)) ≡ sets t m (needs_of p (left p t₀ m fuel at))

pub filling_start : (p : List ℕ) (t : List Need) → Filling p t t 0 2
unfolding kept sparse_starts
filling_start p t =
    record {
      fuel = length p;
      enough = omega arith;
      same = refl;
      few = omega arith;
      count = rw (sub-zero, zero-add);
      needs = rw sub-zero;
    }

module _ (p : List ℕ) (at : ℕ) where
  abbrev size : ℕ
  size = node_size (get_or p at 0) (get_or p (at + 1) 0)

  -- no whole node is left
  starts_none : (f : ℕ) → length p < at + size → sparse_from f p at ≡ []
  unfolding sparse_from
  starts_none zero h = refl
  starts_none (suc f) h = pick_no _ _ _ (lt-leb (at + size) (length p) h)

  -- a whole node
  starts_next :
      (f : ℕ)
      → length p ≤ at + f
      → at + size ≤ length p
      → sparse_from f p at ≡ pick (eqb (get_or p at 0) 6) (at ∷ []) [] ++ sparse_from (f - 1) p (at + size)
  unfolding sparse_from
  starts_next zero w h = absurd (omega (arith, size_positive (get_or p at 0) (get_or p (at + 1) 0)))
  starts_next (suc f) w h = rw sub-one (pick_yes _ _ _ (le-leb (at + size) (length p) h))

  module _ (t₀ t : List Need) (m : ℕ) (q : Filling p t₀ t m at) where
    pub filling_end : length p < at + size → Filled p t₀ t m
    unfolding needs_of
    filling_end h =
        let e : left p t₀ m q.fuel at ≡ [] = ap (take (length t₀ - m)) (starts_none q.fuel h) ∙ take-nil (length t₀ - m) in
        record {
          count = sym (q.count ∙ ap (λ (ks : List ℕ). m + length ks) e ∙ add-zero m);
          needs = sym (q.needs ∙ ap (λ (ks : List ℕ). sets t m (needs_of p ks)) e);
          room = omega (arith, q.same, q.few);
        }

    module _ (h : at + size ≤ length p) where
      -- past a whole node: no need was put, or one was
      past : left p t₀ m q.fuel at ≡ left p t₀ m (q.fuel - 1) (at + size) → Filling p t₀ t m (at + size)
      past e =
          record {
            fuel = q.fuel - 1;
            enough = omega (arith, q.enough, size_positive (get_or p at 0) (get_or p (at + 1) 0));
            same = q.same;
            few = q.few;
            count = q.count ∙ ap (λ (ks : List ℕ). m + length ks) e;
            needs = q.needs ∙ ap (λ (ks : List ℕ). sets t m (needs_of p ks)) e;
          }

      put :
          m < length t
          → left p t₀ m q.fuel at ≡ at ∷ left p t₀ (m + 1) (q.fuel - 1) (at + size)
          → Filling p t₀ (set t m (need_at p at)) (m + 1) (at + size)
      unfolding needs_of
      put l e =
          let ks = left p t₀ (m + 1) (q.fuel - 1) (at + size) in
          let k : m + suc (length ks) ≡ m + 1 + length ks = omega arith in
          record {
            fuel = q.fuel - 1;
            enough = omega (arith, q.enough, size_positive (get_or p at 0) (get_or p (at + 1) 0));
            same = length-set t m (need_at p at) ∙ q.same;
            few = omega (arith, q.same);
            count = q.count ∙ ap (λ (ls : List ℕ). m + length ls) e ∙ k;
            needs =
                q.needs
                ∙ ap (λ (ls : List ℕ). sets t m (needs_of p ls)) e
                ∙ ap (λ (i : ℕ). sets (set t m (need_at p at)) i (needs_of p ks)) (sym (add-one m));
          }

      pub filling_other : (get_or p at 0 ≡ 6 → ⊥) → Filling p t₀ t m (at + size)
      unfolding pick
      filling_other n = past (rw (starts_next q.fuel q.enough h, ne_eqb _ _ n))

      pub filling_sparse : get_or p at 0 ≡ 6 → (t' : List Need) (r : ℕ) → OneMore p t t' m at r → Filling p t₀ t' r (at + size)
      unfolding room_for pick
      filling_sparse e t' r o =
          let s : sparse_from q.fuel p at ≡ at ∷ sparse_from (q.fuel - 1) p (at + size) = starts_next q.fuel q.enough h ∙ rw (eq-eqb _ _ e) in
          elim (dec_lt m (length t)) [
            | yes l ↦
                let z : length t₀ - m ≡ suc (length t₀ - (m + 1)) = omega (arith, q.same, q.few) in
                let w = lt-ltb m (length t) l in
                rw (o.needs, o.count, w) (put l (rw (z, s)))
            | no l ↦
                let z : length t₀ - m ≡ 0 = omega (arith, q.same, q.few) in
                let w = le-ltb m (length t) (omega arith) in
                rw (o.needs, o.count, w) (past (rw z))
          ]

-- ---- what a filled table says

needs_right : (p ks : List ℕ) (k : ℕ) (none : Need) → k < length ks → (get_or (needs_of p ks) k none).count ≡ needed_at p (get_or (needs_of p ks) k none).node
unfolding needs_of need_at
needs_right p [] k none h = absurd (not-suc-le-zero h)
needs_right p (a ∷ ks) zero none h = refl
needs_right p (a ∷ ks) (suc k) none h = needs_right p ks k none (omega arith)

length_needs : (p ks : List ℕ) → length (needs_of p ks) ≡ length ks
unfolding needs_of
length_needs p [] = refl
length_needs p (k ∷ ks) = ap suc (length_needs p ks)

module _ (p : List ℕ) (t t' : List Need) (m : ℕ) (u : Filled p t t' m) where
  needs_kept : take m t' ≡ needs_of p (kept p t)
  needs_kept =
      let ws = needs_of p (kept p t) in
      let n : length ws ≡ m = length_needs p (kept p t) ∙ sym u.count in
      let l : length t' ≡ length t = ap (λ (k : List Need). length k) u.needs ∙ length-sets t 0 ws in
      ap (take m) (u.needs ∙ sets-eq ws t 0 (omega (arith, u.room))) ∙ take_at ws (drop (0 + length ws) t) m n

  pub filled_memo : Memo p (take m t')
  filled_memo =
      rw needs_kept
      (record { right = λ k none x. needs_right p (kept p t) k none (omega (arith, length_needs p (kept p t))) })

-- a need that is found
pub memo_hit : (p : List ℕ) (t : List Need) → Memo p t → (i node : ℕ) (none : Need) → i < length t → (get_or t i none).node ≡ node → (get_or t i none).count ≡ needed_at p node
memo_hit p t u i node none l e = u.right i none l ∙ ap (needed_at p) e
