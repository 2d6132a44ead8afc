-- The laws of a container's elements, one after the other.
use mathlib.Core.Path.{◌≡◌, refl, ap, sym, ◌∙◌}
use mathlib.Core.Bool.{Bool, true, false}
use mathlib.Core.List.{List, [], ◌∷◌}
use Prim.Native.Nat.{ℕ, zero, suc, ◌+◌, ◌-◌, ◌<◌, ◌≤◌}
use native.Mathlib.Omega.{arith}
use native.Mathlib.Nat.{add-zero, sub-zero, not-suc-le-zero}
use native.Mathlib.Numerals.{sub-one}
use lib.Dec.{ltb}
use Rattle.std.specs.Prelude.{Option, None}
use lib.ListN.{length, drop, get_or, set as store}
use borrow.Author.Tests.{lt-ltb, le-ltb, ltb-false}
use Rattle.wire.proofs.Picks.{clash}
use Rattle.value_heads.specs.Marks.{marked, repeats, indexes_apart}
use Rattle.value_heads.proofs.Marks.{Followed, followed_start, followed_next, marked_more, repeats_more, apart_none, apart_more}
use Rattle.plan_nodes.proofs.Looks.{cards_length}
use Rattle.plan_nodes.proofs.Nodes.{at_few}
use Rattle.value_parts.specs.Counted.{Counted}
use Rattle.value_parts.proofs.Counted.{counted_none, counted_next}
use Rattle.supply_entries.specs.Emitting.{broken, stands, put_at, read_of, known, Gathers, GathersNew, GathersRun}
use Rattle.supply_entries.specs.declared.Entry.{Entry}
use Rattle.supply_entries.proofs.Stands.{put_small, stood, stop, go}
use Rattle.protocol.specs.Numbers.{pick}
use Rattle.protocol.specs.Nodes.{Node, ref_at}
use Rattle.protocol.specs.Values.{no_marks}
use Rattle.protocol.specs.Heads.{requires}
use Rattle.protocol.specs.Plans.{look, cards_at}
use Rattle.plan_nodes.specs.Readers.{At}
use Rattle.protocol.specs.Supplies.{Claim, Next, short, next, next_of}
use Rattle.protocol.specs.Building.{Made, wrong, made, then_made, Builder, Order, sparse_order, part_made, member_made, state_after, elements_made, build_of}

module _ {S : Type 0} (order : Order S) (rule : Builder) (v : Node) (st : S) (ws : List ℕ) (at : ℕ) (out : List ℕ) (n : ℕ) where
  -- ---- a turn of the loop

  module _ (z : 0 < n) where
    next_one : elements_made order rule v n st ws
        ≡ then_made (member_made order rule v st ws (next_of ws)) (elements_made order rule v (n - 1) (state_after order rule v st (next_of ws)))
    unfolding elements_made
    next_one = some n z
      where
        some : (m : ℕ) → 0 < m → elements_made order rule v m st ws
            ≡ then_made (member_made order rule v st ws (next_of ws)) (elements_made order rule v (m - 1) (state_after order rule v st (next_of ws)))
        some zero h = absurd (not-suc-le-zero h)
        some (suc m) h = rw sub-one

    pub turn_short : next_of ws ≡ short → broken ≡ put_at (elements_made order rule v n st ws) at out
    unfolding member_made then_made put_at
    turn_short e = sym (ap (λ (m : Made). put_at m at out) next_one ∙ rw e)

    module _ (c : Claim) (rest : List ℕ) (e : next_of ws ≡ next c rest) where
      pub turn_barred : order.admits st c.index ≡ false → broken ≡ put_at (elements_made order rule v n st ws) at out
      unfolding member_made then_made put_at pick
      turn_barred f = sym (ap (λ (m : Made). put_at m at out) next_one ∙ rw (e, f))

      module _ (f : order.admits st c.index ≡ true) where
        turn_is : elements_made order rule v n st ws
            ≡ then_made (part_made rule v (ref_at v c.index) c rest ws) (elements_made order rule v (n - 1) (order.after st c.index))
        unfolding member_made state_after pick
        turn_is = next_one ∙ rw (e, f)

        pub turn_stop : broken ≡ put_at (part_made rule v (ref_at v c.index) c rest ws) at out → broken ≡ put_at (elements_made order rule v n st ws) at out
        turn_stop q = rw turn_is (stop at out (part_made rule v (ref_at v c.index) c rest ws) (elements_made order rule v (n - 1) (order.after st c.index)) q)

        pub turn_go : (us : List ℕ) (at' : ℕ) (out' : List ℕ) → stands us at' out' ≡ put_at (part_made rule v (ref_at v c.index) c rest ws) at out
            → (st' : S) → st' ≡ order.after st c.index → (m : ℕ) → m ≡ n - 1
            → put_at (elements_made order rule v n st ws) at out ≡ put_at (elements_made order rule v m st' us) at' out'
        turn_go us at' out' q st' es m em =
            ap (λ (m : Made). put_at m at out) turn_is
            ∙ go at out (part_made rule v (ref_at v c.index) c rest ws) (elements_made order rule v (n - 1) (order.after st c.index)) us at' out' q
            ∙ rw (es, em)

  -- ---- its end

  module _ (z : n ≤ 0) where
    none_is : elements_made order rule v n st ws ≡ pick (order.lacks st) wrong (made [] ws)
    unfolding elements_made
    none_is = let e : n ≡ 0 = omega arith in rw e

    pub done : order.lacks st ≡ false → at ≤ 65535 → stands ws at out ≡ put_at (elements_made order rule v n st ws) at out
    unfolding pick
    done e h = sym (ap (λ (m : Made). put_at m at out) (none_is ∙ rw e) ∙ put_small [] ws at out (omega arith) ∙ rw add-zero)

    pub lacks : order.lacks st ≡ true → broken ≡ put_at (elements_made order rule v n st ws) at out
    unfolding put_at pick
    lacks e = rw (none_is, e)

  pub as_many : (m : ℕ) → m ≡ n → put_at (elements_made order rule v n st ws) at out ≡ put_at (elements_made order rule v m st ws) at out
  as_many m e = rw e

-- ---- how many are left, at i of n

pub some_left : (i n : ℕ) → i < n → 0 < n - i
some_left i n h = omega arith

pub none_left : (i n : ℕ) → n ≤ i → n - i ≤ 0
none_left i n h = omega arith

pub one_fewer : (i n : ℕ) → n - (i + 1) ≡ n - i - 1
one_fewer i n = omega arith

-- ---- which indexes may come

module _ (p : List ℕ) (k : ℕ) (marks : List Bool) (n i : ℕ) (en : n ≡ get_or p (k + 1) 0) where
  count_is : length (cards_at p k) ≡ n
  count_is = cards_length p k ∙ sym en

  pub unknown_index : n ≤ i → (sparse_order (cards_at p k)).admits marks i ≡ false
  unfolding pick
  unknown_index h = rw (count_is, le-ltb i n h)

  module _ (h : i < n) where
    pub same_index : get_or marks i false ≡ true → (sparse_order (cards_at p k)).admits marks i ≡ false
    unfolding pick
    same_index e = rw (count_is, lt-ltb i n h, e)

    pub new_index : get_or marks i false ≡ false → (sparse_order (cards_at p k)).admits marks i ≡ true
    unfolding pick
    new_index e = rw (count_is, lt-ltb i n h, e)

-- ---- the next element of a sparse object

-- one with no entry, or with an index that the object does not have
module _ (p : List ℕ) (k : ℕ) (rule : Builder) (v : Node) (marks : List Bool) (ws : List ℕ) (at : ℕ) (out : List ℕ) (m n : ℕ) where
  pub turn_unknown : 0 < m → n ≡ get_or p (k + 1) 0 → (r : Option Entry) → r ≡ read_of (known n (next_of ws)) → r ≡ None
      → broken ≡ put_at (elements_made (sparse_order (cards_at p k)) rule v m marks ws) at out
  unfolding read_of known pick
  turn_unknown z en r q e = go (next_of ws) refl (sym e ∙ q)
    where
      go : (x : Next) → next_of ws ≡ x → None ≡ read_of (known n x) → broken ≡ put_at (elements_made (sparse_order (cards_at p k)) rule v m marks ws) at out
      go short is g = turn_short (sparse_order (cards_at p k)) rule v marks ws at out m z is
      go (next c rest) is g = index (ltb c.index n) refl g
        where
          index : (b : Bool) → ltb c.index n ≡ b → None ≡ read_of (pick b (next c rest) short)
              → broken ≡ put_at (elements_made (sparse_order (cards_at p k)) rule v m marks ws) at out
          index true f h = let y : ◌≡◌ {A = ℕ} 0 1 = cc in absurd (omega arith)
          index false f h =
              turn_barred (sparse_order (cards_at p k)) rule v marks ws at out m z c rest is
              (unknown_index p k marks n c.index en (ltb-false c.index n f))

module _ (src p : List ℕ) (k n : ℕ) (from : List Bool) (ws : List ℕ) (at : ℕ) (out : List ℕ) where
  pub gathers_start : (count : ℕ) → at ≤ 65535 → Counted p k from count → Gathers src p k n from ws at out from count n ws at out
  gathers_start count h c = record { small = h; counted = c; leads = refl }

  pub gathers_next : (marks : List Bool) (count left : ℕ) (us : List ℕ) (at' : ℕ) (out' : List ℕ) → Gathers src p k n from ws at out marks count left us at' out'
      → 0 < left → At p k → get_or p k 0 ≡ 6 → (c : Claim) (rest : List ℕ) → next_of us ≡ next c rest → c.index < get_or p (k + 1) 0 → get_or marks c.index false ≡ false
      → (us'' : List ℕ) (at'' : ℕ) (out'' : List ℕ)
      → stands us'' at'' out'' ≡ put_at (part_made (build_of src (look p)) (look p k) (ref_at (look p k) c.index) c rest us) at' out'
      → (marks' : List Bool) → marks' ≡ store marks c.index true → (count' : ℕ) → count' ≡ count + pick (requires (get_or (cards_at p k) c.index 0)) 1 0
      → (left' : ℕ) → left' ≡ left - 1 → Gathers src p k n from ws at out marks' count' left' us'' at'' out''
  gathers_next marks count left us at' out' g z a six c rest e known new us'' at'' out'' q marks' em count' ec left' el =
      let few = at_few p k a (omega arith) (omega arith) in
      record {
        small = (stood (part_made (build_of src (look p)) (look p k) (ref_at (look p k) c.index) c rest us) at' out' us'' at'' out'' q).small;
        counted = counted_next p k marks count g.counted c.index known (omega arith) new marks' em count' ec;
        leads = g.leads ∙ turn_go (sparse_order (cards_at p k)) (build_of src (look p)) (look p k) marks us at' out' left z c rest e
            (new_index p k marks (get_or p (k + 1) 0) c.index refl known new) us'' at'' out'' q marks' em left' el;
      }

  -- an index that was given before
  gathers_barred : (marks : List Bool) (count left : ℕ) (us : List ℕ) (at' : ℕ) (out' : List ℕ) → Gathers src p k n from ws at out marks count left us at' out'
      → 0 < left → (c : Claim) (rest : List ℕ) → next_of us ≡ next c rest → c.index < get_or p (k + 1) 0 → get_or marks c.index false ≡ true
      → put_at (elements_made (sparse_order (cards_at p k)) (build_of src (look p)) (look p k) n from ws) at out ≡ broken
  gathers_barred marks count left us at' out' g z c rest e known twice =
      g.leads ∙ sym (turn_barred (sparse_order (cards_at p k)) (build_of src (look p)) (look p k) marks us at' out' left z c rest e
      (same_index p k marks (get_or p (k + 1) 0) c.index refl known twice))

-- ---- the loop over the leaves that a sparse object starts with, whose indexes are marked at its end

one_at_most : (r : Bool) (count count' m : ℕ) → count ≤ m → count' ≡ count + pick r 1 0 → count' ≤ m + 1
unfolding pick
one_at_most true count count' m h e = omega arith
one_at_most false count count' m h e = omega arith

abbrev pub Gathering : List ℕ → List ℕ → ℕ → ℕ → List ℕ → ℕ → ℕ → List ℕ → ℕ → ℕ → ℕ → ℕ → List ℕ → Type 0
Gathering src p k n list first at out m count word at' out' =
    (m ≤ n) × (count ≤ m) × Followed (indexes_apart list 5) (first + 1) m (word + 1) × GathersRun src p k n list first at out m count word at' out'

module _ (src p : List ℕ) (k n : ℕ) (list : List ℕ) (first at : ℕ) (out : List ℕ) where
  abbrev ws : List ℕ
  ws = drop first list

  pub gathering_start : at ≤ 65535 → Gathering src p k n list first at out 0 0 first at out
  unfolding marked repeats indexes_apart
  gathering_start h = (
    omega arith,
    omega arith,
    followed_start (indexes_apart list 5) (first + 1) (apart_none list 5 0 (first + 1) (omega arith)),
    record {
      small = h;
      barred = λ q. clash q;
      new = λ _. rw sub-zero (gathers_start src p k n no_marks ws at out 0 h (counted_none p k no_marks refl));
    },
  )

  -- with one more leaf, whose index was given before or not
  next_new : (marks : List Bool) (twice : Bool) (count left : ℕ) (us : List ℕ) (at' : ℕ) (out' : List ℕ) → GathersNew src p k n ws at out marks twice count left us at' out'
      → 0 < left → At p k → get_or p k 0 ≡ 6 → (c : Claim) (rest : List ℕ) → next_of us ≡ next c rest → c.index < get_or p (k + 1) 0
      → (us'' : List ℕ) (at'' : ℕ) (out'' : List ℕ)
      → stands us'' at'' out'' ≡ put_at (part_made (build_of src (look p)) (look p k) (ref_at (look p k) c.index) c rest us) at' out'
      → (count' : ℕ) → count' ≡ count + pick (requires (get_or (cards_at p k) c.index 0)) 1 0
      → GathersNew src p k n ws at out (store marks c.index true) (pick twice true (get_or marks c.index false)) count' (left - 1) us'' at'' out''
  unfolding pick
  next_new marks twice count left us at' out' g z a six c rest e known us'' at'' out'' q count' ec =
      record {
        small = (stood (part_made (build_of src (look p)) (look p k) (ref_at (look p k) c.index) c rest us) at' out' us'' at'' out'' q).small;
        barred = barred_by twice (get_or marks c.index false) refl refl;
        new = new_by twice (get_or marks c.index false) refl refl;
      }
    where
      barred_by : (t m : Bool) → twice ≡ t → get_or marks c.index false ≡ m → pick t true m ≡ true
          → put_at (elements_made (sparse_order (cards_at p k)) (build_of src (look p)) (look p k) n no_marks ws) at out ≡ broken
      barred_by true m et em f = g.barred et
      barred_by false true et em f = gathers_barred src p k n no_marks ws at out marks count left us at' out' (g.new et) z c rest e known em
      barred_by false false et em f = clash f

      new_by : (t m : Bool) → twice ≡ t → get_or marks c.index false ≡ m → pick t true m ≡ false
          → Gathers src p k n no_marks ws at out (store marks c.index true) count' (left - 1) us'' at'' out''
      new_by true m et em f = clash (sym f)
      new_by false true et em f = clash (sym f)
      new_by false false et em f =
          gathers_next src p k n no_marks ws at out marks count left us at' out' (g.new et) z a six c rest e known em us'' at'' out'' q (store marks c.index true) refl count' ec (left - 1) refl

  pub gathering_next : (m count word at' : ℕ) (out' : List ℕ) → Gathering src p k n list first at out m count word at' out' → m < n
      → At p k → get_or p k 0 ≡ 6 → (c : Claim) → next_of (drop word list) ≡ next c (drop (word + 5) list) → c.index ≡ get_or list (word + 1) 0 → word + 5 ≤ length list
      → c.index < get_or p (k + 1) 0 → (at'' : ℕ) (out'' : List ℕ)
      → stands (drop (word + 5) list) at'' out'' ≡ put_at (part_made (build_of src (look p)) (look p k) (ref_at (look p k) c.index) c (drop (word + 5) list) (drop word list)) at' out'
      → (count' : ℕ) → count' ≡ count + pick (requires (get_or (cards_at p k) c.index 0)) 1 0
      → Gathering src p k n list first at out (m + 1) count' (word + 5) at'' out''
  gathering_next m count word at' out' g below a six c e ei inside known at'' out'' q count' ec =
      let more : (r : ℕ) → indexes_apart list 5 (r + 1) (word + 1) ≡ c.index ∷ indexes_apart list 5 r (word + 5 + 1) = λ r. one_more r in
      let none : indexes_apart list 5 0 (word + 5 + 1) ≡ [] = apart_none list 5 0 (word + 5 + 1) (omega arith) in
      let left : n - (m + 1) ≡ n - m - 1 = omega arith in (
        omega arith,
        one_at_most (requires (get_or (cards_at p k) c.index 0)) count count' m g.1 ec,
        followed_next (indexes_apart list 5) (first + 1) m (word + 1) g.2 c.index (word + 5 + 1) more none,
        rw (
          marked_more (indexes_apart list 5) (first + 1) m (word + 1) g.2 c.index (word + 5 + 1) more none no_marks,
          repeats_more (indexes_apart list 5) (first + 1) m (word + 1) g.2 c.index (word + 5 + 1) more none no_marks,
          left,
        ) (next_new _ _ count (n - m) (drop word list) at' out' g.3 (omega arith) a six c (drop (word + 5) list) e known (drop (word + 5) list) at'' out'' q count' ec),
      )
    where
      one_more : (r : ℕ) → indexes_apart list 5 (r + 1) (word + 1) ≡ c.index ∷ indexes_apart list 5 r (word + 5 + 1)
      one_more r =
          let y : word + 1 + 5 ≡ word + 5 + 1 = omega arith in
          apart_more list 5 (r + 1) r (word + 1) refl (omega arith) ∙ rw (sym ei, y)

  -- no leaf, and so no index
  pub run_none : (m count word at' : ℕ) (out' : List ℕ) → GathersRun src p k n list first at out m count word at' out' → m ≡ 0
      → (marks : List Bool) → marks ≡ no_marks → (twice : Bool) → twice ≡ false → (left : ℕ) → left ≡ n - m → GathersNew src p k n ws at out marks twice count left (drop word list) at' out'
  unfolding marked repeats indexes_apart
  run_none m count word at' out' g e marks em twice et left el = rw (em, et, el, e) (rw e at g)

  -- the set that all the indexes were handed to
  pub run_marked : (m count word at' : ℕ) (out' : List ℕ) → GathersRun src p k n list first at out m count word at' out'
      → (marks₀ : List Bool) → marks₀ ≡ no_marks → (marks : List Bool) → marks ≡ marked marks₀ (indexes_apart list 5 m (first + 1))
      → (twice : Bool) → twice ≡ repeats marks₀ (indexes_apart list 5 m (first + 1))
      → GathersNew src p k n ws at out marks twice count (n - m) (drop word list) at' out'
  run_marked m count word at' out' g marks₀ e₀ marks em twice et = rw (em, et, e₀) g
