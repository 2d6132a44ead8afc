-- The laws of the leaves that a sparse object starts with: each of them is an element that the walk would list, with its index marked, or the
-- object is refused since an index was given twice.
use mathlib.Core.Path.{◌≡◌, refl, ap, sym, ◌∙◌}
use mathlib.Core.Bool.{Bool, true, false}
use mathlib.Core.List.{List, [], ◌∷◌}
use mathlib.Core.Option.{some}
use Prim.Native.Nat.{ℕ, ◌+◌, ◌-◌, ◌*◌, ◌<◌, ◌≤◌}
use native.Mathlib.Omega.{arith}
use native.Mathlib.Nat.{sub-zero}
use lib.ListN.{length, take, drop, get_or, set as store}
use lib.Seq.{sets}
use Rattle.wire.proofs.Picks.{clash}
use Rattle.value_heads.specs.Marks.{marked, repeats, indexes_in}
use Rattle.value_heads.proofs.Marks.{Followed, followed_start, followed_next, marked_more, repeats_more, in_none, in_there}
use Rattle.forms.specs.declared.Head.TheVariants.{Present}
use Rattle.plan_nodes.proofs.Nodes.{at_ref}
use Rattle.value_parts.specs.Walk.{refusal, stopped, walk_of, led, leaf_kind, leaf_good}
use Rattle.value_parts.specs.Counted.{Counted}
use Rattle.value_parts.proofs.Members.{known_in, sparse_twice, sparse_turn}
use Rattle.value_parts.proofs.Counted.{counted_none, counted_next}
use Rattle.value_parts.proofs.Walks.{single, turn_fault, turn_go}
use Rattle.value_leaves.specs.Leaves.{given_at, Gathers}
use Rattle.std.proofs.Common.{Some, Ok, Err}
use Rattle.value_leaves.specs.declared.Given.{Given}
use Rattle.value_leaves.proofs.Single.{head_there, given_in, known_any, there_any}
use Rattle.value_leaves.proofs.Stretches.{leaf_led}
use Rattle.protocol.specs.Numbers.{pick}
use Rattle.protocol.specs.Heads.{word, optional, requires, sparse_index, end_of}
use Rattle.protocol.specs.Nodes.{ref_at}
use Rattle.protocol.specs.Lists.{entry_words, entry_of}
use Rattle.protocol.specs.Values.{Form, elements, sparse_form, no_marks, value_of}
use Rattle.protocol.specs.Plans.{look, cards_at}
use Rattle.plan_nodes.specs.Readers.{At}

one_at_most : (r : Bool) (count count' m : ℕ) → count ≤ m → count' ≡ count + pick r 1 0 → count' ≤ m + 1
unfolding pick
one_at_most true count count' m h e = omega arith
one_at_most false count count' m h e = omega arith

module _ (p : List ℕ) (k base : ℕ) (s : List ℕ) (n from at : ℕ) (l : List ℕ) where
  pub gathers_start : from ≤ length s → 4 * at ≤ 5 * (base + from) + 20 → Gathers p k base s n from at l no_marks false 0 n from at l
  unfolding pick
  gathers_start inside few = record { inside = inside; few = few; counted = λ _. counted_none p k no_marks refl; leads = refl }

  -- with one more leaf, whose index was given before or not
  module _ (a : At p k) (e : get_or p k 0 ≡ 6) (pos : ℕ) (b : pos ≤ length s) (i child start size : ℕ) (known : sparse_index s (get_or p (k + 1) 0) [] pos ≡ Ok i)
      (r : ref_at (look p k) i ≡ some child) (eh : optional s (requires (get_or (cards_at p k) i 0)) i (pos + 8) (word s (pos + 4)) ≡ Ok (Present i start size))
      (fits : start + size ≤ length s) (x : leaf_kind (get_or p child 0) ≡ true) (good : leaf_good (look p child) (take size (drop start s)) ≡ true)
      (marks : List Bool) (twice : Bool) (count left to : ℕ) (l' : List ℕ) (g : Gathers p k base s n from at l marks twice count left pos to l') (z : 0 < left)
      (l'' : List ℕ) (el : l'' ≡ sets l' to (entry_words (entry_of child i (base + start) size) 0)) where
    abbrev form : Form (List Bool)
    form = sparse_form (cards_at p k) s

    before : (q : Bool) → twice ≡ q
        → led (elements form (value_of (look p)) (ref_at (look p k)) base s n no_marks from) at l
        ≡ pick q (stopped 26 base) (led (elements form (value_of (look p)) (ref_at (look p k)) base s left marks pos) to l')
    before q et = g.leads ∙ ap (λ (r : Bool). pick r (stopped 26 base) (led (elements form (value_of (look p)) (ref_at (look p k)) base s left marks pos) to l')) et

    leads_by : (q m : Bool) → twice ≡ q → get_or marks i false ≡ m
        → led (elements form (value_of (look p)) (ref_at (look p k)) base s n no_marks from) at l
        ≡ pick (pick q true m) (stopped 26 base) (led (elements form (value_of (look p)) (ref_at (look p k)) base s (left - 1) (store marks i true) (start + size)) (to + 5) l'')
    unfolding end_of walk_of pick
    leads_by true m et em = before true et
    leads_by false true et em =
        before false et
        ∙ sym (turn_fault (value_of (look p)) (single (look p)) (ref_at (look p k)) base s form marks pos to l' left z 26
        (sparse_twice p k a e s pos (get_or p (k + 1) 0) i refl (sym known) marks em) (Err (refusal 26 base)) refl)
    leads_by false false et em =
        let u = sparse_turn p k a e s pos (get_or p (k + 1) 0) i refl (sym known) marks em (Present i start size) (sym eh) b in
        before false et
        ∙ turn_go (value_of (look p)) (single (look p)) (ref_at (look p k)) base s form marks pos to left l' z (Ok (Present i start size)) u.is
        (Ok (to + 5)) l'' (leaf_led p k base s i start size child fits r (at_ref p k i child a r).0 x good to l' l'' el)
        (to + 5) refl (store marks i true) u.next (start + size) refl

    counted_by : (q m : Bool) → twice ≡ q → get_or marks i false ≡ m → i < get_or p (k + 1) 0 → i < 512 → (count' : ℕ) → count' ≡ count + pick (requires (get_or (cards_at p k) i 0)) 1 0
        → pick q true m ≡ false → Counted p k (store marks i true) count'
    unfolding pick
    counted_by true m et em below few count' ec f = clash (sym f)
    counted_by false true et em below few count' ec f = clash (sym f)
    counted_by false false et em below few count' ec f = counted_next p k marks count (g.counted et) i below few em (store marks i true) refl count' ec

  pub gathers_next : At p k → get_or p k 0 ≡ 6 → (pos : ℕ) → pos ≤ length s → (x : Given) → Some x ≡ given_at p k s pos
      → (marks : List Bool) (twice : Bool) (count left to : ℕ) (l' : List ℕ) → Gathers p k base s n from at l marks twice count left pos to l' → 0 < left
      → (count' : ℕ) → count' ≡ count + pick (requires (get_or (cards_at p k) x.index 0)) 1 0
      → (l'' : List ℕ) → l'' ≡ sets l' to (entry_words (entry_of x.node x.index (base + x.bytes.start) x.bytes.len) 0)
      → Gathers p k base s n from at l (store marks x.index true) (pick twice true (get_or marks x.index false)) count' (left - 1) (x.bytes.start + x.bytes.len) (to + 5) l''
  gathers_next a e pos b x gx marks twice count left to l' g z count' ec l'' el =
      let i : ℕ = x.index in
      let child : ℕ = x.node in
      let start : ℕ = x.bytes.start in
      let size : ℕ = x.bytes.len in
      let t = given_in p k s pos a e b x gx in
      let w = known_in p k a e s pos (get_or p (k + 1) 0) i refl (sym t.0) b in
      let h = head_there p k s pos i w.2 (Ok (Present i start size)) (sym t.2) i start size refl in
      record {
        inside = h.2;
        few = omega (arith, g.few, h.1);
        counted = counted_by a e pos b i child start size t.0 t.1 t.2 h.2 t.3 t.4 marks twice count left to l' g z l'' el
            twice (get_or marks i false) refl refl w.0 w.1 count' ec;
        leads = leads_by a e pos b i child start size t.0 t.1 t.2 h.2 t.3 t.4 marks twice count left to l' g z l'' el twice (get_or marks i false) refl refl;
      }

-- what the set says: an index was given twice, or none was
module _ (p : List ℕ) (k base : ℕ) (s : List ℕ) (n from at : ℕ) (l : List ℕ) (marks : List Bool) (twice : Bool) (count left pos to : ℕ) (l' : List ℕ)
    (g : Gathers p k base s n from at l marks twice count left pos to l') where
  pub gathers_stop : twice ≡ true → led (elements (sparse_form (cards_at p k) s) (value_of (look p)) (ref_at (look p k)) base s n no_marks from) at l ≡ stopped 26 base
  unfolding pick
  gathers_stop e = rw e at g.leads

  pub gathers_go : twice ≡ false
      → led (elements (sparse_form (cards_at p k) s) (value_of (look p)) (ref_at (look p k)) base s n no_marks from) at l
      ≡ led (elements (sparse_form (cards_at p k) s) (value_of (look p)) (ref_at (look p k)) base s left marks pos) to l'
  unfolding pick
  gathers_go e = rw e at g.leads

-- ---- the loop over the leaves, whose indexes are marked at its end

abbrev pub Gathering : List ℕ → ℕ → ℕ → List ℕ → ℕ → ℕ → ℕ → List ℕ → List ℕ → ℕ → ℕ → ℕ → ℕ → Type 0
Gathering p k base s n from at l l' m count pos to =
    (length l' ≡ length l) × (m ≤ n) × (count ≤ m) × Followed (indexes_in s) from m pos
    × Gathers p k base s n from at l (marked no_marks (indexes_in s m from)) (repeats no_marks (indexes_in s m from)) count (n - m) pos to l'

module _ (p : List ℕ) (k base : ℕ) (s : List ℕ) (n from at : ℕ) (l : List ℕ) where
  pub gathering_start : from ≤ length s → 4 * at ≤ 5 * (base + from) + 20 → Gathering p k base s n from at l l 0 0 from at
  unfolding marked repeats indexes_in
  gathering_start inside few =
      (refl, omega arith, omega arith, followed_start (indexes_in s) from (in_none s 0 from refl), rw sub-zero (gathers_start p k base s n from at l inside few))

  pub gathering_next : At p k → get_or p k 0 ≡ 6 → (l' : List ℕ) (m count pos to : ℕ) → Gathering p k base s n from at l l' m count pos to → m < n
      → (x : Given) → Some x ≡ given_at p k s pos
      → (count' : ℕ) → count' ≡ count + pick (requires (get_or (cards_at p k) x.index 0)) 1 0
      → (l'' : List ℕ) → l'' ≡ sets l' to (entry_words (entry_of x.node x.index (base + x.bytes.start) x.bytes.len) 0) → length l'' ≡ length l'
      → Gathering p k base s n from at l l'' (m + 1) count' (x.bytes.start + x.bytes.len) (to + 5)
  gathering_next a e l' m count pos to g below x gx count' ec l'' el same =
      let i : ℕ = x.index in
      let start : ℕ = x.bytes.start in
      let size : ℕ = x.bytes.len in
      let t = given_in p k s pos a e g.4.inside x gx in
      let w = known_in p k a e s pos (get_or p (k + 1) 0) i refl (sym t.0) g.4.inside in
      let known = known_any s (get_or p (k + 1) 0) pos i t.0 w.1 in
      let there = there_any s (requires (get_or (cards_at p k) i 0)) i (pos + 8) (word s (pos + 4)) i start size t.2 in
      let more : (r : ℕ) → indexes_in s (r + 1) pos ≡ i ∷ indexes_in s r (start + size) = λ r. one_more r known there in
      let none : indexes_in s 0 (start + size) ≡ [] = in_none s 0 (start + size) refl in
      let left : n - (m + 1) ≡ n - m - 1 = omega arith in (
        same ∙ g.0,
        omega arith,
        one_at_most (requires (get_or (cards_at p k) i 0)) count count' m g.2 ec,
        followed_next (indexes_in s) from m pos g.3 i (start + size) more none,
        rw (marked_more (indexes_in s) from m pos g.3 i (start + size) more none no_marks, repeats_more (indexes_in s) from m pos g.3 i (start + size) more none no_marks, left)
            (gathers_next p k base s n from at l a e pos g.4.inside x gx _ _ count (n - m) to l' g.4 (omega arith) count' ec l'' el),
      )
    where
      one_more : {i start size : ℕ} (r : ℕ) → sparse_index s 512 [] pos ≡ Ok i → optional s false i (pos + 8) (word s (pos + 4)) ≡ Ok (Present i start size)
          → indexes_in s (r + 1) pos ≡ i ∷ indexes_in s r (start + size)
      one_more {i} {start} {size} r known there =
          in_there s (r + 1) r pos refl i (sym known) (Present i start size) (sym there) i start size refl

  -- no leaf, and so no index
  pub gathering_none : (l' : List ℕ) (m count pos to : ℕ) → Gathering p k base s n from at l l' m count pos to → m ≡ 0
      → (marks : List Bool) → marks ≡ no_marks → (twice : Bool) → twice ≡ false → Gathers p k base s n from at l marks twice count n pos to l'
  unfolding marked repeats indexes_in
  gathering_none l' m count pos to g e marks em twice et = rw (em, et) (rw sub-zero at (rw e at g.4))

  -- the set that all the indexes were handed to
  pub gathering_end : (l' : List ℕ) (m count pos to : ℕ) → Gathering p k base s n from at l l' m count pos to
      → (marks₀ : List Bool) → marks₀ ≡ no_marks → (marks : List Bool) → marks ≡ marked marks₀ (indexes_in s m from) → (twice : Bool) → twice ≡ repeats marks₀ (indexes_in s m from)
      → Gathers p k base s n from at l marks twice count (n - m) pos to l'
  gathering_end l' m count pos to g marks₀ e₀ marks em twice et = rw (em, et, e₀) g.4
