-- The laws of a stretch of leaves in a container whose elements come in order: each of
-- them is an element that the walk would list, and what is left leads to the same place.
use mathlib.Core.Path.{◌≡◌, refl, ap, sym, ◌∙◌}
use mathlib.Core.Bool.{true}
use mathlib.Core.List.{List}
use mathlib.Core.Logic.{⊎_elim}
use mathlib.Core.Option.{some}
use Prim.Native.Nat.{ℕ, ◌+◌, ◌-◌, ◌*◌, ◌<◌, ◌≤◌}
use native.Mathlib.Omega.{arith}
use native.Mathlib.Nat.{add-sub_cancel_left}
use lib.ListN.{length, take, drop, get_or, length-take, length-drop}
use lib.Seq.{sets}
use borrow.Author.Tests.{ne_eqb}
use Rattle.wire.proofs.Picks.{same_or_not, pick_case}
use Rattle.forms.specs.declared.Head.TheVariants.{Present}
use Rattle.plan_nodes.specs.Readers.{Refers, At}
use Rattle.plan_nodes.proofs.Looks.{look_row}
use Rattle.plan_nodes.proofs.Nodes.{at_ref}
use Rattle.value_parts.specs.Walk.{walk_of, led, leaf_kind, leaf_good}
use Rattle.std.proofs.Common.{Some, Ok}
use Rattle.value_leaves.specs.Leaves.{told_size, ToldAt, LeafOf, Ordered, gap_of, fixed_leaf, leaf_at, Stretched}
use Rattle.forms.specs.declared.Span.{Span}
use Rattle.value_leaves.specs.declared.Told.{Told}
use Rattle.value_leaves.proofs.Single.{Standing, standing, standing_head, object_plain, leaf_in_lem}
use Rattle.value_parts.proofs.Nodes.{head_tuple, head_object, head_plain}
use Rattle.value_parts.proofs.Members.{leaf_good_lem, member_present}
use Rattle.value_parts.proofs.Walks.{single, turn_go}
use Rattle.protocol.specs.Numbers.{pick}
use Rattle.protocol.specs.Heads.{plain_head, requires, end_of}
use Rattle.protocol.specs.Nodes.{ref_at}
use Rattle.protocol.specs.Lists.{entry_words, entry_of}
use Rattle.protocol.specs.Values.{elements, element_outcome, row_form, row_head, value_of}
use Rattle.protocol.specs.Plans.{look, cards_at}

-- ---- an element's head

-- the head of an element that is there, in a container that is no set of arrays
module _ (s : List ℕ) (i at : ℕ) (p : List ℕ) (k : ℕ) (o : Ordered p k) (n : get_or p k 0 ≡ 3 → ⊥) where
  field_head : (gap start size : ℕ) → gap ≡ gap_of (get_or p k 0) → plain_head s gap i at ≡ Ok (Present i start size) → row_head (look p k) s i at ≡ Ok (Present i start size)
  unfolding gap_of pick
  field_head gap start size eg e =
      ⊎_elim
      (λ (x : get_or p k 0 ≡ 4).
      let g : gap ≡ 4 = eg ∙ rw x in
      sym (head_tuple p k (get_or p k 0) o.kind s i at x) ∙ (rw g at e))
      (λ (y : get_or p k 0 ≡ 4 → ⊥).
      ⊎_elim
      (λ (x : get_or p k 0 ≡ 5).
      let g : gap ≡ 4 = eg ∙ rw x in
      sym (head_object p k (get_or p k 0) o.kind s i at (requires (get_or (cards_at p k) i 0)) refl x)
      ∙ object_plain s i at (requires (get_or (cards_at p k) i 0)) i start size (rw g at e))
      (λ (z : get_or p k 0 ≡ 5 → ⊥).
      let g : gap ≡ 0 = eg ∙ rw (ne_eqb (get_or p k 0) 4 y, ne_eqb (get_or p k 0) 5 z) in
      sym (head_plain p k (get_or p k 0) o.kind s i at o.dense y n z) ∙ (rw g at e))
      (same_or_not (get_or p k 0) 5))
      (same_or_not (get_or p k 0) 4)

-- the elements of a set or an array share one node
module _ (p : List ℕ) (k : ℕ) (e : get_or p k 0 ≡ 2) where
  pub row_refers : (i : ℕ) → Refers (look p k) i
  unfolding ref_at
  row_refers i = record { to = get_or p (k + 1) 0; is = rw (look_row p k e) }

  same_ref : (i j child : ℕ) → ref_at (look p k) i ≡ some child → ref_at (look p k) j ≡ some child
  unfolding ref_at
  same_ref i j child r = rw (look_row p k e) (rw (look_row p k e) at r)

  same_head : (s : List ℕ) (i at size : ℕ) → size ≤ 16 → Standing s at size → row_head (look p k) s i at ≡ Ok (Present i (at + 4) size)
  unfolding row_head
  same_head s i at size few x = rw (look_row p k e) (standing_head s i at size few x)

-- ---- a leaf that was read and put

module _ (p : List ℕ) (k base : ℕ) (s : List ℕ) (i start size child : ℕ) (fits : start + size ≤ length s) (r : ref_at (look p k) i ≡ some child) (a : At p child)
    (x : leaf_kind (get_or p child 0) ≡ true) (good : leaf_good (look p child) (take size (drop start s)) ≡ true) (to : ℕ) (l l' : List ℕ)
    (e : l' ≡ sets l to (entry_words (entry_of child i (base + start) size) 0)) where
  part_is : take (start + size - start) (drop start s) ≡ take size (drop start s)
  part_is = rw add-sub_cancel_left

  size_is : length (take (start + size - start) (drop start s)) ≡ size
  size_is = rw add-sub_cancel_left (simp (length-take, length-drop) (omega arith))

  pub leaf_led : walk_of (Ok (to + 5)) l' ≡ led (element_outcome (value_of (look p)) (ref_at (look p k)) base s (Ok (Present i start size))) to l
  unfolding walk_of
  leaf_led =
      leaf_good_lem p child a x i (base + start) (take (start + size - start) (drop start s)) to l true (sym good ∙ ap (leaf_good (look p child)) (sym part_is)) refl l' (rw size_is e)
      ∙ member_present (value_of (look p)) (ref_at (look p k)) base s (Present i start size) to l i start child r size refl

-- the next element of a set or an array
module _ (p : List ℕ) (k : ℕ) (s : List ℕ) (i pos child : ℕ) (b : Span) where
  pub leaf_same : get_or p k 0 ≡ 2 → (t : Told) (j : ℕ) → ToldAt p child t → ref_at (look p k) j ≡ some child → Some b ≡ fixed_leaf s pos t → LeafOf p k s i pos child b
  leaf_same e t j f r el =
      let x = standing s pos t b el in
      let fits = x.0.fits in
      record {
        head = rw (x.2, x.3) (same_head p k e s i pos (told_size t) f.small x.0);
        after = omega (arith, x.2);
        fits = omega (arith, x.2, x.3);
        node = same_ref p k e j i child r;
        kind = f.kind;
        good = rw (x.2, x.3) (f.rule (take (told_size t) (drop (pos + 4) s)) ∙ x.1);
      }

  -- and of any container but a set of arrays
  pub leaf_other : pos ≤ length s → Ordered p k → (get_or p k 0 ≡ 3 → ⊥) → (gap : ℕ) → gap ≡ gap_of (get_or p k 0) → ref_at (look p k) i ≡ some child
      → Some b ≡ leaf_at (look p child) s gap pos → LeafOf p k s i pos child b
  leaf_other inside o u gap eg r x =
      let t = leaf_in_lem p child (at_ref p k i child o.node r).0 s gap i pos b inside x in
      record { head = field_head s i pos p k o u gap b.start b.len eg t.0; after = t.1; fits = t.2; node = r; kind = t.3; good = t.4 }

-- ---- the loop over leaves, which has come to the element i of those up to `end`

abbrev pub Going : List ℕ → ℕ → ℕ → List ℕ → ℕ → ℕ → ℕ → ℕ → List ℕ → ℕ → ℕ → ℕ → List ℕ → Type 0
Going p k base s n first from at l i pos to l' =
    (i ≤ first + n) × (first ≤ i) × (pos ≤ length s) × (4 * to ≤ 5 * (base + pos) + 20) × (length l' ≡ length l)
    × (led (elements (row_form (look p k) s) (value_of (look p)) (ref_at (look p k)) base s n first from) at l
    ≡ led (elements (row_form (look p k) s) (value_of (look p)) (ref_at (look p k)) base s (first + n - i) i pos) to l')

module _ (p : List ℕ) (k base : ℕ) (s : List ℕ) (n first from at : ℕ) (l : List ℕ) where
  pub going_start : from ≤ length s → 4 * at ≤ 5 * (base + from) + 20 → Going p k base s n first from at l first from at l
  going_start inside few = (omega arith, omega arith, inside, few, refl, rw add-sub_cancel_left refl)

  -- none was taken
  pub going_none : from ≤ length s → 4 * at ≤ 5 * (base + from) + 20 → Stretched p k base s (first + n) n first from at l n from at l
  going_none inside few =
      let e : first + n - n ≡ first = omega arith in
      record { some = omega arith; inside = inside; few = few; leads = rw e refl }

  module _ (i pos to : ℕ) (l' : List ℕ) (g : Going p k base s n first from at l i pos to l') where
    pub going_end : (left : ℕ) → left ≡ first + n - i → Stretched p k base s (first + n) n first from at l left pos to l'
    going_end left el =
        let g0 = g.0 in
        let g1 = g.1 in
        let e : first + n - left ≡ i = omega arith in
        record { some = omega arith; inside = g.2; few = g.3; leads = rw (e, el) g.5 }

    -- an element that is a leaf and permitted
    pub going_next : At p k → i < first + n → (child : ℕ) (b : Span) → LeafOf p k s i pos child b
        → (l'' : List ℕ) → l'' ≡ sets l' to (entry_words (entry_of child i (base + b.start) b.len) 0) → length l'' ≡ length l'
        → Going p k base s n first from at l (i + 1) (b.start + b.len) (to + 5) l''
    unfolding end_of
    going_next a z child b x l'' e same =
        let few : first + n - (i + 1) ≡ first + n - i - 1 = omega arith in (
          omega arith,
          omega (arith, g.1),
          x.fits,
          omega (arith, g.3, x.after),
          same ∙ g.4,
          g.5
              ∙ rw few (turn_go (value_of (look p)) (single (look p)) (ref_at (look p k)) base s (row_form (look p k) s) i pos to (first + n - i) l' (omega arith) (Ok (Present i b.start b.len)) (sym x.head)
              (Ok (to + 5)) l'' (leaf_led p k base s i b.start b.len child x.fits x.node (at_ref p k i child a x.node).0 x.kind x.good to l' l'' e) (to + 5) refl (i + 1) refl (b.start + b.len) refl),
        )

pub gap_few : (kind : ℕ) → gap_of kind ≤ 16
unfolding gap_of
gap_few kind = pick_case (λ m. m ≤ 16) _ _ _ (λ _. omega arith) (λ _. pick_case (λ m. m ≤ 16) _ _ _ (λ _. omega arith) (λ _. omega arith))

-- ---- a container's elements by turns: one that is no leaf, and the stretch after it

pub from_end : (end left : ℕ) → left ≤ end → end - left + left ≡ end
from_end end left h = omega arith

-- of the elements up to the index `end`, `left` are left
abbrev pub Left : List ℕ → ℕ → ℕ → List ℕ → ℕ → ℕ → ℕ → ℕ → List ℕ → ℕ → ℕ → ℕ → List ℕ → Type 0
Left p k base s end n from at l left pos to l' =
    (left ≤ end) × (pos ≤ length s) × (4 * to ≤ 5 * (base + pos) + 20) × (length l' ≡ length l)
    × (led (elements (row_form (look p k) s) (value_of (look p)) (ref_at (look p k)) base s n (end - n) from) at l
    ≡ led (elements (row_form (look p k) s) (value_of (look p)) (ref_at (look p k)) base s left (end - left) pos) to l')

module _ (p : List ℕ) (k base : ℕ) (s : List ℕ) (end n from at : ℕ) (l : List ℕ) (left pos to : ℕ) (l₁ : List ℕ) (inv : Left p k base s end n from at l left pos to l₁) (z : 0 < left) where
  pub left_next : (after word : ℕ) (l₂ : List ℕ)
      → led (elements (row_form (look p k) s) (value_of (look p)) (ref_at (look p k)) base s left (end - left) pos) to l₁
      ≡ led (elements (row_form (look p k) s) (value_of (look p)) (ref_at (look p k)) base s (left - 1) (end - left + 1) after) word l₂
      → length l₂ ≡ length l₁ → (left' pos' to' : ℕ) (l₃ : List ℕ) → Stretched p k base s (end - left + 1 + (left - 1)) (left - 1) (end - left + 1) after word l₂ left' pos' to' l₃
      → length l₃ ≡ length l₂ → Left p k base s end n from at l left' pos' to' l₃
  left_next after word l₂ turn same left' pos' to' l₃ x kept =
      let h = inv.0 in
      let e : end - left + 1 + (left - 1) ≡ end = omega arith in
      let y = x.some in
      (omega arith, x.inside, x.few, kept ∙ same ∙ inv.3, inv.4 ∙ turn ∙ rw e at x.leads)
