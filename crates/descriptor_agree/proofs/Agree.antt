-- The two definitions of a descriptor, field by field: the code's own keeps places in the descriptor, protocol's keeps what stands there. Two
-- readings agree if both refuse with one number, or both go on at one byte with what a relation asks.
use mathlib.Core.Path.{◌≡◌, refl, ◌∙◌}
use mathlib.Core.Bool.{Bool, true, false}
use mathlib.Core.List.{List, [], ◌∷◌, ◌++◌}
use Rattle.std.specs.Prelude.{Ok, Err}
use Prim.Native.Nat.{ℕ, ◌+◌, ◌≤◌}
use native.Mathlib.Omega.{arith}
use native.Mathlib.Nat.{add_assoc}
use lib.Dec.{leb}
use lib.ListN.{length, take, drop, length-drop}
use lib.Seq.{drop-drop}
use borrow.Author.Tests.{leb-true, leb-false, le-leb, lt-leb}
use Rattle.descriptor_fields.specs.Fields.{Known, Element, extent, Verdict, fine, text_at, fault as fault_of, kept, grown}
use Rattle.descriptor_fields.specs.declared.Draft.{Draft}
use Rattle.descriptor_blocks.specs.Blocks.{Item, Reading, stop, next, if_fine, noted, and_then, field}
use Rattle.protocol.specs.Descriptors.{Parsed, unparsed, parsed, Reader, parse_then, some_bytes, number_field, passing, text_field}
use Rattle.protocol.specs.Descriptors
use Rattle.protocol.specs.Numbers.{pick, be}
use Rattle.protocol.specs.Text.{well_formed}

-- ---- two readings agree

module _ (d : List ℕ) where
  abbrev pub Agree : {A : Type 0} → (Draft → List Element → A → Type 0) → Reading → Parsed A → Type 0
  Agree R (stop n) (unparsed m) = n ≡ m
  Agree R (stop n) (parsed a s) = ⊥
  Agree R (next x es is) (unparsed m) = ⊥
  Agree R (next x es is) (parsed a s) = (s ≡ drop x.at d) × (x.at ≤ length d) × R x es a

  module _ {A : Type 0} (R : Draft → List Element → A → Type 0) where
    pub agree_noted : (is : List Item) (r : Reading) (p : Parsed A) → Agree R r p → Agree R (noted is r) p
    unfolding noted
    agree_noted is (stop n) (unparsed m) e = e
    agree_noted is (stop n) (parsed a s) e = e
    agree_noted is (next x es js) (unparsed m) e = e
    agree_noted is (next x es js) (parsed a s) e = e

    agree_unnoted : (is : List Item) (r : Reading) (p : Parsed A) → Agree R (noted is r) p → Agree R r p
    unfolding noted
    agree_unnoted is (stop n) (unparsed m) e = e
    agree_unnoted is (stop n) (parsed a s) e = e
    agree_unnoted is (next x es js) (unparsed m) e = e
    agree_unnoted is (next x es js) (parsed a s) e = e

  -- one after another
  module _ {A B : Type 0} (R : Draft → List Element → A → Type 0) (Q : Draft → List Element → B → Type 0) where
    pub agree_then : (r : Reading) (p : Parsed A) (f : Draft → List Element → Reading) (g : A → Reader B) → Agree R r p
        → ((x : Draft) (es : List Element) (a : A) → x.at ≤ length d → R x es a → Agree Q (f x es) (g a (drop x.at d)))
        → Agree Q (and_then r f) (parse_then p g)
    unfolding and_then parse_then
    agree_then (stop n) (unparsed m) f g e k = e
    agree_then (stop n) (parsed a s) f g e k = absurd e
    agree_then (next x es is) (unparsed m) f g e k = absurd e
    agree_then (next x es is) (parsed a s) f g e k =
        agree_noted Q is (f x es) (g a s) (rw e.0 (k x es a e.1 e.2))

    -- the same reading, with what was read put another way
    pub agree_map : (h : A → B) (r : Reading) (p : Parsed A) → Agree R r p → ((x : Draft) (es : List Element) (a : A) → R x es a → Q x es (h a)) → Agree Q r (parse_then p (λ a. Descriptors.give (h a)))
    unfolding parse_then
    agree_map h (stop n) (unparsed m) e k = e
    agree_map h (stop n) (parsed a s) e k = e
    agree_map h (next x es is) (unparsed m) e k = e
    agree_map h (next x es is) (parsed a s) e k = (e.0, e.1, k x es a e.2)

  module _ {B : Type 0} (Q : Draft → List Element → B → Type 0) where
    -- how a reading is bracketed makes no difference
    pub agree_assoc : (r : Reading) (f g : Draft → List Element → Reading) (p : Parsed B) → Agree Q (and_then r (λ x es. and_then (f x es) g)) p → Agree Q (and_then (and_then r f) g) p
    unfolding and_then noted
    agree_assoc (stop n) f g p e = e
    agree_assoc (next x es is) f g p e = inner is (f x es) g p (agree_unnoted Q is (and_then (f x es) g) p e)
      where
        inner : (is : List Item) (r : Reading) (g : Draft → List Element → Reading) (p : Parsed B) → Agree Q (and_then r g) p → Agree Q (and_then (noted is r) g) p
        inner is (stop n) g p e = e
        inner is (next y fs js) g p e = agree_noted Q (is ++ js) (g y fs) p (agree_unnoted Q js (g y fs) p e)

    pub agree_unassoc : (r : Reading) (f g : Draft → List Element → Reading) (p : Parsed B) → Agree Q (and_then (and_then r f) g) p → Agree Q (and_then r (λ x es. and_then (f x es) g)) p
    unfolding and_then noted
    agree_unassoc (stop n) f g p e = e
    agree_unassoc (next x es is) f g p e = agree_noted Q is (and_then (f x es) g) p (inner is (f x es) g p e)
      where
        inner : (is : List Item) (r : Reading) (g : Draft → List Element → Reading) (p : Parsed B) → Agree Q (and_then (noted is r) g) p → Agree Q (and_then r g) p
        inner is (stop n) g p e = e
        inner is (next y fs js) g p e = agree_noted Q js (g y fs) p (agree_unnoted Q (is ++ js) (g y fs) p e)

-- ---- choices

pub then_pick : {A B : Type 0} (t : Bool) (p q : Parsed A) (g : A → Reader B) → parse_then (pick t p q) g ≡ pick t (parse_then p g) (parse_then q g)
unfolding pick
then_pick true p q g = refl
then_pick false p q g = refl

pub pick_at : {B : Type 0} (t : Bool) (f g : Reader B) (s : List ℕ) → pick t f g s ≡ pick t (f s) (g s)
unfolding pick
pick_at true f g s = refl
pick_at false f g s = refl

pub then_assoc : {A B C : Type 0} (p : Parsed A) (f : A → Reader B) (g : B → Reader C) → parse_then (parse_then p f) g ≡ parse_then p (λ a s. parse_then (f a s) g)
unfolding parse_then
then_assoc (unparsed n) f g = refl
then_assoc (parsed a s) f g = refl

-- what was read, if a rule has nothing against it
unfoldable pub verdict : {A : Type 0} → Verdict → Parsed A → Parsed A
verdict (Ok u) p = p
verdict (Err n) p = unparsed n

-- one rule after another
unfoldable pub then_rule : Verdict → Verdict → Verdict
then_rule (Ok u) w = w
then_rule (Err n) w = Err n

pub verdict_pick : {A : Type 0} (t : Bool) (n : ℕ) (p : Parsed A) → verdict (pick t fine (Err n)) p ≡ pick t p (unparsed n)
unfolding verdict pick
verdict_pick true n p = refl
verdict_pick false n p = refl

-- ---- a field

-- the bytes of a field that starts at a place, first whole, and then a verdict on it
unfoldable pub judged : {A : Type 0} → List ℕ → ℕ → ℕ → Verdict → A → Parsed A
judged d at size v a = pick (leb (at + size) (length d)) (verdict v (parsed a (drop (at + size) d))) (unparsed 10)

module _ (d : List ℕ) (known : List Known) (tag : ℕ) where
  module _ {A B : Type 0} (Q : Draft → List Element → B → Type 0) (c : ℕ) (x : Draft) (es : List Element) (p : Parsed A) (a : A) (f : Draft → List Element → Reading) (g : A → Reader B) where
    pub agree_field : p ≡ judged d x.at (extent d c x.at) (fault_of d known tag c x es) a
        → (x.at + extent d c x.at ≤ length d → fault_of d known tag c x es ≡ fine → Agree d Q (f (kept d known tag c x) (grown d c x es)) (g a (drop (x.at + extent d c x.at) d)))
        → Agree d Q (and_then (field d known tag c x es) f) (parse_then p g)
    unfolding field if_fine judged verdict kept pick and_then parse_then
    agree_field e k = rw e (cases (leb (x.at + extent d c x.at) (length d)) refl (fault_of d known tag c x es) refl)
      where
        cases : (s : Bool) → leb (x.at + extent d c x.at) (length d) ≡ s → (v : Verdict) → fault_of d known tag c x es ≡ v
            → Agree d Q
            (and_then (pick s (if_fine v (next (kept d known tag c x) (grown d c x es) (record { kind = c; start = x.at } ∷ []))) (stop 10)) f)
            (parse_then (pick s (verdict v (parsed a (drop (x.at + extent d c x.at) d))) (unparsed 10)) g)
        cases true h (Ok u) z =
            agree_noted d Q (record { kind = c; start = x.at } ∷ []) (f (kept d known tag c x) (grown d c x es))
            (g a (drop (x.at + extent d c x.at) d))
            (k (leb-true (x.at + extent d c x.at) (length d) h) z)
        cases true h (Err n) z = refl
        cases false h v z = refl

  pub then_give : {A : Type 0} (q : Parsed A) → parse_then q Descriptors.give ≡ q
  unfolding parse_then
  then_give (unparsed n) = refl
  then_give (parsed b s) = refl

  -- the last field
  module _ {A : Type 0} (Q : Draft → List Element → A → Type 0) (c : ℕ) (x : Draft) (es : List Element) (p : Parsed A) (a : A) where
    pub agree_last : p ≡ judged d x.at (extent d c x.at) (fault_of d known tag c x es) a
        → (x.at + extent d c x.at ≤ length d → fault_of d known tag c x es ≡ fine → Q (kept d known tag c x) (grown d c x es) a)
        → Agree d Q (and_then (field d known tag c x es) (λ y fs. next y fs [])) p
    unfolding kept
    agree_last e k = rw then_give at (agree_field Q c x es p a (λ y fs. next y fs []) Descriptors.give e (λ l z. (refl, l, k l z)))

-- ---- what is whole

module _ (d : List ℕ) (at : ℕ) (inside : at ≤ length d) where
  leb_at : (n : ℕ) → leb n (length (drop at d)) ≡ leb (at + n) (length d)
  leb_at n = go (leb (at + n) (length d)) refl
    where
      go : (t : Bool) → leb (at + n) (length d) ≡ t → leb n (length (drop at d)) ≡ t
      go true e = le-leb n (length (drop at d)) (let h = leb-true (at + n) (length d) e in simp length-drop (omega arith))
      go false e = lt-leb n (length (drop at d)) (let h = leb-false (at + n) (length d) e in simp length-drop (omega arith))

  pub bytes_at : (n : ℕ) → some_bytes n (drop at d) ≡ judged d at n fine (take n (drop at d))
  unfolding some_bytes judged verdict pick
  bytes_at n = rw (leb_at n, drop-drop)

  pub judged_then : {A B : Type 0} (size : ℕ) (a : A) (g : A → Reader B) → parse_then (judged d at size fine a) g ≡ pick (leb (at + size) (length d)) (g a (drop (at + size) d)) (unparsed 10)
  unfolding judged verdict parse_then pick
  judged_then size a g = then_pick (leb (at + size) (length d)) (parsed a (drop (at + size) d)) (unparsed 10) g

  pub number_at_lem : (w : ℕ) → number_field w (drop at d) ≡ judged d at w fine (be (take w (drop at d)))
  unfolding number_field judged verdict pick
  number_at_lem w = rw (bytes_at w) (judged_then w (take w (drop at d)) (λ b. Descriptors.give (be b)))

  -- a rule, which refuses with a number
  pub checked_at : {A : Type 0} (n : ℕ) (rule : A → Bool) (p : Reader A) (size : ℕ) (a : A) → p (drop at d) ≡ judged d at size fine a
      → passing n rule p (drop at d) ≡ judged d at size (pick (rule a) fine (Err n)) a
  unfolding passing judged
  checked_at n rule p size a e = rw (e, judged_then size a (λ b. pick (rule b) (Descriptors.give b) (Descriptors.refuse n)), verdict_pick (rule a) n (parsed a (drop (at + size) d))) (rw pick_at)

  -- one more rule, after a field's own
  pub checked_more : {A : Type 0} (n : ℕ) (v : Verdict) (rule : A → Bool) (p : Reader A) (size : ℕ) (a : A) → p (drop at d) ≡ judged d at size v a
      → passing n rule p (drop at d) ≡ judged d at size (then_rule v (pick (rule a) fine (Err n))) a
  unfolding passing judged verdict then_rule parse_then pick
  checked_more n v rule p size a e = rw e (go (leb (at + size) (length d)) v)
    where
      after : (r : Bool) → pick r (Descriptors.give a) (Descriptors.refuse n) (drop (at + size) d) ≡ verdict (pick r fine (Err n)) (parsed a (drop (at + size) d))
      after true = refl
      after false = refl

      go : (s : Bool) (v : Verdict)
          → parse_then (pick s (verdict v (parsed a (drop (at + size) d))) (unparsed 10)) (λ b. pick (rule b) (Descriptors.give b) (Descriptors.refuse n))
          ≡ pick s (verdict (then_rule v (pick (rule a) fine (Err n))) (parsed a (drop (at + size) d))) (unparsed 10)
      go true (Ok u) = after (rule a)
      go true (Err m) = refl
      go false v = refl

-- a text: how long it is, and then its bytes
module _ (d : List ℕ) (at : ℕ) (inside : at ≤ length d) where
  abbrev pub text_size : ℕ
  text_size = pick (leb (at + 4) (length d)) (4 + be (take 4 (drop at d))) 4

  content_at_lem : parse_then (number_field 4 (drop at d)) some_bytes ≡ judged d at text_size fine (text_at d at)
  unfolding pick text_at judged verdict
  content_at_lem = rw (number_at_lem d at inside 4, judged_then d at inside 4 (be (take 4 (drop at d))) some_bytes) (go (leb (at + 4) (length d)) refl)
    where
      go : (t : Bool) → leb (at + 4) (length d) ≡ t → pick (leb (at + 4) (length d)) (some_bytes (be (take 4 (drop at d))) (drop (at + 4) d)) (unparsed 10) ≡ judged d at text_size fine (text_at d at)
      go true e = rw e (bytes_at d (at + 4) (leb-true (at + 4) (length d) e) (be (take 4 (drop at d))) ∙ rw add_assoc)
      go false e = rw e (rw e)

  pub text_at_lem : text_field (drop at d) ≡ judged d at text_size (pick (well_formed (text_at d at)) fine (Err 12)) (text_at d at)
  unfolding text_field
  text_at_lem = checked_at d at inside 12 well_formed (λ s. parse_then (number_field 4 s) some_bytes) text_size (text_at d at) content_at_lem
