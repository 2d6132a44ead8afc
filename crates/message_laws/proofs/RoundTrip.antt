-- What is read of any layout, written again from its list and a source that has its bytes where it has them, has the same bytes.
use mathlib.Core.Path.{◌≡◌, refl, ap, sym, ◌∙◌}
use mathlib.Core.Bool.{true}
use mathlib.Core.List.{List, [], ◌++◌, append_assoc}
use Prim.Native.Nat.{ℕ, zero, suc, ◌+◌, ◌-◌, ◌<◌, ◌≤◌}
use native.Mathlib.Omega.{arith}
use native.Mathlib.Nat.{add-sub_cancel_left}
use lib.Dec.{lit≤, leb}
use lib.ListN.{length, get_or, take, drop, length-take, length-drop}
use lib.Seq.{take-add, drop-drop}
use borrow.Author.Tests.{eq-eqb, leb-true, le-leb}
use Rattle.wire.proofs.Numbers.{bytes_be_lem}
use Rattle.wire.proofs.Picks.{pick_case}
use Rattle.forms.specs.declared.Span.{Span}
use Rattle.std.specs.Prelude.{Result, Ok, Err}
use Rattle.message_laws.proofs.Covers.{Covers}
use Rattle.protocol.specs.Numbers.{pick, be, bytes_be}
use Rattle.protocol.specs.Text.{well_formed}
use Rattle.protocol.specs.Messages.{Field, number, text, bytes, Layout, done, one, run, u16, permits, span as content, lengthened, textual, field_at}
use Rattle.protocol.specs.Messages.{MessageRead, unread, read, read_before, then_read, field_outcome, times_read, fields_read, Written, wrote}
use Rattle.protocol.specs.Messages.{fitting, field_bytes, next_field, put_before, joined, times_written, fields_written}

-- the bytes of m from p up to q
abbrev pub span : List ℕ → ℕ → ℕ → List ℕ
span m p q = take (q - p) (drop p m)

span_none : (m : List ℕ) (p : ℕ) → span m p p ≡ []
span_none m p = let e : p - p ≡ 0 = omega arith in rw e

pub span_join : (m : List ℕ) (p q r : ℕ) → p ≤ q → q ≤ r → span m p q ++ span m q r ≡ span m p r
span_join m p q r g h =
    let e : r - p ≡ q - p + (r - q) = omega arith in
    let f : p + (q - p) ≡ q = omega arith in
    rw e (sym (take-add (q - p) (r - q) (drop p m) ∙ rw (drop-drop, f)))

-- every element is a byte
abbrev pub Bytes : List ℕ → Type 0
Bytes m = (i : ℕ) → get_or m i 0 < 256

-- what is written from the words of an outcome, with others after them
abbrev pub Trip : List ℕ → ℕ → MessageRead → (List ℕ → Written) → Type 0
Trip m p (unread n q) g = Unit {0}
Trip m p (read q ws) g = (p ≤ q) × (q ≤ length m) × (Bytes m → (vs : List ℕ) → g (ws ++ vs) ≡ wrote (span m p q) vs)

module _ (m : List ℕ) (p : ℕ) where
  trip_prefixed : (q : ℕ) (ws : List ℕ) (o : MessageRead) (g : List ℕ → Written) (h : List ℕ → List ℕ → Written)
      → Trip m p (read q ws) g → Trip m q o (h (span m p q)) → Trip m p (read_before ws o) (λ vs. joined (g vs) h)
  unfolding read_before joined put_before
  trip_prefixed q ws (unread n r) g h t u = tt
  trip_prefixed q ws (read r us) g h t u =
      (omega arith, u.1, λ b vs. rw (append_assoc, t.2 b (us ++ vs), u.2 b vs, span_join m p q r t.0 u.0))

  trip_then : (o : MessageRead) (f : ℕ → MessageRead) (g : List ℕ → Written) (h : List ℕ → List ℕ → Written)
      → Trip m p o g → ((q : ℕ) (ws : List ℕ) → o ≡ read q ws → q ≤ length m → Trip m q (f q) (h (span m p q))) → Trip m p (then_read o f) (λ vs. joined (g vs) h)
  unfolding then_read
  trip_then (unread n q) f g h t u = tt
  trip_then (read q ws) f g h t u = trip_prefixed q ws (f q) g h t (u q ws refl t.1)

trip_times : (m : List ℕ) (f : ℕ → MessageRead) (g : List ℕ → Written) → ((p : ℕ) → p ≤ length m → Trip m p (f p) g)
    → (n p : ℕ) → p ≤ length m → Trip m p (times_read n f p) (times_written n g)
unfolding times_read times_written
trip_times m f g r zero p h = (omega arith, h, λ _ vs. rw (span_none m p))
trip_times m f g r (suc n) p h = trip_then m p (f p) (times_read n f) g (λ b. times_written n g) (r p h) (λ q ws e k. trip_times m f g r n q k)

-- ---- a field

-- the content found lies in m, is permitted, and ends the bytes that the field has there
pub record Lies (f : Field) (m : List ℕ) (p s n : ℕ) : Type 0 where
  pub onward : p ≤ s + n
  pub inside : s + n ≤ length m
  pub good : fitting f (take n (drop s m)) ≡ true
  pub same : Bytes m → field_bytes f (take n (drop s m)) ≡ span m p (s + n)

-- the number of a field's refusal
abbrev pub IsFault : ℕ → Type 0
IsFault n = (4 ≤ n) × (n ≤ 6)

abbrev pub LiesAt : Field → List ℕ → ℕ → Result Span ℕ → Type 0
LiesAt f m p (Err n) = IsFault n
LiesAt f m p (Ok c) = Lies f m p c.start c.len

length_part : (m : List ℕ) (s n : ℕ) → s + n ≤ length m → length (take n (drop s m)) ≡ n
length_part m s n h = simp (length-take, length-drop) (omega arith)

module _ (m : List ℕ) (p : ℕ) where
  lies_number : (w : ℕ) (vs : List ℕ) → p + w ≤ length m → permits vs (be (take w (drop p m))) ≡ true → Lies (number w vs) m p p w
  unfolding fitting field_bytes pick
  lies_number w vs h e =
      record {
        onward = omega arith;
        inside = h;
        good = rw (length_part m p w h, eq-eqb w w refl) e;
        same = λ _. rw add-sub_cancel_left;
      }

  lies_bytes : (n : ℕ) → n ≡ be (take 4 (drop p m)) → p + 4 + n ≤ length m → Lies bytes m p (p + 4) n
  unfolding fitting field_bytes
  lies_bytes n e h =
      let size : p + 4 + n - p ≡ 4 + n = omega arith in
      record {
        onward = omega arith;
        inside = h;
        good = refl;
        same = λ b. rw (length_part m (p + 4) n h, ap (bytes_be 4) e ∙ bytes_be_lem m p 4 b (omega arith), size, take-add 4 n, drop-drop);
      }

  lies_length : LiesAt bytes m p (lengthened m p)
  unfolding lengthened
  lies_length =
      pick_case (LiesAt bytes m p) (leb (p + 4) (length m)) _ (Err 4)
      (λ _. pick_case (LiesAt bytes m p) (leb (p + 4 + be (take 4 (drop p m))) (length m)) _ (Err 4) (λ b. lies_bytes _ refl (leb-true _ _ b)) (λ _. (lit≤ tt, lit≤ tt)))
      (λ _. (lit≤ tt, lit≤ tt))

  -- text is bytes that are well-formed
  lies_text : (o : Result Span ℕ) → LiesAt bytes m p o → LiesAt text m p (textual m o)
  unfolding textual fitting field_bytes
  lies_text (Err n) l = l
  lies_text (Ok c) l =
      pick_case (LiesAt text m p) (well_formed (take c.len (drop c.start m))) (Ok c) (Err 6)
      (λ b. record { onward = l.onward; inside = l.inside; good = b; same = l.same })
      (λ _. (lit≤ tt, lit≤ tt))

  pub lies_field : (f : Field) → LiesAt f m p (field_at f m p)
  unfolding field_at
  lies_field (number w vs) =
      pick_case (LiesAt (number w vs) m p) (leb (p + w) (length m)) _ (Err 4)
      (λ a. pick_case (LiesAt (number w vs) m p) (permits vs (be (take w (drop p m)))) (Ok (content p w)) (Err 6) (lies_number w vs (leb-true _ _ a)) (λ _. (lit≤ tt, lit≤ tt)))
      (λ _. (lit≤ tt, lit≤ tt))
  lies_field text = lies_text (lengthened m p) lies_length
  lies_field bytes = lies_length

  trip_found : (src : List ℕ) → Covers src m → (f : Field) (o : Result Span ℕ) → LiesAt f m p o → Trip m p (field_outcome p o) (next_field f src)
  unfolding field_outcome next_field pick
  trip_found src c f (Err n) l = tt
  trip_found src c f (Ok o) l =
      let h : o.start + o.len ≤ length src = omega (arith, l.inside, c.long) in
      (l.onward, l.inside, λ b us. rw (le-leb (o.start + o.len) (length src) h, c.part o.start o.len l.inside, l.good, l.same b))

  trip_field : (src : List ℕ) → Covers src m → (f : Field) → Trip m p (field_outcome p (field_at f m p)) (next_field f src)
  trip_field src c f = trip_found src c f (field_at f m p) (lies_field f)

-- a run's count is two bytes
pub count_next : (m : List ℕ) (p q : ℕ) (ws : List ℕ) → field_outcome p (field_at u16 m p) ≡ read q ws → q - p ≡ 2
unfolding field_at permits field_outcome pick
count_next m p q ws =
    pick_case (λ (o : Result Span ℕ). field_outcome p o ≡ read q ws → q - p ≡ 2) (leb (p + 2) (length m)) (Ok (content p 2)) (Err 4)
    (λ _ e. let f : q ≡ p + 2 = cc in omega arith)
    (λ _ e. cc)

-- ---- every layout

module _ (m src : List ℕ) (c : Covers src m) where
  trip_run : (f : ℕ → MessageRead) (g : List ℕ → Written) → ((q : ℕ) → q ≤ length m → Trip m q (f q) g) → (p : ℕ)
      → Trip m p (then_read (field_outcome p (field_at u16 m p)) (times_read (be (take 2 (drop p m))) f)) (λ vs. joined (next_field u16 src vs) (λ b. times_written (be b) g))
  trip_run f g r p =
      trip_then m p _ (times_read (be (take 2 (drop p m))) f) (next_field u16 src) (λ b. times_written (be b) g) (trip_field m p src c u16)
      (λ q ws e k. rw (count_next m p q ws e) (trip_times m f g r (be (take 2 (drop p m))) q k))

  pub round_trip : (x : Layout) (p : ℕ) → p ≤ length m → Trip m p (fields_read x m p) (fields_written x src)
  unfolding fields_read fields_written
  round_trip done p h = (omega arith, h, λ _ vs. rw (span_none m p))
  round_trip (one f rest) p h = trip_then m p _ _ _ (λ b. fields_written rest src) (trip_field m p src c f) (λ q ws e k. round_trip rest q k)
  round_trip (run items rest) p h =
      trip_then m p _ _ _ (λ b. fields_written rest src)
      (trip_run (fields_read items m) (fields_written items src) (round_trip items) p)
      (λ q ws e k. round_trip rest q k)
