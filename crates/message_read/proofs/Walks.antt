-- The laws of the walk over a table of codes: what is left of a layout leads to the same place.
use mathlib.Core.Path.{◌≡◌, refl, ◌∙◌}
use mathlib.Core.Bool.{Bool}
use mathlib.Core.List.{List}
use mathlib.Core.Logic.{⊎_elim}
use Prim.Native.Nat.{ℕ, suc, ◌+◌, ◌-◌, ◌<◌, ◌≤◌}
use native.Mathlib.Omega.{arith}
use native.Mathlib.Nat.{add_assoc, add-zero}
use native.Mathlib.Numerals.{add-one}
use lib.ListN.{length, get_or, take, drop, length-append}
use lib.Seq.{sets}
use borrow.Author.Tests.{lt-ltb, le-ltb, lt-leb}
use Rattle.wire.proofs.Stores.{sets_append}
use Rattle.message_layout.specs.Judged.{judged, judged_all}
use Rattle.message_layout.specs.Tables.{codes, field_of, layout_at}
use Rattle.message_layout.proofs.Codes.{lt_or_ge, at_end, at_field, at_run, count_code}
use Rattle.message_layout.proofs.Judged.{judged_done, judged_one, judged_run, judged_count}
use Rattle.message_read.specs.Scan.{stopped, reached, outcome_of, put, led, item_of}
use Rattle.forms.specs.declared.Span.{Span}
use Rattle.std.specs.Prelude.{Result, Ok, Err}
use Rattle.forms.specs.declared.fault.Refusal.{Refusal}
use Rattle.message_read.specs.declared.Reached.{Reached}
use Rattle.protocol.specs.Numbers.{pick, be}
use Rattle.protocol.specs.Messages.{field_at, MessageRead, unread, read, read_before, then_read, field_outcome, times_read, fields_read}

-- ---- the layout at a position

module _ (p c : ℕ) (h : p < 51) (o : c ≡ get_or codes p 0) (j : Bool) (m : List ℕ) (at k : ℕ) (l : List ℕ) where
  pub scan_end : c ≡ 0 → reached at k l ≡ led (fields_read (judged_all j (layout_at p)) m at) k l
  unfolding fields_read led
  scan_end e = rw (at_end p c h o e, judged_done, add-zero)

  pub scan_item : 0 < c → (16 ≤ c → p < c - 16)
      → led (fields_read (judged_all j (layout_at p)) m at) k l ≡ led (then_read (item_of j c m at) (fields_read (judged_all j (layout_at (p + 1))) m)) k l
  unfolding fields_read item_of pick
  scan_item z a =
      ⊎_elim
      (λ (s : c < 16). rw (at_field p c h o z s, judged_one, lt-ltb c 16 s))
      (λ (g : 16 ≤ c). rw (at_run p c h o g (a g), judged_run, le-ltb c 16 g))
      (lt_or_ge c 16)

-- ---- what a code stands for

module _ (j : Bool) (c : ℕ) (m : List ℕ) (at k : ℕ) (l : List ℕ) where
  pub item_field : c < 16 → led (field_outcome at (field_at (judged j (field_of c)) m at)) k l ≡ led (item_of j c m at) k l
  unfolding item_of pick
  item_field h = rw (lt-ltb c 16 h)

  -- a run's count n and its items, whose layout starts at i
  pub item_run_lem : 16 ≤ c → (i n : ℕ) → i ≡ c - 16 → n ≡ be (take 2 (drop at m))
      → led (then_read (field_outcome at (field_at (judged j (field_of 7)) m at)) (times_read n (fields_read (judged_all j (layout_at i)) m))) k l ≡ led (item_of j c m at) k l
  unfolding item_of pick
  item_run_lem h i n e f = rw (le-ltb c 16 h, count_code, judged_count, e, f)

-- the count's two bytes were there
pub count_whole : (j : Bool) (r : Reached) (l' m : List ℕ) (at k : ℕ) (l : List ℕ)
    → outcome_of (Ok r) l' ≡ led (field_outcome at (field_at (judged j (field_of 7)) m at)) k l → at + 2 ≤ length m
unfolding outcome_of led field_outcome field_at pick
count_whole j r l' m at k l q =
    ⊎_elim
    (λ (h : length m < at + 2).
    let g : reached r.at r.words l' ≡ stopped 4 at = rw (count_code, judged_count, lt-leb (at + 2) (length m) h) at q in
    let z : ◌≡◌ {A = ℕ} 0 1 = cc in
    omega arith)
    (λ h. h)
    (lt_or_ge (length m) (at + 2))

-- ---- steps: a call's answer, and the outcome that it is the first part of

led_prefixed : (ws : List ℕ) (o : MessageRead) (k : ℕ) (l : List ℕ) → led (read_before ws o) k l ≡ led o (k + length ws) (sets l k ws)
unfolding read_before led
led_prefixed ws (unread n p) k l = refl
led_prefixed ws (read at vs) k l = rw (sets_append, length-append, add_assoc)

stop_at : (n p : ℕ) (o : MessageRead) (k : ℕ) (l : List ℕ) (f : ℕ → MessageRead) → stopped n p ≡ led o k l → stopped n p ≡ led (then_read o f) k l
unfolding led then_read
stop_at n p (unread m q) k l f e = e
stop_at n p (read at ws) k l f e = let z : ◌≡◌ {A = ℕ} 0 1 = cc in absurd (omega arith)

go_at : (a w : ℕ) (l' : List ℕ) (o : MessageRead) (k : ℕ) (l : List ℕ) (f : ℕ → MessageRead) → reached a w l' ≡ led o k l → led (then_read o f) k l ≡ led (f a) w l'
unfolding led then_read
go_at a w l' (unread m q) k l f e = let z : ◌≡◌ {A = ℕ} 0 1 = cc in absurd (omega arith)
go_at a w l' (read at ws) k l f e =
    let ea : at ≡ a = cc in
    let ew : k + length ws ≡ w = cc in
    let el : sets l k ws ≡ l' = cc in
    led_prefixed ws (f at) k l ∙ rw (ea, ew, el)

module _ (l' : List ℕ) (o : MessageRead) (k : ℕ) (l : List ℕ) (f : ℕ → MessageRead) where
  pub stop : (e : Refusal) → outcome_of (Err e) l' ≡ led o k l → outcome_of (Err e) l' ≡ led (then_read o f) k l
  unfolding outcome_of
  stop e q = stop_at e.fault e.place o k l f q

  pub go : (r : Reached) → outcome_of (Ok r) l' ≡ led o k l → led (then_read o f) k l ≡ led (f r.at) r.words l'
  unfolding outcome_of
  go r q = go_at r.at r.words l' o k l f q

module _ (f : ℕ → MessageRead) (at k : ℕ) (l : List ℕ) where
  pub repeat_one : (n n' : ℕ) → n ≡ suc n' → led (times_read n f at) k l ≡ led (then_read (f at) (times_read n' f)) k l
  unfolding times_read
  repeat_one n n' e = rw e

  pub repeat_none : (n : ℕ) → n ≤ 0 → reached at k l ≡ led (times_read n f at) k l
  unfolding times_read led
  repeat_none n h = let e : n ≡ 0 = omega arith in rw (e, add-zero)

-- ---- a field's words

pub placed_put : (at k : ℕ) (c : Span) (l l' : List ℕ) (y : Result Span ℕ) → Ok c ≡ y → l' ≡ put l k c.start c.len
    → reached (c.start + c.len) (k + 2) l' ≡ led (field_outcome at y) k l
unfolding led field_outcome put
placed_put at k c l l' y e g = rw (← e, g, add-one)

pub placed_not : (at k n : ℕ) (l : List ℕ) (y : Result Span ℕ) → Err n ≡ y → stopped n at ≡ led (field_outcome at y) k l
unfolding led field_outcome
placed_not at k n l y e = rw (← e)
