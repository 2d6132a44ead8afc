-- The laws of a writing that goes on from where it stands.
use mathlib.Core.Path.{◌≡◌, refl, ap, sym, ◌∙◌}
use mathlib.Core.Bool.{Bool, true, false}
use mathlib.Core.List.{List, [], ◌∷◌}
use mathlib.Core.Logic.{⊎_elim}
use Prim.Native.Nat.{ℕ, suc, ◌+◌, ◌-◌, ◌<◌, ◌≤◌}
use native.Mathlib.Omega.{arith}
use native.Mathlib.Nat.{add-zero, add_assoc, add-sub_cancel_left}
use native.Mathlib.Numerals.{add-one, add-two}
use lib.Dec.{eqb, leb}
use lib.ListN.{length, take, drop, get_or, length-take, length-drop, length-append}
use lib.Seq.{sets, length-sets, drop-cons, get_or-drop}
use borrow.Author.Tests.{eqb-true, leb-true, le-leb, lt-leb, lt-ltb, le-ltb}
use Rattle.wire.proofs.Stores.{sets_append}
use Rattle.message_layout.specs.Judged.{judged, judged_all}
use Rattle.message_layout.specs.Tables.{codes, field_of, layout_at}
use Rattle.message_layout.proofs.Codes.{lt_or_ge, at_end, at_field, at_run, count_code}
use Rattle.message_layout.proofs.Judged.{judged_done, judged_one, judged_run, judged_count}
use Rattle.message_write.specs.Emitting.{cap, Framed, broken, stands, put_at, item_from}
use Rattle.message_write.proofs.Caps.{cap_small, cap_add, cap_sets}
use Rattle.message_write.proofs.Contents.{framed_judged}
use Rattle.protocol.specs.Numbers.{pick, be}
use Rattle.protocol.specs.Messages.{Field, u16, permits, Written, unwritten, wrote, fitting, field_bytes, next_field, put_before, joined, times_written, fields_written}

put_after : (b : List ℕ) (w : Written) (at : ℕ) (out : List ℕ) → length out ≤ 65536 → put_at (put_before b w) at out ≡ put_at w (cap (at + length b)) (sets out at b)
unfolding put_before put_at
put_after b unwritten at out h = refl
put_after b (wrote c ws) at out h =
    let k : length (sets out at b) ≤ 65536 = rw (length-sets out at b) h in
    rw (length-append, ← add_assoc, ← sets_append, cap_add, cap_sets (sets out at b) (at + length b) c k)

module _ (at : ℕ) (out : List ℕ) where
  pub stop_from : (w : Written) (f : List ℕ → List ℕ → Written) → broken ≡ put_at w at out → broken ≡ put_at (joined w f) at out
  unfolding joined put_at
  stop_from unwritten f e = refl
  stop_from (wrote b ws) f e = let z : ◌≡◌ {A = ℕ} 0 1 = cc in absurd (omega arith)

  module _ (small : length out ≤ 65536) where
    go_any : (w : Written) (f : List ℕ → List ℕ → Written) (ws : List ℕ) (at' : ℕ) (out' : List ℕ) → stands ws at' out' ≡ put_at w at out
        → (b : List ℕ) × (w ≡ wrote b ws) × (put_at (joined w f) at out ≡ put_at (f b ws) at' out')
    unfolding joined put_at
    go_any unwritten f ws at' out' e = let z : ◌≡◌ {A = ℕ} 0 1 = cc in absurd (omega arith)
    go_any (wrote b us) f ws at' out' e =
        let eu : us ≡ ws = cc in
        let ea : cap (at + length b) ≡ at' = cc in
        let eo : sets out at b ≡ out' = cc in
        (b, ap (wrote b) eu, put_after b (f b us) at out small ∙ rw (eu, ea, eo))

    pub go_from : (w : Written) (g : List ℕ → Written) (ws : List ℕ) (at' : ℕ) (out' : List ℕ) → stands ws at' out' ≡ put_at w at out
        → put_at (joined w (λ b. g)) at out ≡ put_at (g ws) at' out'
    go_from w g ws at' out' e = (go_any w (λ b. g) ws at' out' e).2

part_length : (m : List ℕ) (a k : ℕ) → a + k ≤ length m → length (take k (drop a m)) ≡ k
part_length m a k g = simp (length-take, length-drop) (omega arith)

-- a run's count: its two bytes, and where they are in the source
record Count (src ws b us : List ℕ) : Type 0 where
  some : 0 < length ws
  inside : get_or ws 0 0 + 2 ≤ length src
  is : b ≡ take 2 (drop (get_or ws 0 0) src)

count_is : (src ws b us : List ℕ) → next_field u16 src ws ≡ wrote b us → Count src ws b us
unfolding next_field fitting field_bytes permits pick
count_is src [] b us e = let z : ◌≡◌ {A = ℕ} 0 1 = cc in absurd (omega arith)
count_is src (s ∷ []) b us e = let z : ◌≡◌ {A = ℕ} 0 1 = cc in absurd (omega arith)
count_is src (s ∷ n ∷ ws) b us e = go (leb (s + n) (length src)) refl (eqb (length (take n (drop s src))) 2) refl e
  where
    go : (x : Bool) → leb (s + n) (length src) ≡ x → (y : Bool) → eqb (length (take n (drop s src))) 2 ≡ y
        → pick x (pick (pick y true false) (wrote (take n (drop s src)) ws) unwritten) unwritten ≡ wrote b us → Count src (s ∷ n ∷ ws) b us
    go false ex y ey f = let z : ◌≡◌ {A = ℕ} 0 1 = cc in absurd (omega arith)
    go true ex false ey f = let z : ◌≡◌ {A = ℕ} 0 1 = cc in absurd (omega arith)
    go true ex true ey f =
        let l : s + n ≤ length src = leb-true _ _ ex in
        let two : n ≡ 2 = sym (part_length src s n l) ∙ eqb-true _ 2 ey in
        let i : take n (drop s src) ≡ b = cc in
        record { some = omega arith; inside = omega arith; is = sym i ∙ ap (λ (k : ℕ). take k (drop s src)) two }

-- ---- a field from the next pair

module _ (j : Bool) (f : Field) (src words : List ℕ) (i at : ℕ) (out : List ℕ) where
  pub emit_none : length words < i + 2 → broken ≡ put_at (next_field (judged j f) src (drop i words)) at out
  unfolding next_field put_at
  emit_none h = go (drop i words) (simp length-drop (omega arith))
    where
      go : (ws : List ℕ) → length ws < 2 → broken ≡ put_at (next_field (judged j f) src ws) at out
      go [] l = refl
      go (s ∷ []) l = refl
      go (s ∷ n ∷ ws) l = absurd (omega arith)

  module _ (h : i + 2 ≤ length words) where
    pair : drop i words ≡ get_or words i 0 ∷ get_or words (i + 1) 0 ∷ drop (i + 2) words
    pair =
        let l : i < length words = omega arith in
        let k : suc i < length words = omega arith in
        rw (add-one, add-two) (drop-cons words i 0 l ∙ ap (λ (ws : List ℕ). get_or words i 0 ∷ ws) (drop-cons words (suc i) 0 k))

    module _ (s n : ℕ) (es : s ≡ get_or words i 0) (en : n ≡ get_or words (i + 1) 0) where
      next_is : next_field (judged j f) src (drop i words)
          ≡ pick (leb (s + n) (length src)) (pick (fitting (judged j f) (take n (drop s src))) (wrote (field_bytes f (take n (drop s src))) (drop (i + 2) words)) unwritten) unwritten
      unfolding next_field
      next_is = rw (pair, es, en, framed_judged j f (take (get_or words (i + 1) 0) (drop (get_or words i 0) src)))

      pub emit_outside : length src < s + n → broken ≡ put_at (next_field (judged j f) src (drop i words)) at out
      unfolding put_at pick
      emit_outside l = rw (next_is, lt-leb (s + n) (length src) l)

      -- the part from s to its end, as the code takes it
      module _ (l : s + n ≤ length src) (b : List ℕ) (eb : b ≡ take (s + n - s) (drop s src)) (r : Bool) (e : r ≡ fitting (judged j f) b) where
        part_is : take n (drop s src) ≡ b
        part_is = sym (eb ∙ ap (λ (k : ℕ). take k (drop s src)) (add-sub_cancel_left s n))

        pub emit_unfit : r ≡ false → broken ≡ put_at (next_field (judged j f) src (drop i words)) at out
        unfolding put_at pick
        emit_unfit t = rw (next_is, le-leb (s + n) (length src) l, part_is, ← e, t)

        pub emit_done : r ≡ true → (next : ℕ) (out' : List ℕ) → Framed (field_bytes f b) at next out out'
            → stands (drop (i + 2) words) next out' ≡ put_at (next_field (judged j f) src (drop i words)) at out
        unfolding put_at pick
        emit_done t next out' w = rw (next_is, le-leb (s + n) (length src) l, part_is, ← e, t, w.next, w.output)

-- ---- what a code stands for, and the layout at a position

module _ (j : Bool) (c : ℕ) (src ws : List ℕ) (at : ℕ) (out : List ℕ) where
  pub from_field : c < 16 → put_at (next_field (judged j (field_of c)) src ws) at out ≡ put_at (item_from j c src ws) at out
  unfolding item_from pick
  from_field h = rw (lt-ltb c 16 h)

  module _ (h : 16 ≤ c) where
    run_is : item_from j c src ws ≡ joined (next_field (judged j (field_of 7)) src ws) (λ b. times_written (be b) (fields_written (judged_all j (layout_at (c - 16))) src))
    unfolding item_from pick
    run_is = rw (le-ltb c 16 h, count_code, judged_count)

    pub from_stop : broken ≡ put_at (next_field (judged j (field_of 7)) src ws) at out → broken ≡ put_at (item_from j c src ws) at out
    from_stop e = rw run_is (stop_from at out (next_field (judged j (field_of 7)) src ws) _ e)

    module _ (small : length out ≤ 65536) (us : List ℕ) (at' : ℕ) (out' : List ℕ) (e : stands us at' out' ≡ put_at (next_field (judged j (field_of 7)) src ws) at out) where
      counted : (b : List ℕ) × (next_field (judged j (field_of 7)) src ws ≡ wrote b us)
          × (put_at (joined (next_field (judged j (field_of 7)) src ws) (λ b. times_written (be b) (fields_written (judged_all j (layout_at (c - 16))) src))) at out
          ≡ put_at (times_written (be b) (fields_written (judged_all j (layout_at (c - 16))) src) us) at' out')
      counted = go_any at out small (next_field (judged j (field_of 7)) src ws) (λ b. times_written (be b) (fields_written (judged_all j (layout_at (c - 16))) src)) us at' out' e

      count_of : Count src ws counted.0 us
      count_of = count_is src ws counted.0 us (rw (count_code, judged_count) at counted.1)

      pub count_some : 0 < length ws
      count_some = count_of.some

      pub count_inside : get_or ws 0 0 + 2 ≤ length src
      count_inside = count_of.inside

      -- a run's count n and its items, whose layout starts at i
      pub from_go : (i n : ℕ) → i ≡ c - 16 → n ≡ be (take 2 (drop (get_or ws 0 0) src)) → put_at (item_from j c src ws) at out ≡ put_at (times_written n (fields_written (judged_all j (layout_at i)) src) us) at' out'
      from_go i n ei en =
          rw (ei, en)
          (ap (λ (w : Written). put_at w at out) run_is
          ∙ counted.2
          ∙ ap (λ (b : List ℕ). put_at (times_written (be b) (fields_written (judged_all j (layout_at (c - 16))) src) us) at' out') count_of.is)

module _ (p c : ℕ) (h : p < 51) (o : c ≡ get_or codes p 0) (j : Bool) (src ws : List ℕ) (at : ℕ) (out : List ℕ) where
  pub from_end : c ≡ 0 → at ≤ 65537 → stands ws at out ≡ put_at (fields_written (judged_all j (layout_at p)) src ws) at out
  unfolding fields_written put_at
  from_end e k = rw (at_end p c h o e, judged_done, add-zero, cap_small at k)

  pub from_item : 0 < c → (16 ≤ c → p < c - 16)
      → put_at (fields_written (judged_all j (layout_at p)) src ws) at out ≡ put_at (joined (item_from j c src ws) (λ b. fields_written (judged_all j (layout_at (p + 1))) src)) at out
  unfolding fields_written item_from pick
  from_item z a =
      ⊎_elim
      (λ (s : c < 16). rw (at_field p c h o z s, judged_one, lt-ltb c 16 s))
      (λ (g : 16 ≤ c). rw (at_run p c h o g (a g), judged_run, le-ltb c 16 g))
      (lt_or_ge c 16)

-- ---- items of a run

module _ (g : List ℕ → Written) (ws : List ℕ) (at : ℕ) (out : List ℕ) where
  pub times_one : (n n' : ℕ) → n ≡ suc n' → put_at (times_written n g ws) at out ≡ put_at (joined (g ws) (λ b. times_written n' g)) at out
  unfolding times_written
  times_one n n' e = rw e

  pub times_none : (n : ℕ) → n ≤ 0 → at ≤ 65537 → stands ws at out ≡ put_at (times_written n g ws) at out
  unfolding times_written put_at
  times_none n h k = let e : n ≡ 0 = omega arith in rw (e, add-zero, cap_small at k)

pub first_word : (list : List ℕ) (i : ℕ) → get_or (drop i list) 0 0 ≡ get_or list i 0
first_word list i = rw (get_or-drop, add-zero)

pub some_left : (list : List ℕ) (i : ℕ) → 0 < length (drop i list) → i < length list
some_left list i h = let g = rw length-drop at h in omega arith
