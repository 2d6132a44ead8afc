-- The laws of one field at a position: numbers by their codes, content after a length, text.
use mathlib.Core.Path.{◌≡◌, refl, ap, sym, ◌∙◌}
use mathlib.Core.Bool.{Bool, true, false}
use mathlib.Core.List.{List}
use Prim.Native.Nat.{ℕ, ◌+◌, ◌-◌, ◌<◌, ◌≤◌}
use native.Mathlib.Omega.{arith}
use native.Mathlib.Nat.{add-sub_cancel_left}
use lib.ListN.{length, take, drop}
use borrow.Author.Tests.{le-leb, lt-leb}
use native.Mathlib.Decide.{dec_lt}
use Rattle.message_layout.specs.Judged.{judged}
use Rattle.message_layout.specs.Tables.{field_of, width_of, values_of}
use Rattle.message_layout.proofs.Rules.{text_code, bytes_code, number_code}
use Rattle.forms.specs.declared.Span.{Span}
use Rattle.std.specs.Prelude.{Ok, Err}
use Rattle.protocol.specs.Numbers.{pick, be}
use Rattle.protocol.specs.Text.{well_formed}
use Rattle.protocol.specs.Messages.{text, bytes, permits, span, lengthened, textual, field_at}

-- ---- a number field, by its code's width and values

module _ (m : List ℕ) (c at n : ℕ) (h : 2 < c) (en : n ≡ width_of c) where
  pub number_short : (j : Bool) → length m < at + n → Err 4 ≡ field_at (judged j (field_of c)) m at
  unfolding field_at judged pick
  number_short true l = rw (number_code c h, ← en, lt-leb _ _ l)
  number_short false l = rw (number_code c h, ← en, lt-leb _ _ l)

  module _ (w : at + n ≤ length m) (j : Bool) where
    module _ (b : Bool) (e : b ≡ permits (values_of c) (be (take (width_of c) (drop at m)))) (ej : j ≡ true) where
      judged_is : field_at (judged j (field_of c)) m at ≡ pick b (Ok (span at n)) (Err 6)
      unfolding field_at judged pick
      judged_is = rw (ej, number_code c h, ← e, ← en, le-leb _ _ w)

      pub number_good : b ≡ true → Ok (span at n) ≡ field_at (judged j (field_of c)) m at
      unfolding pick
      number_good t = sym (judged_is ∙ rw t)

      pub number_bad : b ≡ false → Err 6 ≡ field_at (judged j (field_of c)) m at
      unfolding pick
      number_bad t = sym (judged_is ∙ rw t)

    pub number_any : j ≡ false → Ok (span at n) ≡ field_at (judged j (field_of c)) m at
    unfolding field_at judged permits pick
    number_any ej = rw (ej, number_code c h, ← en, le-leb _ _ w)

-- ---- content after a length

module _ (m : List ℕ) (at : ℕ) where
  pub head_short_lem : length m < at + 4 → Err 4 ≡ lengthened m at
  unfolding lengthened pick
  head_short_lem l = rw (lt-leb _ _ l)

  module _ (n : ℕ) (e : n ≡ be (take 4 (drop at m))) (w : at + 4 ≤ length m) where
    pub content_short : length m < at + 4 + n → Err 4 ≡ lengthened m at
    unfolding lengthened pick
    content_short l = rw (← e, le-leb _ _ w, lt-leb _ _ l)

    pub content_whole : at + 4 + n ≤ length m → Ok (span (at + 4) n) ≡ lengthened m at
    unfolding lengthened pick
    content_whole l = rw (← e, le-leb _ _ w, le-leb _ _ l)

-- ---- text and bytes by their codes

module _ (m : List ℕ) (c at : ℕ) (j : Bool) where
  pub bytes_are : c ≡ 2 → lengthened m at ≡ field_at (judged j (field_of c)) m at
  unfolding field_at judged
  bytes_are e = rw (bytes_code c e) (go j)
    where
      go : (i : Bool) → lengthened m at ≡ field_at (judged i bytes) m at
      go true = refl
      go false = refl

  -- what is not whole is refused, whatever it is
  pub content_refused : (n : ℕ) → 0 < c → c ≤ 2 → Err n ≡ lengthened m at → Err n ≡ field_at (judged j (field_of c)) m at
  unfolding field_at judged textual
  content_refused n z h e = elim (dec_lt c 2) [ yes l ↦ rw (text_code c (omega arith)) (go j) | no g ↦ rw (bytes_code c (omega arith)) (to j) ]
    where
      go : (i : Bool) → Err n ≡ field_at (judged i text) m at
      go true = rw (← e)
      go false = rw (← e)

      to : (i : Bool) → Err n ≡ field_at (judged i bytes) m at
      to true = rw (← e)
      to false = rw (← e)

  -- content that is not judged
  pub content_taken : 0 < c → c ≤ 2 → j ≡ false → lengthened m at ≡ field_at (judged j (field_of c)) m at
  unfolding field_at judged
  content_taken z h e =
      rw e (elim (dec_lt c 2) [ yes l ↦ rw (text_code c (omega arith)) | no g ↦ rw (bytes_code c (omega arith)) ])

  -- text that is judged
  module _ (t : c ≡ 1) (x : Span) (q : Ok x ≡ lengthened m at) (e : j ≡ true) (r : Bool) (w : r ≡ well_formed (take (x.start + x.len - x.start) (drop x.start m))) where
    rule : field_at (judged j (field_of c)) m at ≡ pick r (Ok x) (Err 6)
    unfolding field_at judged textual
    rule =
        rw (e, text_code c t, ← q)
        (ap (λ (k : ℕ). pick (well_formed (take k (drop x.start m))) (Ok x) (Err 6)) (sym (add-sub_cancel_left x.start x.len))
        ∙ ap (λ (b : Bool). pick b (Ok x) (Err 6)) (sym w))

    pub text_good : r ≡ true → Ok x ≡ field_at (judged j (field_of c)) m at
    unfolding pick
    text_good g = sym (rule ∙ ap (λ (b : Bool). pick b (Ok x) (Err 6)) g)

    pub text_bad : r ≡ false → Err 6 ≡ field_at (judged j (field_of c)) m at
    unfolding pick
    text_bad g = sym (rule ∙ ap (λ (b : Bool). pick b (Ok x) (Err 6)) g)
