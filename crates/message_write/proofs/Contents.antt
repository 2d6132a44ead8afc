-- The laws of a field's content: whether it fits, and how it is put out.
use mathlib.Core.Path.{◌≡◌, refl, ap, sym, ◌∙◌}
use mathlib.Core.Bool.{Bool, true, false}
use mathlib.Core.List.{List, [], ◌∷◌, ◌++◌, append-nil}
use mathlib.Core.Logic.{◌⊎◌, inl, inr, ⊎_elim}
use Prim.Native.Nat.{ℕ, ◌+◌, ◌<◌, ◌≤◌}
use native.Mathlib.Omega.{arith}
use native.Mathlib.Nat.{eq-or-lt_of_le}
use lib.ListN.{length, take, drop, length-append}
use lib.Seq.{sets, sets-eq, take-length}
use borrow.Author.Tests.{eq-eqb, ne_eqb}
use Rattle.wire.proofs.Numbers.{length_bytes}
use Rattle.wire.proofs.Stores.{sets_append}
use Rattle.message_layout.specs.Judged.{judged}
use Rattle.message_layout.specs.Tables.{field_of, width_of, values_of}
use Rattle.message_layout.proofs.Rules.{text_code, bytes_code, number_code}
use Rattle.message_write.specs.Emitting.{cap, Framed}
use Rattle.protocol.specs.Numbers.{pick, be, bytes_be}
use Rattle.protocol.specs.Text.{well_formed}
use Rattle.protocol.specs.Messages.{Field, number, text, bytes, permits, fitting, field_bytes}

-- ---- whether content fits

module _ (c : ℕ) (b : List ℕ) (j : Bool) where
  module _ (n : ℕ) (h : 2 < c) (en : n ≡ width_of c) where
    pub wrong_width : (length b ≡ n → ⊥) → false ≡ fitting (judged j (field_of c)) b
    unfolding fitting judged pick
    wrong_width f = go j
      where
        go : (i : Bool) → false ≡ fitting (judged i (field_of c)) b
        go true = rw (number_code c h, ← en, ne_eqb (length b) n f)
        go false = rw (number_code c h, ← en, ne_eqb (length b) n f)

    module _ (e : length b ≡ n) where
      pub right_value : (r : Bool) → j ≡ true → r ≡ permits (values_of c) (be (take (width_of c) (drop 0 b))) → r ≡ fitting (judged j (field_of c)) b
      unfolding fitting judged pick
      right_value r ej f =
          let k : take (width_of c) b ≡ b = ap (λ (i : ℕ). take i b) (sym (e ∙ en)) ∙ take-length b in
          f ∙ rw (ej, number_code c h, ← en, eq-eqb (length b) n e) (ap (λ (l : List ℕ). permits (values_of c) (be l)) (rw (← en) at k))

      pub any_value : j ≡ false → true ≡ fitting (judged j (field_of c)) b
      unfolding fitting judged permits pick
      any_value ej = rw (ej, number_code c h, ← en, eq-eqb (length b) n e)

  pub bytes_fit : c ≡ 2 → true ≡ fitting (judged j (field_of c)) b
  unfolding fitting judged
  bytes_fit e = rw (bytes_code c e) (go j)
    where
      go : (i : Bool) → true ≡ fitting (judged i bytes) b
      go true = refl
      go false = refl

  module _ (z : 0 < c) (s : c ≤ 2) (n : c ≡ 2 → ⊥) where
    is_text : field_of c ≡ text
    is_text = text_code c (omega (arith, n))

    pub text_fits : (r : Bool) → j ≡ true → r ≡ well_formed b → r ≡ fitting (judged j (field_of c)) b
    unfolding fitting judged
    text_fits r e w = rw (e, is_text) w

  -- bytes, or content that is not judged
  pub content_any : 0 < c → c ≤ 2 → (c ≡ 2) ⊎ ((c ≡ 2 → ⊥) × (j ≡ false)) → true ≡ fitting (judged j (field_of c)) b
  unfolding fitting judged
  content_any z s (inl e) = bytes_fit e
  content_any z s (inr (n, e)) = rw (e, is_text z s n)

-- ---- how content is put out

-- whether content is judged or not, it is put out alike
pub framed_judged : (j : Bool) (f : Field) (b : List ℕ) → field_bytes (judged j f) b ≡ field_bytes f b
unfolding field_bytes judged
framed_judged true f b = refl
framed_judged false (number w vs) b = refl
framed_judged false text b = refl
framed_judged false bytes b = refl

framed_of : (c : ℕ) (b : List ℕ) → 0 < c → c ≤ 2 → field_bytes (field_of c) b ≡ bytes_be 4 (length b) ++ b
unfolding field_bytes
framed_of c b p q =
    ⊎_elim
    (λ (e : c ≡ 2). rw (bytes_code c e))
    (λ (l : c < 2). rw (text_code c (omega arith)))
    (eq-or-lt_of_le q)

-- four bytes stored in an array of four
head_is : (v : ℕ) → sets (0 ∷ 0 ∷ 0 ∷ 0 ∷ []) 0 (bytes_be 4 v) ≡ bytes_be 4 v
head_is v =
    let e : 0 + length (bytes_be 4 v) ≡ 4 = omega (arith, length_bytes 4 v) in
    sets-eq (bytes_be 4 v) (0 ∷ 0 ∷ 0 ∷ 0 ∷ []) 0 (omega arith)
    ∙ ap (λ (k : ℕ). bytes_be 4 v ++ drop k (0 ∷ 0 ∷ 0 ∷ 0 ∷ [])) e
    ∙ append-nil (bytes_be 4 v)

module _ (c at : ℕ) (b out : List ℕ) (r : ℕ) where
  pub framed_number : (out' : List ℕ) → 2 < c → r ≡ cap (at + length b) → out' ≡ sets out at b → Framed (field_bytes (field_of c) b) at r out out'
  unfolding field_bytes
  framed_number out' g er e = rw (number_code c g) (record { next = er; output = e })

  pub framed_content : (head out₁ out' : List ℕ) → 0 < c → c ≤ 2 → r ≡ cap (at + 4 + length b) → head ≡ sets (0 ∷ 0 ∷ 0 ∷ 0 ∷ []) 0 (bytes_be 4 (length b))
      → out₁ ≡ sets out at head → out' ≡ sets out₁ (at + 4) b → Framed (field_bytes (field_of c) b) at r out out'
  framed_content head out₁ out' p q er e f g =
      rw (framed_of c b p q)
      (record {
        next = er ∙ ap cap (omega (arith, length-append (bytes_be 4 (length b)) b, length_bytes 4 (length b)));
        output =
            g
            ∙ ap (λ (l : List ℕ). sets l (at + 4) b) (f ∙ ap (sets out at) (e ∙ head_is (length b)))
            ∙ ap (λ (k : ℕ). sets (sets out at (bytes_be 4 (length b))) (at + k) b) (sym (length_bytes 4 (length b)))
            ∙ sets_append out at (bytes_be 4 (length b)) b;
      })
