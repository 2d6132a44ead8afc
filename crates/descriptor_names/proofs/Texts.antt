-- The content of texts, and runs of bytes that are the same.
use mathlib.Core.Path.{◌≡◌, refl, ap, sym}
use mathlib.Core.Bool.{Bool, true, false, ◌&&◌}
use mathlib.Core.List.{List, [], ◌∷◌}
use Prim.Native.Nat.{ℕ, zero, suc, ◌+◌, ◌-◌, ◌≤◌, ◌<◌}
use native.Mathlib.Omega.{arith}
use Rattle.std.specs.Prelude.{min}
use Rattle.std.proofs.lemmas.List.{take_min}
use native.Mathlib.Numerals.{add-one}
use lib.Dec.{eqb}
use lib.ListN.{length, take, drop, get_or, length-drop, drop_of_length-le}
use lib.Seq.{take_all, take-nil, drop-cons}
use borrow.Author.Tests.{ne_eqb}
use Rattle.descriptor_fields.specs.Fields.{text_at}
use Rattle.protocol.specs.Numbers.{pick, be, same_bytes}

module _ (d : List ℕ) (at : ℕ) where
  pub text_none : length d < at + 4 → [] ≡ text_at d at
  unfolding text_at
  text_none h = rw (drop_of_length-le d {i = at + 4} (omega arith)) (sym (take-nil (be (take 4 (drop at d)))))

  -- as much of it as is there
  pub text_cut : (size m : ℕ) → size ≡ be (take 4 (drop at d)) → m ≡ min size (length (take (length d - (at + 4)) (drop (at + 4) d)))
      → take m (take (length d - (at + 4)) (drop (at + 4) d)) ≡ text_at d at
  unfolding text_at
  text_cut size m e f =
      let n : length (drop (at + 4) d) ≡ length d - (at + 4) = length-drop (at + 4) d in
      rw (f, take_min size (take (length d - (at + 4)) (drop (at + 4) d)), take_all (length d - (at + 4)) (drop (at + 4) d) (omega arith), e)

-- ---- runs of bytes

pick_same : {A : Type 0} (t : Bool) (a : A) → pick t a a ≡ a
unfolding pick
pick_same true a = refl
pick_same false a = refl

pub unlike_lengths : (a b : List ℕ) → (length a ≡ length b → ⊥) → same_bytes a b ≡ false
unfolding same_bytes
unlike_lengths [] [] n = absurd (n refl)
unlike_lengths [] (y ∷ ys) n = refl
unlike_lengths (x ∷ xs) [] n = refl
unlike_lengths (x ∷ xs) (y ∷ ys) n = rw (unlike_lengths xs ys (λ e. n (ap suc e))) (pick_same (eqb x y) false)

-- a byte in which they differ
pub unlike_byte : (a b : List ℕ) (i : ℕ) → i < length a → (get_or a i 0 ≡ get_or b i 0 → ⊥) → same_bytes a b ≡ false
unfolding same_bytes pick
unlike_byte [] b i h n = absurd (omega arith)
unlike_byte (x ∷ xs) [] i h n = refl
unlike_byte (x ∷ xs) (y ∷ ys) zero h n = rw (ne_eqb x y n)
unlike_byte (x ∷ xs) (y ∷ ys) (suc i) h n = rw (unlike_byte xs ys i (omega arith) n) (pick_same (eqb x y) false)

module _ (a b : List ℕ) (i : ℕ) (h : i < length a) (g : i < length b) where
  step : same_bytes (drop i a) (drop i b) ≡ pick (eqb (get_or a i 0) (get_or b i 0)) (same_bytes (drop (i + 1) a) (drop (i + 1) b)) false
  unfolding same_bytes
  step = rw (add-one, drop-cons a i 0 h, drop-cons b i 0 g)

  -- one byte more, with whether all before it were the same
  pub same_next : (t : Bool) → pick t (same_bytes (drop i a) (drop i b)) false ≡ pick (t && eqb (get_or a i 0) (get_or b i 0)) (same_bytes (drop (i + 1) a) (drop (i + 1) b)) false
  unfolding pick
  same_next true = step
  same_next false = refl

-- no byte is left
pub same_end : (a b : List ℕ) (i : ℕ) → length a ≤ i → length b ≤ i → (t : Bool) → pick t (same_bytes (drop i a) (drop i b)) false ≡ t
unfolding same_bytes pick
same_end a b i h g true = rw (drop_of_length-le a {i = i} h, drop_of_length-le b {i = i} g)
same_end a b i h g false = refl
