-- The laws of the first values of a function, as a list.
use mathlib.Core.Path.{◌≡◌, refl, ap, sym, ◌∙◌}
use mathlib.Core.Logic.{⊎_elim}
use mathlib.Core.Bool.{Bool, true, false}
use mathlib.Core.List.{List, [], ◌∷◌, ◌++◌}
use Prim.Native.Nat.{ℕ, zero, suc, ◌<◌}
use native.Mathlib.Nat.{eq-or-lt_of_le, le_of_suc-le-suc}
use native.Mathlib.Numerals.{add-one}
use native.Mathlib.Omega.{arith}
use lib.ListN.{length, get_or, length-append, get_or-append}
use lib.Seq.{get_or-append_seam}
use Rattle.descriptor_fields.specs.Arrays.{tab}
use Rattle.protocol.specs.Numbers.{pick, any}

module _ {A : Type 0} where
  pub tab_length : (g : ℕ → A) (n : ℕ) → length (tab g n) ≡ n
  unfolding tab
  tab_length g zero = refl
  tab_length g (suc n) = rw (length-append, tab_length g n) (add-one n)

  pub tab_get : (g : ℕ → A) (z : A) (n i : ℕ) → i < n → get_or (tab g n) i z ≡ g i
  unfolding tab
  tab_get g z zero i h = absurd (omega arith)
  tab_get g z (suc n) i h =
      ⊎_elim
      (λ (e : i ≡ n). rw e (ap (λ (k : ℕ). get_or (tab g n ++ (g n ∷ [])) k z) (sym (tab_length g n)) ∙ get_or-append_seam (tab g n) (g n) [] z))
      (λ (l : i < n). get_or-append (tab g n) (g n ∷ []) z i (rw (tab_length g n) l) ∙ tab_get g z n i l)
      (eq-or-lt_of_le (le_of_suc-le-suc h))

  pub tab_same : (g h : ℕ → A) (n : ℕ) → ((i : ℕ) → i < n → g i ≡ h i) → tab g n ≡ tab h n
  unfolding tab
  tab_same g h zero e = refl
  tab_same g h (suc n) e = rw (tab_same g h n (λ i l. e i (omega arith)), e n (omega arith))

  module _ (f : A → Bool) where
    any_snoc : (xs : List A) (x : A) → any f (xs ++ (x ∷ [])) ≡ pick (any f xs) true (f x)
    unfolding any pick
    any_snoc [] x = last (f x)
      where
        last : (b : Bool) → pick b true false ≡ pick false true b
        last true = refl
        last false = refl
    any_snoc (y ∷ xs) x = rest (f y) (any_snoc xs x)
      where
        rest : (b : Bool) → any f (xs ++ (x ∷ [])) ≡ pick (any f xs) true (f x) → pick b true (any f (xs ++ (x ∷ []))) ≡ pick (pick b true (any f xs)) true (f x)
        rest true e = refl
        rest false e = e

    -- one that passes
    pub any_hit : (g : ℕ → A) (n i : ℕ) → i < n → f (g i) ≡ true → any f (tab g n) ≡ true
    unfolding tab pick
    any_hit g zero i h e = absurd (omega arith)
    any_hit g (suc n) i h e =
        any_snoc (tab g n) (g n)
        ∙ ⊎_elim
        (λ (q : i ≡ n). rw (rw q at e) (late (any f (tab g n))))
        (λ (l : i < n). rw (any_hit g n i l e))
        (eq-or-lt_of_le (le_of_suc-le-suc h))
      where
        late : (b : Bool) → pick b true true ≡ true
        late true = refl
        late false = refl

    -- none that passes
    pub any_none : (g : ℕ → A) (n : ℕ) → ((i : ℕ) → i < n → f (g i) ≡ false) → any f (tab g n) ≡ false
    unfolding tab pick any
    any_none g zero e = refl
    any_none g (suc n) e = any_snoc (tab g n) (g n) ∙ rw (any_none g n (λ i l. e i (omega arith)), e n (omega arith))
