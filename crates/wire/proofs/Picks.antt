-- The laws of a choice by a test.
use mathlib.Core.Path.{◌≡◌, refl}
use mathlib.Core.Logic.{◌⊎◌, inl, inr}
use mathlib.Core.Bool.{Bool, true, false}
use Prim.Native.Nat.{ℕ}
use native.Mathlib.Omega.{arith}
use lib.Dec.{eqb}
use borrow.Author.Tests.{eqb-true, eqb-false}
use Rattle.protocol.specs.Numbers.{pick}

-- nothing is both
pub clash : {A : Type 0} → false ≡ true → A
clash e = let z : ◌≡◌ {A = ℕ} 0 1 = cc in absurd (omega arith)

module _ {A : Type 0} (t : Bool) (a b : A) where
  pub pick_yes : t ≡ true → pick t a b ≡ a
  unfolding pick
  pick_yes e = rw e

  pub pick_no : t ≡ false → pick t a b ≡ b
  unfolding pick
  pick_no e = rw e

-- what holds of each choice, where the test picks it, holds of the one picked
pub pick_case : {A : Type 0} (P : A → Type 0) (t : Bool) (a b : A) → (t ≡ true → P a) → (t ≡ false → P b) → P (pick t a b)
unfolding pick
pick_case P true a b f g = f refl
pick_case P false a b f g = g refl

-- which choice was picked
pub pick_split : {A : Type 0} (t : Bool) (a b c : A) → pick t a b ≡ c → ((t ≡ true) × (a ≡ c)) ⊎ ((t ≡ false) × (b ≡ c))
unfolding pick
pick_split true a b c e = inl (refl, e)
pick_split false a b c e = inr (refl, e)

-- both tests of a pair that passes
pub both : (t b : Bool) → pick t b false ≡ true → (t ≡ true) × (b ≡ true)
unfolding pick
both true b e = (refl, e)
both false b e = clash e

pub same_or_not : (m n : ℕ) → (m ≡ n) ⊎ (m ≡ n → ⊥)
same_or_not m n = go (eqb m n) refl
  where
    go : (t : Bool) → eqb m n ≡ t → (m ≡ n) ⊎ (m ≡ n → ⊥)
    go true e = inl (eqb-true m n e)
    go false e = inr (eqb-false m n e)
