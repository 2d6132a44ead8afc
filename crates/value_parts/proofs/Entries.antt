-- The words of an entry, stored one after the other.
use mathlib.Core.Path.{◌≡◌}
use mathlib.Core.List.{List, [], ◌∷◌}
use Prim.Native.Nat.{ℕ, ◌+◌}
use native.Mathlib.Numerals.{towards_suc}
use lib.ListN.{set, length-set}
use lib.Seq.{sets}

pub five : (l l₁ l₂ l₃ l₄ l₅ : List ℕ) (at a b c d e : ℕ) → l₁ ≡ set l at a → l₂ ≡ set l₁ (at + 1) b → l₃ ≡ set l₂ (at + 2) c → l₄ ≡ set l₃ (at + 3) d
    → l₅ ≡ set l₄ (at + 4) e → l₅ ≡ sets l at (a ∷ b ∷ c ∷ d ∷ e ∷ [])
five l l₁ l₂ l₃ l₄ l₅ at a b c d e x₁ x₂ x₃ x₄ x₅ = rw (x₅, x₄, x₃, x₂, x₁) (simp towards_suc)

-- a store changes no length
pub ruleset kept_length = (length-set)
