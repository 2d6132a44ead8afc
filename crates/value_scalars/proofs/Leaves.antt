-- The laws of the formats with a short rule of their own: bool, duration, json.
use mathlib.Core.Path.{◌≡◌, refl, ap, ◌∙◌}
use mathlib.Core.Bool.{false}
use mathlib.Core.List.{List, [], ◌∷◌}
use Prim.Native.Nat.{ℕ, ◌-◌, ◌≤◌}
use native.Mathlib.Omega.{arith}
use lib.Dec.{eqb, ltb}
use lib.ListN.{length, take, drop, get_or, length-drop}
use lib.Seq.{take_all}
use borrow.Author.Tests.{eq-eqb, ne_eqb}
use Rattle.value_scalars.proofs.Parts.{to_end}
use Rattle.protocol.specs.Numbers.{pick, be, be_from}
use Rattle.protocol.specs.Text.{well_formed}
use Rattle.protocol.specs.Scalars.{of_size, boolean, duration, json}

-- ---- bool

-- one byte is its own number
be_one : (v : List ℕ) → length v ≡ 1 → be v ≡ get_or v 0 0
unfolding be be_from
be_one [] h = absurd (omega arith)
be_one (b ∷ []) h = omega arith
be_one (b ∷ c ∷ s) h = absurd (omega arith)

module _ (v : List ℕ) where
  pub boolean_length : (length v ≡ 1 → ⊥) → false ≡ boolean v
  unfolding boolean of_size pick
  boolean_length h = rw (ne_eqb (length v) 1 h)

  pub boolean_is : length v ≡ 1 → ltb (get_or v 0 0) 2 ≡ boolean v
  unfolding boolean of_size pick
  boolean_is h = rw (eq-eqb (length v) 1 h, be_one v h)

  -- ---- duration

  pub duration_length : (length v ≡ 16 → ⊥) → false ≡ duration v
  unfolding duration of_size pick
  duration_length h = rw (ne_eqb (length v) 16 h)

  pub duration_is : (n : ℕ) → length v ≡ 16 → n ≡ be (take 8 (drop 8 v)) → eqb n 0 ≡ duration v
  unfolding duration of_size pick
  duration_is n h e =
      let l : length (drop 8 v) ≤ 8 = rw length-drop (omega arith) in
      rw (eq-eqb (length v) 16 h, e, take_all 8 (drop 8 v) l)

-- ---- json

pub json_none : (v : List ℕ) → length v ≡ 0 → false ≡ json v
unfolding json
json_none [] h = refl
json_none (b ∷ s) h = absurd (omega arith)

module _ (b : ℕ) (s : List ℕ) where
  other : (b ≡ 1 → ⊥) → false ≡ json (b ∷ s)
  unfolding json pick
  other h = rw (ne_eqb b 1 h)

  text : b ≡ 1 → well_formed s ≡ json (b ∷ s)
  unfolding json pick
  text h = rw (eq-eqb b 1 h)

pub json_other : (v : List ℕ) → (length v ≡ 0 → ⊥) → (get_or v 0 0 ≡ 1 → ⊥) → false ≡ json v
json_other [] h g = absurd (h refl)
json_other (b ∷ s) h g = other b s g

pub json_text : (v : List ℕ) → (length v ≡ 0 → ⊥) → get_or v 0 0 ≡ 1 → well_formed (take (length v - 1) (drop 1 v)) ≡ json v
json_text [] h g = absurd (h refl)
json_text (b ∷ s) h g = ap well_formed (to_end 1 (b ∷ s)) ∙ text b s g
