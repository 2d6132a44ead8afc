-- The sizes of fields.
use mathlib.Core.Path.{◌≡◌, ◌∙◌}
use mathlib.Core.List.{List}
use Prim.Native.Nat.{ℕ, ◌≤◌, ◌<◌}
use native.Mathlib.Omega.{arith}
use borrow.Author.Tests.{eq-eqb, ne_eqb, le-leb, lt-leb}
use Rattle.wire.proofs.Picks.{pick_yes, pick_no}
use Rattle.descriptor_fields.specs.Fields.{width_of, extent}

pub extent_id : (d : List ℕ) (c at : ℕ) → c ≡ 1 → extent d c at ≡ 16
unfolding extent
extent_id d c at e = pick_yes _ _ _ (eq-eqb _ _ e)

pub extent_number : (d : List ℕ) (c at : ℕ) → 3 < c → extent d c at ≡ width_of c
unfolding extent
extent_number d c at h = pick_no _ _ _ (ne_eqb _ _ (λ (e : c ≡ 1). omega arith)) ∙ pick_no _ _ _ (lt-leb _ _ h)

pub width_one : (c : ℕ) → c ≤ 7 → width_of c ≡ 1
unfolding width_of
width_one c h = pick_yes _ _ _ (le-leb _ _ h)

pub width_four : (c : ℕ) → 7 < c → c ≤ 10 → width_of c ≡ 4
unfolding width_of
width_four c h g = pick_no _ _ _ (lt-leb _ _ h) ∙ pick_yes _ _ _ (le-leb _ _ g)

pub width_reference : (c : ℕ) → 10 < c → width_of c ≡ 2
unfolding width_of
width_reference c h = let l : 7 < c = omega arith in pick_no _ _ _ (lt-leb _ _ l) ∙ pick_no _ _ _ (lt-leb _ _ h)
