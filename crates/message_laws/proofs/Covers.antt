-- Bytes that begin with a message have its parts.
use mathlib.Core.Path.{◌≡◌, refl, ap, sym, ◌∙◌}
use mathlib.Core.List.{List, [], ◌∷◌}
use Prim.Native.Nat.{ℕ, zero, suc, ◌+◌, ◌≤◌}
use native.Mathlib.Omega.{arith}
use lib.ListN.{length, take, drop, length-take}
use lib.Seq.{take-take}

-- a part of the first k elements
pub part_take : (s : List ℕ) (k p n : ℕ) → p + n ≤ k → take n (drop p (take k s)) ≡ take n (drop p s)
part_take s k zero n h = take-take n k s (omega arith)
part_take s zero (suc p) n h = absurd (omega arith)
part_take [] (suc k) (suc p) n h = refl
part_take (x ∷ s) (suc k) (suc p) n h = part_take s k p n (omega arith)

-- every part of m is that part of s
pub record Covers (s m : List ℕ) : Type 0 where
  pub long : length m ≤ length s
  pub part : (p n : ℕ) → p + n ≤ length m → take n (drop p s) ≡ take n (drop p m)

pub covers_itself : (m : List ℕ) → Covers m m
covers_itself m = record { long = omega arith; part = λ p n h. refl }

-- s begins with m
pub covers : (s m : List ℕ) → take (length m) s ≡ m → Covers s m
covers s m e =
    record {
      long = omega (arith, ap length e, length-take (length m) s);
      part = λ p n h. sym (part_take s (length m) p n h) ∙ ap (λ (x : List ℕ). take n (drop p x)) e;
    }
