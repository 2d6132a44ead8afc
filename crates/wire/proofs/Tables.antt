-- A test that passes at each number of a range, which antt computes, and so passes at any of them.
use mathlib.Core.Path.{◌≡◌, subst}
use mathlib.Core.Bool.{Bool, true, false}
use mathlib.Core.Logic.{⊎_elim}
use Prim.Native.Nat.{ℕ, zero, suc, ◌+◌, ◌<◌, ◌≤◌}
use native.Mathlib.Omega.{arith}
use native.Mathlib.Nat.{eq-or-lt_of_le}
use Rattle.wire.proofs.Picks.{clash, both}
use Rattle.protocol.specs.Numbers.{pick}

-- the n numbers from l
abbrev pub each : (ℕ → Bool) → ℕ → ℕ → Bool
each f l zero = true
each f l (suc n) = pick (f l) (each f (suc l) n) false

pub each_at : (f : ℕ → Bool) (l n : ℕ) → each f l n ≡ true → (k : ℕ) → l ≤ k → k < l + n → f k ≡ true
each_at f l zero t k p q = absurd (omega arith)
each_at f l (suc n) t k p q =
    ⊎_elim
    (λ (e : l ≡ k). subst (λ (j : ℕ). f j ≡ true) e (both (f l) (each f (suc l) n) t).0)
    (λ (g : l < k). each_at f (suc l) n (both (f l) (each f (suc l) n) t).1 k (omega arith) (omega arith))
    (eq-or-lt_of_le p)

-- the numbers below n
pub each_below : (f : ℕ → Bool) (n : ℕ) → each f 0 n ≡ true → (k : ℕ) → k < n → f k ≡ true
each_below f n t k h = each_at f 0 n t k (omega arith) (omega arith)

-- a test that is asked only where another passes
asked : (a b : Bool) → pick a b true ≡ true → a ≡ true → b ≡ true
unfolding pick
asked true b t e = t
asked false b t e = clash e

pub where_below : (f g : ℕ → Bool) (n : ℕ) → each (λ k. pick (f k) (g k) true) 0 n ≡ true → (k : ℕ) → k < n → f k ≡ true → g k ≡ true
where_below f g n t k h = asked (f k) (g k) (each_below (λ k. pick (f k) (g k) true) n t k h)
