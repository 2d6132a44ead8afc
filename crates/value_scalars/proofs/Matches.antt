-- What a `match` on a number says in its arms, as tests that antt computes.
use mathlib.Core.Path.{◌≡◌, refl, sym, subst}
use mathlib.Core.Bool.{Bool, true, false}
use mathlib.Core.List.{List, [], ◌∷◌}
use mathlib.Core.Logic.{inl, inr}
use Prim.Native.Nat.{ℕ, ◌<◌}
use lib.Dec.{T}
use mir.Val.{has_key}
use types.Run.{OneOf, hit}
use Rattle.wire.proofs.Picks.{clash, both}
use Rattle.wire.proofs.Tables.{each, each_below}
use Rattle.protocol.specs.Numbers.{pick}

-- a test of each key of an arm
abbrev pub every : (ℕ → Bool) → List ℕ → Bool
every f [] = true
every f (k ∷ ks) = pick (f k) (every f ks) false

-- what passes at each key passes in the arm
pub in_arm : (f : ℕ → Bool) (ks : List ℕ) → every f ks ≡ true → (x : ℕ) → OneOf ks x → f x ≡ true
in_arm f [] t x o = absurd o
in_arm f (k ∷ []) t x o = subst (λ (y : ℕ). f y ≡ true) (sym o) (both (f k) true t).0
in_arm f (k ∷ j ∷ ks) t x (inl o) = subst (λ (y : ℕ). f y ≡ true) (sym o) (both (f k) (every f (j ∷ ks)) t).0
in_arm f (k ∷ j ∷ ks) t x (inr o) = in_arm f (j ∷ ks) (both (f k) (every f (j ∷ ks)) t).1 x o

-- the last arm: the number is no key of those before it, of which the last stands first
abbrev pub NoneOf : List (List ℕ) → ℕ → Type 0
NoneOf [] x = Unit {0}
NoneOf (ks ∷ kss) x = NoneOf kss x × (OneOf ks x → ⊥)

abbrev pub any_has : List (List ℕ) → ℕ → Bool
any_has [] x = false
any_has (ks ∷ kss) x = pick (has_key ks x) true (any_has kss x)

none_has : (kss : List (List ℕ)) (x : ℕ) → NoneOf kss x → any_has kss x ≡ false
unfolding pick
none_has [] x n = refl
none_has (ks ∷ kss) x n = go (has_key ks x) refl (none_has kss x n.0)
  where
    go : (t : Bool) → has_key ks x ≡ t → any_has kss x ≡ false → pick t true (any_has kss x) ≡ false
    go true e o = absurd (n.1 (hit ks x (subst T (sym e) tt)))
    go false e o = o

-- what passes at each number below n that is no such key passes there
pub in_rest : (f : ℕ → Bool) (kss : List (List ℕ)) (n : ℕ) → each (λ k. pick (any_has kss k) true (f k)) 0 n ≡ true → (x : ℕ) → x < n → NoneOf kss x → f x ≡ true
unfolding pick
in_rest f kss n t x h o = go (any_has kss x) (none_has kss x o) (each_below (λ k. pick (any_has kss k) true (f k)) n t x h)
  where
    go : (b : Bool) → b ≡ false → pick b true (f x) ≡ true → f x ≡ true
    go true e p = clash (sym e)
    go false e p = p
