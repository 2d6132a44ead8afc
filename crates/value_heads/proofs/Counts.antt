-- The required elements of a sparse object, counted: some is lacking where fewer were given than are needed.
use mathlib.Core.Path.{◌≡◌, refl, sym}
use mathlib.Core.Bool.{Bool, true, false, not}
use mathlib.Core.List.{List}
use mathlib.Core.Logic.{⊎_elim}
use Prim.Native.Nat.{ℕ, zero, suc, ◌+◌, ◌<◌, ◌≤◌}
use native.Mathlib.Nat.{eq-or-lt_of_le, le_of_suc-le-suc}
use native.Mathlib.Decide.{dec_lt}
use native.Mathlib.Numerals.{add-one}
use native.Mathlib.Omega.{arith}
use lib.Dec.{ltb}
use lib.ListN.{length, get_or, set, replicate, length-replicate, get_or-replicate, get_or-eq_default}
use lib.Seq.{get_or-set_same, get_or-set_other}
use borrow.Author.Tests.{ltb-true, ltb-false, lt-ltb, le-ltb}
use Rattle.wire.proofs.Picks.{pick_case}
use Rattle.value_heads.specs.Heads.{needed, given}
use Rattle.protocol.specs.Numbers.{pick}
use Rattle.protocol.specs.Heads.{requires, lacking}

-- ---- how many are required

module _ (cards : List ℕ) where
  pub needed_none : 0 ≡ needed cards 0
  unfolding needed
  needed_none = refl

  pub needed_next : (n : ℕ) → needed cards n + pick (requires (get_or cards n 0)) 1 0 ≡ needed cards (n + 1)
  unfolding needed
  needed_next n = rw add-one

  pub needed_most : (n : ℕ) → needed cards n ≤ n
  unfolding needed
  needed_most zero = omega arith
  needed_most (suc n) =
      pick_case (λ m. needed cards n + m ≤ suc n) (requires (get_or cards n 0)) 1 0
      (λ _. omega (arith, needed_most n)) (λ _. omega (arith, needed_most n))

-- ---- how many of them were given

-- one more cardinality, required or not, of an element that was given or not
one_more : (r m : Bool) (g w : ℕ) → g ≤ w → g + pick r (pick m 1 0) 0 ≤ w + pick r 1 0
unfolding pick
one_more true true g w l = omega arith
one_more true false g w l = omega arith
one_more false m g w l = omega arith

fewer : (b r m : Bool) (g w : ℕ) → g ≤ w → b ≡ ltb g w → pick b true (pick r (not m) false) ≡ ltb (g + pick r (pick m 1 0) 0) (w + pick r 1 0)
unfolding pick
fewer true r m g w l e = let h : g < w = ltb-true g w (sym e) in sym (lt-ltb (g + pick r (pick m 1 0) 0) (w + pick r 1 0) (omega (arith, one_more r m (suc g) w h)))
fewer false true true g w l e = let h : w ≤ g = ltb-false g w (sym e) in sym (le-ltb (g + 1) (w + 1) (omega arith))
fewer false true false g w l e = sym (lt-ltb (g + 0) (w + 1) (omega arith))
fewer false false m g w l e = let h : w ≤ g = ltb-false g w (sym e) in sym (le-ltb (g + 0) (w + 0) (omega arith))

raised : (r : Bool) (g : ℕ) → g + pick r (pick false 1 0) 0 + pick r 1 0 ≡ g + pick r (pick true 1 0) 0
unfolding pick
raised true g = omega arith
raised false g = omega arith

module _ (cards : List ℕ) where
  pub given_most : (marks : List Bool) (n : ℕ) → given cards marks n ≤ needed cards n
  unfolding given needed
  given_most marks zero = omega arith
  given_most marks (suc n) = one_more (requires (get_or cards n 0)) (get_or marks n false) _ _ (given_most marks n)

  -- a required index was not given (R5.14) where fewer of them were given than there are
  pub lacking_fewer : (marks : List Bool) (n : ℕ) → lacking cards marks n ≡ ltb (given cards marks n) (needed cards n)
  unfolding lacking given needed
  lacking_fewer marks zero = refl
  lacking_fewer marks (suc n) =
      fewer (lacking cards marks n) (requires (get_or cards n 0)) (get_or marks n false) _ _ (given_most marks n) (lacking_fewer marks n)

  -- before any was given
  no_mark : (k i : ℕ) → get_or (replicate k false) i false ≡ false
  no_mark k i =
      elim (dec_lt i k) [
        | yes l ↦ get_or-replicate k i false false l
        | no l ↦ get_or-eq_default (replicate k false) false (rw (length-replicate k false) (omega arith))
      ]

  pub given_none : (k n : ℕ) → given cards (replicate k false) n ≡ 0
  unfolding given pick
  given_none k zero = refl
  given_none k (suc n) = rw (given_none k n, no_mark k n) (pick_case (λ m. 0 + m ≡ 0) (requires (get_or cards n 0)) 0 0 (λ _. refl) (λ _. refl))

  -- an element is given that was not given before
  module _ (marks : List Bool) (i : ℕ) where
    unmoved : (n : ℕ) → n ≤ i → given cards (set marks i true) n ≡ given cards marks n
    unfolding given
    unmoved zero l = refl
    unmoved (suc n) l = rw (unmoved n (omega arith), get_or-set_other marks i n true false (λ (e : n ≡ i). omega arith))

    module _ (inside : i < length marks) (new : get_or marks i false ≡ false) where
      pub given_next : (n : ℕ) → i < n → given cards marks n + pick (requires (get_or cards i 0)) 1 0 ≡ given cards (set marks i true) n
      unfolding given
      given_next zero l = absurd (omega arith)
      given_next (suc n) l =
          ⊎_elim
          (λ (e : i ≡ n). rw (← e, new, get_or-set_same marks i true false inside, unmoved i (omega arith)) (raised (requires (get_or cards i 0)) (given cards marks i)))
          (λ (x : i < n).
          rw (get_or-set_other marks i n true false (λ (e : n ≡ i). omega arith))
          (omega (arith, given_next n x)))
          (eq-or-lt_of_le (le_of_suc-le-suc l))
