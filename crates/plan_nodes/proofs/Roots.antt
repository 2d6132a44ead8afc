-- A well-formed plan's size and root.
use mathlib.Core.Path.{◌≡◌, refl}
use mathlib.Core.Bool.{Bool, true, false}
use mathlib.Core.List.{List}
use mathlib.Core.Logic.{◌⊎◌, inl, inr, ⊎_elim}
use Prim.Native.Nat.{ℕ, ◌^◌, ◌<◌, ◌≤◌}
use native.Mathlib.Omega.{arith}
use lib.Dec.{eqb, leb}
use lib.ListN.{length, get_or}
use borrow.Author.Tests.{eqb-true, leb-true}
use Rattle.wire.proofs.Picks.{both}
use Rattle.protocol.specs.Numbers.{pick}
use Rattle.protocol.specs.Plans.{without_type, nodes_of, starts_in, plan_formed}
use Rattle.plan_nodes.proofs.Nodes.{at_root, at_low}

none_two : (p : List ℕ) → without_type p ≡ true → (length p ≡ 2) × (get_or p 1 0 ≡ 0)
unfolding without_type
none_two p e =
    let a = both (eqb (length p) 2) (pick (eqb (get_or p 0 0) 2) (eqb (get_or p 1 0) 0) false) e in
    let b = both (eqb (get_or p 0 0) 2) (eqb (get_or p 1 0) 0) a.1 in
    (eqb-true _ 2 a.0, eqb-true _ 0 b.1)

module _ (p : List ℕ) (f : plan_formed p ≡ true) where
  -- its words are two without a type, or as many as the first of them says
  words_of : (length p ≡ 2) ⊎ ((2 ≤ length p) × (get_or p 0 0 ≡ length p))
  unfolding plan_formed pick
  words_of = go (without_type p) refl f
    where
      go : (b : Bool) → without_type p ≡ b
          → pick b true (pick (leb 2 (length p)) (pick (eqb (get_or p 0 0) (length p)) (starts_in (nodes_of p) (get_or p 1 0)) false) false) ≡ true
          → (length p ≡ 2) ⊎ ((2 ≤ length p) × (get_or p 0 0 ≡ length p))
      go true e g = inl (none_two p e).0
      go false e g =
          let h = both (leb 2 (length p)) (pick (eqb (get_or p 0 0) (length p)) (starts_in (nodes_of p) (get_or p 1 0)) false) g in
          inr (leb-true 2 (length p) h.0, eqb-true (get_or p 0 0) (length p) (both (eqb (get_or p 0 0) (length p)) (starts_in (nodes_of p) (get_or p 1 0)) h.1).0)

  pub two : 2 ≤ length p
  two = ⊎_elim (λ e. omega arith) (λ h. h.0) words_of

  pub few_words : ((j : ℕ) → get_or p j 0 < 2 ^ 32) → length p < 2 ^ 32
  few_words w = ⊎_elim (λ e. omega arith) (λ h. omega (arith, h.1, w 0)) words_of

  pub root_none : get_or p 1 0 ≡ 0 → ((j : ℕ) → get_or p j 0 < 2 ^ 32) → without_type p ≡ true
  root_none e w = go (without_type p) refl
    where
      go : (b : Bool) → without_type p ≡ b → without_type p ≡ true
      go true g = g
      go false g = absurd (omega (arith, at_low p (get_or p 1 0) (at_root p f g w)))

  pub root_some : (get_or p 1 0 ≡ 0 → ⊥) → without_type p ≡ false
  root_some n = go (without_type p) refl
    where
      go : (b : Bool) → without_type p ≡ b → without_type p ≡ false
      go true g = absurd (n (none_two p g).1)
      go false g = g
