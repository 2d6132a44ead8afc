-- The laws of a length that stops growing past the largest message.
use mathlib.Core.Path.{◌≡◌, sym, ◌∙◌}
use mathlib.Core.List.{List}
use mathlib.Core.Logic.{⊎_elim}
use Prim.Native.Nat.{ℕ, ◌+◌, ◌<◌, ◌≤◌, min}
use native.Mathlib.Omega.{arith}
use lib.ListN.{length}
use lib.Seq.{sets}
use borrow.Author.Tests.{lt-ltb, le-ltb}
use Rattle.wire.proofs.Stores.{sets_out}
use Rattle.message_layout.proofs.Codes.{lt_or_ge}
use Rattle.message_write.specs.Emitting.{cap}
use Rattle.protocol.specs.Numbers.{pick}

pub cap_small : (n : ℕ) → n ≤ 65537 → cap n ≡ n
unfolding cap pick
cap_small n h = rw (le-ltb 65537 n h)

pub cap_large : (n : ℕ) → 65537 < n → cap n ≡ 65537
unfolding cap pick
cap_large n h = rw (lt-ltb 65537 n h)

-- the length as the code bounds it
pub cap_min : (n : ℕ) → min 65537 n ≡ cap n
cap_min n = ⊎_elim (λ (h : 65537 < n). sym (cap_large n h ∙ omega arith)) (λ (h : n ≤ 65537). sym (cap_small n h ∙ omega arith)) (lt_or_ge 65537 n)

pub cap_most : (n : ℕ) → cap n ≤ 65537
cap_most n = ⊎_elim (λ (h : 65537 < n). omega (arith, cap_large n h)) (λ (h : n ≤ 65537). omega (arith, cap_small n h)) (lt_or_ge 65537 n)

-- a length that is no larger than the largest message is the length itself
pub cap_exact : (n : ℕ) → cap n ≤ 65536 → cap n ≡ n
cap_exact n k = ⊎_elim (λ (h : 65537 < n). absurd (omega (arith, cap_large n h))) (λ (h : n ≤ 65537). cap_small n h) (lt_or_ge 65537 n)

pub cap_add : (a b : ℕ) → cap (cap a + b) ≡ cap (a + b)
cap_add a b =
    ⊎_elim
    (λ (h : 65537 < a). rw (cap_large a h) (large b ∙ sym (cap_large (a + b) (omega arith))))
    (λ (h : a ≤ 65537). rw (cap_small a h))
    (lt_or_ge 65537 a)
  where
    large : (k : ℕ) → cap (65537 + k) ≡ 65537
    large k =
        ⊎_elim (λ (h : 65537 < 65537 + k). cap_large (65537 + k) h) (λ (h : 65537 + k ≤ 65537). cap_small (65537 + k) h ∙ omega arith) (lt_or_ge 65537 (65537 + k))

-- a store past the end does nothing, wherever the length stopped
pub cap_sets : (l : List ℕ) (k : ℕ) (vs : List ℕ) → length l ≤ 65536 → sets l (cap k) vs ≡ sets l k vs
cap_sets l k vs h =
    ⊎_elim
    (λ (g : 65537 < k). rw (cap_large k g) (sets_out l 65537 vs (omega arith) ∙ sym (sets_out l k vs (omega arith))))
    (λ (g : k ≤ 65537). rw (cap_small k g))
    (lt_or_ge 65537 k)
