-- The laws of an element's head, by the kind of its container.
use mathlib.Core.Path.{◌≡◌, refl}
use mathlib.Core.Bool.{Bool, true, false, not}
use mathlib.Core.List.{List, ◌++◌}
use mathlib.Core.Logic.{◌⊎◌, inl, inr}
use Prim.Native.Nat.{ℕ, ◌+◌, ◌≤◌}
use native.Mathlib.Omega.{arith}
use lib.Dec.{eqb}
use lib.ListN.{length, get_or, length-append}
use lib.Seq.{sets}
use borrow.Author.Tests.{ne_eqb}
use Rattle.wire.proofs.Numbers.{length_bytes}
use Rattle.wire.proofs.Picks.{clash}
use Rattle.value_parts.specs.Walk.{Container}
use Rattle.supply_entries.specs.Emitting.{head_of, head_size, with_kind}
use Rattle.supply_entries.proofs.Stores.{put_eight}
use Rattle.value_parts.proofs.Containers.{by_kind}
use Rattle.protocol.specs.Numbers.{pick, bytes_be}
use Rattle.protocol.specs.Heads.{requires}
use Rattle.protocol.specs.Plans.{look, cards_at}
use Rattle.protocol.specs.Supplies.{zeros}
use Rattle.protocol.specs.Building.{head_bytes, may_lack}

-- ---- as the code puts it

-- of the kinds that no arm of a match names
module _ (kind : ℕ) (n₃ : kind ≡ 3 → ⊥) where
  pub size_other : ((kind ≡ 2) ⊎ (kind ≡ 7) → ⊥) → 8 ≡ head_size kind
  unfolding head_size pick
  size_other n = rw (ne_eqb kind 3 n₃, ne_eqb kind 2 (λ e. n (inl e)), ne_eqb kind 7 (λ e. n (inr e)))

  pub head_other : (kind ≡ 6 → ⊥) → ((kind ≡ 2) ⊎ (kind ≡ 7) → ⊥) → (i n at : ℕ) (l l' : List ℕ) → l' ≡ sets l at (bytes_be 4 0 ++ bytes_be 4 n) → l' ≡ sets l at (head_of kind i n)
  unfolding head_of pick bytes_be with_kind head_bytes
  head_other n₆ n i size at l l' f =
      rw (ne_eqb kind 3 n₃, ne_eqb kind 6 n₆, ne_eqb kind 2 (λ e. n (inl e)), ne_eqb kind 7 (λ e. n (inr e))) f

pub head_envelope : (i n at : ℕ) (l l' l'' : List ℕ) → l'' ≡ sets l at (bytes_be 4 (12 + n) ++ bytes_be 4 1) → l' ≡ sets l'' (at + 8) (bytes_be 4 0 ++ bytes_be 4 n)
    → l' ≡ sets l at (head_of 3 i n)
unfolding head_of pick bytes_be with_kind head_bytes
head_envelope i n at l l' l'' f g = put_eight l l'' l' at (12 + n) 1 (bytes_be 4 0 ++ bytes_be 4 n) f g

-- ---- as the definition has it

module _ (p : List ℕ) (k kind : ℕ) (c : Container p k kind) (i n : ℕ) where
  pub head_is : head_of kind i n ≡ head_bytes (look p k) i n
  unfolding head_of head_bytes pick with_kind
  head_is = by_kind p k kind c (λ m v. head_of m i n ≡ head_bytes v i n) refl refl refl refl refl refl

  pair : (a b : ℕ) → length (bytes_be 4 a ++ bytes_be 4 b) ≡ 8
  pair a b = omega (arith, length-append (bytes_be 4 a) (bytes_be 4 b), length_bytes 4 a, length_bytes 4 b)

  reserved : length (zeros 4 ++ bytes_be 4 n) ≡ 8
  reserved = omega (arith, length-append (zeros 4) (bytes_be 4 n), length_bytes 4 n)

  envelope : length (bytes_be 4 (12 + n) ++ (bytes_be 4 1 ++ (zeros 4 ++ bytes_be 4 n))) ≡ 16
  envelope =
      omega (
        arith,
        length-append (bytes_be 4 (12 + n)) (bytes_be 4 1 ++ (zeros 4 ++ bytes_be 4 n)),
        length-append (bytes_be 4 1) (zeros 4 ++ bytes_be 4 n),
        length_bytes 4 (12 + n),
        length_bytes 4 1,
        reserved,
      )

  pub head_length : length (head_bytes (look p k) i n) ≡ head_size kind
  unfolding head_bytes head_size pick
  head_length =
      by_kind p k kind c (λ m v. length (head_bytes v i n) ≡ head_size m) (length_bytes 4 n) envelope reserved reserved (pair i n) (length_bytes 4 n)

-- a head has from 4 to 16 bytes
size_between : (kind : ℕ) → (4 ≤ head_size kind) × (head_size kind ≤ 16)
unfolding head_size pick
size_between kind = go (eqb kind 3) (eqb kind 2) (eqb kind 7)
  where
    go : (a b c : Bool) → (4 ≤ pick a 16 (pick b 4 (pick c 4 8))) × (pick a 16 (pick b 4 (pick c 4 8)) ≤ 16)
    go true b c = (omega arith, omega arith)
    go false true c = (omega arith, omega arith)
    go false false true = (omega arith, omega arith)
    go false false false = (omega arith, omega arith)

pub size_some : (kind : ℕ) → 4 ≤ head_size kind
size_some kind = (size_between kind).0

pub size_few : (kind : ℕ) → head_size kind ≤ 16
size_few kind = (size_between kind).1

-- ---- an element that may be absent

module _ (p : List ℕ) (k kind : ℕ) (c : Container p k kind) (i : ℕ) where
  pub may_lack_lem : 5 ≤ kind → kind ≤ 6 → (card : ℕ) → card ≡ get_or (cards_at p k) i 0 → (b : Bool) → b ≡ requires card → not b ≡ may_lack (look p k) i
  unfolding may_lack
  may_lack_lem low high card ec b eb = by_kind p k kind c (λ m v. 5 ≤ m → m ≤ 6 → not b ≡ may_lack v i)
      (λ x y. absurd (omega arith))
      (λ x y. absurd (omega arith))
      (λ x y. absurd (omega arith))
      (λ x y. rw (eb, ec))
      (λ x y. rw (eb, ec))
      (λ x y. absurd (omega arith))
      low high

  pub never_lacks : (kind ≡ 5 → ⊥) → (kind ≡ 6 → ⊥) → false ≡ may_lack (look p k) i
  unfolding may_lack
  never_lacks n₅ n₆ =
      by_kind p k kind c (λ m v. (m ≡ 5 → ⊥) → (m ≡ 6 → ⊥) → false ≡ may_lack v i) (λ x y. refl) (λ x y. refl) (λ x y. refl) (λ x y. absurd (x refl)) (λ x y. absurd (y refl)) (λ x y. refl) n₅ n₆

  -- its head has eight bytes
  pub lack_size : may_lack (look p k) i ≡ true → (head_size kind ≡ 8) × (kind ≡ 3 → ⊥)
  unfolding may_lack head_size pick
  lack_size = by_kind p k kind c (λ m v. may_lack v i ≡ true → (head_size m ≡ 8) × (m ≡ 3 → ⊥))
      clash clash clash (λ _. (refl, λ e. omega arith)) (λ _. (refl, λ e. omega arith)) clash
