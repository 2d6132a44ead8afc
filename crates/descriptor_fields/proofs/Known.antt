-- The earlier blocks and the elements, looked through one by one.
use mathlib.Core.Path.{◌≡◌, refl, ap, sym}
use mathlib.Core.Logic.{⊎_elim}
use mathlib.Core.Bool.{true, false}
use mathlib.Core.List.{List, [], ◌∷◌}
use Prim.Native.Nat.{ℕ, zero, suc, ◌+◌, ◌*◌, ◌≤◌, ◌<◌}
use native.Mathlib.Nat.{eq-or-lt_of_le, le_of_suc-le-suc}
use native.Mathlib.Omega.{arith}
use lib.Dec.{ltb}
use lib.ListN.{length, get_or, take, drop}
use borrow.Author.Tests.{lt-ltb, le-ltb}
use Rattle.wire.proofs.Numbers.{be_none, be_more}
use Rattle.descriptor_fields.specs.Fields.{Known, Element, no_block, text_at, named}
use Rattle.descriptor_fields.specs.Arrays.{known_at, known_of, element_at, elements_of}
use Rattle.descriptor_fields.proofs.Tabs.{tab_length, tab_get, any_hit, any_none}
use Rattle.protocol.specs.Numbers.{be, same_bytes}

-- what holds below i and of i holds below the next
pub one_more : (P : ℕ → Type 0) (i : ℕ) → ((j : ℕ) → j < i → P j) → P i → (j : ℕ) → j < i + 1 → P j
one_more P i f p j h =
    ⊎_elim (λ (e : j ≡ i). rw e p) (λ (l : j < i). f j l) (eq-or-lt_of_le (let g : j ≤ i = omega arith in g))

module _ (d a : List ℕ) (n : ℕ) where
  pub known_length : length (known_of d a n) ≡ n
  known_length = tab_length (known_at d a) n

  pub known_in : (i : ℕ) → i < n → ltb i (length (known_of d a n)) ≡ true
  known_in i h = lt-ltb i (length (known_of d a n)) (rw known_length h)

  pub known_out : (i : ℕ) → n ≤ i → ltb i (length (known_of d a n)) ≡ false
  known_out i h = le-ltb i (length (known_of d a n)) (rw known_length h)

  pub known_get : (i : ℕ) → i < n → get_or (known_of d a n) i no_block ≡ known_at d a i
  known_get i h = tab_get (known_at d a) no_block n i h

module _ (d a : List ℕ) (n at : ℕ) where
  pub named_hit : (i name : ℕ) → i < n → name ≡ get_or a (3 * i) 0 → same_bytes (text_at d name) (text_at d at) ≡ true → true ≡ named d (elements_of a n) at
  unfolding named element_at
  named_hit i name h e t = sym (any_hit (λ (x : Element). same_bytes (text_at d x.name) (text_at d at)) (element_at a) n i h (rw e at t))

  pub named_none : (i : ℕ) → n ≤ i → ((j : ℕ) → j < i → same_bytes (text_at d (get_or a (3 * j) 0)) (text_at d at) ≡ false) → false ≡ named d (elements_of a n) at
  unfolding named element_at
  named_none i l f = sym (any_none (λ (x : Element). same_bytes (text_at d x.name) (text_at d at)) (element_at a) n (λ j h. f j (omega arith)))

-- a number of one byte
pub join_one : (r v : ℕ) → r ≡ ((0 * 256 + 0) * 256 + 0) * 256 + v → r ≡ v
join_one r v e = omega arith

pub be_one : (s : List ℕ) (at : ℕ) → at < length s → be (take 1 (drop at s)) ≡ get_or s at 0
be_one s at h =
    let e : get_or s (at + 0) 0 ≡ get_or s at 0 = ap (λ (k : ℕ). get_or s k 0) (let q : at + 0 ≡ at = omega arith in q) in
    omega (arith, be_none s at, be_more s at 0 (omega arith))

-- a block that is not there
pub known_beyond : (d a : List ℕ) (n i : ℕ) → n ≤ i → get_or (known_of d a n) i no_block ≡ no_block
known_beyond d a n i h = get_d_beyond (known_of d a n) i (let l : length (known_of d a n) ≤ i = rw (known_length d a n) h in l)
  where
    get_d_beyond : (l : List Known) (i : ℕ) → length l ≤ i → get_or l i no_block ≡ no_block
    get_d_beyond [] i h = refl
    get_d_beyond (x ∷ xs) zero h = absurd (omega arith)
    get_d_beyond (x ∷ xs) (suc i) h = get_d_beyond xs i (le_of_suc-le-suc h)
