-- What a container's and an element's head can be, with what the tests on the way
-- say: one law each, with the predicate a variable, from which the bounds follow.
use mathlib.Core.Path.{◌≡◌, ap}
use mathlib.Core.Bool.{Bool, true, false}
use mathlib.Core.List.{List, []}
use Prim.Native.Nat.{ℕ, ◌+◌, ◌-◌, ◌^◌, ◌<◌, ◌≤◌}
use native.Mathlib.Omega.{arith}
use lib.Dec.{leb, ltb}
use lib.ListN.{length, get_or}
use borrow.Author.Tests.{ltb-false, leb-false, eqb-false}
use Rattle.std.specs.Prelude.{Result, Ok, Err}
use Rattle.wire.proofs.Picks.{pick_case}
use Rattle.forms.specs.declared.Opening.{Opening}
use Rattle.forms.specs.declared.Head.{Head}
use Rattle.forms.specs.declared.Head.TheVariants.{Present, Absent}
use Rattle.protocol.specs.Numbers.{pick}
use Rattle.protocol.specs.Heads.{word, negative, opening, bounds, dimension, set_opening, count_opening, sparse_opening, range_opening, element_in}
use Rattle.protocol.specs.Heads.{optional, plain_head, object_head, envelope_head, sparse_index, requires, sparse_rest, sparse_head}

-- ---- a container's head

module _ (P : Result Opening ℕ → Type 0) (wrong : (m : ℕ) → P (Err m)) where
  pub set_cases : (s : List ℕ) → (12 ≤ length s → P (Ok (opening 0 0 12)))
      → (20 ≤ length s → 0 < word s 12 → word s 12 < 2 ^ 31 → P (Ok (opening (word s 12) 0 20))) → P (set_opening s)
  unfolding set_opening dimension negative
  set_cases s none some =
      pick_case P _ _ _ (λ _. wrong 20)
      (λ _. pick_case P _ _ _ (λ _. wrong 22)
      (λ _. pick_case P _ _ _ (λ _. wrong 20)
      (λ h. pick_case P _ _ _ (λ _. none (ltb-false _ _ h))
      (λ _. pick_case P _ _ _ (λ _. wrong 20)
      (λ _. pick_case P _ _ _ (λ _. wrong 22)
      (λ z. pick_case P _ _ _ (λ _. wrong 22)
      (λ q. pick_case P _ _ _ (λ _. wrong 20)
      (λ k. pick_case P _ _ _ (λ _. some (ltb-false _ _ k) (positive (word s 12) (eqb-false _ _ z)) (leb-false _ _ q)) (λ _. wrong 22)))))))))
    where
      positive : (n : ℕ) → (n ≡ 0 → ⊥) → 0 < n
      positive n h = omega arith

  pub count_cases : (n : ℕ) (s : List ℕ) → (4 ≤ length s → P (Ok (opening n 0 4))) → P (count_opening n s)
  unfolding count_opening
  count_cases n s good =
      pick_case P _ _ _ (λ _. wrong 20) (λ h. pick_case P _ _ _ (λ _. good (ltb-false _ _ h)) (λ _. wrong 22))

  pub sparse_opening_cases : (s : List ℕ) → (4 ≤ length s → word s 0 < 2 ^ 31 → P (Ok (opening (word s 0) 0 4))) → P (sparse_opening s)
  unfolding sparse_opening negative
  sparse_opening_cases s good =
      pick_case P _ _ _ (λ _. wrong 20)
      (λ h. pick_case P _ _ _ (λ _. wrong 22) (λ k. good (ltb-false _ _ h) (leb-false _ _ k)))

  -- at most two bounds, of which the last is the upper
  pub range_cases : (s : List ℕ) → ((n first : ℕ) → 1 ≤ length s → first + n ≤ 2 → P (Ok (opening n first 1))) → P (range_opening s)
  unfolding range_opening bounds
  range_cases s good =
      pick_case P _ _ _ (λ _. wrong 20)
      (λ h. pick_case P _ _ _
      (λ _. pick_case P _ _ _ (λ _. good 0 0 (ltb-false _ _ h) (omega arith))
      (λ _. pick_case P _ _ _
      (λ _. pick_case P _ _ _ (λ _. good 0 0 (ltb-false _ _ h) (omega arith)) (λ _. good 1 1 (ltb-false _ _ h) (omega arith)))
      (λ _. pick_case P _ _ _ (λ _. good 1 0 (ltb-false _ _ h) (omega arith)) (λ _. good 2 0 (ltb-false _ _ h) (omega arith)))))
      (λ _. wrong 22))

-- ---- an element's head

module _ (P : Result Head ℕ → Type 0) (bad : (m : ℕ) → P (Err m)) where
  pub sized_cases : (s : List ℕ) (i start size : ℕ) → (size < 2 ^ 31 → size ≤ length s - start → P (Ok (Present i start size))) → P (element_in s i start size)
  unfolding element_in negative
  sized_cases s i start size good =
      pick_case P _ _ _ (λ _. bad 23)
      (λ h. pick_case P _ _ _ (λ _. bad 20) (λ fit. good (leb-false _ _ h) (ltb-false _ _ fit)))

  pub optional_cases : (s : List ℕ) (required : Bool) (i start size : ℕ) → (required ≡ false → P (Ok (Absent i start)))
      → (size < 2 ^ 31 → size ≤ length s - start → P (Ok (Present i start size))) → P (optional s required i start size)
  unfolding optional
  optional_cases s required i start size none good =
      pick_case P _ _ _ (λ _. pick_case P _ _ _ (λ _. bad 27) none) (λ _. sized_cases s i start size good)

  pub plain_cases : (s : List ℕ) (gap i at : ℕ)
      → (gap + 4 ≤ length s - at → word s (at + gap) < 2 ^ 31 → word s (at + gap) ≤ length s - (at + gap + 4) → P (Ok (Present i (at + gap + 4) (word s (at + gap)))))
      → P (plain_head s gap i at)
  unfolding plain_head
  plain_cases s gap i at good =
      pick_case P _ _ _ (λ _. bad 20) (λ whole. sized_cases s i (at + gap + 4) (word s (at + gap)) (good (ltb-false _ _ whole)))

  pub object_cases : (s : List ℕ) (required : Bool) (i at : ℕ) → (8 ≤ length s - at → required ≡ false → P (Ok (Absent i (at + 8))))
      → (8 ≤ length s - at → word s (at + 4) < 2 ^ 31 → word s (at + 4) ≤ length s - (at + 8) → P (Ok (Present i (at + 8) (word s (at + 4)))))
      → P (object_head s required i at)
  unfolding object_head
  object_cases s required i at none good =
      pick_case P _ _ _ (λ _. bad 20)
      (λ whole. optional_cases s required i (at + 8) (word s (at + 4)) (none (ltb-false _ _ whole)) (good (ltb-false _ _ whole)))

  pub envelope_cases : (s : List ℕ) (i at : ℕ)
      → (16 ≤ length s - at → word s (at + 12) < 2 ^ 31 → word s (at + 12) ≤ length s - (at + 16) → P (Ok (Present i (at + 16) (word s (at + 12)))))
      → P (envelope_head s i at)
  unfolding envelope_head
  envelope_cases s i at good =
      pick_case P _ _ _ (λ _. bad 20)
      (λ whole. pick_case P _ _ _
      (λ _. pick_case P _ _ _ (λ _. bad 23)
      (λ _. pick_case P _ _ _ (λ _. bad 22)
      (λ _. pick_case P _ _ _ (λ _. sized_cases s i (at + 16) (word s (at + 12)) (good (ltb-false _ _ whole))) (λ _. bad 22))))
      (λ _. bad 22))

-- a sparse element's index
pub index_cases : (P : Result ℕ ℕ → Type 0) (s : List ℕ) (n : ℕ) (marks : List Bool) (at : ℕ) → ((m : ℕ) → P (Err m))
    → (8 ≤ length s - at → word s at < n → get_or marks (word s at) false ≡ false → P (Ok (word s at))) → P (sparse_index s n marks at)
unfolding sparse_index
index_cases P s n marks at bad good =
    pick_case P _ _ _ (λ _. bad 20)
    (λ whole. pick_case P _ _ _ (λ _. bad 25)
    (λ few. pick_case P _ _ _ (λ _. bad 26) (good (ltb-false _ _ whole) (leb-false _ _ few))))

module _ (P : Result Head ℕ → Type 0) (bad : (m : ℕ) → P (Err m)) where
  pub sparse_cases : (s cards : List ℕ) (marks : List Bool) (at : ℕ)
      → (8 ≤ length s - at → word s at < length cards → get_or marks (word s at) false ≡ false → requires (get_or cards (word s at) 0) ≡ false → P (Ok (Absent (word s at) (at + 8))))
      → (8 ≤ length s - at → word s at < length cards → get_or marks (word s at) false ≡ false → word s (at + 4) < 2 ^ 31
      → word s (at + 4) ≤ length s - (at + 8) → P (Ok (Present (word s at) (at + 8) (word s (at + 4)))))
      → P (sparse_head s cards marks at)
  unfolding sparse_head sparse_rest
  sparse_cases s cards marks at none good =
      index_cases (λ x. P (sparse_rest s cards at x)) s (length cards) marks at bad
      (λ whole few new. optional_cases P bad s (requires (get_or cards (word s at) 0)) (word s at) (at + 8) (word s (at + 4)) (none whole few new) (good whole few new))

-- a sparse element's index that was read without the marks, and then looked for among them
module _ (s : List ℕ) (n : ℕ) (marks : List Bool) (at : ℕ) where
  -- the two tests that come before the marks
  abbrev tested : Bool → Bool → Result ℕ ℕ → Result ℕ ℕ
  tested a b r = pick a (Err 20) (pick b (Err 25) r)

  among : (a b : Bool) (w i : ℕ) (m : Bool) → tested a b (Ok w) ≡ Ok i → get_or marks i false ≡ m
      → tested a b (pick (get_or marks w false) (Err 26) (Ok w)) ≡ pick m (Err 26) (Ok i)
  unfolding pick
  among true b w i m e g = let z : ◌≡◌ {A = ℕ} 0 1 = cc in absurd (omega arith)
  among false true w i m e g = let z : ◌≡◌ {A = ℕ} 0 1 = cc in absurd (omega arith)
  among false false w i m e g = let q : w ≡ i = cc in rw (q, g)

  pub index_marked : (i : ℕ) (m : Bool) → sparse_index s n [] at ≡ Ok i → get_or marks i false ≡ m → sparse_index s n marks at ≡ pick m (Err 26) (Ok i)
  unfolding sparse_index pick
  index_marked i m e g = among (ltb (length s - at) 8) (leb n (word s at)) (word s at) i m e g

  before : (a b m : Bool) (w q : ℕ) → tested a b (Ok w) ≡ Err q → tested a b (pick m (Err 26) (Ok w)) ≡ Err q
  unfolding pick
  before true b m w q e = e
  before false true m w q e = e
  before false false m w q e = let z : ◌≡◌ {A = ℕ} 0 1 = cc in absurd (omega arith)

  pub index_bad : (q : ℕ) → sparse_index s n [] at ≡ Err q → sparse_index s n marks at ≡ Err q
  unfolding sparse_index pick
  index_bad q e = before (ltb (length s - at) 8) (leb n (word s at)) (get_or marks (word s at) false) (word s at) q e

-- a sparse element's head, by what its index is
module _ (s cards : List ℕ) (marks : List Bool) (at n : ℕ) where
  pub sparse_bad : sparse_index s (length cards) marks at ≡ Err n → sparse_head s cards marks at ≡ Err n
  unfolding sparse_head sparse_rest
  sparse_bad e = ap (sparse_rest s cards at) e

  pub sparse_known : sparse_index s (length cards) marks at ≡ Ok n
      → sparse_head s cards marks at ≡ optional s (requires (get_or cards n 0)) n (at + 8) (word s (at + 4))
  unfolding sparse_head sparse_rest
  sparse_known e = ap (sparse_rest s cards at) e
