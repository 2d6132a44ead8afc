-- Where the heads lead: inside the container's bytes and onwards, at least as far as a head is long; and which element they are of.
use mathlib.Core.Path.{◌≡◌, refl}
use mathlib.Core.Bool.{Bool, false}
use mathlib.Core.Logic.{◌⊎◌, inl, inr}
use mathlib.Core.List.{List}
use Prim.Native.Nat.{ℕ, ◌+◌, ◌-◌, ◌^◌, ◌<◌, ◌≤◌}
use native.Mathlib.Omega.{arith}
use lib.ListN.{length, get_or}
use Rattle.std.specs.Prelude.{Ok, IfOk}
use Rattle.std.proofs.lemmas.Result.{IfOk-at_ok}
use Rattle.value_heads.specs.Heads.{Inside}
use Rattle.value_heads.specs.Bounds.{Opened, From, Indexed, Fresh}
use Rattle.forms.specs.declared.Opening.{Opening}
use Rattle.forms.specs.declared.Head.{Head}
use Rattle.forms.specs.declared.Head.TheVariants.{Present, Absent}
use Rattle.value_heads.proofs.Cases.{set_cases, count_cases, sparse_opening_cases, range_cases, optional_cases, plain_cases, object_cases, envelope_cases, index_cases, sparse_cases}
use Rattle.protocol.specs.Heads.{set_opening, count_opening, sparse_opening, range_opening, optional, plain_head, object_head, envelope_head, sparse_index, sparse_head, end_of}

-- ---- a container's head

module _ (s : List ℕ) where
  pub set_inside : IfOk (set_opening s) (Opened (length s))
  set_inside = set_cases (λ r. IfOk r (Opened (length s))) (λ _. tt) s (λ h. (omega arith, h)) (λ h _ _. (omega arith, omega arith))

  pub count_inside : (n : ℕ) → IfOk (count_opening n s) (Opened (length s))
  count_inside n = count_cases (λ r. IfOk r (Opened (length s))) (λ _. tt) n s (λ h. (omega arith, h))

  pub sparse_opening_inside : IfOk (sparse_opening s) (Opened (length s))
  sparse_opening_inside = sparse_opening_cases (λ r. IfOk r (Opened (length s))) (λ _. tt) s (λ h _. (omega arith, h))

  pub range_inside : IfOk (range_opening s) (Opened (length s))
  range_inside = range_cases (λ r. IfOk r (Opened (length s))) (λ _. tt) s (λ _ _ h _. (omega arith, h))

-- ---- what an accepted head of each container says: the number of elements, the index of the first, and where it stands

abbrev SetOpened : List ℕ → Opening → Type 0
SetOpened s o = (o.count < 2 ^ 31) × (o.first ≡ 0) × (o.at ≤ length s) × (((o.count ≡ 0) × (o.at ≡ 12)) ⊎ ((1 ≤ o.count) × (o.at ≡ 20)))

pub set_opened : (s : List ℕ) (o : Opening) → set_opening s ≡ Ok o
    → (o.count < 2 ^ 31) × (o.first ≡ 0) × (o.at ≤ length s) × (((o.count ≡ 0) × (o.at ≡ 12)) ⊎ ((1 ≤ o.count) × (o.at ≡ 20)))
set_opened s o e = IfOk-at_ok (SetOpened s) e
    (set_cases (λ r. IfOk r (SetOpened s)) (λ _. tt) s
    (λ h. (omega arith, refl, h, inl (refl, refl)))
    (λ h some few. (few, refl, h, inr (some, refl))))

pub count_opened : (n : ℕ) (s : List ℕ) (o : Opening) → count_opening n s ≡ Ok o → (o.count ≡ n) × (o.first ≡ 0) × (o.at ≡ 4) × (4 ≤ length s)
count_opened n s o e = IfOk-at_ok (λ (x : Opening). (x.count ≡ n) × (x.first ≡ 0) × (x.at ≡ 4) × (4 ≤ length s)) e
    (count_cases (λ r. IfOk r (λ x. (x.count ≡ n) × (x.first ≡ 0) × (x.at ≡ 4) × (4 ≤ length s))) (λ _. tt) n s
    (λ h. (refl, refl, refl, h)))

pub sparse_opened : (s : List ℕ) (o : Opening) → sparse_opening s ≡ Ok o → (o.count < 2 ^ 31) × (o.first ≡ 0) × (o.at ≡ 4) × (4 ≤ length s)
sparse_opened s o e = IfOk-at_ok (λ (x : Opening). (x.count < 2 ^ 31) × (x.first ≡ 0) × (x.at ≡ 4) × (4 ≤ length s)) e
    (sparse_opening_cases (λ r. IfOk r (λ x. (x.count < 2 ^ 31) × (x.first ≡ 0) × (x.at ≡ 4) × (4 ≤ length s))) (λ _. tt) s
    (λ h few. (few, refl, refl, h)))

pub range_opened : (s : List ℕ) (o : Opening) → range_opening s ≡ Ok o → (o.first + o.count ≤ 2) × (o.at ≡ 1) × (1 ≤ length s)
range_opened s o e = IfOk-at_ok (λ (x : Opening). (x.first + x.count ≤ 2) × (x.at ≡ 1) × (1 ≤ length s)) e
    (range_cases (λ r. IfOk r (λ x. (x.first + x.count ≤ 2) × (x.at ≡ 1) × (1 ≤ length s))) (λ _. tt) s
    (λ m f h two. (two, refl, h)))

-- ---- an element of a set, an array, a range or a tuple

module _ (s : List ℕ) (gap i at : ℕ) where
  pub plain_inside : at ≤ length s → IfOk (plain_head s gap i at) (Inside (length s) at)
  unfolding Inside
  plain_inside h = plain_cases (λ r. IfOk r (Inside (length s) at)) (λ _. tt) s gap i at (λ whole _ fit. (omega arith, omega arith))

  -- the reserved bytes and the length
  pub plain_from_gap : IfOk (plain_head s gap i at) (From (at + gap + 4))
  unfolding From
  plain_from_gap = plain_cases (λ r. IfOk r (From (at + gap + 4))) (λ _. tt) s gap i at (λ _ _ _. omega arith)

  pub plain_from_lem : IfOk (plain_head s gap i at) (From (at + 4))
  unfolding From
  plain_from_lem = plain_cases (λ r. IfOk r (From (at + 4))) (λ _. tt) s gap i at (λ _ _ _. omega arith)

  pub plain_index : IfOk (plain_head s gap i at) (Indexed i)
  unfolding Indexed
  plain_index = plain_cases (λ r. IfOk r (Indexed i)) (λ _. tt) s gap i at (λ _ _ _. refl)

-- ---- an element of an object

module _ (s : List ℕ) (required : Bool) (i at : ℕ) where
  pub object_inside : at ≤ length s → IfOk (object_head s required i at) (Inside (length s) at)
  unfolding Inside
  object_inside h =
      object_cases (λ r. IfOk r (Inside (length s) at)) (λ _. tt) s required i at (λ whole _. (omega arith, omega arith)) (λ whole _ fit. (omega arith, omega arith))

  pub object_from : IfOk (object_head s required i at) (From (at + 8))
  unfolding From
  object_from = object_cases (λ r. IfOk r (From (at + 8))) (λ _. tt) s required i at (λ _ _. omega arith) (λ _ _ _. omega arith)

  pub object_index : IfOk (object_head s required i at) (Indexed i)
  unfolding Indexed
  object_index = object_cases (λ r. IfOk r (Indexed i)) (λ _. tt) s required i at (λ _ _. refl) (λ _ _ _. refl)

-- ---- an element of a set of arrays

module _ (s : List ℕ) (i at : ℕ) where
  pub envelope_inside : at ≤ length s → IfOk (envelope_head s i at) (Inside (length s) at)
  unfolding Inside
  envelope_inside h = envelope_cases (λ r. IfOk r (Inside (length s) at)) (λ _. tt) s i at (λ whole _ fit. (omega arith, omega arith))

  pub envelope_from : IfOk (envelope_head s i at) (From (at + 16))
  unfolding From
  envelope_from = envelope_cases (λ r. IfOk r (From (at + 16))) (λ _. tt) s i at (λ _ _ _. omega arith)

  pub envelope_index : IfOk (envelope_head s i at) (Indexed i)
  unfolding Indexed
  envelope_index = envelope_cases (λ r. IfOk r (Indexed i)) (λ _. tt) s i at (λ _ _ _. refl)

-- ---- an element of a sparse object

pub optional_index : (s : List ℕ) (r : Bool) (i start size : ℕ) → IfOk (optional s r i start size) (Indexed i)
unfolding Indexed
optional_index s r i start size = optional_cases (λ r. IfOk r (Indexed i)) (λ _. tt) s r i start size (λ _. refl) (λ _ _. refl)

module _ (s cards : List ℕ) (marks : List Bool) (at : ℕ) where
  pub sparse_inside : at ≤ length s → IfOk (sparse_head s cards marks at) (Inside (length s) at)
  unfolding Inside
  sparse_inside h =
      sparse_cases (λ r. IfOk r (Inside (length s) at)) (λ _. tt) s cards marks at
      (λ whole _ _ _. (omega arith, omega arith)) (λ whole _ _ _ fit. (omega arith, omega arith))

  pub sparse_from_lem : IfOk (sparse_head s cards marks at) (From (at + 8))
  unfolding From
  sparse_from_lem = sparse_cases (λ r. IfOk r (From (at + 8))) (λ _. tt) s cards marks at (λ _ _ _ _. omega arith) (λ _ _ _ _ _. omega arith)

  -- the index is known and new
  pub sparse_index_below : IfOk (sparse_head s cards marks at) (Fresh (length cards) marks)
  unfolding Fresh
  sparse_index_below =
      sparse_cases (λ r. IfOk r (Fresh (length cards) marks)) (λ _. tt) s cards marks at (λ _ few new _. (few, new)) (λ _ few new _ _. (few, new))

-- an index that is known is below the number of cardinalities and new, and the head is whole
pub known_new : (s : List ℕ) (n : ℕ) (marks : List Bool) (at i : ℕ) → sparse_index s n marks at ≡ Ok i
    → (i < n) × (get_or marks i false ≡ false) × (8 ≤ length s - at)
known_new s n marks at i e =
    IfOk-at_ok (λ (j : ℕ). (j < n) × (get_or marks j false ≡ false) × (8 ≤ length s - at)) e
    (index_cases (λ r. IfOk r (λ j. (j < n) × (get_or marks j false ≡ false) × (8 ≤ length s - at))) s n marks at (λ _. tt)
    (λ whole few new. (few, new, whole)))

-- ---- any head that leads inside n bytes, after `at`

pub inside_end : (n at : ℕ) (h : Head) → Inside n at h → end_of (Ok h) ≤ n
unfolding Inside end_of
inside_end n at (Present i start size) p = p.1
inside_end n at (Absent i start) p = p.1

-- where the head ends at k or later, so does the element
pub from_end : (k : ℕ) (h : Head) → From k h → k ≤ end_of (Ok h)
unfolding From end_of
from_end k (Present i start size) p = omega arith
from_end k (Absent i start) p = p

pub present_size : (n at : ℕ) (h : Head) → Inside n at h → (i start size : ℕ) → h ≡ Present i start size → (at < start) × (start + size ≤ n) × (size ≤ n)
unfolding Inside
present_size n at h p i start size e = let q = rw e at p in (q.0, q.1, omega arith)

pub absent_place : (n at : ℕ) (h : Head) → Inside n at h → (i start : ℕ) → h ≡ Absent i start → (at < start) × (start ≤ n)
unfolding Inside
absent_place n at h p i start e = rw e at p
