-- The marks of a sparse object's indexes, one index after the other.
use mathlib.Core.Path.{◌≡◌, refl, ap, sym, ◌∙◌}
use mathlib.Core.Bool.{Bool, true, false, ◌||◌, or-false}
use mathlib.Core.List.{List, [], ◌∷◌, ◌++◌}
use Prim.Native.Nat.{ℕ, ◌+◌, ◌<◌, ◌≤◌}
use native.Mathlib.Omega.{arith}
use native.Mathlib.Numerals.{add-one}
use native.Mathlib.Nat.{zero-add}
use lib.Dec.{leb}
use lib.ListN.{length, get_or, set, length-set, get_or-eq_default}
use lib.Seq.{append_snoc, set_out}
use Rattle.std.specs.Prelude.{Ok, Err, IfOk}
use Rattle.std.proofs.lemmas.Result.{IfOk-at_ok}
use borrow.Author.Tests.{le-leb, lt-leb}
use Rattle.value_heads.specs.Marks.{marked, repeats, after_head, from_index, indexes_in, indexes_apart}
use Rattle.forms.specs.declared.Head.{Head}
use Rattle.forms.specs.declared.Head.TheVariants.{Present, Absent}
use Rattle.value_heads.proofs.Cases.{optional_cases}
use Rattle.value_heads.proofs.Bounds.{known_new}
use Rattle.protocol.specs.Numbers.{pick}
use Rattle.protocol.specs.Heads.{word, optional, sparse_index}

-- ---- an index more

marked_snoc : (marks : List Bool) (is : List ℕ) (i : ℕ) → marked marks (is ++ (i ∷ [])) ≡ set (marked marks is) i true
unfolding marked
marked_snoc marks [] i = refl
marked_snoc marks (j ∷ is) i = marked_snoc (set marks j true) is i

only : (b : Bool) → pick b true false ≡ b
unfolding pick
only true = refl
only false = refl

either_picked : (a b c : Bool) → pick a true (pick b true c) ≡ pick (pick a true b) true c
unfolding pick
either_picked true b c = refl
either_picked false b c = refl

repeats_snoc : (marks : List Bool) (is : List ℕ) (i : ℕ) → repeats marks (is ++ (i ∷ [])) ≡ pick (repeats marks is) true (get_or (marked marks is) i false)
unfolding repeats marked pick
repeats_snoc marks [] i = only (get_or marks i false)
repeats_snoc marks (j ∷ is) i =
    ap (pick (get_or marks j false) true) (repeats_snoc (set marks j true) is i)
    ∙ either_picked (get_or marks j false) (repeats (set marks j true) is) (get_or (marked (set marks j true) is) i false)

-- ---- the loop over the indexes of a stretch

either_turned : (a b c : Bool) → pick a true (pick b true c) ≡ pick (a || b) true c
unfolding pick
either_turned true b c = refl
either_turned false b c = refl

-- what is left of the indexes leads to the same marks
abbrev pub Marking : List Bool → List ℕ → List Bool → Bool → List ℕ → Type 0
Marking marks₀ is marks twice rest =
    (length marks ≡ 512) × (repeats marks₀ is ≡ pick twice true (repeats marks rest)) × (marked marks₀ is ≡ marked marks rest)

pub marking_start : (marks : List Bool) (is : List ℕ) → length marks ≡ 512 → Marking marks is marks false is
unfolding pick
marking_start marks is e = (e, refl, refl)

module _ (marks₀ : List Bool) (is : List ℕ) (marks : List Bool) (twice : Bool) (rest : List ℕ) (m : Marking marks₀ is marks twice rest) where
  -- the next index, which had been given or not
  pub marking_next : (i : ℕ) (next : List ℕ) → rest ≡ i ∷ next → Marking marks₀ is (set marks i true) (twice || get_or marks i false) next
  unfolding repeats marked
  marking_next i next e = (
    length-set marks i true ∙ m.0,
    (rw e at m.1) ∙ either_turned twice (get_or marks i false) (repeats (set marks i true) next),
    rw e at m.2,
  )

  -- an index that has no mark
  pub marking_past : (i : ℕ) (next : List ℕ) → rest ≡ i ∷ next → 512 ≤ i → Marking marks₀ is marks twice next
  unfolding pick
  marking_past i next e h =
      let long : length marks ≤ i = omega (arith, m.0) in
      let none : get_or marks i false ≡ false = get_or-eq_default marks false long in
      rw (set_out marks i true long, none, or-false) at (marking_next i next e)

  pub marking_done : rest ≡ [] → (twice ≡ repeats marks₀ is) × (marks ≡ marked marks₀ is)
  unfolding repeats marked
  marking_done e =
      let r = rw e at m.1 in
      (sym (r ∙ only twice), sym (rw e at m.2))

-- ---- the indexes of a stretch, one more

pub in_none : (s : List ℕ) (m at : ℕ) → m ≡ 0 → indexes_in s m at ≡ []
unfolding indexes_in
in_none s m at z = rw z

-- the next element, by its index
module _ (s : List ℕ) (m r at : ℕ) (z : m ≡ r + 1) where
  in_next : indexes_in s m at ≡ from_index (indexes_in s r) s at (sparse_index s 512 [] at)
  unfolding indexes_in
  in_next = rw (z, add-one)

  pub in_bad : (q : ℕ) → Err q ≡ sparse_index s 512 [] at → indexes_in s m at ≡ []
  unfolding from_index
  in_bad q e = in_next ∙ rw (← e)

  -- and by its head
  module _ (i : ℕ) (e : Ok i ≡ sparse_index s 512 [] at) where
    pub in_refused : (q : ℕ) → Err q ≡ optional s false i (at + 8) (word s (at + 4)) → indexes_in s m at ≡ i ∷ []
    unfolding from_index after_head
    in_refused q eh = in_next ∙ rw (← e, ← eh)

    module _ (h : Head) (eh : Ok h ≡ optional s false i (at + 8) (word s (at + 4))) where
      pub in_absent : (j start : ℕ) → h ≡ Absent j start → indexes_in s m at ≡ i ∷ []
      unfolding from_index after_head
      in_absent j start eq = in_next ∙ rw (← e, ← eh, eq)

      pub in_there : (j start size : ℕ) → h ≡ Present j start size → indexes_in s m at ≡ i ∷ indexes_in s r (start + size)
      unfolding from_index after_head
      in_there j start size eq = in_next ∙ rw (← e, ← eh, eq)

-- an index that is known has a mark, and its head is whole
pub in_whole : (s : List ℕ) (at i : ℕ) → Ok i ≡ sparse_index s 512 [] at → at ≤ length s → (i < 512) × (at + 8 ≤ length s)
in_whole s at i e h = let k = known_new s 512 [] at i (sym e) in (k.0, omega (arith, k.2))

-- an element that is there ends within the bytes
abbrev Ends : ℕ → Head → Type 0
Ends n (Present i start size) = start + size ≤ n
Ends n (Absent i start) = start ≤ n

pub there_inside : (s : List ℕ) (q : Bool) (i from n : ℕ) (h : Head) (j start size : ℕ) → from ≤ length s → Ok h ≡ optional s q i from n → h ≡ Present j start size → start + size ≤ length s
there_inside s q i from n h j start size inside eh e = rw e at (IfOk-at_ok (Ends (length s)) (sym eh)
    (optional_cases (λ r. IfOk r (Ends (length s))) (λ _. tt) s q i from n (λ _. inside) (λ few fits. omega arith)))

module _ (l : List ℕ) (step : ℕ) where
  pub apart_none : (m at : ℕ) → m ≡ 0 → indexes_apart l step m at ≡ []
  unfolding indexes_apart
  apart_none m at z = rw z

  module _ (m r at : ℕ) (z : m ≡ r + 1) where
    apart_next : indexes_apart l step m at ≡ pick (leb (length l) at) [] (get_or l at 0 ∷ indexes_apart l step r (at + step))
    unfolding indexes_apart
    apart_next = rw (z, add-one)

    pub apart_past : length l ≤ at → indexes_apart l step m at ≡ []
    unfolding pick
    apart_past h = apart_next ∙ rw (le-leb (length l) at h)

    pub apart_more : at < length l → indexes_apart l step m at ≡ get_or l at 0 ∷ indexes_apart l step r (at + step)
    unfolding pick
    apart_more h = apart_next ∙ rw (lt-leb (length l) at h)

-- ---- a stretch that grows at its end: whatever comes after it

-- the first n indexes, then those from where the n elements end
abbrev pub Followed : (ℕ → ℕ → List ℕ) → ℕ → ℕ → ℕ → Type 0
Followed f from n at = (r : ℕ) → f (n + r) from ≡ f n from ++ f r at

pub followed_start : (f : ℕ → ℕ → List ℕ) (from : ℕ) → f 0 from ≡ [] → Followed f from 0 from
followed_start f from e r = ap (λ (m : ℕ). f m from) (zero-add r) ∙ ap (λ (t : List ℕ). t ++ f r from) (sym e)

module _ (f : ℕ → ℕ → List ℕ) (from n at : ℕ) (w : Followed f from n at) (i at' : ℕ) (more : (r : ℕ) → f (r + 1) at ≡ i ∷ f r at') (none : f 0 at' ≡ []) where
  last : f (n + 1) from ≡ f n from ++ (i ∷ [])
  last = w 1 ∙ ap (λ (t : List ℕ). f n from ++ t) (more 0 ∙ ap (λ (t : List ℕ). i ∷ t) none)

  pub followed_next : Followed f from (n + 1) at'
  followed_next r =
      let e : n + 1 + r ≡ n + (r + 1) = omega arith in
      ap (λ (m : ℕ). f m from) e ∙ w (r + 1) ∙ ap (λ (t : List ℕ). f n from ++ t) (more r) ∙ sym (append_snoc (f n from) i (f r at')) ∙ ap (λ (t : List ℕ). t ++ f r at') (sym last)

  pub marked_more : (marks : List Bool) → marked marks (f (n + 1) from) ≡ set (marked marks (f n from)) i true
  marked_more marks = rw last (marked_snoc marks (f n from) i)

  pub repeats_more : (marks : List Bool) → repeats marks (f (n + 1) from) ≡ pick (repeats marks (f n from)) true (get_or (marked marks (f n from)) i false)
  repeats_more marks = rw last (repeats_snoc marks (f n from) i)
