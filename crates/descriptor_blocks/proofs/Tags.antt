-- The known tags one by one, and what their fields say of a block's elements: of which
-- kind they are, whether a cardinality is read before each, and how many there are.
use mathlib.Core.Path.{◌≡◌, refl, sym, ◌∙◌}
use mathlib.Core.Logic.{⊎_elim}
use mathlib.Core.Bool.{Bool, true, false}
use mathlib.Core.List.{List, [], ◌∷◌}
use Prim.Native.Nat.{ℕ, suc, ◌+◌, ◌*◌, ◌≤◌}
use native.Mathlib.Omega.{arith}
use lib.Dec.{leb, ltb, eqb}
use borrow.Author.Tests.{le-ltb, lt-leb, ne_eqb, eqb-true}
use Rattle.wire.proofs.Picks.{clash, both, pick_yes, pick_no, pick_case, same_or_not}
use Rattle.descriptor_fields.specs.Layouts.{CARDINALITY, ELEMENT, SET_ELEMENT, ARRAY_ELEMENT, RANGE_ELEMENT, layout, known_tag, indexed, valued}
use Rattle.protocol.specs.Numbers.{pick}

-- ---- the tags

-- what holds of each known tag holds of a tag that is known
pub known_cases : (P : ℕ → Type 0) → P 0 → P 1 → P 3 → P 4 → P 5 → P 6 → P 7 → P 8 → P 9 → P 10 → P 11 → P 13 → P 127 → (tag : ℕ) → known_tag tag ≡ true → P tag
unfolding known_tag pick
known_cases P p0 p1 p3 p4 p5 p6 p7 p8 p9 p10 p11 p13 p127 tag k =
    is 0 (omega arith) p0
    (λ l. is 1 l p1
    (λ l. ⊎_elim (λ (e : tag ≡ 2). clash (rw e at k))
    (λ n. is 3 (omega arith) p3
    (λ l. is 4 l p4
    (λ l. is 5 l p5
    (λ l. is 6 l p6
    (λ l. is 7 l p7
    (λ l. is 8 l p8
    (λ l. is 9 l p9
    (λ l. is 10 l p10
    (λ l. is 11 l p11
    (λ l. ⊎_elim (λ (e : tag ≡ 12). clash (rw e at k))
    (λ n. is 13 (omega arith) p13 last)
    (same_or_not tag 12)))))))))))
    (same_or_not tag 2)))
  where
    is : (n : ℕ) → n ≤ tag → P n → (suc n ≤ tag → P tag) → P tag
    is n l p f = ⊎_elim (λ (e : tag ≡ n). rw e p) (λ (e : tag ≡ n → ⊥). f (omega arith)) (same_or_not tag n)

    last : 14 ≤ tag → P tag
    last l =
        let t : eqb tag 127 ≡ true =
        sym
        (pick_no _ _ _ (lt-leb tag 1 (omega arith)) ∙ pick_no _ _ _ (le-ltb tag 3 (omega arith)) ∙ pick_no _ _ _ (lt-leb tag 11 (omega arith))
        ∙ pick_no _ _ _ (ne_eqb tag 13 (λ (e : tag ≡ 13). omega arith)))
        ∙ k
        in
        let e : tag ≡ 127 = eqb-true tag 127 t in
        rw e p127

-- and of a tag with an index and values
pub valued_cases : (P : ℕ → Type 0) → P 0 → P 1 → P 3 → P 4 → P 5 → P 6 → P 7 → P 8 → P 9 → (tag : ℕ) → known_tag tag ≡ true → indexed tag ≡ true → valued tag ≡ true → P tag
unfolding indexed valued pick
valued_cases P p0 p1 p3 p4 p5 p6 p7 p8 p9 =
    known_cases (λ tag. indexed tag ≡ true → valued tag ≡ true → P tag)
    (λ i v. p0) (λ i v. p1) (λ i v. p3) (λ i v. p4) (λ i v. p5) (λ i v. p6) (λ i v. p7) (λ i v. p8) (λ i v. p9) (λ i v. clash v) (λ i v. clash v) (λ i v. clash v)
    (λ i v. clash i)

-- ---- the elements of a block with a tag

-- the kind of field that refers to one
unfoldable pub element_kind : ℕ → ℕ
element_kind tag = pick (eqb tag 0) SET_ELEMENT (pick (eqb tag 6) ARRAY_ELEMENT (pick (eqb tag 9) RANGE_ELEMENT ELEMENT))

-- whether a block with a tag may be one (R3.11)
unfoldable pub suited : ℕ → ℕ → Bool
suited c kind =
    pick (eqb c ELEMENT) (valued kind)
    (pick (eqb c SET_ELEMENT) (pick (eqb kind 0) false (valued kind))
    (pick (eqb c ARRAY_ELEMENT) (pick (eqb kind 0) false (pick (eqb kind 6) false (valued kind))) (eqb kind 3)))

-- it has values then
pub suited_valued : (c kind : ℕ) → suited c kind ≡ true → valued kind ≡ true
unfolding suited valued pick
suited_valued c kind =
    let P : Bool → Type 0 = λ b. b ≡ true → valued kind ≡ true in
    pick_case P (eqb c ELEMENT) _ _ (λ _ e. e)
    (λ _. pick_case P (eqb c SET_ELEMENT) _ _ (λ _ e. last (eqb kind 0) (valued kind) e)
    (λ _. pick_case P (eqb c ARRAY_ELEMENT) _ _ (λ _ e. last (eqb kind 6) (valued kind) (last (eqb kind 0) _ e))
    (λ _ e. let q : kind ≡ 3 = eqb-true kind 3 e in rw q)))
  where
    last : (t b : Bool) → pick t false b ≡ true → b ≡ true
    last true b e = clash e
    last false b e = e

-- each has a cardinality
unfoldable pub carded : ℕ → Bool
carded tag = pick (eqb tag 1) true (eqb tag 8)

-- there is exactly one, or there is none
unfoldable pub single : ℕ → Bool
single tag = pick (eqb tag 0) true (pick (eqb tag 6) true (eqb tag 9))

unfoldable pub bare : ℕ → Bool
bare tag = pick (eqb tag 3) true (eqb tag 7)

-- fields refer to elements of the tag's kind only, and a cardinality was read before (b) wherever one is due
unfoldable pub orderly : ℕ → Bool → List ℕ → Bool
orderly tag b [] = true
orderly tag b (c ∷ cs) =
    pick (pick (ltb c ELEMENT) true (pick (eqb c (element_kind tag)) (pick (carded tag) b true) false)) (orderly tag (pick (eqb c CARDINALITY) true b) cs) false

-- how many elements they refer to
unfoldable pub elements_in : List ℕ → ℕ
elements_in [] = 0
elements_in (c ∷ cs) = pick (leb ELEMENT c) (suc (elements_in cs)) (elements_in cs)

-- with runs of n and m items
unfoldable pub total : ℕ → ℕ → ℕ → ℕ
total tag n m =
    elements_in (layout tag).head + n * elements_in (layout tag).first + (elements_in (layout tag).more + m * elements_in (layout tag).last)

pub record Orderly (tag : ℕ) : Type 0 where
  pub head : orderly tag false (layout tag).head ≡ true
  pub first : orderly tag false (layout tag).first ≡ true
  pub more : orderly tag false (layout tag).more ≡ true
  pub last : orderly tag false (layout tag).last ≡ true

in_order : (tag : ℕ) → known_tag tag ≡ true
    → pick (orderly tag false (layout tag).head)
    (pick (orderly tag false (layout tag).first) (pick (orderly tag false (layout tag).more) (orderly tag false (layout tag).last) false) false)
    false
    ≡ true
unfolding orderly layout pick element_kind carded
in_order =
    known_cases
    (λ tag.
    pick (orderly tag false (layout tag).head)
    (pick (orderly tag false (layout tag).first) (pick (orderly tag false (layout tag).more) (orderly tag false (layout tag).last) false) false)
    false
    ≡ true)
    refl refl refl refl refl refl refl refl refl refl refl refl refl

pub all_orderly : (tag : ℕ) → known_tag tag ≡ true → Orderly tag
all_orderly tag k =
    let a = both _ _ (in_order tag k) in
    let b = both _ _ a.1 in
    let c = both _ _ b.1 in
    record { head = a.0; first = b.0; more = c.0; last = c.1 }

-- at most 512 of them, one where there is exactly one, none where there is none
pub record Numbered (tag n m : ℕ) : Type 0 where
  pub few : total tag n m ≤ 512
  pub one : single tag ≡ true → total tag n m ≡ 1
  pub none : bare tag ≡ true → total tag n m ≡ 0

in_number : (n m : ℕ) → n ≤ 512 → m ≤ 512 → (tag : ℕ) → known_tag tag ≡ true
    → (pick (single tag) 1 0 ≤ total tag n m) × (total tag n m ≤ pick (single tag) 1 512) × (total tag n m ≤ pick (bare tag) 0 512)
unfolding total elements_in layout pick single bare
in_number n m a b =
    known_cases (λ tag. (pick (single tag) 1 0 ≤ total tag n m) × (total tag n m ≤ pick (single tag) 1 512) × (total tag n m ≤ pick (bare tag) 0 512))
    (omega arith) (omega arith) (omega arith) (omega arith) (omega arith) (omega arith) (omega arith) (omega arith) (omega arith) (omega arith) (omega arith)
    (omega arith) (omega arith)

pub all_numbered : (n m : ℕ) → n ≤ 512 → m ≤ 512 → (tag : ℕ) → known_tag tag ≡ true → Numbered tag n m
all_numbered n m a b tag k =
    let h = in_number n m a b tag k in
    record {
      few = pick_case (λ u. total tag n m ≤ u → total tag n m ≤ 512) (bare tag) 0 512 (λ _ l. omega arith) (λ _ l. l) h.2;
      one = λ t. omega (arith, h.0, h.1, pick_yes {A = ℕ} (single tag) 1 0 t, pick_yes {A = ℕ} (single tag) 1 512 t);
      none = λ t. omega (arith, h.2, pick_yes {A = ℕ} (bare tag) 0 512 t);
    }
