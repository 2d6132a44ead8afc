-- The node of a sound block: its references are those of the block's elements, it obeys
-- the rules of plans, and its references go to nodes of kinds that they may go to.
use mathlib.Core.Path.{◌≡◌, refl, ap, ◌∙◌}
use mathlib.Core.Logic.{⊎_elim}
use mathlib.Core.Bool.{Bool, true, not}
use mathlib.Core.List.{List, [], ◌∷◌}
use Prim.Native.Nat.{ℕ, zero, suc, ◌≤◌, ◌<◌}
use native.Mathlib.Omega.{arith}
use lib.Dec.{eqb}
use lib.ListN.{length, get_or, length-map, get_or-map}
use borrow.Author.Tests.{eqb-true, eqb-false, ne_eqb}
use Rattle.wire.proofs.Picks.{pick_case, same_or_not}
use Rattle.descriptor_fields.specs.Layouts.{known_tag, indexed, valued}
use Rattle.descriptor_fields.specs.Fields.{Known, Element, no_block, format_number}
use Rattle.descriptor_blocks.specs.Descriptor.{refs, cards, only_ref, node_of}
use Rattle.descriptor_fields.specs.declared.Draft.{Draft}
use Rattle.descriptor_blocks.proofs.Tags.{valued_cases, carded, single, bare}
use Rattle.descriptor_blocks.proofs.Elements.{no_element, target, set_element_lem, array_element_lem, range_element_lem}
use Rattle.descriptor_blocks.proofs.Sound.{Sound}
use Rattle.run_compiled.proofs.Words.{kind_of, refs_of, Paired, Proper}
use Rattle.protocol.specs.Numbers.{pick}
use Rattle.protocol.specs.Nodes.{row, arrays}
use Rattle.protocol.specs.Messages.{is_cardinality}
use Rattle.protocol.specs.Plans.{may_refer}

-- ---- lists of elements

only_refs : (es : List Element) → length es ≡ 1 → only_ref es ∷ [] ≡ refs es
unfolding only_ref
only_refs [] h = absurd (omega arith)
only_refs (e ∷ []) h = refl
only_refs (e ∷ f ∷ es) h = absurd (omega arith)

only_first : (es : List Element) (j : ℕ) → length es ≡ 1 → j < length es → only_ref es ≡ (get_or es j no_element).ref
unfolding only_ref
only_first [] j h l = absurd (omega arith)
only_first (e ∷ es) zero h l = refl
only_first (e ∷ es) (suc j) h l = absurd (omega arith)

no_refs : (es : List Element) → length es ≡ 0 → [] ≡ refs es
no_refs [] h = refl
no_refs (e ∷ es) h = absurd (omega arith)

pub ref_of : (es : List Element) (j : ℕ) → get_or (refs es) j 0 ≡ (get_or es j no_element).ref
ref_of es j = get_or-map (λ (e : Element). e.ref) es j no_element

card_of : (es : List Element) (j : ℕ) → get_or (cards es) j 0 ≡ (get_or es j no_element).card
card_of es j = get_or-map (λ (e : Element). e.card) es j no_element

-- ---- what a node's kind says of its block's tag: an array's is 2, a scalar's 1, and only sets and arrays have a 2 or a 3

unfoldable kind_fits : ℕ → ℕ → Bool
kind_fits tag kind =
    pick (eqb tag 6) (eqb kind 2) (pick (eqb tag 3) (eqb kind 1) (pick (eqb tag 0) true (not (pick (eqb kind 2) true (eqb kind 3)))))

pub record Kinded (tag kind : ℕ) : Type 0 where
  fit : kind_fits tag kind ≡ true

module _ (known : List Known) (es : List Element) (tag : ℕ) (k : known_tag tag ≡ true) (i : indexed tag ≡ true) (v : valued tag ≡ true) where
  pub kinded : (f : ℕ) → Kinded tag (kind_of (node_of known tag f es))
  unfolding node_of kind_of kind_fits pick
  kinded f =
      record { fit = valued_cases (λ tag. kind_fits tag (kind_of (node_of known tag f es)) ≡ true) refl refl refl refl refl refl refl refl refl tag k i v }

  -- ---- the node itself

  module _ (x : Draft) (s : Sound known tag x es) where
    pub shape_refs : refs_of (node_of known tag (format_number x.format) es) ≡ refs es
    unfolding node_of refs_of single bare pick
    shape_refs =
        valued_cases (λ tag. Sound known tag x es → refs_of (node_of known tag (format_number x.format) es) ≡ refs es)
        (λ s. pick_case (λ v. refs_of v ≡ refs es) (eqb (get_or known (only_ref es) no_block).tag 6) _ _ (λ _. only_refs es (s.one refl)) (λ _. only_refs es (s.one refl)))
        (λ s. refl)
        (λ s. no_refs es (s.none refl))
        (λ s. refl)
        (λ s. refl)
        (λ s. only_refs es (s.one refl))
        (λ s. no_refs es (s.none refl))
        (λ s. refl)
        (λ s. only_refs es (s.one refl))
        tag k i v s

    pub shape_proper : Proper (node_of known tag (format_number x.format) es)
    unfolding node_of Proper carded pick
    shape_proper =
        valued_cases (λ tag. Sound known tag x es → Proper (node_of known tag (format_number x.format) es))
        (λ s. pick_case Proper (eqb (get_or known (only_ref es) no_block).tag 6) _ _ (λ _. tt) (λ _. tt))
        (λ s. paired s.few (λ j l. (s.each j l).card refl))
        (λ s. s.format refl)
        (λ s. many s.few)
        (λ s. many s.few)
        (λ s. tt)
        (λ s. tt)
        (λ s. paired s.few (λ j l. (s.each j l).card refl))
        (λ s. tt)
        tag k i v s
      where
        many : length es ≤ 512 → length (refs es) ≤ 512
        many l = rw length-map l

        paired : length es ≤ 512 → ((j : ℕ) → j < length es → is_cardinality (get_or es j no_element).card ≡ true) → Paired (refs es) (cards es)
        paired l f =
            record {
              same = simp length-map;
              few = many l;
              cards = λ j m. ap is_cardinality (card_of es j) ∙ f j (rw length-map at m);
            }

    -- each reference goes to a node of a kind that it may go to (R4.3)
    pub shape_refers : (j kind : ℕ) → j < length es → Kinded (target known (get_or es j no_element)).tag kind → may_refer (kind_of (node_of known tag (format_number x.format) es)) kind ≡ true
    unfolding node_of kind_of kind_fits may_refer single pick
    shape_refers j kind l q =
        valued_cases (λ tag. Sound known tag x es → may_refer (kind_of (node_of known tag (format_number x.format) es)) kind ≡ true)
        (λ s.
        let w : only_ref es ≡ (get_or es j no_element).ref = only_first es j (s.one refl) l in
        pick_case (λ v. may_refer (kind_of v) kind ≡ true) (eqb (get_or known (only_ref es) no_block).tag 6) (arrays (only_ref es)) (row (only_ref es))
        (λ t. let six : other ≡ 6 = eqb-true _ _ (rw w at t) in rw six at q.fit)
        (λ t. plain (set_element_lem known (get_or es j no_element) (s.each j l)) (eqb-false _ _ (rw w at t))))
        (λ s. refl)
        (λ s. refl)
        (λ s. refl)
        (λ s. refl)
        (λ s. let a = array_element_lem known (get_or es j no_element) (s.each j l) in plain a.0 a.1)
        (λ s. refl)
        (λ s. refl)
        (λ s. let three : other ≡ 3 = range_element_lem known (get_or es j no_element) (s.each j l) in rw three at q.fit)
        tag k i v s
      where
        other : ℕ
        other = (target known (get_or es j no_element)).tag

        plain : (other ≡ 0 → ⊥) → (other ≡ 6 → ⊥) → not (pick (eqb kind 2) true (eqb kind 3)) ≡ true
        plain a b =
            ⊎_elim
            (λ (e : other ≡ 3). let one : kind ≡ 1 = eqb-true kind 1 (rw e at q.fit) in rw one)
            (λ (e : other ≡ 3 → ⊥). rw (ne_eqb other 6 b, ne_eqb other 3 e, ne_eqb other 0 a) at q.fit)
            (same_or_not other 3)
