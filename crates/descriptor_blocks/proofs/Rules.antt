-- The rule of a field by its class, and what is kept of it by its kind.
use mathlib.Core.Path.{◌≡◌, refl, ap, sym, ◌∙◌}
use mathlib.Core.Logic.{⊎_elim}
use mathlib.Core.Bool.{true, false}
use mathlib.Core.List.{List, [], ◌∷◌, ◌++◌}
use Rattle.std.specs.Prelude.{Option, max}
use Rattle.std.proofs.lemmas.Bool.Decides.{nat_tests}
use Prim.Native.Nat.{ℕ, ◌+◌, ◌*◌, ◌≤◌, ◌<◌}
use native.Mathlib.Nat.{add-zero}
use native.Mathlib.Numerals.{add-one}
use native.Mathlib.Omega.{arith}
use lib.ListN.{length, get_or, set, length-set}
use lib.Seq.{get_or-set_same, get_or-set_other}
use lib.Dec.{eqb, leb, ltb}
use borrow.Author.Tests.{eq-eqb, ne_eqb, le-leb, lt-leb, eqb-true, ltb-false}
use Rattle.wire.proofs.Picks.{pick_yes, pick_no, pick_case, pick_split}
use Rattle.descriptor_fields.specs.Fields.{Known, no_block, Element, fine, id_at, format_of, number_at, extent, id_fault, text_fault, number_fault}
use Rattle.descriptor_fields.specs.Fields.{decides, count_fault, format_by, ref_fault, fault, format_after, height_after, kept, grown}
use Rattle.descriptor_fields.specs.Arrays.{tab, element_at, elements_of, known_at, known_of, Told}
use Rattle.descriptor_blocks.specs.Walks.{push}
use Rattle.descriptor_fields.specs.declared.Draft.{Draft}
use Rattle.descriptor_fields.proofs.Tabs.{tab_same}
use Rattle.descriptor_fields.proofs.Known.{one_more}
use Rattle.descriptor_fields.proofs.Extents.{extent_number, width_reference}
use Rattle.protocol.specs.Numbers.{pick, at_least}

-- ---- rules

module _ (d : List ℕ) (known : List Known) (tag c : ℕ) (x : Draft) (es : List Element) where
  pub fault_id : c ≡ 1 → fault d known tag c x es ≡ id_fault d known (id_at d x.at)
  unfolding fault
  fault_id e = pick_yes _ _ _ (eq-eqb _ _ e)

  module _ (n : c ≡ 1 → ⊥) where
    pub fault_text : c ≤ 3 → fault d known tag c x es ≡ text_fault d es c x.at
    unfolding fault
    fault_text h = pick_no _ _ _ (ne_eqb _ _ n) ∙ pick_yes _ _ _ (le-leb _ _ h)

    module _ (h : 3 < c) where
      pub fault_number : c ≤ 11 → fault d known tag c x es ≡ number_fault c (number_at d c x.at)
      unfolding fault
      fault_number g = pick_no _ _ _ (ne_eqb _ _ n) ∙ pick_no _ _ _ (lt-leb _ _ h) ∙ pick_yes _ _ _ (le-leb _ _ g)

      module _ (g : 11 < c) where
        pub fault_count : c ≤ 13 → fault d known tag c x es ≡ count_fault tag c x (number_at d c x.at)
        unfolding fault
        fault_count f =
            pick_no _ _ _ (ne_eqb _ _ n) ∙ pick_no _ _ _ (lt-leb _ _ h) ∙ pick_no _ _ _ (lt-leb _ _ g) ∙ pick_yes _ _ _ (le-leb _ _ f)

        pub fault_reference : 13 < c → fault d known tag c x es ≡ ref_fault d known tag c x (number_at d c x.at)
        unfolding fault
        fault_reference f =
            pick_no _ _ _ (ne_eqb _ _ n) ∙ pick_no _ _ _ (lt-leb _ _ h) ∙ pick_no _ _ _ (lt-leb _ _ g) ∙ pick_no _ _ _ (lt-leb _ _ f)

-- ---- what is kept

pub max_is : (a b : ℕ) → max a b ≡ at_least a b
unfolding at_least pick
max_is a b = grind (arith, nat_tests)

-- a draft with some of its numbers changed
abbrev pub draft : ℕ → ℕ → ℕ → Option ℕ → ℕ → ℕ → ℕ → ℕ → Draft
draft at left free format height card name count =
    record { at = at; left = left; free = free; format = format; height = height; card = card; name = name; count = count }

module _ (d : List ℕ) (known : List Known) (tag c : ℕ) (x : Draft) (size : ℕ) (is : size ≡ extent d c x.at) where
  pub kept_id : c ≡ 1 → (v : Option ℕ) → v ≡ format_of (id_at d x.at) → draft (x.at + size) x.left x.free v x.height x.card x.name x.count ≡ kept d known tag c x
  unfolding kept format_after height_after pick
  kept_id e v q = rw (is, q, e)

  pub kept_name : c ≡ 3 → draft (x.at + size) x.left x.free x.format x.height x.card x.at x.count ≡ kept d known tag c x
  unfolding kept format_after height_after pick
  kept_name e = rw (is, e)

  module _ (v : ℕ) (q : v ≡ number_at d c x.at) where
    pub kept_free : c ≡ 5 → draft (x.at + size) x.left v x.format x.height x.card x.name x.count ≡ kept d known tag c x
    unfolding kept format_after height_after pick
    kept_free e = rw (is, q, e)

    pub kept_card : c ≡ 7 → draft (x.at + size) x.left x.free x.format x.height v x.name x.count ≡ kept d known tag c x
    unfolding kept format_after height_after pick
    kept_card e = rw (is, q, e)

    pub kept_ancestors : c ≡ 12 → draft (x.at + size) v x.free x.format x.height x.card x.name x.count ≡ kept d known tag c x
    unfolding kept format_after height_after pick
    kept_ancestors e = rw (is, q, e)

    pub kept_count : c ≡ 13 → draft (x.at + size) v x.free x.format x.height x.card x.name x.count ≡ kept d known tag c x
    unfolding kept format_after height_after pick
    kept_count e = rw (is, q, e)

    pub kept_deciding : c ≡ 14 → decides tag x ≡ true → (f : Option ℕ) → f ≡ format_by d (get_or known v no_block)
        → draft (x.at + size) x.left x.free f x.height x.card x.name x.count ≡ kept d known tag c x
    unfolding kept format_after height_after pick
    kept_deciding e t f p = rw (is, p, q, e, t)

  pub kept_ancestor : c ≡ 14 → decides tag x ≡ false → draft (x.at + size) x.left x.free x.format x.height x.card x.name x.count ≡ kept d known tag c x
  unfolding kept format_after height_after pick
  kept_ancestor e t = rw (is, e, t)

  pub kept_plain : (c ≡ 1 → ⊥) → (c ≡ 3 → ⊥) → (c ≡ 5 → ⊥) → (c ≡ 7 → ⊥) → (c ≡ 12 → ⊥) → (c ≡ 13 → ⊥) → (c ≡ 14 → ⊥) → c < 17
      → draft (x.at + size) x.left x.free x.format x.height x.card x.name x.count ≡ kept d known tag c x
  unfolding kept format_after height_after pick
  kept_plain n1 n3 n5 n7 n12 n13 n14 l =
      rw (is, ne_eqb _ _ n1, ne_eqb _ _ n3, ne_eqb _ _ n5, ne_eqb _ _ n7, ne_eqb _ _ n12, ne_eqb _ _ n13, ne_eqb _ _ n14, lt-leb _ _ l)

-- ---- elements

module _ (a : List ℕ) (n x y z : ℕ) (h : 3 * n + 2 < length a) where
  abbrev stored : List ℕ
  stored = set (set (set a (3 * n) x) (3 * n + 1) y) (3 * n + 2) z

  apart : (k : ℕ) → (k ≡ 3 * n → ⊥) → (k ≡ 3 * n + 1 → ⊥) → (k ≡ 3 * n + 2 → ⊥) → get_or stored k 0 ≡ get_or a k 0
  apart k p q r =
      get_or-set_other (set (set a (3 * n) x) (3 * n + 1) y) (3 * n + 2) k z 0 r
      ∙ get_or-set_other (set a (3 * n) x) (3 * n + 1) k y 0 q ∙ get_or-set_other a (3 * n) k x 0 p

  earlier : (i : ℕ) → i < n → element_at stored i ≡ element_at a i
  unfolding element_at
  earlier i l =
      rw (
        apart (3 * i) (λ e. omega arith) (λ e. omega arith) (λ e. omega arith),
        apart (3 * i + 1) (λ e. omega arith) (λ e. omega arith) (λ e. omega arith),
        apart (3 * i + 2) (λ e. omega arith) (λ e. omega arith) (λ e. omega arith),
      )

  first : get_or stored (3 * n) 0 ≡ x
  first =
      get_or-set_other (set (set a (3 * n) x) (3 * n + 1) y) (3 * n + 2) (3 * n) z 0 (λ e. omega arith)
      ∙ get_or-set_other (set a (3 * n) x) (3 * n + 1) (3 * n) y 0 (λ e. omega arith) ∙ get_or-set_same a (3 * n) x 0 (omega arith)

  second : get_or stored (3 * n + 1) 0 ≡ y
  second =
      get_or-set_other (set (set a (3 * n) x) (3 * n + 1) y) (3 * n + 2) (3 * n + 1) z 0 (λ e. omega arith)
      ∙ get_or-set_same (set a (3 * n) x) (3 * n + 1) y 0 (simp length-set (omega arith))

  third : get_or stored (3 * n + 2) 0 ≡ z
  third = get_or-set_same (set (set a (3 * n) x) (3 * n + 1) y) (3 * n + 2) z 0 (simp length-set h)

  last : element_at stored n ≡ record { name = x; ref = y; card = z }
  unfolding element_at
  last = rw (first, second, third)

  -- three words more are an element more
  pub element_more : elements_of stored (n + 1) ≡ elements_of a n ++ (record { name = x; ref = y; card = z } ∷ [])
  unfolding tab
  element_more =
      ap (tab (element_at stored)) (add-one n)
      ∙ ap (λ (es : List Element). es ++ (element_at stored n ∷ [])) (tab_same (element_at stored) (element_at a) n earlier)
      ∙ ap (λ (e : Element). elements_of a n ++ (e ∷ [])) last

  -- ---- and of what is known of blocks, as the start, the height and the node of one more

  module _ (d : List ℕ) where
    earlier_known : (i : ℕ) → i < n → known_at d stored i ≡ known_at d a i
    unfolding known_at
    earlier_known i l =
        rw (
          apart (3 * i) (λ e. omega arith) (λ e. omega arith) (λ e. omega arith),
          apart (3 * i + 1) (λ e. omega arith) (λ e. omega arith) (λ e. omega arith),
          apart (3 * i + 2) (λ e. omega arith) (λ e. omega arith) (λ e. omega arith),
        )

    last_known : known_at d stored n ≡ record { start = x; tag = get_or d x 0; height = y; node = z }
    unfolding known_at
    last_known = rw (first, second, third)

    pub known_more : known_of d stored (n + 1) ≡ known_of d a n ++ (record { start = x; tag = get_or d x 0; height = y; node = z } ∷ [])
    unfolding tab
    known_more =
        ap (tab (known_at d stored)) (add-one n)
        ∙ ap (λ (ks : List Known). ks ++ (known_at d stored n ∷ [])) (tab_same (known_at d stored) (known_at d a) n earlier_known)
        ∙ ap (λ (k : Known). known_of d a n ++ (k ∷ [])) last_known

    pub told_more : Told d a n → n < 1024 → x + 17 ≤ length d → y ≤ 32 → Told d stored (n + 1)
    told_more t few inside low =
        record {
          room = simp length-set (omega (arith, h));
          few = omega arith;
          short = t.short;
          inside =
              one_more (λ (i : ℕ). get_or stored (3 * i) 0 + 17 ≤ length d) n
              (λ i l. rw (apart (3 * i) (λ e. omega arith) (λ e. omega arith) (λ e. omega arith)) (t.inside i l)) (rw first inside);
          low =
              one_more (λ (i : ℕ). get_or stored (3 * i + 1) 0 ≤ 32) n
              (λ i l. rw (apart (3 * i + 1) (λ e. omega arith) (λ e. omega arith) (λ e. omega arith)) (t.low i l)) (rw second low);
        }

-- ---- an element reference

pub two : (d : List ℕ) (c at : ℕ) → 17 ≤ c → extent d c at ≡ 2
two d c at g = extent_number d c at (omega arith) ∙ width_reference c (omega arith)

module _ (d : List ℕ) (known : List Known) (tag c : ℕ) (x : Draft) (g : 17 ≤ c) (v : ℕ) (q : v ≡ number_at d c x.at) where
  not_low : (k : ℕ) → k < 17 → c ≡ k → ⊥
  not_low k l e = omega arith

  pub kept_element : (h : ℕ) → h ≡ at_least x.height ((get_or known v no_block).height + 1)
      → draft (x.at + 2) x.left x.free x.format h x.card x.name (x.count + 1) ≡ kept d known tag c x
  unfolding kept format_after height_after pick
  kept_element h e =
      rw (
        e,
        q,
        two d c x.at g,
        ne_eqb c 1 (not_low 1 (omega arith)),
        ne_eqb c 3 (not_low 3 (omega arith)),
        ne_eqb c 5 (not_low 5 (omega arith)),
        ne_eqb c 7 (not_low 7 (omega arith)),
        ne_eqb c 12 (not_low 12 (omega arith)),
        ne_eqb c 13 (not_low 13 (omega arith)),
        ne_eqb c 14 (not_low 14 (omega arith)),
        le-leb 17 c g,
      )

pub grown_element : (d : List ℕ) (c : ℕ) (x : Draft) → 17 ≤ c → (v : ℕ) → v ≡ number_at d c x.at → (es : List Element)
    → es ++ (record { name = x.name; ref = v; card = x.card } ∷ []) ≡ grown d c x es
unfolding grown
grown_element d c x g v q es = rw q (sym (pick_yes _ _ _ (le-leb 17 c g)))

pub grown_not : (d : List ℕ) (c : ℕ) (x : Draft) (es : List Element) → c < 17 → es ≡ grown d c x es
unfolding grown
grown_not d c x es h = sym (pick_no _ _ _ (lt-leb 17 c h))

-- ---- what a field leaves in bounds

pub kept_at : (d : List ℕ) (known : List Known) (tag c : ℕ) (x : Draft) → (kept d known tag c x).at ≡ x.at + extent d c x.at
unfolding kept
kept_at d known tag c x = refl

module _ (d : List ℕ) (known : List Known) (tag c : ℕ) (x : Draft) (es : List Element) where
  count_small : (v : ℕ) → count_fault tag c x v ≡ fine → v ≤ 512
  unfolding count_fault
  count_small v e = ⊎_elim (λ p. let z : ◌≡◌ {A = ℕ} 0 1 = cc p.1 in absurd (omega arith)) (λ p. ltb-false 512 v p.0) (pick_split (ltb 512 v) _ _ _ e)

  counted : 11 < c → c ≤ 13 → fault d known tag c x es ≡ fine → number_at d c x.at ≤ 512
  counted l m e = count_small _ (sym (fault_count d known tag c x es (λ (q : c ≡ 1). omega arith) (omega arith) l m) ∙ e)

  pub kept_left : fault d known tag c x es ≡ fine → x.left ≤ 512 → (kept d known tag c x).left ≤ 512
  unfolding kept
  kept_left f l =
      pick_case (λ (n : ℕ). n ≤ 512) (eqb c 12) _ _
      (λ e. let q = eqb-true c 12 e in counted (omega arith) (omega arith) f)
      (λ _.
      pick_case (λ (n : ℕ). n ≤ 512) (eqb c 13) _ _ (λ e. let q = eqb-true c 13 e in counted (omega arith) (omega arith) f) (λ _. l))

pub kept_many : (d : List ℕ) (known : List Known) (tag c : ℕ) (x : Draft) → (kept d known tag c x).count ≡ x.count + push c
unfolding kept push
kept_many d known tag c x =
    pick_case (λ (n : ℕ). n ≡ x.count + pick (leb 17 c) 1 0) (leb 17 c) _ _ (λ e. rw (pick_yes _ _ _ e)) (λ e. rw (pick_no _ _ _ e) (sym (add-zero x.count)))
