-- The loops over fields and over items: what is left of each leads to the same place, inside the descriptor and with room for the elements.
use mathlib.Core.Path.{◌≡◌, refl, ap, sym, ◌∙◌}
use mathlib.Core.List.{List, [], ◌∷◌}
use Rattle.std.specs.Prelude.{Result, Ok, Err, None}
use Prim.Native.Nat.{ℕ, ◌+◌, ◌*◌, ◌≤◌, ◌<◌}
use native.Mathlib.Nat.{add-mul, one-mul, mul-le-mul_right}
use native.Mathlib.Omega.{arith}
use lib.Dec.{eqb, lit≤}
use lib.ListN.{length, drop, get_or}
use Rattle.wire.proofs.Picks.{pick_case}
use Rattle.descriptor_fields.specs.Layouts.{Layout, layout, up_to_end}
use Rattle.descriptor_fields.specs.Fields.{Known, Element}
use Rattle.descriptor_blocks.specs.Blocks.{counting, field, fields, items, section, block_from}
use Rattle.descriptor_blocks.specs.Walks.{Walk, stopped, moved, led, walk_of, push, pushes, Inside}
use Rattle.descriptor_fields.specs.Arrays.{Roomy, tab, elements_of}
use Rattle.descriptor_fields.specs.declared.Draft.{Draft}
use Rattle.descriptor_blocks.proofs.Steps.{halts, goes, codes_over, codes_end, codes_next, pushes_next, fields_none, fields_halt, fields_go, items_none, items_halt, items_go}
use Rattle.protocol.specs.Numbers.{pick}

-- a part that was read, and where it leads
module _ (p : Result Draft ℕ) (a : List ℕ) (w : Walk) (e : walk_of p a ≡ w) where
  pub went : (z : Draft) → p ≡ Ok z → moved z (elements_of a z.count) ≡ w
  unfolding walk_of
  went z q = ap (λ (r : Result Draft ℕ). walk_of r a) (sym q) ∙ e

  pub ended : (n : ℕ) → p ≡ Err n → stopped n ≡ w
  unfolding walk_of
  ended n q = ap (λ (r : Result Draft ℕ). walk_of r a) (sym q) ∙ e

pub is_inside : (p : Result Draft ℕ) (z : Draft) (end n : ℕ) → p ≡ Ok z → Inside end n p → Inside end n (Ok z)
is_inside p z end n q i = rw q at i

-- ---- fields

module _ (d : List ℕ) (known : List Known) (tag : ℕ) (codes : List ℕ) (x : Draft) (a₀ : List ℕ) where
  pub record Going (k : ℕ) (y : Draft) (a : List ℕ) : Type 0 where
    pub inside : k ≤ length codes
    pub at : y.at ≤ length d
    pub left : y.left ≤ 512
    pub spare : y.count + pushes (up_to_end (drop k codes)) ≤ x.count + pushes (up_to_end codes)
    pub size : length a ≡ length a₀
    pub same : led (fields d known tag (up_to_end codes) x (elements_of a₀ x.count)) ≡ led (fields d known tag (up_to_end (drop k codes)) y (elements_of a y.count))

  pub going_start : x.at ≤ length d → x.left ≤ 512 → Going 0 x a₀
  going_start h g = record { inside = omega arith; at = h; left = g; spare = omega arith; size = refl; same = refl }

  module _ (k : ℕ) (y : Draft) (a : List ℕ) (g : Going k y a) where
    over : up_to_end (drop k codes) ≡ [] → moved y (elements_of a y.count) ≡ led (fields d known tag (up_to_end codes) x (elements_of a₀ x.count))
    over e = fields_none d known tag (up_to_end (drop k codes)) y (elements_of a y.count) e ∙ sym g.same

    pub going_inside : Inside (length d) (x.count + pushes (up_to_end codes)) (Ok y)
    unfolding Inside
    going_inside = (g.at, g.left, omega (arith, g.spare))

    pub going_end : length codes ≤ k → moved y (elements_of a y.count) ≡ led (fields d known tag (up_to_end codes) x (elements_of a₀ x.count))
    going_end h = over (codes_over codes k h)

    module _ (h : k < length codes) (c : ℕ) (is : c ≡ get_or codes k 0) where
      pub going_stop : c ≡ 0 → moved y (elements_of a y.count) ≡ led (fields d known tag (up_to_end codes) x (elements_of a₀ x.count))
      going_stop e = over (codes_end codes k h (sym is ∙ e))

      module _ (n : c ≡ 0 → ⊥) where
        next : up_to_end (drop k codes) ≡ c ∷ up_to_end (drop (k + 1) codes)
        next = rw is (codes_next codes k h (λ e. n (is ∙ e)))

        pub going_room : Roomy a₀ (x.count + pushes (up_to_end codes)) → Roomy a (y.count + push c)
        going_room r =
            record {
              room = omega (arith, r.room, g.size);
              few = omega (arith, r.few, g.spare, pushes_next c (up_to_end (drop k codes)) (up_to_end (drop (k + 1) codes)) next);
            }

        module _ (p : Result Draft ℕ) (b : List ℕ) (e : walk_of p b ≡ led (field d known tag c y (elements_of a y.count))) where
          pub going_halt : (m : ℕ) → p ≡ Err m → stopped m ≡ led (fields d known tag (up_to_end codes) x (elements_of a₀ x.count))
          going_halt m q =
              fields_halt d known tag c (up_to_end (drop k codes)) (up_to_end (drop (k + 1) codes)) y (elements_of a y.count) next m
              (ended p b (led (field d known tag c y (elements_of a y.count))) e m q) ∙ sym g.same

          pub going_next : (z : Draft) → p ≡ Ok z → Inside (length d) (y.count + push c) p → length b ≡ length a → Going (k + 1) z b
          unfolding Inside
          going_next z q i s =
              let f = is_inside p z (length d) (y.count + push c) q i in
              record {
                inside = omega arith;
                at = f.0;
                left = f.1;
                spare = omega (arith, f.2, g.spare, pushes_next c (up_to_end (drop k codes)) (up_to_end (drop (k + 1) codes)) next);
                size = s ∙ g.size;
                same =
                    g.same
                    ∙ fields_go d known tag c (up_to_end (drop k codes)) (up_to_end (drop (k + 1) codes)) y (elements_of a y.count) next z (elements_of b z.count)
                    (went p b (led (field d known tag c y (elements_of a y.count))) e z q);
              }

-- ---- items

module _ (d : List ℕ) (known : List Known) (tag : ℕ) (cs : List ℕ) (x : Draft) (a₀ : List ℕ) where
  pub record Counting (n : ℕ) (y : Draft) (a : List ℕ) : Type 0 where
    pub at : y.at ≤ length d
    pub left : y.left ≤ 512
    pub few : n ≤ 512
    pub spare : y.count + n * pushes cs ≤ x.count + x.left * pushes cs
    pub size : length a ≡ length a₀
    pub same : led (items d known tag cs x.left x (elements_of a₀ x.count)) ≡ led (items d known tag cs n y (elements_of a y.count))

  pub counting_start : x.at ≤ length d → x.left ≤ 512 → Counting x.left x a₀
  counting_start h g = record { at = h; left = g; few = g; spare = omega arith; size = refl; same = refl }

  module _ (n : ℕ) (y : Draft) (a : List ℕ) (g : Counting n y a) where
    pub counting_end : n ≤ 0 → (moved y (elements_of a y.count) ≡ led (items d known tag cs x.left x (elements_of a₀ x.count))) × Inside (length d) (x.count + x.left * pushes cs) (Ok y)
    unfolding Inside
    counting_end h =
        (items_none d known tag cs n y (elements_of a y.count) (omega arith) ∙ sym g.same, (g.at, g.left, omega (arith, g.spare)))

    module _ (m : ℕ) (is : n ≡ m + 1) where
      product : n * pushes cs ≡ m * pushes cs + pushes cs
      product = ap (λ (k : ℕ). k * pushes cs) is ∙ add-mul m 1 (pushes cs) ∙ ap (λ (k : ℕ). m * pushes cs + k) (one-mul (pushes cs))

      pub counting_room : Roomy a₀ (x.count + x.left * pushes cs) → Roomy a (y.count + pushes cs)
      counting_room r = record { room = omega (arith, r.room, g.size); few = omega (arith, r.few, g.spare, product) }

      module _ (p : Result Draft ℕ) (b : List ℕ) (e : walk_of p b ≡ led (fields d known tag cs (counting n y) (elements_of a y.count))) where
        pub counting_halt : (k : ℕ) → p ≡ Err k → stopped k ≡ led (items d known tag cs x.left x (elements_of a₀ x.count))
        counting_halt k q =
            items_halt d known tag cs n m y (elements_of a y.count) is k (ended p b (led (fields d known tag cs (counting n y) (elements_of a y.count))) e k q)
            ∙ sym g.same

        pub counting_next : (z : Draft) → p ≡ Ok z → Inside (length d) (y.count + pushes cs) p → length b ≡ length a → Counting m z b
        unfolding Inside
        counting_next z q i s =
            let f = is_inside p z (length d) (y.count + pushes cs) q i in
            record {
              at = f.0;
              left = f.1;
              few = omega (arith, g.few);
              spare = omega (arith, f.2, g.spare, product);
              size = s ∙ g.size;
              same =
                  g.same
                  ∙ items_go d known tag cs n m y (elements_of a y.count) is z (elements_of b z.count)
                  (went p b (led (fields d known tag cs (counting n y) (elements_of a y.count))) e z q);
            }

-- ---- a section, and a block

pub inside_more : (p : Result Draft ℕ) (end n m : ℕ) → n ≤ m → Inside end n p → Inside end m p
unfolding Inside
inside_more (Err k) end n m h i = tt
inside_more (Ok x) end n m h i = (i.0, i.1, omega (arith, i.2))

module _ (d : List ℕ) (known : List Known) (tag : ℕ) (cs is : List ℕ) (x : Draft) (es : List Element) (p : Result Draft ℕ) (b : List ℕ)
    (e : walk_of p b ≡ led (fields d known tag cs (counting 0 x) es)) where
  pub section_halt : (m : ℕ) → p ≡ Err m → stopped m ≡ led (section d known tag cs is x es)
  unfolding section
  section_halt m q =
      halts (fields d known tag cs (counting 0 x) es) (λ y fs. items d known tag is y.left y fs) m
      (ended p b (led (fields d known tag cs (counting 0 x) es)) e m q)

  module _ (y : Draft) (q : p ≡ Ok y) (i : Inside (length d) (x.count + pushes cs) p) where
    here : (y.at ≤ length d) × (y.left ≤ 512) × (y.count ≤ x.count + pushes cs)
    unfolding Inside
    here = is_inside p y (length d) (x.count + pushes cs) q i

    enough : y.count + y.left * pushes is ≤ x.count + pushes cs + 512 * pushes is
    enough = let m : y.left * pushes is ≤ 512 * pushes is = mul-le-mul_right (pushes is) here.1 in omega (arith, here.2)

    pub section_room : Roomy b (x.count + pushes cs + 512 * pushes is) → Roomy b (y.count + y.left * pushes is)
    section_room r = record { room = r.room; few = omega (arith, r.few, enough) }

    pub section_at : (y.at ≤ length d) × (y.left ≤ 512)
    section_at = (here.0, here.1)

    pub section_go : (r : Result Draft ℕ) (c : List ℕ) → walk_of r c ≡ led (items d known tag is y.left y (elements_of b y.count)) → walk_of r c ≡ led (section d known tag cs is x es)
    unfolding section
    section_go r c f =
        f
        ∙ sym (goes (fields d known tag cs (counting 0 x) es) (λ z fs. items d known tag is z.left z fs) y (elements_of b y.count)
        (went p b (led (fields d known tag cs (counting 0 x) es)) e y q))

    pub section_inside : (r : Result Draft ℕ) → Inside (length d) (y.count + y.left * pushes is) r → Inside (length d) (x.count + pushes cs + 512 * pushes is) r
    section_inside r = inside_more r (length d) (y.count + y.left * pushes is) (x.count + pushes cs + 512 * pushes is) enough

-- the start of a block
abbrev pub fresh : ℕ → Draft
fresh at = record { at = at; left = 0; free = 0; format = None; height = 1; card = 0; name = 0; count = 0 }

-- the elements of a block are at most 512
unfoldable pub most : Layout → ℕ
most l = pushes l.head + 512 * pushes l.first + pushes l.more + 512 * pushes l.last

pub layout_most : (tag : ℕ) → most (layout tag) ≤ 512
unfolding layout most pushes push pick
layout_most tag =
    let P : Layout → Type 0 = λ l. most l ≤ 512 in
    pick_case P (eqb tag 0) _ _ (λ _. lit≤ tt) (λ _. pick_case P (eqb tag 1) _ _ (λ _. lit≤ tt) (λ _. pick_case P (eqb tag 4) _ _ (λ _. lit≤ tt)
    (λ _. pick_case P (eqb tag 5) _ _ (λ _. lit≤ tt) (λ _. pick_case P (eqb tag 6) _ _ (λ _. lit≤ tt) (λ _. pick_case P (eqb tag 7) _ _ (λ _. lit≤ tt)
    (λ _. pick_case P (eqb tag 8) _ _ (λ _. lit≤ tt) (λ _. pick_case P (eqb tag 9) _ _ (λ _. lit≤ tt) (λ _. pick_case P (eqb tag 10) _ _ (λ _. lit≤ tt)
    (λ _. pick_case P (eqb tag 11) _ _ (λ _. lit≤ tt) (λ _. pick_case P (eqb tag 13) _ _ (λ _. lit≤ tt) (λ _. pick_case P (eqb tag 127) _ _ (λ _. lit≤ tt)
    (λ _. lit≤ tt))))))))))))

-- a block by the four lists of its layout
module _ (d : List ℕ) (known : List Known) (tag at : ℕ) (l : Layout) (h : l ≡ layout tag) (a : List ℕ) (r : Roomy a 0) where
  few : most l ≤ 512
  few = rw h (layout_most tag)

  pub block_room : Roomy a (0 + pushes l.head + 512 * pushes l.first)
  unfolding most
  block_room = record { room = r.room; few = omega (arith, few) }

  module _ (p : Result Draft ℕ) (b : List ℕ) (e : walk_of p b ≡ led (section d known tag l.head l.first (fresh at) (elements_of a 0))) where
    first_section : walk_of p b ≡ led (section d known tag (layout tag).head (layout tag).first (fresh at) [])
    unfolding tab
    first_section = rw h at e

    pub block_halt : (m : ℕ) → p ≡ Err m → stopped m ≡ led (block_from d known tag at)
    unfolding block_from
    block_halt m q =
        halts (section d known tag (layout tag).head (layout tag).first (fresh at) []) (section d known tag (layout tag).more (layout tag).last) m
        (ended p b (led (section d known tag (layout tag).head (layout tag).first (fresh at) [])) first_section m q)

    module _ (y : Draft) (q : p ≡ Ok y) (i : Inside (length d) (0 + pushes l.head + 512 * pushes l.first) p) where
      there : (y.at ≤ length d) × (y.left ≤ 512) × (y.count ≤ 0 + pushes l.head + 512 * pushes l.first)
      unfolding Inside
      there = is_inside p y (length d) (0 + pushes l.head + 512 * pushes l.first) q i

      all : y.count + pushes l.more + 512 * pushes l.last ≤ 512
      unfolding most
      all = omega (arith, few, there.2)

      -- what the second section asks, and what it leaves
      pub block_next : length b ≡ length a → Roomy b (y.count + pushes l.more + 512 * pushes l.last) × (y.at ≤ length d)
      block_next s = (record { room = omega (arith, r.room); few = all }, there.0)

      pub block_done : (r : Result Draft ℕ) (c : List ℕ) → walk_of r c ≡ led (section d known tag l.more l.last y (elements_of b y.count))
          → Inside (length d) (y.count + pushes l.more + 512 * pushes l.last) r → (walk_of r c ≡ led (block_from d known tag at)) × Inside (length d) 512 r
      unfolding block_from
      block_done r c w j = (
        rw h at w
            ∙ sym (goes (section d known tag (layout tag).head (layout tag).first (fresh at) []) (section d known tag (layout tag).more (layout tag).last) y
            (elements_of b y.count) (went p b (led (section d known tag (layout tag).head (layout tag).first (fresh at) [])) first_section y q)),
        inside_more r (length d) (y.count + pushes l.more + 512 * pushes l.last) 512 all j,
      )
