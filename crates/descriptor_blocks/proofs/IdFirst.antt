-- Every block that takes an index starts with its id, which is whole.
use mathlib.Core.Path.{◌≡◌, refl, ap, sym, ◌∙◌}
use mathlib.Core.List.{List, [], ◌∷◌}
use Prim.Native.Nat.{ℕ, ◌+◌, ◌≤◌}
use native.Mathlib.Omega.{arith}
use lib.ListN.{length}
use Rattle.descriptor_fields.specs.Layouts.{Layout, layout}
use Rattle.descriptor_fields.specs.Fields.{Known, Element}
use Rattle.descriptor_blocks.specs.Blocks.{Item, next, counting, fields, section, block_from}
use Rattle.descriptor_fields.specs.declared.Draft.{Draft}
use Rattle.descriptor_fields.proofs.Rows.{among, either}
use Rattle.descriptor_fields.proofs.Extents.{extent_id}
use Rattle.descriptor_blocks.proofs.Loops.{fresh}
use Rattle.descriptor_blocks.proofs.Readings.{between, stepped}

-- a layout whose first field is the id
pub record IdFirst (l : Layout) : Type 0 where
  pub rest : List ℕ
  pub is : l.head ≡ 1 ∷ rest

own : (l : Layout) (r : List ℕ) → l.head ≡ 1 ∷ r → IdFirst l
own l r e = record { rest = r; is = e }

pub id_first : (tag : ℕ) → (tag ≡ 127 → ⊥) → IdFirst (layout tag)
unfolding layout
id_first tag n =
    either IdFirst tag 0 _ _ (own _ _ refl) (either IdFirst tag 1 _ _ (own _ _ refl) (either IdFirst tag 4 _ _ (own _ _ refl) (either IdFirst tag 5 _ _ (own _ _ refl)
    (either IdFirst tag 6 _ _ (own _ _ refl) (either IdFirst tag 7 _ _ (own _ _ refl) (either IdFirst tag 8 _ _ (own _ _ refl) (either IdFirst tag 9 _ _ (own _ _ refl)
    (either IdFirst tag 10 _ _ (own _ _ refl) (either IdFirst tag 11 _ _ (own _ _ refl) (either IdFirst tag 13 _ _ (own _ _ refl)
    (among IdFirst tag 127 _ _ n (own _ _ refl))))))))))))

pub id_whole : (d : List ℕ) (known : List Known) (tag at : ℕ) → (tag ≡ 127 → ⊥) → (x : Draft) (es : List Element) (is : List Item)
    → block_from d known tag at ≡ next x es is → at + 16 ≤ length d
unfolding block_from section fields
id_whole d known tag at n x es is e =
    let l = id_first tag n in
    let a = between _ _ x es is e in
    let b = between _ _ a.draft a.list a.read a.first in
    let f : fields d known tag (1 ∷ l.rest) (counting 0 (fresh at)) [] ≡ next b.draft b.list b.read =
    ap (λ (cs : List ℕ). fields d known tag cs (counting 0 (fresh at)) []) (sym l.is) ∙ b.first in
    let g = between _ _ b.draft b.list b.read f in
    let s = stepped d known tag 1 (counting 0 (fresh at)) [] g.draft g.list g.read g.first in
    omega (arith, s.inside, extent_id d 1 at refl)
