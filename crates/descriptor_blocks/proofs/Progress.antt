-- A block that is read ends after it starts, and within the descriptor.
use mathlib.Core.Path.{◌≡◌, ap}
use mathlib.Core.Bool.{true}
use mathlib.Core.List.{List, [], ◌∷◌}
use Prim.Native.Nat.{ℕ, suc, ◌+◌, ◌≤◌, ◌<◌}
use native.Mathlib.Omega.{arith}
use lib.ListN.{length}
use Rattle.wire.proofs.Picks.{pick_case}
use Rattle.descriptor_fields.specs.Layouts.{layout, known_tag}
use Rattle.descriptor_fields.specs.Fields.{Known, Element, width_of, extent, kept}
use Rattle.descriptor_blocks.specs.Blocks.{Item, next, counting, fields, items, section, block_from}
use Rattle.descriptor_fields.specs.declared.Draft.{Draft}
use Rattle.descriptor_blocks.proofs.Tags.{known_cases}
use Rattle.descriptor_blocks.proofs.Readings.{between, Step, fields_keep, items_keep}
use Rattle.protocol.specs.Numbers.{pick}

pub extent_some : (d : List ℕ) (c at : ℕ) → 1 ≤ extent d c at
unfolding extent width_of
extent_some d c at =
    let P : ℕ → Type 0 = λ n. 1 ≤ n in
    pick_case P _ _ _ (λ _. omega arith)
    (λ _. pick_case P _ _ _ (λ _. pick_case P _ _ _ (λ _. omega arith) (λ _. omega arith))
    (λ _. pick_case P _ _ _ (λ _. omega arith) (λ _. pick_case P _ _ _ (λ _. omega arith) (λ _. omega arith))))

module _ (d : List ℕ) (known : List Known) (tag : ℕ) where
  -- at a place or past it, and within the descriptor, with n fields yet to come
  abbrev Past : ℕ → ℕ → Draft → Type 0
  Past from n x = (from ≤ x.at + n) × (x.at ≤ length d)

  past_step : (from c : ℕ) (cs : List ℕ) (x : Draft) (es : List Element) → Past from (length {A = ℕ} (c ∷ cs)) x
      → (y : Draft) (fs : List Element) → Step d known tag c x es y fs → Past from (length cs) y
  unfolding kept
  past_step from c cs x es q y fs s =
      let e : x.at + extent d c x.at ≡ y.at = ap (λ (z : Draft). z.at) s.draft in
      (omega (arith, extent_some d c x.at, q.0), omega (arith, s.inside))

  fields_past : (from : ℕ) (cs : List ℕ) (x : Draft) (es : List Element) → Past from (length cs) x → (y : Draft) (fs : List Element) (is : List Item)
      → fields d known tag cs x es ≡ next y fs is → Past from 0 y
  fields_past from = fields_keep d known tag (λ cs x es. Past from (length cs) x) (past_step from)

  items_past : (from : ℕ) (cs : List ℕ) (n : ℕ) (x : Draft) (es : List Element) → Past from 0 x → (y : Draft) (fs : List Element) (is : List Item)
      → items d known tag cs n x es ≡ next y fs is → Past from 0 y
  items_past from cs =
      items_keep d known tag cs (λ n x es. Past from 0 x)
      (λ n x es q y fs is e. fields_past from cs (counting (suc n) x) es (omega (arith, q.0), q.1) y fs is e)

  section_past : (from : ℕ) (cs is : List ℕ) (x : Draft) (es : List Element) → Past from (length cs) x → (y : Draft) (fs : List Element) (js : List Item)
      → section d known tag cs is x es ≡ next y fs js → Past from 0 y
  unfolding section
  section_past from cs is x es q y fs js e =
      let b = between _ _ y fs js e in
      items_past from is b.draft.left b.draft b.list (fields_past from cs (counting 0 x) es q b.draft b.list b.read b.first) y fs b.rest b.second

  -- every block has a field
  head_some : known_tag tag ≡ true → 1 ≤ length (layout tag).head
  unfolding layout pick
  head_some =
      known_cases (λ tag. 1 ≤ length (layout tag).head) (omega arith) (omega arith) (omega arith) (omega arith) (omega arith) (omega arith) (omega arith) (omega arith) (omega arith) (omega arith)
      (omega arith) (omega arith) (omega arith) tag

  pub block_past : known_tag tag ≡ true → (at : ℕ) → at ≤ length d → (y : Draft) (fs : List Element) (is : List Item)
      → block_from d known tag at ≡ next y fs is → (at < y.at) × (y.at ≤ length d)
  unfolding block_from
  block_past k at l y fs is e =
      let b = between _ _ y fs is e in
      let f = section_past (suc at) (layout tag).head (layout tag).first _ [] (omega (arith, head_some k), l) b.draft b.list b.read b.first in
      let s = section_past (suc at) (layout tag).more (layout tag).last b.draft b.list (omega (arith, f.0), f.1) y fs b.rest b.second in
      (omega (arith, s.0), s.1)
