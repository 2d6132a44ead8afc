-- What every accepted block obeys: how many elements it has and where they may refer, its height and its format.
use mathlib.Core.Path.{◌≡◌, sym, ◌∙◌}
use mathlib.Core.Bool.{true}
use mathlib.Core.List.{List, [], ◌∷◌}
use Prim.Native.Nat.{ℕ, suc, ◌+◌, ◌≤◌, ◌<◌}
use native.Mathlib.Omega.{arith}
use lib.Dec.{leb}
use lib.ListN.{length, get_or}
use borrow.Author.Tests.{leb-true}
use Rattle.wire.proofs.Picks.{pick_case}
use Rattle.descriptor_fields.specs.Layouts.{known_tag}
use Rattle.descriptor_fields.specs.Fields.{Known, Element, format_number}
use Rattle.descriptor_blocks.specs.Blocks.{Item, next, block_from}
use Rattle.descriptor_fields.specs.declared.Draft.{Draft}
use Rattle.descriptor_blocks.proofs.Tags.{single, bare, all_numbered}
use Rattle.descriptor_blocks.proofs.Elements.{no_element, target, raised_by, Refers, block_held}
use Rattle.descriptor_blocks.proofs.ScalarFormats.{scalar_format}
use Rattle.protocol.specs.Numbers.{at_least}

-- ---- heights

pub raised_least : (known : List Known) (h : ℕ) (es : List Element) → h ≤ raised_by known h es
unfolding raised_by at_least
raised_least known h [] = omega arith
raised_least known h (e ∷ es) =
    let k = (target known e).height + 1 in
    let l : h ≤ at_least h k = pick_case (λ m. h ≤ m) (leb h k) k h (λ t. leb-true h k t) (λ _. omega arith) in
    omega (arith, raised_least known (at_least h k) es)

pub raised_most : (known : List Known) (h : ℕ) (es : List Element) → h ≤ 32 → ((j : ℕ) → j < length es → (target known (get_or es j no_element)).height ≤ 31) → raised_by known h es ≤ 32
unfolding raised_by at_least
raised_most known h [] l each = l
raised_most known h (e ∷ es) l each =
    let k = (target known e).height + 1 in
    let m : at_least h k ≤ 32 = pick_case (λ m. m ≤ 32) (leb h k) k h (λ _. omega (arith, each 0 (omega arith))) (λ _. l) in
    raised_most known (at_least h k) es m (λ j i. each (suc j) (omega arith))

-- ---- a block

pub record Sound (known : List Known) (tag : ℕ) (x : Draft) (es : List Element) : Type 0 where
  pub few : length es ≤ 512
  pub one : single tag ≡ true → length es ≡ 1
  pub none : bare tag ≡ true → length es ≡ 0
  pub number : x.count ≡ length es
  pub each : (j : ℕ) → j < length es → Refers known tag (get_or es j no_element)
  pub high : x.height ≡ raised_by known 1 es
  pub format : tag ≡ 3 → format_number x.format < 20

pub block_sound : (d : List ℕ) (known : List Known) (tag at : ℕ) → known_tag tag ≡ true → (x : Draft) (es : List Element) (is : List Item)
    → block_from d known tag at ≡ next x es is → Sound known tag x es
block_sound d known tag at k x es is e =
    let h = block_held d known tag k at x es is e in
    let g = h.4 in
    let n = all_numbered h.0 h.1 h.2 h.3 tag k in
    record {
      few = omega (arith, g.count, n.few);
      one = λ t. g.count ∙ n.one t;
      none = λ t. g.count ∙ n.none t;
      number = g.number ∙ sym g.count;
      each = g.each;
      high = g.high;
      format = λ (q : tag ≡ 3). scalar_format d known at x es is (rw q at e);
    }

module _ (known : List Known) (tag : ℕ) (x : Draft) (es : List Element) (s : Sound known tag x es) where
  pub height_least : 1 ≤ x.height
  height_least = omega (arith, s.high, raised_least known 1 es)

  pub height_most : x.height ≤ 32
  height_most = omega (arith, s.high, raised_most known 1 es (omega arith) (λ j l. (s.each j l).low))
