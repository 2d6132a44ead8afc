-- Nobody has to believe these definitions: they are what the code says to itself of reading a block field by field; that they give what
-- protocol's give is proved (descriptor_agree).
use Rattle.std.specs.Prelude.{ℕ, zero, suc, ◌+◌, List, [], ◌∷◌, ◌++◌, leb, length, Ok, Err, None}
use Rattle.descriptor_fields.specs.Layouts.{layout}
use Rattle.descriptor_fields.specs.Fields.{Known, Element, Verdict, extent, fault, kept, grown}
use Rattle.descriptor_fields.specs.declared.Draft.{Draft}
use Rattle.protocol.specs.Numbers.{pick}

-- a field that was read: its kind, and where it starts
pub record Item : Type 0 where
  pub kind : ℕ
  pub start : ℕ

-- A reading so far: the number of a refusal; or what is kept, the elements, and every field that was read.
pub data Reading : Type 0 where
  stop : ℕ → Reading
  next : Draft → List Element → List Item → Reading

unfoldable pub noted : List Item → Reading → Reading
noted is (stop n) = stop n
noted is (next x es js) = next x es (is ++ js)

unfoldable pub and_then : Reading → (Draft → List Element → Reading) → Reading
and_then (stop n) f = stop n
and_then (next x es is) f = noted is (f x es)

-- a reading, if the rule has nothing against it
unfoldable pub if_fine : Verdict → Reading → Reading
if_fine (Ok u) r = r
if_fine (Err n) r = stop n

-- what is kept, with a number of items to come
abbrev pub counting : ℕ → Draft → Draft
counting n x =
    record { at = x.at; left = n; free = x.free; format = x.format; height = x.height; card = x.card; name = x.name; count = x.count }

module _ (d : List ℕ) (known : List Known) (tag : ℕ) where
  -- 10 for a field that is not whole (R3.5); then its rule
  unfoldable pub field : ℕ → Draft → List Element → Reading
  field c x es =
      pick (leb (x.at + extent d c x.at) (length d))
      (if_fine (fault d known tag c x es) (next (kept d known tag c x) (grown d c x es) (record { kind = c; start = x.at } ∷ [])))
      (stop 10)

  unfoldable pub fields : List ℕ → Draft → List Element → Reading
  fields [] x es = next x es []
  fields (c ∷ cs) x es = and_then (field c x es) (fields cs)

  -- a run of items; each knows how many are left
  unfoldable pub items : List ℕ → ℕ → Draft → List Element → Reading
  items cs zero x es = next x es []
  items cs (suc n) x es = and_then (fields cs (counting (suc n) x) es) (items cs n)

  unfoldable pub section : List ℕ → List ℕ → Draft → List Element → Reading
  section cs is x es = and_then (fields cs (counting 0 x) es) (λ y fs. items is y.left y fs)

  -- the block whose tag stands before a place
  unfoldable pub block_from : ℕ → Reading
  block_from at =
      and_then
      (section (layout tag).head (layout tag).first
      (record { at = at; left = 0; free = 0; format = None; height = 1; card = 0; name = 0; count = 0 }) [])
      (section (layout tag).more (layout tag).last)
