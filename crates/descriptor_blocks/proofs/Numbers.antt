-- A descriptor that is refused has a number from 10 to 18, at a place in it or at its end: so no refusal has number 0, and none is 30, which
-- is the plan's room alone. By induction over the fields and the blocks.
use mathlib.Core.Path.{◌≡◌, refl}
use mathlib.Core.List.{List, [], ◌∷◌}
use Rattle.std.specs.Prelude.{Ok, Err, Option, Some, None}
use Prim.Native.Nat.{ℕ, zero, suc, ◌+◌, ◌≤◌}
use native.Mathlib.Omega.{arith}
use lib.Dec.{lit≤}
use lib.ListN.{length, get_or}
use borrow.Author.Tests.{leb-false}
use Rattle.wire.proofs.Picks.{pick_case}
use Rattle.descriptor_fields.specs.Layouts.{layout}
use Rattle.descriptor_fields.specs.Fields.{Known, no_block, Element, Verdict, id_fault, text_fault, number_fault, count_fault, kind_fault, ref_fault, fault}
use Rattle.descriptor_blocks.specs.Blocks.{Item, Reading, stop, next, if_fine, noted, and_then, counting, field, fields, items, section, block_from}
use Rattle.descriptor_blocks.specs.Descriptor.{Block, summaries, Blocks, faulty, whole, onward, blocks_from, blocks_of, Description, refused_by, without_type, described, index_of, root_at, rooted, description_of}
use Rattle.descriptor_fields.specs.declared.Draft.{Draft}
use Rattle.descriptor_blocks.proofs.Progress.{block_past}

-- ---- a field

-- no fault, or one of 12 to 17
abbrev Ruled : Verdict → Type 0
Ruled (Ok u) = Unit {0}
Ruled (Err n) = (12 ≤ n) × (n ≤ 17)

module _ (d : List ℕ) (known : List Known) (tag : ℕ) where
  kind_ruled : (c : ℕ) (x : Draft) (k : Known) → Ruled (kind_fault d tag c x k)
  unfolding kind_fault
  kind_ruled c x k =
      pick_case Ruled _ _ _
      (λ _. pick_case Ruled _ _ _ (λ _. pick_case Ruled _ _ _ (λ _. (lit≤ tt, lit≤ tt)) (λ _. tt)) (λ _. tt))
      (λ _. (lit≤ tt, lit≤ tt))

  ref_ruled : (c : ℕ) (x : Draft) (v : ℕ) → Ruled (ref_fault d known tag c x v)
  unfolding ref_fault
  ref_ruled c x v =
      pick_case Ruled _ _ _ (λ _. tt) (λ _. pick_case Ruled _ _ _ (λ _. kind_ruled c x (get_or known v no_block)) (λ _. (lit≤ tt, lit≤ tt)))

  fault_ruled : (c : ℕ) (x : Draft) (es : List Element) → Ruled (fault d known tag c x es)
  unfolding fault id_fault text_fault number_fault count_fault
  fault_ruled c x es =
      pick_case Ruled _ _ _
      (λ _. pick_case Ruled _ _ _ (λ _. (lit≤ tt, lit≤ tt)) (λ _. pick_case Ruled _ _ _ (λ _. (lit≤ tt, lit≤ tt)) (λ _. tt)))
      (λ _. pick_case Ruled _ _ _
      (λ _. pick_case Ruled _ _ _
      (λ _. pick_case Ruled _ _ _ (λ _. pick_case Ruled _ _ _ (λ _. (lit≤ tt, lit≤ tt)) (λ _. tt)) (λ _. tt))
      (λ _. (lit≤ tt, lit≤ tt)))
      (λ _. pick_case Ruled _ _ _ (λ _. pick_case Ruled _ _ _ (λ _. tt) (λ _. (lit≤ tt, lit≤ tt)))
      (λ _. pick_case Ruled _ _ _
      (λ _. pick_case Ruled _ _ _ (λ _. (lit≤ tt, lit≤ tt))
      (λ _. pick_case Ruled _ _ _
      (λ _. pick_case Ruled _ _ _ (λ _. pick_case Ruled _ _ _ (λ _. (lit≤ tt, lit≤ tt)) (λ _. tt)) (λ _. tt))
      (λ _. tt)))
      (λ _. ref_ruled c x _))))

  -- ---- a block

  -- a reading stops with 10 to 17
  abbrev Stops : Reading → Type 0
  Stops (stop n) = (10 ≤ n) × (n ≤ 17)
  Stops (next x es is) = Unit {0}

  noted_stops : (is : List Item) (r : Reading) → Stops r → Stops (noted is r)
  unfolding noted
  noted_stops is (stop n) h = h
  noted_stops is (next x es js) h = tt

  then_stops : (r : Reading) (f : Draft → List Element → Reading) → Stops r → ((x : Draft) (es : List Element) → Stops (f x es)) → Stops (and_then r f)
  unfolding and_then
  then_stops (stop n) f h g = h
  then_stops (next x es is) f h g = noted_stops is (f x es) (g x es)

  rule_stops : (v : Verdict) (r : Reading) → Ruled v → Stops r → Stops (if_fine v r)
  unfolding if_fine
  rule_stops (Ok u) r f g = g
  rule_stops (Err n) r f g = (omega (arith, f.0), f.1)

  field_stops : (c : ℕ) (x : Draft) (es : List Element) → Stops (field d known tag c x es)
  unfolding field
  field_stops c x es =
      pick_case Stops _ _ _
      (λ _. rule_stops _ _ (fault_ruled c x es) tt)
      (λ _. (lit≤ tt, lit≤ tt))

  fields_stops : (cs : List ℕ) (x : Draft) (es : List Element) → Stops (fields d known tag cs x es)
  unfolding fields
  fields_stops [] x es = tt
  fields_stops (c ∷ cs) x es = then_stops (field d known tag c x es) (fields d known tag cs) (field_stops c x es) (fields_stops cs)

  items_stops : (cs : List ℕ) (n : ℕ) (x : Draft) (es : List Element) → Stops (items d known tag cs n x es)
  unfolding items
  items_stops cs zero x es = tt
  items_stops cs (suc n) x es = then_stops _ (items d known tag cs n) (fields_stops cs (counting (suc n) x) es) (items_stops cs n)

  section_stops : (cs is : List ℕ) (x : Draft) (es : List Element) → Stops (section d known tag cs is x es)
  unfolding section
  section_stops cs is x es = then_stops _ _ (fields_stops cs (counting 0 x) es) (λ y fs. items_stops is y.left y fs)

  block_stops : (at : ℕ) → Stops (block_from d known tag at)
  unfolding block_from
  block_stops at =
      then_stops _ _ (section_stops (layout tag).head (layout tag).first _ []) (section_stops (layout tag).more (layout tag).last)

-- ---- the blocks, and the descriptor

module _ (d : List ℕ) where
  -- refused with 10 to 17, at a place in the descriptor
  abbrev Faults : Blocks → Type 0
  Faults (faulty n p) = (10 ≤ n) × (n ≤ 17) × (p ≤ length d)
  Faults (whole bs) = Unit {0}

  -- a block that was read, and those after it
  onward_fault : (at : ℕ) (r : Reading) (f : Draft → List Element → List Item → Blocks) → at ≤ length d → (known : List Known) (tag : ℕ) → Stops d known tag r
      → ((x : Draft) (es : List Element) (is : List Item) → r ≡ next x es is → Faults (f x es is)) → Faults (onward at r f)
  unfolding onward
  onward_fault at (stop n) f l known tag s g = (s.0, s.1, l)
  onward_fault at (next x es is) f l known tag s g = g x es is refl

  blocks_fault : (f at : ℕ) (bs : List Block) → at ≤ length d → Faults (blocks_from d f at bs)
  unfolding blocks_from
  blocks_fault zero at bs l = (lit≤ tt, lit≤ tt, l)
  blocks_fault (suc f) at bs l =
      let known = summaries bs in
      let tag = get_or d at 0 in
      pick_case Faults _ _ _ (λ _. tt)
      (λ m. pick_case Faults _ _ _
      (λ k. pick_case Faults _ _ _ (λ _. (lit≤ tt, lit≤ tt, l))
      (λ _. onward_fault at (block_from d known tag (at + 1)) _ l known tag (block_stops d known tag (at + 1))
      (λ x es is e. blocks_fault f x.at _ (block_past d known tag k (at + 1) (omega (arith, leb-false (length d) at m)) x es is e).1)))
      (λ _. (lit≤ tt, lit≤ tt, l)))

  -- refused with 10 to 18, at a place in the descriptor or at its end; or accepted
  abbrev pub Refusable : Description → Type 0
  Refusable (refused_by n p) = (10 ≤ n) × (n ≤ 18) × (p ≤ length d)
  Refusable without_type = Unit {0}
  Refusable (described bs i) = Unit {0}

  root_refusable : (bs : List Block) (o : Option ℕ) → Refusable (root_at d bs o)
  unfolding root_at
  root_refusable bs None = (lit≤ tt, lit≤ tt, omega arith)
  root_refusable bs (Some i) = pick_case Refusable _ _ _ (λ _. tt) (λ _. (lit≤ tt, lit≤ tt, omega arith))

  rooted_refusable : (i : ℕ) (t : Blocks) → Faults t → Refusable (rooted d i t)
  unfolding rooted
  rooted_refusable i (faulty n p) h = (h.0, omega (arith, h.1), h.2)
  rooted_refusable i (whole bs) h = root_refusable bs (index_of d bs i)

  -- A descriptor is refused with nothing else.
  pub described_refusable : (root : List ℕ) → Refusable (description_of d root)
  unfolding description_of blocks_of
  described_refusable root =
      let R = Refusable in
      pick_case R _ _ _ (λ _. (lit≤ tt, lit≤ tt, omega arith))
      (λ _. pick_case R _ _ _
      (λ _. pick_case R _ _ _
      (λ _. pick_case R _ _ _ (λ _. tt) (λ _. (lit≤ tt, lit≤ tt, omega arith)))
      (λ _. rooted_refusable _ (blocks_from d (suc (length d)) 0 []) (blocks_fault (suc (length d)) 0 [] (omega arith))))
      (λ _. (lit≤ tt, lit≤ tt, omega arith)))
