-- Reading blocks never runs out of fuel: each ends after it starts, so that more fuel than bytes are left changes nothing.
use mathlib.Core.Path.{◌≡◌, refl}
use mathlib.Core.Bool.{Bool, true, false}
use mathlib.Core.List.{List}
use Prim.Native.Nat.{ℕ, zero, suc, ◌+◌, ◌≤◌, ◌<◌}
use native.Mathlib.Omega.{arith}
use lib.Dec.{leb}
use lib.ListN.{length, get_or}
use borrow.Author.Tests.{leb-false}
use Rattle.descriptor_fields.specs.Layouts.{known_tag}
use Rattle.descriptor_fields.specs.Fields.{Element}
use Rattle.descriptor_blocks.specs.Blocks.{Item, Reading, stop, next, block_from}
use Rattle.descriptor_blocks.specs.Descriptor.{Block, summaries, Blocks, faulty, whole, extended, full, onward, blocks_from}
use Rattle.descriptor_fields.specs.declared.Draft.{Draft}
use Rattle.descriptor_blocks.proofs.Progress.{block_past}
use Rattle.protocol.specs.Numbers.{pick}

-- two choices that agree where their test passes, or does not
pick_same : {A : Type 0} (t : Bool) (a a' b b' : A) → (t ≡ true → a ≡ a') → (t ≡ false → b ≡ b') → pick t a b ≡ pick t a' b'
unfolding pick
pick_same true a a' b b' f g = f refl
pick_same false a a' b b' f g = g refl

onward_same : (at : ℕ) (r : Reading) (f g : Draft → List Element → List Item → Blocks)
    → ((x : Draft) (es : List Element) (is : List Item) → r ≡ next x es is → f x es is ≡ g x es is) → onward at r f ≡ onward at r g
unfolding onward
onward_same at (stop n) f g h = refl
onward_same at (next x es is) f g h = h x es is refl

module _ (d : List ℕ) where
  pub blocks_fuel : (f g at : ℕ) (bs : List Block) → at ≤ length d → length d < at + f → length d < at + g → blocks_from d f at bs ≡ blocks_from d g at bs
  unfolding blocks_from
  blocks_fuel zero g at bs l a b = absurd (omega arith)
  blocks_fuel (suc f) zero at bs l a b = absurd (omega arith)
  blocks_fuel (suc f) (suc g) at bs l a b =
      pick_same (leb (length d) at) (whole bs) (whole bs) _ _ (λ _. refl)
      (λ m.
      let n = leb-false (length d) at m in
      pick_same (known_tag (get_or d at 0)) _ _ (faulty 11 at) (faulty 11 at)
      (λ k.
      pick_same (full bs (get_or d at 0)) (faulty 17 at) (faulty 17 at) _ _ (λ _. refl)
      (λ _.
      onward_same at (block_from d (summaries bs) (get_or d at 0) (at + 1)) _ _
      (λ x es is e.
      let p = block_past d (summaries bs) (get_or d at 0) k (at + 1) (omega arith) x es is e in
      blocks_fuel f g x.at (extended bs at (get_or d at 0) x es is) p.1 (omega (arith, p.0)) (omega (arith, p.0)))))
      (λ _. refl))
