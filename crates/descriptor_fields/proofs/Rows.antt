-- The layouts of tags, and the code's runs of numbers for them.
use mathlib.Core.Path.{◌≡◌, refl, ap, ◌∙◌}
use Prim.Native.Nat.{ℕ}
use lib.Dec.{eqb}
use borrow.Author.Tests.{ne_eqb}
use Rattle.wire.proofs.Picks.{pick_case}
use Rattle.descriptor_fields.specs.Layouts.{Layout, layout, up_to_end, spelled, padded, encoded}
use Rattle.descriptor_fields.specs.declared.kinds.BlockFields.{BlockFields}
use Rattle.protocol.specs.Numbers.{pick}

-- what holds of each tag's layout that a test does not rule out holds of the layout
module _ (P : Layout → Type 0) (tag : ℕ) where
  pub among : (k : ℕ) (a b : Layout) → (tag ≡ k → ⊥) → P b → P (pick (eqb tag k) a b)
  unfolding pick
  among k a b n p = rw (ne_eqb tag k n) p

  pub either : (k : ℕ) (a b : Layout) → P a → P b → P (pick (eqb tag k) a b)
  either k a b p q = pick_case P (eqb tag k) a b (λ e. p) (λ e. q)

-- the runs of a layout name it
record Spells (l : Layout) : Type 0 where
  is : spelled (encoded l) ≡ l

spells : (tag : ℕ) → Spells (layout tag)
unfolding layout padded up_to_end pick
spells tag =
    either Spells tag 0 _ _ (record { is = refl })
    (either Spells tag 1 _ _ (record { is = refl })
    (either Spells tag 4 _ _ (record { is = refl })
    (either Spells tag 5 _ _ (record { is = refl })
    (either Spells tag 6 _ _ (record { is = refl })
    (either Spells tag 7 _ _ (record { is = refl })
    (either Spells tag 8 _ _ (record { is = refl })
    (either Spells tag 9 _ _ (record { is = refl })
    (either Spells tag 10 _ _ (record { is = refl })
    (either Spells tag 11 _ _ (record { is = refl })
    (either Spells tag 13 _ _ (record { is = refl }) (either Spells tag 127 _ _ (record { is = refl }) (record { is = refl }))))))))))))

pub spelled_is : (r : BlockFields) (tag : ℕ) → r ≡ encoded (layout tag) → spelled r ≡ layout tag
spelled_is r tag e = ap spelled e ∙ (spells tag).is
