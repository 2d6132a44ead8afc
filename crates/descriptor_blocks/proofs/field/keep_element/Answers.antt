-- `descriptor_blocks::field::keep_element` meets its contract.
use mathlib.Core.Path.{ap, ◌∙◌}
use native.Mathlib.Omega.{arith}
use Prim.Native.Nat.{ℕ, ◌+◌}
use lib.ListN.{length-set}
use Rattle.descriptor_fields.proofs.Extents.{width_reference}
use Rattle.descriptor_blocks.proofs.Rules.{max_is, kept_element, grown_element, element_more}
use Rattle.protocol.specs.Numbers.{at_least}
use Rattle.descriptor_blocks.proofs.field.keep_element.Goals as goal

pub number_at-v-requires : goal.number_at-v-requires
number_at-v-requires c =
    omega (arith, c.requires.2, width_reference c.args.field.code (omega (arith, c.requires.1)))

pub bounds-elements-k-2 : goal.bounds-elements-k-2
bounds-elements-k-2 c =
    simp length-set (omega (arith, c.requires.0.room, c.requires.0.few))

pub bounds-elements-k-3 : goal.bounds-elements-k-3
bounds-elements-k-3 c =
    simp length-set (omega (arith, c.requires.0.room, c.requires.0.few))

pub returns : goal.returns
returns c = record {
  value = kept_element _ _ _ _ _ c.requires.1 _
      c.number_at-v.ensures _
      (c.max.ensures ∙ max_is _ _
      ∙ ap (λ (h : ℕ). at_least c.args.field.x.height (h + 1)) c.height_at.ensures.value);
  elements = element_more _ _ _ _ _
      (omega (arith, c.requires.0.room, c.requires.0.few))
      ∙ grown_element _ _ _ c.requires.1 _ c.number_at-v.ensures _;
}
