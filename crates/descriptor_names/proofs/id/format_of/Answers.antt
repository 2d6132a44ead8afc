-- `descriptor_names::id::format_of` meets its contract.
use mathlib.Core.Path.{sym, ap, ◌∙◌}
use Prim.Native.Nat.{ℕ}
use native.Mathlib.Omega.{arith}
use Rattle.descriptor_fields.specs.Fields.{format_of}
use Rattle.descriptor_names.proofs.Ids.{id_small, id_large, format_big}
use Rattle.descriptor_names.proofs.id.format_of.Goals as goal

pub returns-then-uint_at-ne0 : goal.returns-then-uint_at-ne0
returns-then-uint_at-ne0 c =
    sym (format_big _
    (id_large _ _ (λ (j : ℕ). (c.type_inv.s j).fits) c.requires (λ e. c.if-uint_at-ne0.true (c.uint_at.ensures ∙ e)) 0x130 (omega arith)))

pub returns : goal.returns
returns c =
    c.format_of_low.ensures
    ∙ ap format_of
    (c.uint_at-2.ensures
    ∙ sym (id_small _ _ (λ (j : ℕ). (c.type_inv.s j).fits) c.requires (sym c.uint_at.ensures ∙ c.if-uint_at-ne0.false)))
