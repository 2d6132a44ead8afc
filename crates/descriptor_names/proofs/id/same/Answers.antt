use mathlib.Core.Path.{sym, ◌∙◌}
use Prim.Native.Nat.{ℕ}
use borrow.Author.Tests.{ne_eqb}
use Rattle.descriptor_names.proofs.Ids.{ids_end}
use Rattle.descriptor_names.proofs.id.same.Goals as goal

pub returns-else-u32_at : goal.returns-else-u32_at
returns-else-u32_at c =
    ne_eqb _ _ c.if-u32_at.false ∙ sym (ne_eqb _ _
    (λ e. c.if-u32_at.false
    (c.u32_at.ensures
    ∙ ids_end _ _ _ _ (λ (j : ℕ). (c.type_inv.s j).fits)
    (λ (j : ℕ). (c.type_inv.t j).fits) c.requires.0
    c.requires.1 e
    ∙ sym c.u32_at-2.ensures)))
