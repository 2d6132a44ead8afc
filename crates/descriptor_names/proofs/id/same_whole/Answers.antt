-- `descriptor_names::id::same_whole` meets its contract.
use mathlib.Core.Path.{sym, ◌∙◌}
use Prim.Native.Nat.{ℕ}
use borrow.Author.Tests.{ne_eqb}
use Rattle.descriptor_names.proofs.Ids.{ids_low, ids_eqb}
use Rattle.descriptor_names.proofs.id.same_whole.Goals as goal

pub returns-then-uint_at : goal.returns-then-uint_at
returns-then-uint_at c =
    ids_eqb _ _ _ _ (λ (j : ℕ). (c.type_inv.s j).fits)
    (λ (j : ℕ). (c.type_inv.t j).fits)
    c.requires.0
    c.requires.1
    (sym c.uint_at.ensures ∙ c.if-uint_at.true ∙ c.uint_at-2.ensures) _ _
    c.uint_at-then-uint_at.ensures c.uint_at-then-uint_at-2.ensures

pub returns-else-uint_at : goal.returns-else-uint_at
returns-else-uint_at c =
    ne_eqb _ _ c.if-uint_at.false ∙ sym (ne_eqb _ _
    (λ e. c.if-uint_at.false
    (c.uint_at.ensures
    ∙ ids_low _ _ _ _ (λ (j : ℕ). (c.type_inv.s j).fits)
    (λ (j : ℕ). (c.type_inv.t j).fits) c.requires.0
    c.requires.1 e
    ∙ sym c.uint_at-2.ensures)))
