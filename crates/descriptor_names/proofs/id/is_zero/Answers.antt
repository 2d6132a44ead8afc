-- `descriptor_names::id::is_zero` meets its contract.
use mathlib.Core.Path.{sym, ap, ◌∙◌}
use Prim.Native.Nat.{ℕ}
use lib.Dec.{eqb}
use borrow.Author.Tests.{ne_eqb}
use Rattle.descriptor_names.proofs.Ids.{id_small, id_some}
use Rattle.descriptor_names.proofs.id.is_zero.Goals as goal

pub returns-then-uint_at-eq0 : goal.returns-then-uint_at-eq0
returns-then-uint_at-eq0 c =
    ap (λ (n : ℕ). eqb n 0)
    (c.uint_at-then-uint_at-eq0.ensures
    ∙ sym (id_small _ _ (λ (j : ℕ). (c.type_inv.s j).fits)
    c.requires (sym c.uint_at.ensures ∙ c.if-uint_at-eq0.true)))

pub returns-else-uint_at-eq0 : goal.returns-else-uint_at-eq0
returns-else-uint_at-eq0 c =
    ne_eqb _ _ c.if-uint_at-eq0.false ∙ id_some _ _ (λ (j : ℕ). (c.type_inv.s j).fits) c.requires (λ e. c.if-uint_at-eq0.false (c.uint_at.ensures ∙ e))
