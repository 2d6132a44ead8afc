-- `supply_entries::leaf::leaf_fits` meets its contract: by a size, by the format's own rule, or not at all.
use mathlib.Core.Path.{sym, ◌∙◌}
use Rattle.value_parts.proofs.Members.{inner_kind}
use Rattle.value_parts.proofs.Containers.{container_none}
use Rattle.supply_entries.proofs.Leaves.{fits_size}
use Rattle.supply_entries.proofs.leaf.leaf_fits.Goals as goal

pub returns-then-size-gt0 : goal.returns-then-size-gt0
returns-then-size-gt0 c =
    fits_size _ _ _ c.kind_at-kind.ensures.is c.if-kind-eq-KIND_LEAF.true _
    c.second_at.ensures _ c.fixed_size-size.ensures c.if-size-gt0.true _

pub returns-else-is_leaf : goal.returns-else-is_leaf
returns-else-is_leaf c =
    c.if-is_leaf.false ∙ container_none _ _ _ (inner_kind _ _ _ c.kind_at-kind.ensures (sym c.is_leaf.ensures ∙ c.if-is_leaf.false)) _
