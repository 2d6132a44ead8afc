use mathlib.Core.Path.{sym, ◌∙◌}
use Rattle.descriptor_fields.specs.Fields.{id_at}
use Rattle.descriptor_compile.proofs.Compiles.{root_missing, root_below, root_valued, root_valueless}
use Rattle.descriptor_compile.proofs.root_node.Goals as goal

pub returns-in_err-i : goal.returns-in_err-i
returns-in_err-i c = rw c.from_residual.ensures (root_missing _ _ _ (sym c.in_err-i.was ∙ c.find.ensures))

pub tag-requires : goal.tag-requires
tag-requires c = root_below _ _ _ (id_at c.args.root.now 0) _ (sym c.in_ok-i.was ∙ c.find.ensures)

pub node-requires : goal.node-requires
node-requires c = root_below _ _ _ (id_at c.args.root.now 0) _ (sym c.in_ok-i.was ∙ c.find.ensures)

pub returns-then-has_values : goal.returns-then-has_values
returns-then-has_values c =
    root_valued _ _ _ (id_at c.args.root.now 0) _ (sym c.in_ok-i.was ∙ c.find.ensures) _ c.tag.ensures _ c.has_values.ensures c.if-has_values.true _
    c.node.ensures

pub returns : goal.returns
returns c =
    root_valueless _ _ _ (id_at c.args.root.now 0) _ (sym c.in_ok-i.was ∙ c.find.ensures) _ c.tag.ensures _ c.has_values.ensures c.if-has_values.false
