-- `find_path::child::child_head` meets its contract.
use mathlib.Core.Path.{sym, ◌∙◌}
use Rattle.value_parts.proofs.Members.{inner_kind}
use Rattle.find_path.proofs.Seeks.{child_leaf, child_wrong, child_seek, child_opened, object_few}
use Rattle.find_path.proofs.child.child_head.Goals as goal

pub kind_at-kind-requires : goal.kind_at-kind-requires
kind_at-kind-requires c = c.requires.0

pub returns-then-is_leaf : goal.returns-then-is_leaf
returns-then-is_leaf c =
    child_leaf _ _ _ _ _ c.kind_at-kind.ensures (sym c.is_leaf.ensures ∙ c.if-is_leaf.true)

pub open_node-requires : goal.open_node-requires
open_node-requires c =
    (c.requires.0, inner_kind _ _ _ c.kind_at-kind.ensures (sym c.is_leaf.ensures ∙ c.if-is_leaf.false))

pub returns-in_default : goal.returns-in_default
returns-in_default c = child_wrong _ _ _ _ _ _ c.open_node.ensures c.in_default.is

pub seek_head-requires : goal.seek_head-requires
seek_head-requires c =
    let k = inner_kind _ _ _ c.kind_at-kind.ensures (sym c.is_leaf.ensures ∙ c.if-is_leaf.false) in
    let o = child_opened _ _ _ _ c.in-Ok.ensures c.requires.0 _ k in
    (c.requires.0, k, object_few _ _ _ _ c.in-Ok.ensures _ k, o.0, c.requires.1, o.1)

pub returns : goal.returns
returns c = c.seek_head.ensures ∙ child_seek _ _ _ _ c.in-Ok.ensures _
