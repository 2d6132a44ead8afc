use mathlib.Core.Path.{◌∙◌}
use mathlib.Core.List.{◌++◌}
use lib.ListN.{length-append}
use Rattle.message_intake.proofs.Hands.{field_is}
use Rattle.message_intake.proofs.length_field.Goals as goal

pub returns : goal.returns
returns c =
    let a = c.args in
    let s = a.held.now ++ a.src.now in
    c.join.ensures
    ∙ field_is s _ _ _ _ (simp length-append c.requires)
    c.byte_at.ensures c.byte_at-2.ensures c.byte_at-3.ensures
    c.byte_at-4.ensures
