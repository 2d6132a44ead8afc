-- `plan_nodes::needs::needed_of` meets its contract: what the search finds is the node's need, in whatever order the table is.
use mathlib.Core.Path.{◌∙◌}
use native.Mathlib.Omega.{arith}
use Rattle.std.proofs.Common.{rules}
use Rattle.std.specs.FinMap.{nat_cmp-IsAntisymmetric}
use Rattle.std.proofs.lemmas.List.Sorted.{answers_always}
use Rattle.plan_nodes.specs.declared.needs.Need.{Need}
use Rattle.plan_nodes.proofs.Nodes.{at_pairs_size}
use Rattle.plan_nodes.proofs.Memos.{memo_hit}
use Rattle.plan_nodes.proofs.needs.needed_of.Goals as goal

pub returns-in-Ok : goal.returns-in-Ok
returns-in-Ok c =
    let none : Need = record { node = 0; count = 0 } in
    let found = c.in-Ok.ensures.position (λ need. need.node) (answers_always _ _ _ (λ f a r g called. search rules)) none in
    c.wide.ensures
    ∙ memo_hit _ _ c.requires.2 _ _ none c.in-Ok.ensures.bound (nat_cmp-IsAntisymmetric _ _ found)

pub count_required-requires : goal.count_required-requires
count_required-requires c =
    (c.second_at.ensures, omega (arith, c.second_at.ensures, at_pairs_size _ _ c.requires.0 (omega arith) (omega arith)))
