-- `plan_nodes::needs::count_required` meets its contract. The loop's invariant: what was found is how many of the elements passed are required.
use mathlib.Core.Path.{sym, ◌∙◌}
use Prim.Native.Nat.{◌+◌, ◌<◌}
use native.Mathlib.Omega.{arith}
use lib.ListN.{get_or}
use Rattle.value_heads.proofs.Counts.{needed_none, needed_most}
use Rattle.plan_nodes.proofs.Memos.{count_yes, count_no, count_end}
use Rattle.protocol.specs.Plans.{cards_at}
use Rattle.plan_nodes.proofs.needs.count_required.Goals.{else-required, then-required}
use Rattle.plan_nodes.proofs.needs.count_required.Goals as goal

pub loop-i-init : goal.loop-i-init
loop-i-init c = needed_none _

pub overflow_add-found : goal.overflow_add-found
overflow_add-found c =
    omega (arith, c.loop-i.invariant, needed_most (cards_at c.args.plan.now c.args.at) c.loop-i.i)

pub loop-i-preserved : goal.loop-i-preserved
loop-i-preserved c =
    let few : c.loop-i.i < get_or c.args.plan.now (c.args.at + 1) 0 = omega (arith, c.requires.0) in
    elim c.if-required.branch [
      | then-required h ↦ h.found-is ∙ count_yes _ _ _ _ few c.loop-i.invariant (sym c.required.ensures ∙ h.if-required.true)
      | else-required h ↦ h.found-is ∙ count_no _ _ _ _ few c.loop-i.invariant (sym c.required.ensures ∙ h.if-required.false)
    ]

pub returns : goal.returns
returns c = count_end _ _ _ _ _ c.requires.0 (omega arith) c.loop-i.invariant
