-- `plan_heights::Before::elements_height` meets its contract: a law for each way out of the loop.
use mathlib.Core.Path.{sym, ◌∙◌}
use native.Mathlib.Omega.{arith}
use Rattle.plan_heights.specs.Scan.{element_ref}
use Rattle.plan_heights.proofs.Heights.{climb_start, climb_end, climb_barred, climb_stop, climb_next}
use Rattle.plan_heights.proofs.Before.elements_height.Goals.{else-this-eq2-via-then-this-eq2+else-not-is_cardinality, else-this-eq2-via-else-this-eq2}
use Rattle.plan_heights.proofs.Before.elements_height.Goals as goal

pub loop-k-init : goal.loop-k-init
loop-k-init g c = climb_start _ _ _ _ _

pub returns-then-not-is_cardinality : goal.returns-then-not-is_cardinality
returns-then-not-is_cardinality g c =
    climb_barred _ _ _ _ _ _ _ c.loop-k.invariant _ (omega arith) c.if-this-eq2.true
    (sym c.is_cardinality.ensures ∙ c.if-not-is_cardinality.true)

pub returns-in_err-height : goal.returns-in_err-height
unfolding element_ref
returns-in_err-height g c =
    c.from_residual.ensures
    ∙ climb_stop _ _ _ _ _ _ _ c.loop-k.invariant _ (omega arith) c.in_err-height.ensures

pub loop-k-preserved : goal.loop-k-preserved
unfolding element_ref
loop-k-preserved g c =
    climb_next _ _ _ _ _ _ _ c.loop-k.invariant c.args.count (omega arith) _
    (λ two. elim c.else-this-eq2.branch [
      | else-this-eq2-via-then-this-eq2+else-not-is_cardinality w ↦ sym w.is_cardinality.ensures ∙ w.if-not-is_cardinality.false
      | else-this-eq2-via-else-this-eq2 w ↦ absurd (w.if-this-eq2.false two)
    ])
    c.in_ok-height.ensures

pub returns : goal.returns
returns g c = climb_end _ _ _ _ _ _ _ c.loop-k.invariant _ (omega arith)
