-- `value_leaves::told_at` meets its contract: a time of day is told by its bytes, and another leaf by its size alone or not at all.
use mathlib.Core.Path.{ap, ◌∙◌}
use Rattle.std.proofs.Common.{option_map}
use Rattle.value_leaves.specs.declared.Told.TheVariants.{Size}
use Rattle.value_leaves.proofs.Single.{time_is, some_time, not_timed, size_told}
use Rattle.value_leaves.proofs.told_at.Goals as goal
use Rattle.value_leaves.proofs.told_at.Goals.{else-kind_at-eq-KIND_LEAF-via-then-kind_at-eq-KIND_LEAF+else-second_at-eq-FORMAT_LOCAL_TIME, else-kind_at-eq-KIND_LEAF-via-else-kind_at-eq-KIND_LEAF}

pub returns-then-second_at-eq-FORMAT_LOCAL_TIME-clause-is : goal.returns-then-second_at-eq-FORMAT_LOCAL_TIME-clause-is
returns-then-second_at-eq-FORMAT_LOCAL_TIME-clause-is c =
    time_is _ _ _ c.kind_at.ensures.is c.if-kind_at-eq-KIND_LEAF.true _ c.second_at.ensures c.if-second_at-eq-FORMAT_LOCAL_TIME.true

pub returns-then-second_at-eq-FORMAT_LOCAL_TIME-clause-rule : goal.returns-then-second_at-eq-FORMAT_LOCAL_TIME-clause-rule
returns-then-second_at-eq-FORMAT_LOCAL_TIME-clause-rule c =
    some_time _ _ _ c.kind_at.ensures.is c.if-kind_at-eq-KIND_LEAF.true _ c.second_at.ensures c.if-second_at-eq-FORMAT_LOCAL_TIME.true

pub returns-in_err-size-clause-is : goal.returns-in_err-size-clause-is
returns-in_err-size-clause-is c =
    let n = c.in_err-size.ensures.is in
    elim c.else-kind_at-eq-KIND_LEAF.branch [
      | else-kind_at-eq-KIND_LEAF-via-then-kind_at-eq-KIND_LEAF+else-second_at-eq-FORMAT_LOCAL_TIME w ↦
          c.from_residual.ensures ∙ ap (option_map Size) n ∙ not_timed _ _ _ c.kind_at.ensures.is (λ e f. w.if-second_at-eq-FORMAT_LOCAL_TIME.false (w.second_at.ensures ∙ f))
      | else-kind_at-eq-KIND_LEAF-via-else-kind_at-eq-KIND_LEAF w ↦
          c.from_residual.ensures ∙ ap (option_map Size) n ∙ not_timed _ _ _ c.kind_at.ensures.is (λ e f. w.if-kind_at-eq-KIND_LEAF.false e)
    ]

pub returns-clause-is : goal.returns-clause-is
returns-clause-is c =
    let n = c.in_ok-size.ensures.is in
    elim c.else-kind_at-eq-KIND_LEAF.branch [
      | else-kind_at-eq-KIND_LEAF-via-then-kind_at-eq-KIND_LEAF+else-second_at-eq-FORMAT_LOCAL_TIME w ↦
          ap (option_map Size) n ∙ not_timed _ _ _ c.kind_at.ensures.is (λ e f. w.if-second_at-eq-FORMAT_LOCAL_TIME.false (w.second_at.ensures ∙ f))
      | else-kind_at-eq-KIND_LEAF-via-else-kind_at-eq-KIND_LEAF w ↦
          ap (option_map Size) n ∙ not_timed _ _ _ c.kind_at.ensures.is (λ e f. w.if-kind_at-eq-KIND_LEAF.false e)
    ]

pub returns-clause-rule : goal.returns-clause-rule
returns-clause-rule c = size_told _ _ _ c.in_ok-size.ensures.rule
