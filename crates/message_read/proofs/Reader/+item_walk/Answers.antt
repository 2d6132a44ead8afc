use mathlib.Core.Path.{refl, sym, subst, ◌∙◌}
use native.Mathlib.Omega.{arith}
use Prim.Native.Nat.{ℕ, ◌+◌, ◌-◌, ◌<◌}
use Rattle.std.proofs.lemmas.Result.{err_from_is_err_and}
use Rattle.message_layout.proofs.Codes.{μ_code, code_below, walk_falls}
use Rattle.message_read.specs.Scan.{outcome_of}
use Rattle.message_read.proofs.Walks.{scan_end, scan_item, item_field, item_run_lem, count_whole, stop, go, repeat_one, repeat_none}
use Rattle.message_read.proofs.Reader.+item_walk.Goals as goal

pub item-returns-then-code-lt-RUN-clause-list_after : goal.item-returns-then-code-lt-RUN-clause-list_after
item-returns-then-code-lt-RUN-clause-list_after t c = c.field.ensures.list_after ∙ item_field _ _ _ _ _ _ c.if-code-lt-RUN.true

pub item-returns-in_err-reached-clause-list_after : goal.item-returns-in_err-reached-clause-list_after
item-returns-in_err-reached-clause-list_after t c =
    let p = err_from_is_err_and c.from_residual.result c.from_residual.ensures.1 in
    rw (p.1, p.2)
    (stop _ _ _ _ _ _ c.in_err-reached.ensures.list_after ∙ item_run_lem _ _ _ _ _ _ c.if-code-lt-RUN.false _ _ refl refl)

pub item-u16_at-count-requires : goal.item-u16_at-count-requires
item-u16_at-count-requires t c = count_whole _ _ _ _ _ _ _ c.in_ok-reached.ensures.list_after

pub item-walk-requires : goal.item-walk-requires
item-walk-requires t c =
    let e = c.from-items.ensures in (
      omega (arith, walk_falls _ c.if-code-lt-RUN.false c.requires.1, c.decreases),
      (omega (arith, c.requires.1), c.loop-item.invariant.0),
    )

pub item-returns-in_err-reached-2-clause-list_after : goal.item-returns-in_err-reached-2-clause-list_after
item-returns-in_err-reached-2-clause-list_after t c =
    let p = err_from_is_err_and c.from_residual-in_err-reached-2.result c.from_residual-in_err-reached-2.ensures.1 in
    rw (p.1, p.2)
    (stop _ _ _ _ _ _ c.in_err-reached-2.ensures.list_after
    ∙ sym (repeat_one _ _ _ _ (c.u16_at-count.result - c.loop-item._item) (c.u16_at-count.result - (c.loop-item._item + 1)) (omega arith))
    ∙ sym c.loop-item.invariant.2
    ∙ sym (go _ _ _ _ _ _ c.in_ok-reached.ensures.list_after)
    ∙ item_run_lem _ _ _ _ _ _ c.if-code-lt-RUN.false _ _ c.from-items.ensures c.u16_at-count.ensures.0)

pub item-loop-item-preserved : goal.item-loop-item-preserved
item-loop-item-preserved t c = (
  c.in_ok-reached-2.ensures.within,
  c.walk.auto.list ∙ c.loop-item.invariant.1,
  c.loop-item.invariant.2
      ∙ repeat_one _ _ _ _ _ _ (omega arith)
      ∙ go _ _ _ _ _ _ c.in_ok-reached-2.ensures.list_after,
)

pub item-returns-clause-list_after : goal.item-returns-clause-list_after
unfolding outcome_of
item-returns-clause-list_after t c =
    repeat_none _ _ _ _ (c.u16_at-count.result - c.loop-item._item) (omega arith)
    ∙ sym c.loop-item.invariant.2
    ∙ sym (go _ _ _ _ _ _ c.in_ok-reached.ensures.list_after)
    ∙ item_run_lem _ _ _ _ _ _ c.if-code-lt-RUN.false _ _ c.from-items.ensures c.u16_at-count.ensures.0

pub walk-returns-then-code-eq-END-clause-list_after : goal.walk-returns-then-code-eq-END-clause-list_after
unfolding outcome_of
walk-returns-then-code-eq-END-clause-list_after t c =
    scan_end _ _ c.loop-reached.invariant.3 c.code_at-code.ensures.code _ _ _ _ _ c.if-code-eq-END.true ∙ sym c.loop-reached.invariant.4

pub walk-item-requires : goal.walk-item-requires
walk-item-requires t c =
    let o = c.code_at-code.ensures in (
      subst (λ (n : ℕ). μ_code c.code_at-code.result < n) c.decreases
          (code_below _ _ _ c.loop-reached.invariant.2 c.loop-reached.invariant.3 o.inside o.ahead),
      (omega arith, o.inside, o.field, c.loop-reached.invariant.0),
    )

pub walk-returns-in_err-reached-clause-list_after : goal.walk-returns-in_err-reached-clause-list_after
walk-returns-in_err-reached-clause-list_after t c =
    let p = err_from_is_err_and c.from_residual.result c.from_residual.ensures.1 in
    rw (p.1, p.2)
    (stop _ _ _ _ _ _ c.in_err-reached.ensures.list_after
    ∙ sym (c.loop-reached.invariant.4
    ∙ scan_item _ _ c.loop-reached.invariant.3 c.code_at-code.ensures.code _ _ _ _ _ (omega arith) c.code_at-code.ensures.ahead))

pub walk-loop-reached-preserved : goal.walk-loop-reached-preserved
walk-loop-reached-preserved t c =
    let z : 0 < c.code_at-code.result = omega arith in (
      c.in_ok-reached.ensures.within,
      c.item.auto.list ∙ c.loop-reached.invariant.1,
      omega arith,
      c.code_at-code.ensures.next z,
      c.loop-reached.invariant.4
          ∙ scan_item _ _ c.loop-reached.invariant.3 c.code_at-code.ensures.code _ _ _ _ _ z c.code_at-code.ensures.ahead
          ∙ go _ _ _ _ _ _ c.in_ok-reached.ensures.list_after,
    )
