use mathlib.Core.Path.{sym, ap, subst, ◌∙◌}
use native.Mathlib.Omega.{arith}
use Prim.Native.Nat.{ℕ, ◌+◌, ◌-◌, ◌<◌}
use lib.ListN.{length, take, drop}
use Rattle.message_layout.proofs.Codes.{μ_code, code_below, walk_falls}
use Rattle.message_write.specs.Emitting.{stand_of, Bounded}
use Rattle.message_write.proofs.Emits.{stop_from, go_from, from_field, from_stop, from_go, count_some, count_inside, from_end}
use Rattle.message_write.proofs.Emits.{from_item, times_one, times_none, first_word, some_left}
use borrow.Author.Rules.{rules}
use Rattle.protocol.specs.Numbers.{be}
use Rattle.message_write.proofs.Writer.+item_walk.Goals as goal

pub item-returns-then-code-lt-RUN-clause-out_after : goal.item-returns-then-code-lt-RUN-clause-out_after
item-returns-then-code-lt-RUN-clause-out_after t c = c.field.ensures.out_after ∙ from_field _ _ _ _ _ _ c.if-code-lt-RUN.true

pub item-returns-in_err-emitted-clause-out_after : goal.item-returns-in_err-emitted-clause-out_after
unfolding stand_of
item-returns-in_err-emitted-clause-out_after t c =
    rw c.from_residual.ensures (from_stop _ _ _ _ _ _ c.if-code-lt-RUN.false c.in_err-emitted.ensures.out_after)

pub item-offset_bounds-self-from : goal.item-offset_bounds-self-from
unfolding stand_of
item-offset_bounds-self-from t c =
    let h : c.args.from.word < length c.args.self.now.list.now =
    some_left _ _ (count_some _ _ _ _ _ _ c.if-code-lt-RUN.false c.requires.4 _ _ _ c.in_ok-emitted.ensures.out_after) in
    search rules

pub item-bounds-self-from : goal.item-bounds-self-from
unfolding stand_of
item-bounds-self-from t c =
    some_left _ _ (count_some _ _ _ _ _ _ c.if-code-lt-RUN.false c.requires.4 _ _ _ c.in_ok-emitted.ensures.out_after)

pub item-u16_at-count-requires : goal.item-u16_at-count-requires
unfolding stand_of
item-u16_at-count-requires t c =
    let h = count_inside _ _ _ _ _ _ c.if-code-lt-RUN.false c.requires.4 _ _ _ c.in_ok-emitted.ensures.out_after in
    rw (first_word c.args.self.now.list.now c.args.from.word) at h

pub item-walk-requires : goal.item-walk-requires
item-walk-requires t c =
    let e = c.from-items.ensures in (
      omega (arith, walk_falls _ c.if-code-lt-RUN.false c.requires.1, c.decreases),
      (omega (arith, c.requires.1), c.loop-item.invariant.0, c.loop-item.invariant.3),
    )

pub item-returns-in_err-emitted-2-clause-out_after : goal.item-returns-in_err-emitted-2-clause-out_after
unfolding stand_of
item-returns-in_err-emitted-2-clause-out_after t c =
    rw c.from_residual-in_err-emitted-2.ensures
    (stop_from _ _ _ _ c.in_err-emitted-2.ensures.out_after
    ∙ sym (times_one _ _ _ _ (c.u16_at-count.result - c.loop-item._item) (c.u16_at-count.result - (c.loop-item._item + 1)) (omega arith))
    ∙ sym c.loop-item.invariant.2
    ∙ sym (from_go _ _ _ _ _ _ c.if-code-lt-RUN.false c.requires.4 _ _ _ c.in_ok-emitted.ensures.out_after _ _ c.from-items.ensures
    (c.u16_at-count.ensures.0 ∙ ap (λ (k : ℕ). be (take 2 (drop k c.args.self.now.src.now))) (sym (first_word c.args.self.now.list.now c.args.from.word)))))

pub item-loop-item-preserved : goal.item-loop-item-preserved
unfolding stand_of
item-loop-item-preserved t c = (
  c.in_ok-emitted-2.ensures.bounded,
  c.walk.auto.out ∙ c.loop-item.invariant.1,
  c.loop-item.invariant.2
      ∙ times_one _ _ _ _ _ _ (omega arith)
      ∙ go_from _ _ c.loop-item.invariant.3 _ _ _ _ _ c.in_ok-emitted-2.ensures.out_after,
  omega (arith, c.walk.auto.out, c.loop-item.invariant.3),
)

pub item-returns-clause-out_after : goal.item-returns-clause-out_after
unfolding stand_of Bounded
item-returns-clause-out_after t c =
    times_none _ _ _ _ (c.u16_at-count.result - c.loop-item._item) (omega arith) c.loop-item.invariant.0.1
    ∙ sym c.loop-item.invariant.2
    ∙ sym (from_go _ _ _ _ _ _ c.if-code-lt-RUN.false c.requires.4 _ _ _ c.in_ok-emitted.ensures.out_after _ _ c.from-items.ensures
    (c.u16_at-count.ensures.0 ∙ ap (λ (k : ℕ). be (take 2 (drop k c.args.self.now.src.now))) (sym (first_word c.args.self.now.list.now c.args.from.word))))

pub walk-returns-then-code-eq-END-clause-out_after : goal.walk-returns-then-code-eq-END-clause-out_after
unfolding stand_of Bounded
walk-returns-then-code-eq-END-clause-out_after t c =
    from_end _ _ c.loop-emitted.invariant.3 c.code_at-code.ensures.code _ _ _ _ _ c.if-code-eq-END.true c.loop-emitted.invariant.0.1 ∙ sym c.loop-emitted.invariant.4

pub walk-item-requires : goal.walk-item-requires
walk-item-requires t c =
    let o = c.code_at-code.ensures in (
      subst (λ (n : ℕ). μ_code c.code_at-code.result < n)
          c.decreases
          (code_below _ _ _ c.loop-emitted.invariant.2 c.loop-emitted.invariant.3 o.inside o.ahead),
      (omega arith, o.inside, o.field, c.loop-emitted.invariant.0, c.loop-emitted.invariant.5),
    )

pub walk-returns-in_err-emitted-clause-out_after : goal.walk-returns-in_err-emitted-clause-out_after
unfolding stand_of
walk-returns-in_err-emitted-clause-out_after t c =
    rw c.from_residual.ensures
    (stop_from _ _ _ _ c.in_err-emitted.ensures.out_after
    ∙ sym (c.loop-emitted.invariant.4
    ∙ from_item _ _ c.loop-emitted.invariant.3 c.code_at-code.ensures.code _ _ _ _ _ (omega arith) c.code_at-code.ensures.ahead))

pub walk-loop-emitted-preserved : goal.walk-loop-emitted-preserved
unfolding stand_of
walk-loop-emitted-preserved t c =
    let z : 0 < c.code_at-code.result = omega arith in (
      c.in_ok-emitted.ensures.bounded,
      c.item.auto.out ∙ c.loop-emitted.invariant.1,
      omega arith,
      c.code_at-code.ensures.next z,
      c.loop-emitted.invariant.4
          ∙ from_item _ _ c.loop-emitted.invariant.3 c.code_at-code.ensures.code _ _ _ _ _ z c.code_at-code.ensures.ahead
          ∙ go_from _ _ c.loop-emitted.invariant.5 _ _ _ _ _ c.in_ok-emitted.ensures.out_after,
      omega (arith, c.item.auto.out, c.loop-emitted.invariant.5),
    )
