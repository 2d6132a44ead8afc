use mathlib.Core.Path.{sym, ◌∙◌}
use native.Mathlib.Omega.{arith}
use lib.ListN.{length-drop, length-set, length-take}
use Rattle.std.proofs.lemmas.Result.{err_from_is_err_and}
use Rattle.message_layout.specs.Judged.{judged_all}
use Rattle.message_layout.proofs.Starts.{start_below, unknown, known}
use Rattle.message_write.specs.Emitting.{Bounded}
use Rattle.message_write.proofs.Puts.{led_is, faulty_is, exact, puts_unknown, puts_faulty, puts_left, puts_long, puts_full, puts_whole}
use Rattle.message_write.proofs.write.Goals as goal

pub returns-in_err-start : goal.returns-in_err-start
returns-in_err-start c =
    let p = err_from_is_err_and c.from_residual.result c.from_residual.ensures.1 in
    let e = unknown _ _ _ c.ok_or.ensures.value _ c.in_err-start.was in
    rw (p.1, p.2, e.1) (puts_unknown _ _ _ _ _ (sym e.0 ∙ c.start_of.ensures))

pub walk-requires : goal.walk-requires
unfolding Bounded
walk-requires c =
    let k = sym (known _ _ _ c.ok_or.ensures.value _ c.in_ok-start.was) ∙ c.start_of.ensures in
    (start_below _ _ _ k, (omega arith, omega arith), omega arith)

pub returns-in_err-whole : goal.returns-in_err-whole
unfolding judged_all
returns-in_err-whole c =
    let p = err_from_is_err_and c.from_residual-in_err-whole.result c.from_residual-in_err-whole.ensures.1 in
    let e = unknown _ _ _ c.ok_or-2.ensures.value _ c.in_err-whole.was in
    rw (p.1, p.2, e.1)
    (puts_faulty _ _ _ _ _ _ (sym (known _ _ _ c.ok_or.ensures.value _ c.in_ok-start.was) ∙ c.start_of.ensures) _
    (faulty_is _ _ _ _ _ _ e.0 c.walk.ensures.out_after))

pub returns-then-whole-list : goal.returns-then-whole-list
unfolding judged_all
returns-then-whole-list c =
    puts_left _ _ _ _ _ _ (sym (known _ _ _ c.ok_or.ensures.value _ c.in_ok-start.was) ∙ c.start_of.ensures) _ _
    (led_is _ _ _ _ _ _ _ (known _ _ _ c.ok_or-2.ensures.value _ c.in_ok-whole.was) c.walk.ensures.out_after)
    (simp length-drop (omega arith))

pub returns-then-len-gt-MOST_MESSAGE : goal.returns-then-len-gt-MOST_MESSAGE
unfolding judged_all
returns-then-len-gt-MOST_MESSAGE c =
    puts_long _ _ _ _ _ _ (sym (known _ _ _ c.ok_or.ensures.value _ c.in_ok-start.was) ∙ c.start_of.ensures) _ _
    (led_is _ _ _ _ _ _ _ (known _ _ _ c.ok_or-2.ensures.value _ c.in_ok-whole.was) c.walk.ensures.out_after)
    (simp length-drop (omega arith)) c.if-len-gt-MOST_MESSAGE.true

pub returns-then-out-len : goal.returns-then-out-len
unfolding judged_all
returns-then-out-len c =
    puts_full _ _ _ _ _ _ (sym (known _ _ _ c.ok_or.ensures.value _ c.in_ok-start.was) ∙ c.start_of.ensures) _ _
    (led_is _ _ _ _ _ _ _ (known _ _ _ c.ok_or-2.ensures.value _ c.in_ok-whole.was) c.walk.ensures.out_after)
    (simp length-drop (omega arith)) c.if-len-gt-MOST_MESSAGE.false c.if-out-len.true

pub bounds-out-0 : goal.bounds-out-0
unfolding judged_all
bounds-out-0 c =
    let d = led_is _ _ _ _ _ _ _ (known _ _ _ c.ok_or-2.ensures.value _ c.in_ok-whole.was) c.walk.ensures.out_after in
    omega (arith, exact _ _ _ _ d c.if-len-gt-MOST_MESSAGE.false, c.if-out-len.false)

pub overflow_sub-len : goal.overflow_sub-len
unfolding judged_all
overflow_sub-len c =
    let d = led_is _ _ _ _ _ _ _ (known _ _ _ c.ok_or-2.ensures.value _ c.in_ok-whole.was) c.walk.ensures.out_after in
    omega (arith, exact _ _ _ _ d c.if-len-gt-MOST_MESSAGE.false)

pub put_u32-requires : goal.put_u32-requires
unfolding judged_all
put_u32-requires c =
    let d = led_is _ _ _ _ _ _ _ (known _ _ _ c.ok_or-2.ensures.value _ c.in_ok-whole.was) c.walk.ensures.out_after in
    simp length-set (omega (arith, exact _ _ _ _ d c.if-len-gt-MOST_MESSAGE.false, c.if-out-len.false))

pub walk-requires-2 : goal.walk-requires-2
unfolding Bounded
walk-requires-2 c =
    let k = sym (known _ _ _ c.ok_or.ensures.value _ c.in_ok-start.was) ∙ c.start_of.ensures in
    (start_below _ _ _ k, (omega arith, omega arith), simp length-take (omega (arith, c.if-len-gt-MOST_MESSAGE.false)))

pub returns : goal.returns
unfolding judged_all
returns c =
    puts_whole _ _ _ _ _ _ (sym (known _ _ _ c.ok_or.ensures.value _ c.in_ok-start.was) ∙ c.start_of.ensures) _ _
    (led_is _ _ _ _ _ _ _ (known _ _ _ c.ok_or-2.ensures.value _ c.in_ok-whole.was) c.walk.ensures.out_after)
    (simp length-drop (omega arith)) c.if-len-gt-MOST_MESSAGE.false
    c.if-out-len.false _ _ _ _
    c.put_u32.ensures c.walk-2.ensures.out_after
