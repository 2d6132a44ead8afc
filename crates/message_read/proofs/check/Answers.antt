use mathlib.Core.Path.{sym, ◌∙◌}
use native.Mathlib.Omega.{arith}
use lib.ListN.{length-take}
use Rattle.std.proofs.lemmas.Result.{err_from_is_err_and}
use Rattle.message_layout.proofs.Starts.{start_below, unknown, known}
use Rattle.message_read.proofs.Ends.{check_short, check_length, check_more, check_unknown, check_known}
use Rattle.message_read.proofs.check.Goals as goal

pub returns-then-s-lt-MESSAGE_HEAD : goal.returns-then-s-lt-MESSAGE_HEAD
returns-then-s-lt-MESSAGE_HEAD c = rw c.at.ensures (check_short _ _ _ _ c.if-s-lt-MESSAGE_HEAD.true)

pub returns-then-length-lt4 : goal.returns-then-length-lt4
returns-then-length-lt4 c =
    rw c.at-then-length-lt4.ensures (check_length _ _ _ _ _ c.u32_at-length.ensures c.if-s-lt-MESSAGE_HEAD.false c.then-length-lt4.either)

pub returns-then-s-end : goal.returns-then-s-end
returns-then-s-end c =
    rw c.at-then-s-end.ensures
    (check_more _ _ _ _ _ c.u32_at-length.ensures c.if-s-lt-MESSAGE_HEAD.false c.if-length-lt4.false c.if-length-gt-MOST_LENGTH.false c.if-s-end.true)

pub returns-in_err-start : goal.returns-in_err-start
returns-in_err-start c =
    let p = err_from_is_err_and c.from_residual.result c.from_residual.ensures.1 in
    let e = unknown _ _ _ c.ok_or.ensures.value _ c.in_err-start.was in
    rw (p.1, p.2, e.1, c.at-2.ensures)
    (check_unknown _ _ _ _ _ c.u32_at-length.ensures c.if-s-lt-MESSAGE_HEAD.false
    c.if-length-lt4.false c.if-length-gt-MOST_LENGTH.false c.if-s-end.false _ c.start_of.ensures e.0)

pub check_body-requires : goal.check_body-requires
check_body-requires c = (
  start_below _ _ _ (sym (known _ _ _ c.ok_or.ensures.value _ c.in_ok-start.was) ∙ c.start_of.ensures),
  simp length-take (omega arith),
  simp length-take (omega arith),
)

pub returns : goal.returns
returns c =
    check_known _ _ _ _ _ c.u32_at-length.ensures c.if-s-lt-MESSAGE_HEAD.false
    c.if-length-lt4.false c.if-length-gt-MOST_LENGTH.false c.if-s-end.false _ c.start_of.ensures _ _
    (known _ _ _ c.ok_or.ensures.value _ c.in_ok-start.was) c.check_body.ensures
