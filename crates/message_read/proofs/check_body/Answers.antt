use native.Mathlib.Omega.{arith}
use Rattle.std.proofs.lemmas.Result.{err_from_is_err_and}
use Rattle.message_layout.specs.Judged.{judged_all}
use Rattle.message_read.specs.Scan.{Within}
use Rattle.message_read.proofs.Ends.{body_refused, body_left, body_whole}
use Rattle.message_read.proofs.check_body.Goals as goal

pub walk-requires : goal.walk-requires
unfolding Within
walk-requires c = (c.requires.0, (c.requires.1, omega arith))

pub returns-in_err-reached : goal.returns-in_err-reached
unfolding judged_all
returns-in_err-reached c =
    let p = err_from_is_err_and c.from_residual.result c.from_residual.ensures.1 in
    rw (p.1, p.2) (body_refused _ _ _ _ _ c.in_err-reached.ensures.list_after)

pub returns-then-reached-m : goal.returns-then-reached-m
unfolding judged_all
returns-then-reached-m c = rw c.at.ensures (body_left _ _ _ _ _ c.in_ok-reached.ensures.list_after c.if-reached-m.true)

pub returns : goal.returns
unfolding judged_all
returns c = body_whole _ _ _ _ _ c.in_ok-reached.ensures.list_after c.if-reached-m.false
