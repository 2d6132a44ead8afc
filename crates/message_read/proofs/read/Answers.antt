use Rattle.std.proofs.lemmas.Result.{err_from_is_err_and}
use Rattle.message_read.proofs.Ends.{gives_refused, gives_full, gives_read, accepts}
use Rattle.message_read.proofs.read.Goals as goal

pub returns-in_err-message : goal.returns-in_err-message
returns-in_err-message c =
    let p = err_from_is_err_and c.from_residual.result c.from_residual.ensures.1 in
    rw (p.1, p.2) (gives_refused _ _ _ _ _ c.in_err-message.ensures _)

pub returns-then-list-message : goal.returns-then-list-message
returns-then-list-message c = rw c.at.ensures (gives_full _ _ _ _ _ c.in_ok-message.ensures _ c.if-list-message.true)

pub fill-requires : goal.fill-requires
fill-requires c = accepts _ _ _ _ _ c.in_ok-message.ensures

pub returns : goal.returns
returns c = gives_read _ _ _ _ _ c.in_ok-message.ensures _ _ c.if-list-message.false c.fill.ensures
