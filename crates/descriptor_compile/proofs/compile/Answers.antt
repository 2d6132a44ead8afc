use mathlib.Core.Path.{sym, ap, ◌∙◌}
use Rattle.std.proofs.lemmas.Result.{err_from_is_err_and}
use Rattle.descriptor_compile.proofs.Compiles.{gives_refused, gives_full, gives_planned}
use Rattle.descriptor_compile.proofs.compile.Goals as goal

pub returns-in_err-words : goal.returns-in_err-words
returns-in_err-words c =
    let p = err_from_is_err_and c.from_residual.result c.from_residual.ensures.1 in rw (p.1, p.2) (gives_refused _ _ _ _ _ _ c.in_err-words.ensures)

pub returns-then-plan-words : goal.returns-then-plan-words
returns-then-plan-words c = rw c.at.ensures (gives_full _ _ _ _ _ _ c.in_ok-words.ensures c.if-plan-words.true)

pub returns : goal.returns
returns c = gives_planned _ _ _ _ _ _ c.in_ok-words.ensures c.if-plan-words.false _ _ c.check-2.ensures
