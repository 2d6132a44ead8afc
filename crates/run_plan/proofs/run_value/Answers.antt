-- `run_plan::run_value` meets its contract: a refusal, too little room, and the list of the second pass.
use Rattle.run_plan.proofs.Runs.{gives_refused, gives_full, gives_listed}
use mathlib.Core.Path.{refl}
use Rattle.std.proofs.lemmas.Result.{err_from_is_err_and}
use Rattle.run_plan.proofs.run_value.Goals as goal

pub returns-in_err-words : goal.returns-in_err-words
returns-in_err-words c =
    let p = err_from_is_err_and c.from_residual.result c.from_residual.ensures.1 in
    rw (p.1, p.2) (gives_refused _ _ _ _ _ c.in_err-words.ensures _ _ refl)

pub returns-then-list-words : goal.returns-then-list-words
returns-then-list-words c =
    rw c.at.ensures (gives_full _ _ _ _ _ c.in_ok-words.ensures _ _ refl c.if-list-words.true)

pub returns : goal.returns
returns c =
    gives_listed _ _ _ _ _ c.in_ok-words.ensures _ _ refl c.if-list-words.false _ _ c.check_value-2.ensures
