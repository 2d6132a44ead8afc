-- `find_path::find` meets its contract.
use mathlib.Core.Path.{sym, ◌∙◌}
use native.Mathlib.Omega.{arith}
use Rattle.std.proofs.lemmas.Result.{err_from_is_err_and}
use Rattle.find_path.specs.Find.{outcome}
use Rattle.find_path.proofs.Calls.{finds_refused, sound, finds_nothing, finds_down}
use Rattle.find_path.proofs.find.Goals as goal

pub returns-in_err-check : goal.returns-in_err-check
unfolding outcome
returns-in_err-check c =
    let p = err_from_is_err_and c.from_residual.result c.from_residual.ensures.1 in
    rw (p.1, p.2) (finds_refused _ _ _ _ _ c.check.ensures _ _ c.in_err-check.was)

pub returns-then-no_type : goal.returns-then-no_type
unfolding outcome
returns-then-no_type c =
    rw c.at.ensures
    (finds_nothing _ _ _ _ _ c.check.ensures _ c.in_ok-check.was _ (sym c.no_type.ensures ∙ c.if-no_type.true))

pub root_of-requires : goal.root_of-requires
root_of-requires c =
    ((sound _ _ _ _ _ c.check.ensures _ c.in_ok-check.was).formed, sym c.no_type.ensures ∙ c.if-no_type.false)

pub down-requires : goal.down-requires
down-requires c = (c.root_of.ensures.1, let h = (sound _ _ _ _ _ c.check.ensures _ c.in_ok-check.was).few in omega (arith, h))

pub returns : goal.returns
returns c =
    c.down.ensures
    ∙ finds_down _ _ _ _ _ c.check.ensures _ c.in_ok-check.was (sym c.no_type.ensures ∙ c.if-no_type.false) _ c.root_of.ensures.0 c.root_of.ensures.1 _
