use native.Mathlib.Omega.{arith}
use Rattle.std.proofs.lemmas.Result.{err_from_is_err_and}
use lib.ListN.{length-take}
use Rattle.run_compiled.proofs.Follows.{written, follows_refused, follows_run}
use Rattle.run_compiled.proofs.compile_and_run.Goals as goal

pub returns-in_err-words : goal.returns-in_err-words
returns-in_err-words c =
    let p = err_from_is_err_and c.from_residual.result c.from_residual.ensures.1 in rw (p.1, p.2) (follows_refused _ _ _ _ _ c.in_err-words.ensures _ _)

pub slice_bounds-run-end : goal.slice_bounds-run-end
slice_bounds-run-end c =
    let w = written _ _ _ _ _ c.in_ok-words.ensures in omega (arith, w.room, c.compile.auto.plan)

pub slice_bounds-run-end-2 : goal.slice_bounds-run-end-2
slice_bounds-run-end-2 c =
    let w = written _ _ _ _ _ c.in_ok-words.ensures in simp length-take (omega (arith, w.room, c.compile.auto.plan))

pub returns : goal.returns
returns c = follows_run _ _ _ _ _ c.in_ok-words.ensures _ _ _ _ c.run.ensures
