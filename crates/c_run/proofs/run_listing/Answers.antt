use native.Mathlib.Omega.{arith}
use lib.ListN.{length-replicate}
use Rattle.c_run.proofs.Runs.{settles_refused, scratch_holds, settles_listed}
use Rattle.c_run.proofs.run_listing.Goals as goal

pub put_answer-requires : goal.put_answer-requires
put_answer-requires g c =
    λ h. let w = scratch_holds _ _ _ _ c.args.list.now _ c.in-Ok.ensures (λ w a b. simp length-replicate (c.requires.0 w a b)) h in
    omega (arith, w, c.check.auto.scratch)

pub returns-in-Ok : goal.returns-in-Ok
returns-in-Ok g c =
    settles_listed _ _ _ _ c.args.list.now _ c.in-Ok.ensures (λ w a b. simp length-replicate (c.requires.0 w a b)) _ _ c.put_answer.ensures

pub returns-in-Err : goal.returns-in-Err
returns-in-Err g c = rw c.from.ensures (settles_refused _ _ _ _ _ _ c.in-Err.ensures)
