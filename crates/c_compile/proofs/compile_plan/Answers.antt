use native.Mathlib.Omega.{arith}
use Rattle.c_compile.proofs.Plans.{plans_refused, scratch_holds, plans_settled}
use Rattle.c_compile.proofs.compile_plan.Goals as goal

pub put_answer-requires : goal.put_answer-requires
put_answer-requires c =
    λ h. let w = scratch_holds _ _ _ _ c.args.plan.now _ c.in-Ok.ensures (omega arith) h in
    omega (arith, w, c.check.auto.scratch)

pub returns-in-Ok : goal.returns-in-Ok
returns-in-Ok c = plans_settled _ _ _ _ c.args.plan.now _ c.in-Ok.ensures (omega arith) _ _ c.put_answer.ensures

pub returns-in-Err : goal.returns-in-Err
returns-in-Err c = rw c.from.ensures (plans_refused _ _ _ _ _ _ c.in-Err.ensures)
