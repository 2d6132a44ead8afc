-- `c_find::find_lost` meets its contract.
use mathlib.Core.Path.{sym}
use native.Mathlib.Omega.{arith}
use Prim.Native.Nat.{◌/◌}
use lib.ListN.{length, length-take}
use Rattle.c_words.proofs.Words.{length_in, crosses_most, filled_words}
use Rattle.c_find.proofs.Findings.{lost_refused, lost_listed}
use Rattle.c_find.proofs.find_lost.Goals as goal

pub take_words-requires : goal.take_words-requires
take_words-requires c = omega (arith, crosses_most _ c.requires)

pub slice_bounds-words-end : goal.slice_bounds-words-end
slice_bounds-words-end c = omega (arith, crosses_most _ c.requires)

pub slice_bounds-check-end : goal.slice_bounds-check-end
slice_bounds-check-end c =
    simp length-take (omega (arith, c.take_words.auto.words, crosses_most _ c.requires))

pub returns-in-Err : goal.returns-in-Err
returns-in-Err c =
    let e = filled_words _ _ _ (length c.args.plan.now / 4) c.take_words.ensures (sym (length_in c.args.plan.now)) (omega (arith, crosses_most _ c.requires)) in
    lost_refused c.args.plan.now _ _ e _ _ _ c.check.ensures _ c.in-Err.is

pub returns-in-Ok : goal.returns-in-Ok
returns-in-Ok c =
    let e = filled_words _ _ _ (length c.args.plan.now / 4) c.take_words.ensures (sym (length_in c.args.plan.now)) (omega (arith, crosses_most _ c.requires)) in
    rw c.at.ensures (lost_listed c.args.plan.now _ _ e _ _ _ c.check.ensures _ c.in-Ok.is)
