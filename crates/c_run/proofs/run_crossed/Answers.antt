use mathlib.Core.Path.{sym}
use native.Mathlib.Omega.{arith}
use Prim.Native.Nat.{◌/◌}
use lib.ListN.{length, length-take}
use Rattle.c_words.proofs.Words.{length_in, filled_words}
use Rattle.c_run.proofs.Runs.{crossed_plan}
use Rattle.c_run.proofs.run_crossed.Goals as goal

pub returns : goal.returns
returns g c =
    crossed_plan c.args.plan.now _ _ _ _ c.requires.0 _
    (filled_words _ _ _ (length c.args.plan.now / 4) c.take_words.ensures (sym (length_in c.args.plan.now)) (omega (arith, c.requires.1)))
    c.run_words.ensures
