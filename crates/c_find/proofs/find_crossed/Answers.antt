-- `c_find::find_crossed` meets its contract.
use mathlib.Core.Path.{◌∙◌}
use native.Mathlib.Omega.{arith}
use Prim.Native.Nat.{◌+◌, ◌-◌, ◌/◌}
use lib.ListN.{length, length-replicate}
use Rattle.c_words.proofs.Words.{first_taken, second_taken}
use Rattle.c_find.proofs.Findings.{find_crossed}
use Rattle.c_find.proofs.find_crossed.Goals as goal

pub returns : goal.returns
returns g c =
    c.find.ensures
    ∙ find_crossed _ _ _ c.requires.0 c.requires.1 _ _
    (first_taken _ _ _ (simp length-replicate c.requires.2) _ c.take_both.ensures)
    (second_taken _ _ _ (simp length-replicate c.requires.2) _ c.take_both.ensures (length c.args.plan.now / 4 + length c.args.path.now / 4 - length c.args.plan.now / 4) (omega arith))
