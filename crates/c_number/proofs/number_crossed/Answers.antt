-- `c_number::number_crossed` meets its contract.
use native.Mathlib.Omega.{arith}
use Prim.Native.Nat.{◌+◌, ◌-◌, ◌/◌}
use lib.ListN.{length, length-replicate}
use Rattle.c_words.proofs.Words.{first_taken, second_taken}
use Rattle.c_number.proofs.Numbers.{number_crossed}
use Rattle.c_number.proofs.number_crossed.Goals as goal

pub returns : goal.returns
returns g c =
    number_crossed _ _ _ c.requires.0 c.requires.1 _ _
    (first_taken _ _ _ (simp length-replicate c.requires.2) _ c.take_both.ensures)
    (second_taken _ _ _ (simp length-replicate c.requires.2) _ c.take_both.ensures (length c.args.plan.now / 4 + length c.args.path.now / 4 - length c.args.plan.now / 4) (omega arith))
    _ c.find_number.ensures
