use native.Mathlib.Omega.{arith}
use lib.ListN.{length-replicate}
use Rattle.c_supply.proofs.Writes.{writes_crossed}
use Rattle.c_supply.proofs.write_crossed.Goals as goal

pub returns : goal.returns
returns g c =
    writes_crossed c.args.plan.now c.args.list.now _ _ _ _ c.requires.0 _ (simp length-replicate c.requires.1) _ c.take_both.ensures
    c.write_words.ensures
