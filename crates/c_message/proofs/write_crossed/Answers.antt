use lib.ListN.{length}
use Prim.Native.Nat.{◌/◌}
use mathlib.Core.Path.{sym}
use native.Mathlib.Omega.{arith}
use Rattle.c_words.proofs.Words.{length_in, filled_words}
use Rattle.c_message.proofs.Messages.{writes_refused, writes_whole}
use Rattle.c_message.proofs.write_crossed.Goals as goal

pub whole_as_slice-take_words : goal.whole_as_slice-take_words
whole_as_slice-take_words g c = omega (arith, c.requires.2)

pub shared_whole_as_front-write : goal.shared_whole_as_front-write
shared_whole_as_front-write g c = (omega (arith, c.requires.1), omega (arith, c.requires.2))

pub returns-in-Ok : goal.returns-in-Ok
returns-in-Ok g c =
    let w = filled_words _ _ _ (length c.args.list.now / 4) c.take_words.ensures (sym (length_in c.args.list.now)) (omega (arith, c.requires.1)) in
    rw c.success.ensures (writes_whole _ _ _ _ _ c.requires.0 _ _ (rw w at c.in-Ok.ensures))

pub returns-in-Err : goal.returns-in-Err
returns-in-Err g c =
    let w = filled_words _ _ _ (length c.args.list.now / 4) c.take_words.ensures (sym (length_in c.args.list.now)) (omega (arith, c.requires.1)) in
    rw (c.from.ensures, c.at.ensures) (writes_refused _ _ _ _ _ c.requires.0 _ _ (rw w at c.in-Err.ensures))
