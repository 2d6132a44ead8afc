-- `wire_letters::letters::fours_end` meets its contract: what the arms say of a first byte is what the table says, which is computed at each byte.
use mathlib.Core.Path.{refl}
use Prim.Native.Nat.{◌≤◌}
use native.Mathlib.Omega.{arith}
use lib.ListN.{get_or}
use Rattle.wire.specs.Scan.{followers, ahead}
use Rattle.wire_letters.specs.Scan.{firsts}
use Rattle.wire_letters.proofs.Rows.{letters_are}
use Rattle.protocol.specs.Numbers.{pick}
use Rattle.protocol.specs.Text.{within, utf8_table, following}
use Rattle.wire_letters.proofs.letters.fours_end.Goals as goal
use Rattle.wire_letters.proofs.letters.fours_end.Goals.{in_default-via-then-this-lt240, in_default-via-else-this-lt240+else-this-lt244}

pub returns-in-240 : goal.returns-in-240
unfolding pick within utf8_table following followers ahead firsts
returns-in-240 c = letters_are _ _ 0xf0 1 _ refl c.requires.0 (omega arith) (omega arith) _ c.row_end.ensures

pub returns-in-241-to-243 : goal.returns-in-241-to-243
unfolding pick within utf8_table following followers ahead firsts
returns-in-241-to-243 c = letters_are _ _ 0xf1 3 _ refl c.requires.0 (omega arith) (omega arith) _ c.row_end-in-241-to-243.ensures

pub returns-in_default : goal.returns-in_default
unfolding pick within utf8_table following followers ahead firsts
returns-in_default c =
    let low : 0xf4 ≤ get_or c.args.s.now c.args.i 0 = elim c.in_default.branch [ in_default-via-then-this-lt240 w ↦ omega arith | in_default-via-else-this-lt240+else-this-lt244 w ↦ omega arith ] in
    letters_are _ _ 0xf4 1 _ refl c.requires.0 low (omega arith) _ c.row_end-in_default.ensures
