-- `wire_letters::letters::threes_end` meets its contract: what the arms say of a first byte is what the table says, which is computed at each byte.
use mathlib.Core.Path.{refl}
use Prim.Native.Nat.{◌≤◌}
use native.Mathlib.Omega.{arith}
use lib.ListN.{get_or}
use Rattle.wire.specs.Scan.{followers, ahead}
use Rattle.wire_letters.specs.Scan.{firsts}
use Rattle.wire_letters.proofs.Rows.{letters_are}
use Rattle.protocol.specs.Numbers.{pick}
use Rattle.protocol.specs.Text.{within, utf8_table, following}
use Rattle.wire_letters.proofs.letters.threes_end.Goals as goal
use Rattle.wire_letters.proofs.letters.threes_end.Goals.{in_default-via-then-this-lt224, in_default-via-else-this-lt224+else-this-lt237}

pub returns-in-224 : goal.returns-in-224
unfolding pick within utf8_table following followers ahead firsts
returns-in-224 c = letters_are _ _ 0xe0 1 _ refl c.requires.0 (omega arith) (omega arith) _ c.row_end.ensures

pub returns-in-225-to-236 : goal.returns-in-225-to-236
unfolding pick within utf8_table following followers ahead firsts
returns-in-225-to-236 c = letters_are _ _ 0xe1 12 _ refl c.requires.0 (omega arith) (omega arith) _ c.row_end-in-225-to-236.ensures

pub returns-in-237 : goal.returns-in-237
unfolding pick within utf8_table following followers ahead firsts
returns-in-237 c = letters_are _ _ 0xed 1 _ refl c.requires.0 (omega arith) (omega arith) _ c.row_end-in-237.ensures

pub returns-in_default : goal.returns-in_default
unfolding pick within utf8_table following followers ahead firsts
returns-in_default c =
    let low : 0xee ≤ get_or c.args.s.now c.args.i 0 = elim c.in_default.branch [ in_default-via-then-this-lt224 w ↦ omega arith | in_default-via-else-this-lt224+else-this-lt237 w ↦ omega arith ] in
    letters_are _ _ 0xee 2 _ refl c.requires.0 low (omega arith) _ c.row_end-in_default.ensures
