-- `wire_letters::letters::letters_end` meets its contract: what the arms say of a first byte is what the table says, which is computed at each byte.
use mathlib.Core.Path.{refl}
use native.Mathlib.Omega.{arith}
use Rattle.wire.specs.Scan.{followers, ahead}
use Rattle.wire_letters.specs.Scan.{firsts}
use Rattle.wire_letters.proofs.Rows.{letters_are, letters_stray}
use Rattle.protocol.specs.Numbers.{pick}
use Rattle.protocol.specs.Text.{within, utf8_table, following}
use Rattle.wire_letters.proofs.letters.letters_end.Goals as goal

pub returns-in-194-to-223 : goal.returns-in-194-to-223
unfolding pick within utf8_table following followers ahead firsts
returns-in-194-to-223 c = letters_are _ _ 0xc2 30 _ refl c.requires.0 (omega arith) (omega arith) _ c.row_end.ensures

pub returns-in_default : goal.returns-in_default
unfolding pick within utf8_table following
returns-in_default c = letters_stray _ _ 0x80 66 refl c.requires.0 (omega arith) (omega arith)

pub returns-in_default-2 : goal.returns-in_default-2
unfolding pick within utf8_table following
returns-in_default-2 c = letters_stray _ _ 0xf5 11 refl c.requires.0 (omega arith) (omega (arith, c.type_inv.s c.args.i))
