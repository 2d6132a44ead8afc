-- `wire::text::sequence_at` meets its contract: what the arms say of a first byte is what the table says, which is computed at each byte.
use mathlib.Core.Path.{refl}
use native.Mathlib.Omega.{arith}
use Rattle.wire.specs.Scan.{followers, ahead, second}
use Rattle.wire.proofs.Sequences.{begins, stray}
use Rattle.protocol.specs.Numbers.{pick}
use Rattle.protocol.specs.Text.{within, utf8_table, following}
use Rattle.wire.proofs.text.sequence_at.Goals as goal

pub rest_at-requires : goal.rest_at-requires
unfolding pick within utf8_table following followers ahead second
rest_at-requires c =
    begins _ _ 0xc2 30 1 refl c.requires.0 (omega arith) (omega arith) (omega arith) (omega arith)

pub rest_at-requires-in-224-to-239 : goal.rest_at-requires-in-224-to-239
unfolding pick within utf8_table following followers ahead second
rest_at-requires-in-224-to-239 c =
    begins _ _ 0xe0 16 2 refl c.requires.0 (omega arith) (omega arith) (omega arith) (omega arith)

pub rest_at-requires-in-240-to-244 : goal.rest_at-requires-in-240-to-244
unfolding pick within utf8_table following followers ahead second
rest_at-requires-in-240-to-244 c =
    begins _ _ 0xf0 5 3 refl c.requires.0 (omega arith) (omega arith) (omega arith) (omega arith)

pub returns-in_default : goal.returns-in_default
unfolding pick within utf8_table following
returns-in_default c = stray _ _ 0x80 66 refl c.requires.0 (omega arith) (omega arith)

pub returns-in_default-2 : goal.returns-in_default-2
unfolding pick within utf8_table following
returns-in_default-2 c = stray _ _ 0xf5 11 refl c.requires.0 (omega arith) (omega (arith, c.type_inv.s c.args.i))
