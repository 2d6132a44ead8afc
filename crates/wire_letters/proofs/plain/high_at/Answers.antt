-- `wire_letters::plain::high_at` meets its contract, by the law of eight bytes.
use native.Mathlib.Omega.{arith}
use Rattle.wire_letters.proofs.PlainRuns.{word_highs}
use Rattle.wire_letters.proofs.plain.high_at.Goals as goal

pub returns : goal.returns
returns c =
    word_highs c.args.s.now c.args.i c.from_le_bytes-word.result (λ j. omega (arith, c.type_inv.s j)) c.requires (omega (arith, c.from_le_bytes-word.ensures))
