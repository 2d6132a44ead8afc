-- `wire::be::put_u32` meets its contract: std's four bytes are the definition's.
use mathlib.Core.Path.{◌∙◌}
use native.Mathlib.Omega.{arith}
use Rattle.protocol.specs.Numbers.{bytes_be}
use Rattle.wire.proofs.Numbers.{bytes_four, length_bytes}
use Rattle.wire.proofs.Stores.{part_stored}
use Rattle.wire.proofs.be.put_u32.Goals as goal

pub returns : goal.returns
returns c =
    let a = c.args in
    rw (c.copy_from_slice.ensures.after ∙ c.to_be_bytes.ensures ∙ bytes_four a.v) (part_stored a.out.now (bytes_be 4 a.v) a.at _ (omega (arith, length_bytes 4 a.v)) (omega arith))
