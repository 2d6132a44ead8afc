-- `wire::be::u32_at` meets its contract: the law of four bytes.
use native.Mathlib.Omega.{arith}
use Rattle.wire.proofs.Numbers.{be_four}
use Rattle.wire.proofs.be.u32_at.Goals as goal

pub returns : goal.returns
returns c =
    let a = c.args in
    omega (arith, be_four a.s.now a.at (omega arith))
