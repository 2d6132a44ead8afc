-- `wire::be::u16_at` meets its contract: the law of two bytes, and that each is below 256.
use Prim.Native.Nat.{◌+◌}
use native.Mathlib.Omega.{arith}
use Rattle.wire.proofs.Numbers.{be_two}
use Rattle.wire.proofs.be.u16_at.Goals as goal

pub returns : goal.returns
returns c =
    let a = c.args in
    let l = c.type_inv.s in
    omega (arith, be_two a.s.now a.at (omega arith), l a.at, l (a.at + 1))
