-- `wire::be::uint_at` meets its contract. The invariant: the number so far is that of the bytes passed, and below 256 to their number.
use mathlib.Core.Path.{◌≡◌}
use Prim.Native.Nat.{◌^◌, ◌<◌}
use lib.ListN.{take, drop}
use Rattle.protocol.specs.Numbers.{be}
use Rattle.wire.proofs.be.uint_at.Given as goal

abbrev pub invariant-loop-b : goal.invariant-loop-b
invariant-loop-b l = (l.v ≡ be (take l.b-index (drop l.at l.s))) × (l.v < 256 ^ l.b-index)
