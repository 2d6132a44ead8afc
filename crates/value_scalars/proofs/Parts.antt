-- A part of a value, from a position to its end, as code lends it.
use mathlib.Core.Path.{◌≡◌}
use mathlib.Core.List.{List}
use Prim.Native.Nat.{ℕ, ◌-◌}
use native.Mathlib.Omega.{arith}
use lib.ListN.{length, take, drop, length-drop}
use lib.Seq.{take_all}

pub to_end : (k : ℕ) (v : List ℕ) → take (length v - k) (drop k v) ≡ drop k v
to_end k v = take_all (length v - k) (drop k v) (rw length-drop (omega arith))
