-- `find_path::child::seek_head` meets its contract.
use mathlib.Core.Path.{◌≡◌}
use Prim.Native.Nat.{◌+◌, ◌-◌, ◌≤◌}
use lib.ListN.{length}
use Rattle.find_path.specs.Descent.{seek}
use Rattle.protocol.specs.Plans.{look}
use Rattle.find_path.proofs.child.seek_head.Given as goal

abbrev pub invariant-loop-i : goal.invariant-loop-i
invariant-loop-i l = record {
  inside : l.at ≤ length l.part;
  sought : seek (look l.plan l.node) l.part l.wanted (l.fn.opening.first + l.fn.opening.count - l.i) l.i l.at ≡ seek (look l.plan l.node) l.part l.wanted l.fn.opening.count l.fn.opening.first l.fn.opening.at;
}
