-- `descriptor_blocks::block::items` meets its contract.
use Prim.Native.Nat.{◌-◌}
use Rattle.descriptor_fields.specs.Layouts.{up_to_end}
use Rattle.descriptor_fields.specs.Earlier.{before}
use Rattle.descriptor_blocks.proofs.Loops.{Counting}
use Rattle.descriptor_blocks.proofs.block.items.Given as goal

abbrev pub invariant-loop-done : goal.invariant-loop-done
invariant-loop-done l = Counting l.earlier.d.now (before l.earlier) l.tag (up_to_end l.codes) l.initial.y l.initial.elements (l.initial.y.left - l.done) l.y l.elements
