-- `descriptor_nodes::put_refs` meets its contract.
use mathlib.Core.Path.{◌≡◌}
use Prim.Native.Nat.{◌-◌, ◌≤◌}
use lib.ListN.{length}
use lib.Seq.{sets}
use Rattle.descriptor_blocks.specs.Descriptor.{node_at}
use Rattle.descriptor_fields.specs.Earlier.{before}
use Rattle.descriptor_nodes.proofs.NodeWords.{refs_to}
use Rattle.descriptor_nodes.proofs.put_refs.Given as goal

abbrev pub invariant-loop-k : goal.invariant-loop-k
invariant-loop-k l =
    (length l.plan ≡ length l.initial.plan) × (l.plan ≡ sets l.initial.plan l.to (refs_to (node_at (before l.earlier)) l.elements l.k))
