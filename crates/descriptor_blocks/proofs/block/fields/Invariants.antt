-- `descriptor_blocks::block::fields` meets its contract.
use Rattle.descriptor_fields.specs.Earlier.{before}
use Rattle.descriptor_blocks.proofs.Loops.{Going}
use Rattle.descriptor_blocks.proofs.block.fields.Given as goal

abbrev pub invariant-loop-code : goal.invariant-loop-code
invariant-loop-code l = Going l.earlier.d.now (before l.earlier) l.tag l.codes l.initial.y l.initial.elements l.code-index l.y l.elements
