-- `supply_entries::leaf::put_head` meets its contract.
use Rattle.supply_entries.specs.Emitting.{head_of, with_kind}
use Rattle.protocol.specs.Numbers.{pick}
use Rattle.protocol.specs.Building.{head_bytes}
use Rattle.supply_entries.proofs.leaf.put_head.Goals as goal

pub returns-then-kind-eq-KIND_SET_OR_ARRAY : goal.returns-then-kind-eq-KIND_SET_OR_ARRAY
unfolding head_of pick with_kind head_bytes
returns-then-kind-eq-KIND_SET_OR_ARRAY c = rw c.if-kind-eq-KIND_SET_OR_ARRAY.true c.put_word.ensures
