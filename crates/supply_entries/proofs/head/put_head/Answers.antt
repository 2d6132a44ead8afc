-- `supply_entries::head::put_head` meets its contract, by its tests of the kind.
use Rattle.std.proofs.Common.{rules, inl, inr}
use Rattle.supply_entries.specs.Emitting.{head_of, with_kind}
use Rattle.protocol.specs.Numbers.{pick}
use Rattle.protocol.specs.Building.{head_bytes}
use Rattle.supply_entries.proofs.Heads.{head_envelope, head_other}
use Rattle.supply_entries.proofs.head.put_head.Goals as goal

pub returns-in-3 : goal.returns-in-3
returns-in-3 c = rw c.in-3.is (head_envelope _ _ _ _ _ _ c.put_pair.ensures c.put_pair-in-3.ensures)

pub returns-in-6 : goal.returns-in-6
unfolding head_of pick with_kind head_bytes
returns-in-6 c = rw c.in-6.is c.put_pair-in-6.ensures

pub returns-in-2 : goal.returns-in-2
unfolding head_of pick with_kind head_bytes
returns-in-2 c = elim c.in-2.is [ inl e ↦ rw e c.put_word.ensures | inr e ↦ rw e c.put_word.ensures ]

pub returns-in_default : goal.returns-in_default
returns-in_default c = search (rules, head_other)
