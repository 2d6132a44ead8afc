-- `supply_entries::head::head_size` meets its contract, by its tests.
use Rattle.std.proofs.Common.{rules, inl, inr}
use Rattle.supply_entries.specs.Emitting.{head_size}
use Rattle.supply_entries.proofs.Heads.{size_other}
use Rattle.protocol.specs.Numbers.{pick}
use Rattle.supply_entries.proofs.head.head_size.Goals as goal

pub returns-in-3 : goal.returns-in-3
unfolding head_size pick
returns-in-3 c = rw c.in-3.is

pub returns-in-2 : goal.returns-in-2
unfolding head_size pick
returns-in-2 c = elim c.in-2.is [ inl e ↦ rw e | inr e ↦ rw e ]

pub returns-in_default : goal.returns-in_default
returns-in_default c = search (rules, size_other)
