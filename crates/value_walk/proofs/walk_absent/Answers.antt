use Rattle.value_parts.specs.Walk.{walk_of}
use Rattle.value_parts.proofs.Walks.{alone}
use Rattle.protocol.specs.Values.{absent}
use Rattle.value_walk.proofs.walk_absent.Goals as goal

pub returns-clause-list_after : goal.returns-clause-list_after
unfolding walk_of absent
returns-clause-list_after c = alone _ _ _ _ c.put_entry.ensures
