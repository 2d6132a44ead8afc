-- `supply_entries::head::put_pair` meets its contract: one store after the other.
use Rattle.supply_entries.proofs.Stores.{put_four}
use Rattle.supply_entries.proofs.head.put_pair.Goals as goal

pub returns : goal.returns
returns c =
    put_four _ _ _ _ _ _ c.put_word.ensures c.put_word-2.ensures
