-- `supply_entries::head::put_word` meets its contract: at the output's end as many bytes go out as have room.
use mathlib.Core.Path.{ap, ◌∙◌}
use lib.Seq.{sets}
use Rattle.supply_entries.proofs.Stores.{four_bytes}
use Rattle.supply_entries.proofs.head.put_word.Goals as goal

pub returns-else-at-out : goal.returns-else-at-out
returns-else-at-out c = c.put_bytes.ensures ∙ ap (sets _ _) (c.to_be_bytes.ensures ∙ four_bytes _)
