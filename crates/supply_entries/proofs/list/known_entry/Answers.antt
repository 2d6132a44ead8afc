-- `supply_entries::list::known_entry` meets its contract: by whether there is an entry, and by its index.
use mathlib.Core.Path.{◌∙◌}
use Rattle.supply_entries.proofs.Entries.{known_short, known_whole}
use Rattle.supply_entries.proofs.list.known_entry.Goals as goal

pub returns-in_err-entry : goal.returns-in_err-entry
returns-in_err-entry c =
    c.from_residual.ensures ∙ known_short _ _ c.in_err-entry.ensures

pub returns : goal.returns
returns c =
    c.then_some.ensures ∙ known_whole _ _ _ c.in_ok-entry.ensures
