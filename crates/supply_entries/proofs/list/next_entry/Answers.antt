-- `supply_entries::list::next_entry` meets its contract: by how many words are left.
use mathlib.Core.Path.{◌∙◌}
use native.Mathlib.Omega.{arith}
use Rattle.std.proofs.lemmas.List.{take_rest}
use Rattle.supply_entries.proofs.Entries.{read_short, read_whole}
use Rattle.supply_entries.proofs.list.next_entry.Goals as goal

pub returns-in_err-get : goal.returns-in_err-get
returns-in_err-get c =
    c.from_residual.ensures ∙ read_short c.args.list.now c.args.word (omega (arith, c.in_err-get.ensures.lookup))

pub returns-in_default : goal.returns-in_default
returns-in_default c =
    read_short c.args.list.now c.args.word (omega (arith, c.in_ok-get.ensures.lookup))

pub returns : goal.returns
returns c =
    read_whole c.args.list.now c.args.word _
    (c.in_ok-get.ensures.lookup.0.2 ∙ take_rest c.args.list.now c.args.word) c.in-len5-up.len_at_least
