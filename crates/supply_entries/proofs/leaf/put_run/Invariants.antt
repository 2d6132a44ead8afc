-- `supply_entries::leaf::put_run` meets its contract: what is left leads to the
-- same place, with the indexes so far marked and counted, or one was given twice.
use mathlib.Core.Path.{◌≡◌}
use Rattle.supply_entries.proofs.Elements.{Gathering}
use Rattle.supply_entries.proofs.leaf.put_run.Given as goal

abbrev pub invariant-loop-n : goal.invariant-loop-n
invariant-loop-n l =
    (l.run.count ≡ l.n) × Gathering l.src l.plan l.node l.count l.list l.word l.at l.initial.out l.run.count l.run.given l.run.word l.run.at l.out
