-- `supply_entries::leaf::put_given` meets its contract: the indexes of all the leaves are handed to the set at once.
use mathlib.Core.Path.{refl}
use Rattle.supply_entries.proofs.Elements.{run_none, run_marked}
use Rattle.supply_entries.proofs.leaf.put_given.Goals as goal
use Rattle.supply_entries.proofs.leaf.put_given.Goals.{then-run-ne0, else-run-ne0}

pub returns : goal.returns
returns c =
    elim c.if-run-ne0.branch [
      | then-run-ne0 w ↦
          rw w.seen-is
          (run_marked _ _ _ _ _ _ _ _ _ _ _ _ _ c.put_run-run.ensures.1 _ c.new-seen.ensures.0 _ w.mark_entries-seen.ensures.1 _ w.mark_entries-seen.ensures.0)
      | else-run-ne0 w ↦
          rw w.seen-is (run_none _ _ _ _ _ _ _ _ _ _ _ _ _ c.put_run-run.ensures.1 w.if-run-ne0.false _ c.new-seen.ensures.0 _ c.new-seen.ensures.1 _ refl)
    ]
