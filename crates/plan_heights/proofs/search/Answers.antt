-- `plan_heights::search` meets its contract: what the search of a rising list says.
use Rattle.plan_heights.proofs.Starts.{among_searched}
use Rattle.plan_heights.proofs.search.Goals as goal

pub returns : goal.returns
returns c = rw c.ok.ensures.value (among_searched _ _ _ c.binary_search.ensures.position c.requires)
