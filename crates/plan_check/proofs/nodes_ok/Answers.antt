-- `plan_check::nodes_ok` meets its contract: the root is looked for among the nodes that were read.
use mathlib.Core.Path.{◌∙◌}
use native.Mathlib.Omega.{arith}
use Rattle.plan_check.proofs.Scans.{reads_faulty, reads_room, reads_rising, reads_found}
use Rattle.plan_check.proofs.nodes_ok.Goals as goal

pub returns-in_default : goal.returns-in_default
returns-in_default g c = reads_faulty _ _ _ _ c.in_default.ensures

pub shared_whole_as_front-search : goal.shared_whole_as_front-search
shared_whole_as_front-search g c =
    (omega (arith, reads_room _ _ _ _ c.in-Some.ensures, c.read_nodes.auto.starts), omega arith)

pub search-requires : goal.search-requires
search-requires g c = reads_rising _ _ _ _ c.in-Some.ensures

pub returns : goal.returns
returns g c = c.is_some.ensures ∙ reads_found _ _ _ _ c.in-Some.ensures _ _ c.search.ensures
