-- `plan_nodes::needs::count_required` meets its contract. The loop's invariant: what was found is how many of the elements passed are required.
use mathlib.Core.Path.{◌≡◌}
use Rattle.value_heads.specs.Heads.{needed}
use Rattle.protocol.specs.Plans.{cards_at}
use Rattle.plan_nodes.proofs.needs.count_required.Given as goal

abbrev pub invariant-loop-i : goal.invariant-loop-i
invariant-loop-i l = l.found ≡ needed (cards_at l.plan l.at) l.i
