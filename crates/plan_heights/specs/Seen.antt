-- Nobody has to believe this definition: it is what the nodes before another are to the rules.
use Rattle.std.specs.Prelude.{List}
use Rattle.plan_heights.specs.declared.Before.{Before}
use Rattle.plan_heights.specs.Scan.{known}
use Rattle.protocol.specs.Plans.{PlanNode}

-- the nodes that were read
abbrev pub seen : Before → List PlanNode
seen b = known b.plan.now b.starts.now b.heights.now
