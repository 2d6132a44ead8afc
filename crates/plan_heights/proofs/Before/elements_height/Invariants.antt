-- `plan_heights::Before::elements_height` meets its contract. The loop's invariant: the height after the elements passed, which is not 0.
use Rattle.plan_heights.specs.Scan.{known}
use Rattle.plan_heights.proofs.Heights.{Climbed}
use Rattle.plan_heights.proofs.Before.elements_height.Given as goal

abbrev pub invariant-loop-k : goal.invariant-loop-k
invariant-loop-k g l =
    Climbed g.row.STEP l.self.plan.now l.at (known l.self.plan.now l.self.starts.now l.self.heights.now) l.kind l.height l.k
