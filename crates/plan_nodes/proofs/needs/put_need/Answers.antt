-- `plan_nodes::needs::put_need` meets its contract, by its one test.
use native.Mathlib.Omega.{arith}
use Rattle.plan_nodes.proofs.Memos.{needed_few, one_more, no_more}
use Rattle.plan_nodes.proofs.needs.put_need.Goals as goal

pub returns-then-m-table : goal.returns-then-m-table
returns-then-m-table c = no_more _ _ _ _ (omega arith)

pub overflow_cast-table-2 : goal.overflow_cast-table-2
overflow_cast-table-2 c = omega (arith, c.count_required-count.ensures, needed_few c.args.plan.now c.args.at)

pub returns : goal.returns
returns c = one_more _ _ _ _ _ (omega arith) c.count_required-count.ensures
