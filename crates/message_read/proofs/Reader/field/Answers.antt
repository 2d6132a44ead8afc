use native.Mathlib.Omega.{arith}
use Rattle.message_read.specs.Scan.{outcome_of, Inside, Within}
use Rattle.message_read.proofs.Walks.{placed_put, placed_not}
use Rattle.message_read.proofs.Reader.field.Goals as goal

pub field_at-requires : goal.field_at-requires
unfolding Within
field_at-requires c = (c.requires.0, c.requires.1, c.requires.2.0)

pub overflow_cast-from : goal.overflow_cast-from
unfolding Within
overflow_cast-from c = omega (arith, c.requires.2.0)

pub put_pair-requires : goal.put_pair-requires
unfolding Inside Within
put_pair-requires c = omega (arith, c.requires, c.in-Ok.ensures.inside)

pub overflow_cast-result : goal.overflow_cast-result
unfolding Inside
overflow_cast-result c = omega (arith, c.requires, c.in-Ok.ensures.inside)

pub overflow_add-result : goal.overflow_add-result
unfolding Inside
overflow_add-result c = omega (arith, c.requires, c.in-Ok.ensures.inside)

pub overflow_add-result-in-Ok : goal.overflow_add-result-in-Ok
unfolding Within
overflow_add-result-in-Ok c = omega (arith, c.requires.2)

pub returns-in-Err : goal.returns-in-Err
unfolding outcome_of Within
returns-in-Err c = rw c.at.ensures (record { list_after = placed_not _ _ _ _ _ c.in-Err.ensures.value; within = tt })

pub returns-in-Ok : goal.returns-in-Ok
unfolding outcome_of Within Inside
returns-in-Ok c = record {
  list_after = placed_put _ _ _ _ _ _ c.in-Ok.ensures.value c.put_pair.ensures;
  within = omega (arith, c.requires, c.in-Ok.ensures.inside);
}
