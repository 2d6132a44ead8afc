-- `c_find::find_element` meets its contract.
use mathlib.Core.Path.{◌∙◌, ap}
use native.Mathlib.Omega.{arith}
use Rattle.find_path.specs.Find.{outcome}
use Rattle.c_find.proofs.Findings.{part_few}
use Rattle.protocol.specs.Crossing.{find_answer}
use Rattle.c_find.proofs.find_element.Goals as goal

pub overflow_cast-found : goal.overflow_cast-found
unfolding outcome
overflow_cast-found c = omega (arith, part_few _ _ _ _ _ _ c.in-Ok.ensures)

pub returns-in-Ok : goal.returns-in-Ok
unfolding outcome find_answer
returns-in-Ok c = c.success.ensures ∙ ap find_answer c.in-Ok.ensures

pub returns-in-Err : goal.returns-in-Err
unfolding outcome find_answer
returns-in-Err c = c.from.ensures ∙ ap find_answer c.in-Err.ensures
