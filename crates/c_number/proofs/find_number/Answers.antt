-- `c_number::find_number` meets its contract.
use mathlib.Core.Path.{ap, ◌∙◌}
use Rattle.protocol.specs.Crossing.{number_answer}
use Rattle.c_number.proofs.find_number.Goals as goal

pub number_answer-requires : goal.number_answer-requires
number_answer-requires c = c.number.ensures.proper

pub returns : goal.returns
returns c = c.number_answer.ensures ∙ ap number_answer c.number.ensures.is
