-- `value_heads::element::required` meets its contract, by its two tests.
use native.Mathlib.Omega.{arith}
use Rattle.std.proofs.lemmas.Bool.Decides.{nat_tests}
use Rattle.protocol.specs.Numbers.{pick}
use Rattle.protocol.specs.Heads.{requires}
use Rattle.value_heads.proofs.element.required.Goals as goal

pub returns-then-card-eq-CARDINALITY_ONE : goal.returns-then-card-eq-CARDINALITY_ONE
unfolding requires pick
returns-then-card-eq-CARDINALITY_ONE c = grind (arith, nat_tests)

pub returns-else-card-eq-CARDINALITY_ONE : goal.returns-else-card-eq-CARDINALITY_ONE
unfolding requires pick
returns-else-card-eq-CARDINALITY_ONE c = grind (arith, nat_tests)
