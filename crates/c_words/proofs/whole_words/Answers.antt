use borrow.Author.Tests.{eq-eqb, ne_eqb}
use Rattle.protocol.specs.Numbers.{pick}
use Rattle.protocol.specs.Crossing.{crosses}
use Rattle.c_words.proofs.whole_words.Goals as goal

pub returns-then-n-eq0 : goal.returns-then-n-eq0
unfolding crosses pick
returns-then-n-eq0 c = simp (eq-eqb _ 0 c.if-n-eq0.true)

pub returns-else-n-eq0 : goal.returns-else-n-eq0
unfolding crosses pick
returns-else-n-eq0 c = simp (ne_eqb _ 0 c.if-n-eq0.false)
