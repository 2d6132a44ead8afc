use Rattle.value_parts.specs.Walk.{end_step}
use Rattle.protocol.specs.Numbers.{pick}
use Rattle.value_walk.proofs.end_elements.Goals as goal

pub returns-then-not-whole : goal.returns-then-not-whole
unfolding end_step pick
returns-then-not-whole c = rw (c.at.ensures, c.if-not-whole.true)

pub returns-then-lacking : goal.returns-then-lacking
unfolding end_step pick
returns-then-lacking c = rw (c.at-then-lacking.ensures, c.if-not-whole.false, c.if-lacking.true)

pub returns : goal.returns
unfolding end_step pick
returns c = rw (c.if-not-whole.false, c.if-lacking.false)
