use mathlib.Core.Path.{ap, ◌∙◌}
use mathlib.Core.Bool.{not}
use borrow.Author.Tests.{ne_eqb}
use Rattle.message_write.proofs.Contents.{wrong_width, right_value, any_value}
use Rattle.message_write.proofs.number_fits.Goals as goal

pub returns-then-not-judge : goal.returns-then-not-judge
returns-then-not-judge c =
    ap not c.if-not-judge.true ∙ any_value _ _ _ _ c.requires.0 c.width_of.ensures.width c.if-part-width_of.true c.if-not-judge.true

pub returns-else-not-judge : goal.returns-else-not-judge
returns-else-not-judge c =
    right_value _ _ _ _ c.requires.0 c.width_of.ensures.width
    c.if-part-width_of.true _ c.if-not-judge.false c.admits.ensures

pub returns-else-part-width_of : goal.returns-else-part-width_of
returns-else-part-width_of c =
    ne_eqb _ _ c.if-part-width_of.false ∙ wrong_width _ _ _ _ c.requires.0 c.width_of.ensures.width c.if-part-width_of.false
