use Rattle.c_message.proofs.Messages.{uncrossed_unknown, uncrossed_known}
use Rattle.c_message.proofs.uncrossed_list.Goals as goal

pub returns-in-None : goal.returns-in-None
returns-in-None c = rw (c.from.ensures, c.at.ensures) (uncrossed_unknown _ _ c.in-None.ensures)

pub returns-in-Some : goal.returns-in-Some
returns-in-Some c = rw (c.from-in-Some.ensures, c.at-in-Some.ensures) (uncrossed_known _ _ _ c.in-Some.ensures)
