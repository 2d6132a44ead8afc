use Rattle.c_supply.proofs.Writes.{settles_refused, settles_written}
use Rattle.c_supply.proofs.write_words.Goals as goal

pub returns-in-Ok : goal.returns-in-Ok
returns-in-Ok c = rw c.success.ensures (settles_written _ _ _ _ c.in-Ok.ensures)

pub returns-in-Err : goal.returns-in-Err
returns-in-Err c = rw (c.from.ensures, c.at.ensures) (settles_refused _ _ _ _ c.in-Err.ensures)
