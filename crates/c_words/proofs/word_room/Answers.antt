use borrow.Author.Tests.{le-leb, lt-leb}
use Rattle.protocol.specs.Numbers.{pick}
use Rattle.protocol.specs.Crossing.{word_room}
use Rattle.c_words.proofs.word_room.Goals as goal

pub returns-then-n-le-ROOM : goal.returns-then-n-le-ROOM
unfolding word_room pick
returns-then-n-le-ROOM c = simp (le-leb _ _ c.if-n-le-ROOM.true)

pub returns-else-n-le-ROOM : goal.returns-else-n-le-ROOM
unfolding word_room pick
returns-else-n-le-ROOM c = simp (lt-leb _ _ c.if-n-le-ROOM.false)
