use mathlib.Core.Path.{ap, ◌∙◌}
use native.Mathlib.Omega.{arith}
use lib.ListN.{length, length-take}
use lib.Seq.{sets}
use Rattle.c_words.proofs.Words.{room_most}
use Rattle.c_message.proofs.Messages.{reads_refused, few_words, reads_full, listable, reads_listed}
use Rattle.protocol.specs.Crossing.{bytes_out}
use Rattle.c_message.proofs.read_message.Goals as goal
use Rattle.c_message.proofs.read_message.Goals.{then-n-le-FEW, else-n-le-FEW}

pub returns-in-Err : goal.returns-in-Err
returns-in-Err c = rw c.from.ensures (reads_refused _ _ _ _ _ c.in-Err.ensures _)

pub returns-then-word_room-n : goal.returns-then-word_room-n
returns-then-word_room-n c =
    rw (c.from-then-word_room-n.ensures, c.at.ensures) (reads_full _ _ _ _ _ c.in-Ok.ensures _ (rw c.word_room.ensures at c.if-word_room-n.true))

pub put_words-requires : goal.put_words-requires
put_words-requires c =
    simp length-take (omega (
      arith,
      c.if-word_room-n.false,
      c.word_room.ensures,
      (room_most (length c.args.list.now)).1,
    ))

pub list_many-requires : goal.list_many-requires
list_many-requires c = listable _ _ _ _ _ c.in-Ok.ensures _ (rw c.word_room.ensures at c.if-word_room-n.false)

pub returns : goal.returns
returns c =
    let listed = reads_listed _ _ _ _ _ c.in-Ok.ensures _ (rw c.word_room.ensures at c.if-word_room-n.false) in
    rw c.success.ensures (elim c.if-n-le-FEW.branch [
      | then-n-le-FEW w ↦ listed _
          (w.list-is ∙ w.put_words.ensures
          ∙ ap (λ ws. sets c.args.list.now 0 (bytes_out ws)) (few_words _ _ _ _ _ c.in-Ok.ensures w.if-n-le-FEW.true))
      | else-n-le-FEW w ↦ listed _ (w.list-is ∙ w.list_many.ensures)
    ])
