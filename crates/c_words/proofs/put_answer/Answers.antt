-- `c_words::put_answer` meets its contract.
use native.Mathlib.Omega.{arith}
use lib.ListN.{length, length-take}
use Rattle.c_words.proofs.Words.{room_most, out_full, out_put}
use Rattle.c_words.proofs.put_answer.Goals as goal

pub returns-then-word_room-n : goal.returns-then-word_room-n
returns-then-word_room-n c =
    rw (c.from.ensures, c.at.ensures) (out_full _ _ _ _ (rw c.word_room.ensures at c.if-word_room-n.true))

pub slice_bounds-put_words-end : goal.slice_bounds-put_words-end
slice_bounds-put_words-end c =
    let h = c.requires (rw c.word_room.ensures at c.if-word_room-n.false) in simp length-take (omega (arith, h))

pub put_words-requires : goal.put_words-requires
put_words-requires c =
    let h = rw c.word_room.ensures at c.if-word_room-n.false in
    simp length-take (omega (arith, h, (room_most (length c.args.out.now)).1))

pub returns : goal.returns
returns c =
    let h = rw c.word_room.ensures at c.if-word_room-n.false in
    rw c.success.ensures (out_put _ _ _ _ h (c.requires h) _ c.put_words.ensures)
