use mathlib.Core.Path.{ap, ◌∙◌}
use native.Mathlib.Omega.{arith}
use lib.ListN.{length-take}
use lib.Seq.{sets}
use Rattle.c_words.proofs.Words.{filled_words}
use Rattle.protocol.specs.Crossing.{bytes_out}
use Rattle.c_message.proofs.list_many.Goals as goal

pub fill-requires : goal.fill-requires
fill-requires c = c.requires.accepted

pub slice_bounds-put_words-end : goal.slice_bounds-put_words-end
slice_bounds-put_words-end c =
    simp length-take (omega (arith, c.requires.most, c.fill.auto.list))

pub put_words-requires : goal.put_words-requires
put_words-requires c =
    simp length-take (omega (arith, c.requires.room))

pub returns : goal.returns
returns c =
    c.put_words.ensures
    ∙ ap (λ ws. sets c.args.list.now 0 (bytes_out ws))
    (filled_words _ _ _ _ c.fill.ensures
    c.requires.count
    c.requires.most)
