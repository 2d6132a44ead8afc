use Rattle.c_words.proofs.Words.{both_taken}
use Rattle.c_words.proofs.take_both.Goals as goal

pub returns : goal.returns
returns c =
    both_taken c.args.first.now
    c.args.second.now
    c.args.words.now
    c.requires _
    c.take_words.ensures _ c.take_words-2.ensures
