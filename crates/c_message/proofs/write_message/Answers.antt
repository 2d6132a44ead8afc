use mathlib.Core.Path.{sym, ◌∙◌}
use Rattle.c_words.proofs.Words.{crosses_most}
use Rattle.c_message.proofs.Messages.{uncrossed_is}
use native.Mathlib.Omega.{arith}
use Rattle.c_message.proofs.write_message.Goals as goal

pub returns-then-not-whole_words : goal.returns-then-not-whole_words
returns-then-not-whole_words c =
    uncrossed_is _ _ _ _ _ _ (sym c.whole_words.ensures ∙ c.if-not-whole_words.true) c.uncrossed_list.ensures

pub write_crossed-requires : goal.write_crossed-requires
write_crossed-requires c = (sym c.whole_words.ensures ∙ c.if-not-whole_words.false, c.if-list.true, omega arith)

pub write_crossed-requires-2 : goal.write_crossed-requires-2
write_crossed-requires-2 c =
    let e = sym c.whole_words.ensures ∙ c.if-not-whole_words.false in
    (e, crosses_most _ e, omega arith)
