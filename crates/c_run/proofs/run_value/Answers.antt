use mathlib.Core.Path.{sym, ◌∙◌}
use native.Mathlib.Omega.{arith}
use Rattle.c_words.proofs.Words.{crosses_most}
use Rattle.c_run.proofs.Runs.{uncrossed_plan}
use Rattle.c_run.proofs.run_value.Goals as goal

pub returns-then-not-whole_words : goal.returns-then-not-whole_words
returns-then-not-whole_words c =
    rw (c.from.ensures, c.at.ensures) (uncrossed_plan _ _ _ (sym c.whole_words.ensures ∙ c.if-not-whole_words.true))

pub run_crossed-requires-2 : goal.run_crossed-requires-2
run_crossed-requires-2 c =
    let e = sym c.whole_words.ensures ∙ c.if-not-whole_words.false in
    (e, crosses_most _ e, omega arith)
