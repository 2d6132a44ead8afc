-- `c_find::find` meets its contract.
use mathlib.Core.Path.{sym, ◌∙◌}
use native.Mathlib.Omega.{arith}
use Rattle.c_words.proofs.Words.{crosses_most}
use Rattle.find_path.specs.Find.{outcome}
use Rattle.c_find.proofs.Findings.{find_uncrossed, find_lost}
use Rattle.c_find.proofs.find.Goals as goal

pub returns-then-not-whole_words : goal.returns-then-not-whole_words
unfolding outcome
returns-then-not-whole_words c =
    rw c.at.ensures (find_uncrossed _ _ _ (sym c.whole_words.ensures ∙ c.if-not-whole_words.true))

pub returns-then-not-whole_words-2 : goal.returns-then-not-whole_words-2
unfolding outcome
returns-then-not-whole_words-2 c =
    c.find_lost.ensures
    ∙ find_lost _ _ _ (sym c.whole_words.ensures ∙ c.if-not-whole_words.false)
    (sym c.whole_words-else-not-whole_words.ensures ∙ c.if-not-whole_words-2.true)

pub find_crossed-requires-else-few_words : goal.find_crossed-requires-else-few_words
find_crossed-requires-else-few_words c =
    let a = sym c.whole_words.ensures ∙ c.if-not-whole_words.false in
    let b = sym c.whole_words-else-not-whole_words.ensures ∙ c.if-not-whole_words-2.false in
    (a, b, omega (arith, crosses_most _ a, crosses_most _ b), omega arith)
