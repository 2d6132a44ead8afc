use mathlib.Core.Path.{sym, ◌∙◌}
use native.Mathlib.Omega.{arith}
use Rattle.c_words.proofs.Words.{crosses_most, few_fit}
use Rattle.c_supply.proofs.Writes.{plan_uncrossed, list_uncrossed}
use Rattle.c_supply.proofs.write_value.Goals as goal

pub returns-then-not-whole_words : goal.returns-then-not-whole_words
returns-then-not-whole_words c =
    rw (c.from.ensures, c.at.ensures) (plan_uncrossed _ _ _ _ (sym c.whole_words.ensures ∙ c.if-not-whole_words.true))

pub returns-then-not-whole_words-2 : goal.returns-then-not-whole_words-2
returns-then-not-whole_words-2 c =
    list_uncrossed _ _ _ _ (sym c.whole_words.ensures ∙ c.if-not-whole_words.false)
    (sym c.whole_words-2.ensures ∙ c.if-not-whole_words-2.true) _ c.uncrossed_list.ensures

pub write_crossed-requires-2 : goal.write_crossed-requires-2
write_crossed-requires-2 c =
    let e = sym c.whole_words.ensures ∙ c.if-not-whole_words.false in
    let f = sym c.whole_words-2.ensures ∙ c.if-not-whole_words-2.false in
    (record { plan_crosses = e; list_crosses = f }, omega (arith, crosses_most _ e, crosses_most _ f), omega arith)
