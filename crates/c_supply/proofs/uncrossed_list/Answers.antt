use mathlib.Core.Path.{sym, ◌∙◌}
use native.Mathlib.Omega.{arith}
use Prim.Native.Nat.{◌/◌}
use lib.ListN.{length, length-take}
use Rattle.c_words.proofs.Words.{length_in, filled_words, crosses_most}
use Rattle.c_supply.proofs.Writes.{uncrossed_formed, uncrossed_unformed}
use Rattle.c_supply.proofs.uncrossed_list.Goals as goal

pub take_words-requires : goal.take_words-requires
take_words-requires c = crosses_most _ c.requires

pub slice_bounds-words-end : goal.slice_bounds-words-end
slice_bounds-words-end c =
    omega (arith, c.take_words.auto.words, crosses_most _ c.requires)

pub slice_bounds-plan_ok-end : goal.slice_bounds-plan_ok-end
slice_bounds-plan_ok-end c =
    simp length-take (omega (arith, c.take_words.auto.words, crosses_most _ c.requires))

pub returns-then-plan_ok : goal.returns-then-plan_ok
returns-then-plan_ok c =
    let m = crosses_most _ c.requires in
    rw (c.from.ensures, c.at.ensures) (uncrossed_formed _ _
    (filled_words _ _ _ (length c.args.plan.now / 4)
    c.take_words.ensures
    (sym (length_in c.args.plan.now)) (omega (arith, m))) _
    c.plan_ok.ensures c.if-plan_ok.true)

pub returns : goal.returns
returns c =
    let m = crosses_most _ c.requires in
    rw (c.from-2.ensures, c.at-2.ensures) (uncrossed_unformed _ _
    (filled_words _ _ _ (length c.args.plan.now / 4)
    c.take_words.ensures
    (sym (length_in c.args.plan.now)) (omega (arith, m))) _
    c.plan_ok.ensures c.if-plan_ok.false)
