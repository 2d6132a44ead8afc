-- `wire_letters::letters::row_end` meets its contract. The invariant: the letters at `i` end where those at `from` do.
use mathlib.Core.Path.{refl, sym, ◌∙◌}
use native.Mathlib.Omega.{arith}
use Rattle.wire_letters.proofs.Rows.{length_ahead, row_next, row_stop, row_short}
use Rattle.wire_letters.proofs.letters.row_end.Goals as goal

pub loop-i-init : goal.loop-i-init
loop-i-init c = (c.requires.0, refl)

pub returns-then-not-is_letter : goal.returns-then-not-is_letter
returns-then-not-is_letter c =
    let l = c.loop-i in
    sym (l.invariant.1 ∙ row_stop _ l.i _ _ (sym c.is_letter.ensures ∙ c.if-not-is_letter.true))

pub loop-i-preserved : goal.loop-i-preserved
loop-i-preserved c =
    let l = c.loop-i in
    (omega arith, l.invariant.1 ∙ row_next _ l.i _ _ _ (length_ahead _ _) (sym c.is_letter.ensures ∙ c.if-not-is_letter.false))

pub returns : goal.returns
returns c =
    let l = c.loop-i in
    sym (l.invariant.1 ∙ row_short _ l.i _ _ _ (length_ahead _ _) (omega arith))
