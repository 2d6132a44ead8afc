use mathlib.Core.Path.{ap, sym, ◌∙◌}
use borrow.Author.Tests.{ne_eqb}
use Rattle.wire.proofs.Picks.{clash}
use Rattle.value_scalars.proofs.Decimals.{decimal_short, decimal_length, decimal_sign, decimal_digits}
use Rattle.protocol.specs.Scalars.{half, sign}
use Rattle.value_scalars.proofs.number.decimal_ok.Goals as goal
use Rattle.value_scalars.proofs.number.decimal_ok.Goals.{then-v-n, else-v-n}

pub returns-then-v-lt8 : goal.returns-then-v-lt8
returns-then-v-lt8 c = decimal_short _ c.if-v-lt8.true

pub returns-then-sign_ok : goal.returns-then-sign_ok
unfolding half
returns-then-sign_ok c =
    elim c.if-v-n.branch [
      | then-v-n w ↦
          c.digits_ok.ensures ∙ decimal_digits _ _ c.u16_at-n.ensures.0 c.if-v-lt8.false w.if-v-n.true _ (w.sign_ok.ensures ∙ ap sign w.u16_at.ensures.0) (sym w.value-is ∙ c.if-sign_ok.true)
      | else-v-n w ↦ clash (sym (w.value-is ∙ ne_eqb _ _ w.if-v-n.false) ∙ c.if-sign_ok.true)
    ]

pub returns-else-sign_ok : goal.returns-else-sign_ok
unfolding half
returns-else-sign_ok c =
    elim c.if-v-n.branch [
      | then-v-n w ↦
          c.if-sign_ok.false ∙ decimal_sign _ _ c.u16_at-n.ensures.0 c.if-v-lt8.false w.if-v-n.true _ (w.sign_ok.ensures ∙ ap sign w.u16_at.ensures.0) (sym w.value-is ∙ c.if-sign_ok.false)
      | else-v-n w ↦ c.if-sign_ok.false ∙ decimal_length _ _ c.u16_at-n.ensures.0 c.if-v-lt8.false w.if-v-n.false
    ]
