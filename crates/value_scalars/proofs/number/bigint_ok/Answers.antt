use mathlib.Core.Path.{sym, ◌∙◌}
use native.Mathlib.Omega.{arith}
use borrow.Author.Tests.{ne_eqb}
use Rattle.value_scalars.proofs.Decimals.{decimal_long, bigint_not, bigint_reserved, bigint_whole}
use Rattle.protocol.specs.Scalars.{half}
use Rattle.value_scalars.proofs.number.bigint_ok.Goals as goal

pub returns-then-not-decimal_ok : goal.returns-then-not-decimal_ok
returns-then-not-decimal_ok c = bigint_not _ (sym c.decimal_ok.ensures ∙ c.if-not-decimal_ok.true)

pub u16_at-requires : goal.u16_at-requires
u16_at-requires c = omega (arith, decimal_long _ (sym c.decimal_ok.ensures ∙ c.if-not-decimal_ok.false))

pub u16_at-requires-then-u16_at-eq0 : goal.u16_at-requires-then-u16_at-eq0
u16_at-requires-then-u16_at-eq0 c = omega (arith, decimal_long _ (sym c.decimal_ok.ensures ∙ c.if-not-decimal_ok.false))

pub u16_at-requires-then-u16_at-eq0-2 : goal.u16_at-requires-then-u16_at-eq0-2
u16_at-requires-then-u16_at-eq0-2 c = omega (arith, decimal_long _ (sym c.decimal_ok.ensures ∙ c.if-not-decimal_ok.false))

pub returns-then-u16_at-eq0 : goal.returns-then-u16_at-eq0
unfolding half
returns-then-u16_at-eq0 c =
    c.whole_ok.ensures
    ∙ bigint_whole _ (sym c.decimal_ok.ensures ∙ c.if-not-decimal_ok.false) _ c.u16_at.ensures.0 _ _ c.if-u16_at-eq0.true
    c.u16_at-then-u16_at-eq0.ensures.0 c.u16_at-then-u16_at-eq0-2.ensures.0

pub returns-else-u16_at-eq0 : goal.returns-else-u16_at-eq0
unfolding half
returns-else-u16_at-eq0 c =
    ne_eqb _ _ c.if-u16_at-eq0.false
    ∙ bigint_reserved _ (sym c.decimal_ok.ensures ∙ c.if-not-decimal_ok.false) _ c.u16_at.ensures.0 c.if-u16_at-eq0.false
