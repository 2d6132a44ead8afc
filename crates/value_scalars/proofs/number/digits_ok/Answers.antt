-- `value_scalars::number::digits_ok` meets its contract. The invariant: what is left are digits where all are, and is as even as all.
use mathlib.Core.Path.{sym, ap, ◌∙◌}
use mathlib.Core.List.{List}
use Prim.Native.Nat.{ℕ, ◌%◌}
use native.Mathlib.Omega.{arith}
use lib.ListN.{length}
use lib.Dec.{eqb}
use Rattle.protocol.specs.Scalars.{digits}
use Rattle.value_scalars.proofs.Decimals.{digit_large, digit_next, digits_even, digits_end}
use Rattle.value_scalars.proofs.number.digits_ok.Goals as goal

pub loop-digit-init : goal.loop-digit-init
loop-digit-init c =
    let e = c.chunks_exact-digit-items.ensures in
    rw c.into_iter-digit-iterator.ensures.into_iter_gives (e.size, ap (λ (l : List ℕ). length l % 2) e.rest, ap digits (sym e.rest))

pub loop-digit-preserved : goal.loop-digit-preserved
loop-digit-preserved c =
    let i = c.loop-digit.invariant in
    let p = c.in-Some.ensures.steps in
    let two = p.1.1 ∙ i.0 in (
      p.0 ∙ i.0,
      sym (digits_even _ _ _ p.1.0 two) ∙ i.1,
      i.2 ∙ digit_next _ _ _ p.1.0 two _ c.u16_at.ensures.0 c.if-u16_at-gt9999.false,
    )

pub returns-then-u16_at-gt9999 : goal.returns-then-u16_at-gt9999
returns-then-u16_at-gt9999 c =
    let i = c.loop-digit.invariant in
    let p = c.in-Some.ensures.steps in
    sym (i.2 ∙ digit_large _ _ _ p.1.0 (p.1.1 ∙ i.0) _ c.u16_at.ensures.0 c.if-u16_at-gt9999.true)

pub returns : goal.returns
returns c =
    let i = c.loop-digit.invariant in
    let p = c.in-None.ensures.steps in
    ap (λ (n : ℕ). eqb n 0) (sym i.1) ∙ digits_end _ (omega (arith, p.1.0, i.0)) ∙ sym i.2
