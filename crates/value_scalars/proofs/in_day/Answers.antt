-- `value_scalars::in_day` meets its contract: the first three bytes, and the four after them.
use mathlib.Core.Path.{◌∙◌}
use native.Mathlib.Omega.{arith}
use Prim.Native.Nat.{◌+◌}
use borrow.Author.Tests.{lt-leb}
use Rattle.value_scalars.proofs.Times.{day_over, day_is}
use Rattle.value_scalars.proofs.in_day.Goals as goal

pub returns-then-u32_at-le255 : goal.returns-then-u32_at-le255
returns-then-u32_at-le255 c =
    rw c.from.ensures
    (day_is _ _ c.requires _ c.u32_at.ensures c.if-u32_at-le255.true _ c.u32_at-then-u32_at-le255.ensures
    (omega (arith, c.type_inv.s (c.args.at + 7))))

pub returns-else-u32_at-le255 : goal.returns-else-u32_at-le255
returns-else-u32_at-le255 c =
    lt-leb _ _ c.if-u32_at-le255.false ∙ day_over _ _ c.requires _ c.u32_at.ensures c.if-u32_at-le255.false
