-- `descriptor_compile::check` meets its contract.
use mathlib.Core.Path.{sym, ◌∙◌}
use native.Mathlib.Omega.{arith}
use Rattle.descriptor_compile.proofs.Compiles.{check_large, check_short, check_rest, check_zero, check_none}
use Rattle.descriptor_compile.proofs.check.Goals as goal

pub returns-then-d-gt-MOST_DESCRIPTOR : goal.returns-then-d-gt-MOST_DESCRIPTOR
returns-then-d-gt-MOST_DESCRIPTOR c = rw c.at.ensures (check_large _ _ _ _ c.if-d-gt-MOST_DESCRIPTOR.true)

pub returns-then-root-ne16 : goal.returns-then-root-ne16
returns-then-root-ne16 c = rw c.at-then-root-ne16.ensures (check_short _ _ _ _ c.if-d-gt-MOST_DESCRIPTOR.false c.if-root-ne16.true)

pub is_zero-requires : goal.is_zero-requires
is_zero-requires c = omega (arith, c.if-root-ne16.false)

pub returns-then-is_empty : goal.returns-then-is_empty
returns-then-is_empty c =
    check_none _ _ _ _ c.if-d-gt-MOST_DESCRIPTOR.false
    c.if-root-ne16.false
    (sym c.is_zero.ensures ∙ c.if-is_zero.true)
    (grind arith) c.put_two.ensures

pub returns-then-is_zero : goal.returns-then-is_zero
returns-then-is_zero c =
    rw c.at-then-is_zero.ensures (check_zero _ _ _ _ c.if-d-gt-MOST_DESCRIPTOR.false c.if-root-ne16.false (sym c.is_zero.ensures ∙ c.if-is_zero.true) (grind arith))

pub check_blocks-requires : goal.check_blocks-requires
check_blocks-requires c =
    (c.if-d-gt-MOST_DESCRIPTOR.false, omega arith, omega arith, omega (arith, c.if-root-ne16.false))

pub returns : goal.returns
returns c =
    check_rest _ _ _ _ c.if-d-gt-MOST_DESCRIPTOR.false
    c.if-root-ne16.false
    (sym c.is_zero.ensures ∙ c.if-is_zero.false) _
    c.check_blocks.ensures
