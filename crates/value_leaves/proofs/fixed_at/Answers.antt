-- `value_leaves::fixed_at` meets its contract: a scalar has the size of its format, and no other node has one.
use native.Mathlib.Omega.{arith}
use Rattle.value_leaves.proofs.Single.{none_fixed, fixed_none, fixed_some, some_fixed}
use Rattle.value_leaves.proofs.fixed_at.Goals as goal

pub returns-then-kind_at-ne-KIND_LEAF-clause-is : goal.returns-then-kind_at-ne-KIND_LEAF-clause-is
returns-then-kind_at-ne-KIND_LEAF-clause-is c = none_fixed _ _ _ c.kind_at.ensures.is c.if-kind_at-ne-KIND_LEAF.true

pub returns-in-0-clause-is : goal.returns-in-0-clause-is
returns-in-0-clause-is c =
    fixed_none _ _ _ c.kind_at.ensures.is c.if-kind_at-ne-KIND_LEAF.false _ c.second_at.ensures _ c.fixed_size.ensures c.in-0.is

pub returns-in_default-clause-is : goal.returns-in_default-clause-is
returns-in_default-clause-is c =
    fixed_some _ _ _ c.kind_at.ensures.is c.if-kind_at-ne-KIND_LEAF.false _ c.second_at.ensures _ c.fixed_size.ensures (omega (arith, c.in_default))

pub returns-in_default-clause-rule : goal.returns-in_default-clause-rule
returns-in_default-clause-rule c =
    some_fixed _ _ _ c.kind_at.ensures.is c.if-kind_at-ne-KIND_LEAF.false _ c.second_at.ensures _ c.fixed_size.ensures (omega (arith, c.in_default))
