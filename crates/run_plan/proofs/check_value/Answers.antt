-- `run_plan::check_value` meets its contract: no value without a type, and the walk from the root.
use mathlib.Core.Path.{refl}
use native.Mathlib.Omega.{arith}
use Prim.Native.Nat.{ℕ}
use Rattle.plan_nodes.proofs.Nodes.{at_root}
use Rattle.run_plan.proofs.Runs.{check_nothing, check_bytes, check_refused, check_listed}
use Rattle.plan_nodes.proofs.Roots.{two, root_some}
use Rattle.std.proofs.lemmas.Result.{err_from_is_err_and}
use Rattle.value_parts.specs.Walk.{Within}
use Rattle.run_plan.proofs.check_value.Goals as goal

pub bounds-plan-1 : goal.bounds-plan-1
bounds-plan-1 c = omega (arith, two _ c.requires.0)

pub overflow_cast-root : goal.overflow_cast-root
overflow_cast-root c = omega (arith, c.type_inv.plan 1)

pub returns-then-value-eq0 : goal.returns-then-value-eq0
returns-then-value-eq0 c =
    check_nothing _ _ c.requires.0 _ _
    (λ (j : ℕ). (c.type_inv.plan j).fits) _ refl c.if-root-eq0.true
    c.if-value-eq0.true refl

pub returns-then-root-eq0 : goal.returns-then-root-eq0
returns-then-root-eq0 c =
    rw c.at.ensures (check_bytes _ _ c.requires.0 _ _
    (λ (j : ℕ). (c.type_inv.plan j).fits) _ refl c.if-root-eq0.true
    c.if-value-eq0.false)

pub walk_value-requires : goal.walk_value-requires
walk_value-requires c = (
  at_root _ c.requires.0
      (root_some _ c.requires.0 c.if-root-eq0.false)
      (λ (j : ℕ). (c.type_inv.plan j).fits),
  omega arith,
  omega (arith, c.requires.1),
  omega arith,
  c.requires.2,
)

pub returns-in_err-words : goal.returns-in_err-words
returns-in_err-words c =
    let p = err_from_is_err_and c.from_residual.result c.from_residual.ensures.1 in
    rw (p.1, p.2) (check_refused _ _ c.requires.0 _ _ _ refl c.if-root-eq0.false _ c.walk_value.ensures.0 _ c.in_err-words.was)

pub overflow_cast-result : goal.overflow_cast-result
unfolding Within
overflow_cast-result c = omega (arith, c.in_ok-words.ensures.1, c.requires.1)

pub returns : goal.returns
returns c =
    check_listed _ _ c.requires.0 _ _ _ refl c.if-root-eq0.false _
    c.walk_value.ensures.0 _ c.in_ok-words.was c.walk_value.ensures.1
