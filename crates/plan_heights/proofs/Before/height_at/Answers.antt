-- `plan_heights::Before::height_at` meets its contract: a law for each kind.
use mathlib.Core.Path.{◌≡◌, ap, ◌∙◌}
use mathlib.Core.Logic.{inl, inr}
use Prim.Native.Nat.{◌+◌}
use native.Mathlib.Decide.{dec_lt}
use native.Mathlib.Omega.{arith}
use lib.ListN.{get_or}
use Rattle.plan_heights.specs.Scan.{height_option}
use Rattle.plan_nodes.proofs.Reading.{size_positive}
use Rattle.plan_nodes.proofs.Nodes.{size_two}
use Rattle.plan_heights.proofs.Cases.{height_enum, height_leaf, height_one, height_many}
use Rattle.plan_heights.proofs.Before.height_at.Goals.{in_default-via-then-kind-lt1, in_default-via-else-kind-lt1+else-kind-lt4, in-7-1, in_default+else-kind-lt1+then-kind-lt4}
use Rattle.plan_heights.proofs.Before.height_at.Goals as goal

pub bounds-self-at : goal.bounds-self-at
bounds-self-at c =
    let p = c.args.self.now.plan.now in
    omega (arith, c.requires, size_positive (get_or p c.args.at 0) (get_or p (c.args.at + 1) 0))

pub returns-then-kind-eq-KIND_ENUMERATION : goal.returns-then-kind-eq-KIND_ENUMERATION
returns-then-kind-eq-KIND_ENUMERATION c = height_enum _ _ _ _ _ c.if-kind-eq-KIND_ENUMERATION.true

pub bounds-self-at-2 : goal.bounds-self-at-2
bounds-self-at-2 c =
    let p = c.args.self.now.plan.now in
    omega (arith, c.requires, size_two (get_or p c.args.at 0) (get_or p (c.args.at + 1) 0) c.if-kind-eq-KIND_ENUMERATION.false)

pub returns-in-1 : goal.returns-in-1
returns-in-1 c = c.then_some.ensures ∙ height_leaf _ _ _ _ _ c.in-1.is

pub returns-in-2 : goal.returns-in-2
returns-in-2 c =
    c.refer_to.ensures
    ∙ ap height_option
    (height_one _ _ _ _ _
    (elim c.in-2-1.branch [
      | in-7-1 w ↦ inr (inr (omega arith))
      | in_default+else-kind-lt1+then-kind-lt4 w ↦
          elim (dec_lt (get_or c.args.self.now.plan.now c.args.at 0) 3) [ yes l ↦ inl (omega arith) | no l ↦ inr (inl (omega arith)) ]
    ]))

pub returns-in_default : goal.returns-in_default
returns-in_default c =
    let K = get_or c.args.self.now.plan.now c.args.at 0 in
    let other : (K ≡ 1 → ⊥) × (K ≡ 2 → ⊥) × (K ≡ 3 → ⊥) × (K ≡ 7 → ⊥) =
    elim c.in_default.branch [
      | in_default-via-then-kind-lt1 w ↦ (λ e. omega arith, λ e. omega arith, λ e. omega arith, λ e. omega arith)
      | in_default-via-else-kind-lt1+else-kind-lt4 w ↦ (λ e. omega arith, λ e. omega arith, λ e. omega arith, λ e. omega arith)
    ]
    in
    c.many_height.ensures
    ∙ rw c.wide.ensures (ap height_option (height_many _ _ _ _ _ c.if-kind-eq-KIND_ENUMERATION.false other.0 other.1 other.2 other.3))
