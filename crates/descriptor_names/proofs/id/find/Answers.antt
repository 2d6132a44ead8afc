-- `descriptor_names::id::find` meets its contract.
use mathlib.Core.Path.{sym, ap, ◌∙◌}
use Prim.Native.Nat.{ℕ, ◌+◌}
use lib.Dec.{eqb}
use native.Mathlib.Omega.{arith}
use Rattle.std.proofs.Common.{below_more}
use Rattle.descriptor_fields.specs.Fields.{id_at}
use Rattle.descriptor_names.proofs.Earlier.{found_at, found_none}
use Rattle.descriptor_names.proofs.id.find.Goals as goal

pub loop-i-init : goal.loop-i-init
loop-i-init c = λ j h. absurd (omega arith)

pub returns-then-same : goal.returns-then-same
returns-then-same c =
    found_at _ _ _ _ _ c.loop-i.invariant c.loop-i-test.true
    (ap (λ (k : ℕ). eqb (id_at c.args.earlier.d.now (k + 1)) (id_at c.args.s.now c.args.at)) (sym c.start.ensures.value) ∙ sym c.same.ensures ∙ c.if-same.true)

pub loop-i-preserved : goal.loop-i-preserved
loop-i-preserved c =
    below_more _ _ c.loop-i.invariant
    (ap (λ (k : ℕ). eqb (id_at c.args.earlier.d.now (k + 1)) (id_at c.args.s.now c.args.at)) (sym c.start.ensures.value) ∙ sym c.same.ensures ∙ c.if-same.false)

pub returns : goal.returns
returns c = found_none _ _ _ _ _ c.loop-i.invariant c.loop-i-test.false
