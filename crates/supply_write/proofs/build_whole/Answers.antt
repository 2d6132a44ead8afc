-- `supply_write::build_whole` meets its contract: by the plan's root.
use mathlib.Core.Path.{refl, ◌∙◌}
use native.Mathlib.Omega.{arith}
use Rattle.plan_nodes.proofs.Roots.{two}
use Rattle.supply_entries.specs.Emitting.{stand_of}
use Rattle.supply_write.proofs.Writes.{whole_none, whole_root, whole_some}
use Rattle.supply_write.proofs.build_whole.Goals as goal

pub bounds-plan-1 : goal.bounds-plan-1
bounds-plan-1 c = omega (arith, two _ c.requires.0)

pub returns-then-root-eq0 : goal.returns-then-root-eq0
unfolding stand_of
returns-then-root-eq0 c =
    whole_none _ _ _ c.requires.0 _ _ refl (λ j. (c.type_inv.plan j).fits) c.if-root-eq0.true

pub build_top-requires : goal.build_top-requires
build_top-requires c = (
  whole_root c.args.src.now _
      c.args.list.now
      c.requires.0
      c.args.out.now _ refl c.if-root-eq0.false
      (λ j. (c.type_inv.plan j).fits),
  c.requires.1,
)

pub returns : goal.returns
returns c =
    c.build_top.ensures
    ∙ whole_some _ _ _ c.requires.0 _ _ refl c.if-root-eq0.false
