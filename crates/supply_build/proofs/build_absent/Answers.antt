-- `supply_build::build_absent` meets its contract, by its tests in their order.
use mathlib.Core.Path.{sym, ◌∙◌}
use native.Mathlib.Omega.{arith}
use Rattle.supply_entries.specs.Emitting.{stand_of}
use Rattle.supply_entries.proofs.Heads.{lack_size}
use Rattle.supply_entries.proofs.Parts.{absent_barred, absent_node, absent_count, absent_large, absent_done}
use Rattle.supply_build.proofs.build_absent.Goals as goal
use Rattle.supply_build.proofs.build_absent.Goals.{then-entry-child-via-then-entry-child, then-entry-child-via-else-entry-child+then-entry-ne0, then-entry-child-via-else-entry-child+else-entry-ne0+then-at-gt-MOST_VALUE}

pub returns-then-not-may_lack : goal.returns-then-not-may_lack
unfolding stand_of
returns-then-not-may_lack c = λ ws. absent_barred _ _ _ c.requires.1 _ _ _ _ _ (sym c.may_lack.ensures ∙ c.if-not-may_lack.true)

pub returns-then-entry-child : goal.returns-then-entry-child
unfolding stand_of
returns-then-entry-child c =
    let m = sym c.may_lack.ensures ∙ c.if-not-may_lack.false in
    elim c.then-entry-child.branch [
      | then-entry-child-via-then-entry-child w ↦ λ ws. absent_node _ _ _ c.requires.1 _ _ _ _ _ m w.if-entry-child.true
      | then-entry-child-via-else-entry-child+then-entry-ne0 w ↦ λ ws. absent_count _ _ _ c.requires.1 _ _ _ _ _ m w.if-entry-child.false w.if-entry-ne0.true
      | then-entry-child-via-else-entry-child+else-entry-ne0+then-at-gt-MOST_VALUE w ↦
          λ ws. absent_large _ _ _ c.requires.1 _ _ _ _ _ m w.if-entry-child.false w.if-entry-ne0.false w.if-at-gt-MOST_VALUE.true
    ]

pub put_head-requires : goal.put_head-requires
put_head-requires c = (
  omega (arith, c.requires.3),
  λ e. absurd ((lack_size _ _ _ c.requires.1 _ (sym c.may_lack.ensures ∙ c.if-not-may_lack.false)).1 e),
)

pub returns : goal.returns
unfolding stand_of
returns c =
    λ ws. absent_done _ _ _ c.requires.1 _ _ _ _ _ (sym c.may_lack.ensures ∙ c.if-not-may_lack.false)
    c.if-entry-child.false c.if-entry-ne0.false c.if-at-gt-MOST_VALUE.false _ c.put_head.ensures
