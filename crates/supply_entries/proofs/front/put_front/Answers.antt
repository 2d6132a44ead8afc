-- `supply_entries::front::put_front` meets its contract, by its tests of the kind.
use mathlib.Core.Path.{◌∙◌}
use native.Mathlib.Omega.{arith}
use Rattle.std.proofs.Common.{rules}
use Rattle.supply_entries.specs.Emitting.{beginning_of, begin_at}
use Rattle.supply_entries.proofs.Fronts.{as_front, front_range, front_set, front_sparse, front_count, front_miscount}
use Rattle.supply_entries.proofs.front.put_front.Goals as goal

pub returns-in-7 : goal.returns-in-7
returns-in-7 c =
    c.range_front.ensures ∙ as_front _ _ (front_range _ _ _ c.requires.1 _ _ c.in-7.is) _ _

pub returns-in-2 : goal.returns-in-2
returns-in-2 c =
    c.set_front.ensures ∙ as_front _ _ (front_set _ _ _ c.requires.1 _ _ (omega arith)) _ _

pub returns-in-6 : goal.returns-in-6
returns-in-6 c =
    c.count_front.ensures ∙ as_front _ _ (front_sparse _ _ _ c.requires.1 _ _ c.in-6.is) _ _

pub returns-in_default : goal.returns-in_default
returns-in_default c =
    c.count_front-in_default.ensures
    ∙ as_front _ _
    (front_count _ _ _ c.requires.1 _ _ c.requires.0 _ c.second_at.ensures
    (search rules) (search rules) (search rules) c.if-entry-second_at.true) _ _

pub returns-in_default-2 : goal.returns-in_default-2
unfolding beginning_of begin_at
returns-in_default-2 c =
    as_front _ _
    (front_miscount _ _ _ c.requires.1 _ _ c.requires.0 _ c.second_at.ensures
    (search rules) (search rules) (search rules) c.if-entry-second_at.false) _ _
