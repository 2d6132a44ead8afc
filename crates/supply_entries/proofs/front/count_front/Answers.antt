-- `supply_entries::front::count_front` meets its contract.
use Rattle.supply_entries.specs.Emitting.{beginning_of}
use Rattle.supply_entries.proofs.Fronts.{count_not, count_begun}
use Rattle.supply_entries.proofs.front.count_front.Goals as goal

pub returns-then-at-gt-MOST_VALUE : goal.returns-then-at-gt-MOST_VALUE
unfolding beginning_of
returns-then-at-gt-MOST_VALUE c = count_not _ _ _ c.if-at-gt-MOST_VALUE.true

pub returns : goal.returns
unfolding beginning_of
returns c =
    count_begun _ _ _ c.if-at-gt-MOST_VALUE.false _ c.put_word.ensures
