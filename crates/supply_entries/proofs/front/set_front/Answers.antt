-- `supply_entries::front::set_front` meets its contract: for a set with no elements, and with some.
use Rattle.supply_entries.specs.Emitting.{beginning_of}
use Rattle.supply_entries.proofs.Fronts.{empty_not, empty_begun, some_not, some_begun}
use Rattle.supply_entries.proofs.front.set_front.Goals as goal

pub returns-then-at-gt-MOST_VALUE : goal.returns-then-at-gt-MOST_VALUE
unfolding beginning_of
returns-then-at-gt-MOST_VALUE c = empty_not _ _ _ c.if-count-eq0.true c.if-at-gt-MOST_VALUE.true

pub returns-then-count-eq0 : goal.returns-then-count-eq0
unfolding beginning_of
returns-then-count-eq0 c =
    empty_begun _ _ _ c.if-count-eq0.true
    c.if-at-gt-MOST_VALUE.false _ _
    c.put_pair.ensures c.put_word.ensures

pub returns-then-at-gt-MOST_VALUE-2 : goal.returns-then-at-gt-MOST_VALUE-2
unfolding beginning_of
returns-then-at-gt-MOST_VALUE-2 c = some_not _ _ _ c.if-count-eq0.false c.if-at-gt-MOST_VALUE-2.true

pub returns : goal.returns
unfolding beginning_of
returns c =
    some_begun _ _ _ c.if-count-eq0.false
    c.if-at-gt-MOST_VALUE-2.false _ _ _
    c.put_pair-2.ensures
    c.put_pair-3.ensures c.put_word-2.ensures
