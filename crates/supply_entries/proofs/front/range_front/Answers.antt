-- `supply_entries::front::range_front` meets its contract: by the head that is read at the flags.
use native.Mathlib.Omega.{arith}
use Rattle.supply_entries.specs.Emitting.{beginning_of, claim}
use Rattle.supply_entries.proofs.Fronts.{range_outside, range_unknown, range_other, range_not, range_begun}
use Rattle.supply_entries.proofs.front.range_front.Goals as goal
use Rattle.supply_entries.proofs.front.range_front.Goals.{then-entry-opening-via-then-entry-opening, then-entry-opening-via-else-entry-opening+then-at-ge-MOST_VALUE}

pub returns-in_err-flags : goal.returns-in_err-flags
unfolding beginning_of
returns-in_err-flags c =
    rw c.from_residual.ensures (range_outside _ (claim c.args.entry) _ _ (omega (arith, c.in_err-flags.ensures.lookup)))

pub returns-in_err-opening : goal.returns-in_err-opening
unfolding beginning_of
returns-in_err-opening c =
    let l = c.in_ok-flags.ensures.lookup.0 in
    rw c.from_residual-in_err-opening.ensures
    (range_unknown _ (claim c.args.entry) _ _ (omega (arith, l.1)) _ l.2 _ c.range_opening.ensures c.in_err-opening.ensures.value)

pub returns-then-entry-opening : goal.returns-then-entry-opening
unfolding beginning_of
returns-then-entry-opening c =
    let l = c.in_ok-flags.ensures.lookup.0 in
    elim c.then-entry-opening.branch [
      | then-entry-opening-via-then-entry-opening w ↦
          range_other _ (claim c.args.entry) _ _ (omega (arith, l.1)) _ l.2 _ c.range_opening.ensures c.in_ok-opening.opening c.in_ok-opening.ensures.value w.if-entry-opening.true
      | then-entry-opening-via-else-entry-opening+then-at-ge-MOST_VALUE w ↦
          range_not _ (claim c.args.entry) _ _ (omega (arith, l.1)) _ l.2 _ c.range_opening.ensures c.in_ok-opening.opening c.in_ok-opening.ensures.value w.if-entry-opening.false w.if-at-ge-MOST_VALUE.true
    ]

pub returns : goal.returns
unfolding beginning_of
returns c =
    let l = c.in_ok-flags.ensures.lookup.0 in
    range_begun _ (claim c.args.entry) _ _ (omega (arith, l.1)) _ l.2 _ c.range_opening.ensures c.in_ok-opening.opening c.in_ok-opening.ensures.value c.if-entry-opening.false c.if-at-ge-MOST_VALUE.false _ c.put_byte.ensures
