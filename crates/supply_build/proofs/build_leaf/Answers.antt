-- `supply_build::build_leaf` meets its contract, by its tests in their order.
use native.Mathlib.Omega.{arith}
use Rattle.supply_entries.specs.Emitting.{stand_of}
use Rattle.supply_entries.proofs.Parts.{leaf_count, leaf_large, leaf_outside, leaf_unfit, leaf_done}
use Rattle.supply_build.proofs.build_leaf.Goals as goal

pub returns-then-entry-ne0 : goal.returns-then-entry-ne0
unfolding stand_of
returns-then-entry-ne0 c = λ ws. leaf_count _ _ _ _ _ _ c.if-entry-ne0.true

pub returns-then-at-n-gt-MOST_VALUE : goal.returns-then-at-n-gt-MOST_VALUE
unfolding stand_of
returns-then-at-n-gt-MOST_VALUE c = λ ws. leaf_large _ _ _ _ _ _ c.if-entry-ne0.false c.if-at-n-gt-MOST_VALUE.true

pub returns-in_err-part : goal.returns-in_err-part
unfolding stand_of
returns-in_err-part c =
    rw c.from_residual.ensures (λ ws. leaf_outside _ _ _ _ _ _ c.if-entry-ne0.false (omega (arith, c.in_err-part.ensures.lookup)))

pub returns-then-not-leaf_ok : goal.returns-then-not-leaf_ok
unfolding stand_of
returns-then-not-leaf_ok c =
    let l = c.in_ok-part.ensures.lookup.0 in
    λ ws. leaf_unfit _ _ _ _ _ _ c.if-entry-ne0.false l.1 _ l.2 _ c.leaf_ok.ensures c.if-not-leaf_ok.true

pub returns : goal.returns
unfolding stand_of
returns c =
    let l = c.in_ok-part.ensures.lookup.0 in
    λ ws. leaf_done _ _ _ _ _ _ c.if-entry-ne0.false l.1 _ l.2 _ c.leaf_ok.ensures c.if-not-leaf_ok.false
    c.if-at-n-gt-MOST_VALUE.false _ c.put_bytes.ensures
