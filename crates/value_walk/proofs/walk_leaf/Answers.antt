use native.Mathlib.Omega.{arith}
use Rattle.value_parts.specs.Walk.{walk_of, Within}
use Rattle.value_parts.proofs.Members.{leaf_good_lem, leaf_bad}
use Rattle.value_walk.proofs.walk_leaf.Goals as goal

pub returns-then-leaf_ok : goal.returns-then-leaf_ok
unfolding walk_of Within
returns-then-leaf_ok c = (
  leaf_good_lem _ _ c.requires.0
      (rw c.requires.1 at c.requires.2) _ _ _ _ _ _
      c.leaf_ok.ensures c.if-leaf_ok.true _
      c.put_entry.ensures,
  omega (arith, c.requires),
)

pub returns : goal.returns
unfolding walk_of Within
returns c = (
  rw c.at.ensures (leaf_bad _ _ c.requires.0
      (rw c.requires.1 at c.requires.2) _ _ _ _ _ _
      c.leaf_ok.ensures c.if-leaf_ok.false),
  tt,
)
