-- `descriptor_scan::add` meets its contract.
use native.Mathlib.Omega.{arith}
use lib.ListN.{length-set}
use Rattle.descriptor_fields.proofs.Known.{join_one}
use Rattle.descriptor_blocks.proofs.Rules.{known_more, told_more}
use Rattle.descriptor_scan.proofs.Scans.{adds}
use Rattle.descriptor_scan.proofs.add.Goals as goal

pub bounds-known-k-2 : goal.bounds-known-k-2
bounds-known-k-2 c =
    simp length-set (omega (
      arith,
      c.requires.3,
      c.requires.4,
    ))

pub bounds-known-k-3 : goal.bounds-known-k-3
bounds-known-k-3 c =
    simp length-set (omega (
      arith,
      c.requires.3,
      c.requires.4,
    ))

pub returns : goal.returns
returns c =
    adds _ _ _ _ _ _ _ _ _ _ _ c.from-tag.ensures
    (told_more _ _ _ _ _
    (omega (
      arith,
      c.requires.3,
      c.requires.4,
    ))
    _ c.requires.0
    c.requires.3
    c.requires.5
    c.requires.6)
    (known_more _ _ _ _ _
    (omega (
      arith,
      c.requires.3,
      c.requires.4,
    ))
    _)
    c.put_node-end.ensures
