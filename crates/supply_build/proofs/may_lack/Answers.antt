-- `supply_build::may_lack` meets its contract, by its tests of the kind.
use native.Mathlib.Omega.{arith}
use Rattle.std.proofs.Common.{rules}
use Rattle.value_parts.proofs.Containers.{refers_below}
use Rattle.supply_entries.proofs.Heads.{may_lack_lem, never_lacks}
use Rattle.supply_build.proofs.may_lack.Goals as goal

pub card_of-requires : goal.card_of-requires
card_of-requires c =
    let k = c.requires.1 in (
      c.requires.0,
      omega (arith, k.is),
      omega (arith, k.is),
      refers_below _ _ _ _ k (omega arith) (omega arith) c.requires.2,
    )

pub returns-in-5 : goal.returns-in-5
returns-in-5 c = may_lack_lem _ _ _ c.requires.1 _ (omega arith) (omega arith) _ c.card_of.ensures _ c.required.ensures

pub returns-in_default : goal.returns-in_default
returns-in_default c = never_lacks _ _ _ c.requires.1 _ (search rules) (search rules)

pub returns-in_default-2 : goal.returns-in_default-2
returns-in_default-2 c = never_lacks _ _ _ c.requires.1 _ (search rules) (search rules)
