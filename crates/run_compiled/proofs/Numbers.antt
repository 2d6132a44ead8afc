-- The numbers of the rules read off a descriptor: a refused descriptor's are
-- its own, and an accepted one's are those of a run by a well-formed plan.
use mathlib.Core.Path.{◌≡◌, refl}
use mathlib.Core.List.{List}
use Prim.Native.Nat.{ℕ}
use lib.ListN.{length}
use Rattle.protocol.specs.Descriptors.{bare_form, DescribedType, describe}
use Rattle.protocol.specs.OffDescriptor.{rules_by}
use Rattle.run_plan.proofs.Numbers.{Expected, run_expected}
use Rattle.run_compiled.proofs.Demand3.{compiled_formed, compiled_small, demand_three, refused_same}
use Rattle.protocol.specs.Values.{ValueOutcome as ListOutcome}
use Rattle.protocol.specs.Answers.{refused as refusedList, Outcome, refused, accepted}
use Rattle.protocol.specs.Compiling.{whole_plan}

-- of a value of n bytes: number and place of a descriptor that is refused, or what a run by a well-formed plan gives (R4.13)
abbrev pub Told : Outcome DescribedType → ℕ → ListOutcome → Type 0
Told (refused m p) n o = o ≡ refusedList m p
Told (accepted t) n o = Expected n o

-- The rules read off a descriptor give nothing else.
pub rules_told : (d root s : List ℕ) (room : ℕ) → Told (describe bare_form d root) (length s) (rules_by bare_form d root s room)
rules_told d root s room = go (describe bare_form d root) refl
  where
    go : (o : Outcome DescribedType) → describe bare_form d root ≡ o → Told o (length s) (rules_by bare_form d root s room)
    go (refused m p) e = refused_same d root m p e s room
    go (accepted t) e =
        rw (demand_three d root t e s room) at (run_expected (whole_plan t) (compiled_small d root t e) s room (compiled_formed d root t e))
