-- A list that the rules give, read off a descriptor or off a plan, has at most one entry and one more for every four bytes of the value.
use mathlib.Core.Path.{◌≡◌, refl}
use mathlib.Core.List.{List}
use Prim.Native.Nat.{ℕ, ◌+◌, ◌*◌, ◌≤◌, zero-le}
use lib.ListN.{length}
use Rattle.wire.proofs.Picks.{pick_case}
use Rattle.value_laws.proofs.Bound.{Fits, value_fits}
use Rattle.protocol.specs.Descriptors.{bare_form, DescribedType, describe}
use Rattle.protocol.specs.OffDescriptor.{rules_by}
use Rattle.run_compiled.proofs.Demand3.{demand_three, refused_same}
use Rattle.protocol.specs.Lists.{Forest}
use Rattle.value_laws.specs.Counts.{entry_count}
use Rattle.protocol.specs.Values.{ValueOutcome, value_of}
use Rattle.protocol.specs.Answers.{refused, accepted, Outcome as Answered, refused as turnedDown}
use Rattle.protocol.specs.Compiling.{whole_plan}
use Rattle.protocol.specs.Running.{nothing_in, list_roomed, value_by, checked, run_of, admitted}

-- ---- off a plan

roomed_fits : (n room : ℕ) (o : ValueOutcome) → Fits n o → Fits n (list_roomed room o)
unfolding list_roomed
roomed_fits n room (refused m p) h = h
roomed_fits n room (accepted f) h = pick_case (Fits n) _ _ _ (λ _. zero-le) (λ _. h)

pub run_fits : (p s : List ℕ) (room : ℕ) → Fits (length s + 4) (run_of p s room)
unfolding run_of checked value_by nothing_in value_of entry_count admitted
run_fits p s room =
    let P = Fits (length s + 4) in
    roomed_fits (length s + 4) room (checked p s)
    (pick_case P _ _ _
    (λ _. pick_case P _ _ _ (λ _. zero-le)
    (λ _. pick_case P _ _ _ (λ _. pick_case P _ _ _ (λ _. zero-le) (λ _. zero-le)) (λ _. value_fits _ _ _ _ _ s)))
    (λ _. zero-le))

-- ---- off a descriptor

pub rules_fit : (d root s : List ℕ) (room : ℕ) → Fits (length s + 4) (rules_by bare_form d root s room)
rules_fit d root s room = go (describe bare_form d root) refl
  where
    go : (o : Answered DescribedType) → describe bare_form d root ≡ o → Fits (length s + 4) (rules_by bare_form d root s room)
    go (turnedDown n p) e = rw (refused_same d root n p e s room) zero-le
    go (accepted t) e = rw (demand_three d root t e s room) at (run_fits (whole_plan t) s room)

pub rules_bound : (d root s : List ℕ) (room : ℕ) (f : Forest) → rules_by bare_form d root s room ≡ accepted f → 4 * entry_count f ≤ length s + 4
rules_bound d root s room f e = rw e at (rules_fit d root s room)
