use mathlib.Core.Path.{ap}
use Prim.Native.Nat.{ℕ, ◌+◌, ◌≤◌}
use native.Mathlib.Omega.{arith}
use lib.ListN.{length-take}
use Rattle.message_layout.proofs.Starts.{start_below}
use Rattle.message_read.specs.Scan.{Within}
use Rattle.message_read.proofs.Ends.{accepted, accepted_known, filled}
use Rattle.message_read.proofs.fill.Goals as goal

pub u32_at-requires : goal.u32_at-requires
u32_at-requires c = omega (arith, (accepted _ _ c.requires).long)

pub slice_bounds-reader-end : goal.slice_bounds-reader-end
slice_bounds-reader-end c =
    simp length-take (omega (arith, (accepted _ _ c.requires).fits))

pub bounds-s-0 : goal.bounds-s-0
bounds-s-0 c =
    omega (arith, (accepted _ _ c.requires).long)

pub walk-requires : goal.walk-requires
unfolding Within
walk-requires c =
    let w = accepted _ _ c.requires in
    let l : 5 ≤ c.u32_at.result + 1 = omega (arith, w.low) in
    (start_below _ _ _ c.in-Some.ensures, (simp length-take (omega (arith, w.fits)), omega arith))

pub returns-in-Some : goal.returns-in-Some
returns-in-Some c =
    filled _ _ c.requires _ c.in-Some.ensures
    (c.u32_at.result + 1) _ _ _
    (ap (λ (n : ℕ). n + 1) c.u32_at.ensures)
    c.walk.ensures.list_after

pub returns-in_default : goal.returns-in_default
returns-in_default c = absurd (accepted_known _ _ c.requires c.in_default.ensures)

pub invariant_of-reader : goal.invariant_of-reader
invariant_of-reader c =
    let w = accepted _ _ c.requires in
    let h : c.u32_at.result + 1 ≤ 65536 = omega (arith, w.high) in
    record { sized = simp length-take (omega arith); coded = c.table-table.ensures }
