-- `supply_write::build_top` meets its contract: the first entry is read, and is of the top.
use mathlib.Core.Path.{ap, ◌∙◌}
use native.Mathlib.Omega.{arith}
use Prim.Native.Nat.{ℕ}
use Rattle.supply_entries.specs.Emitting.{put_at, stand_of}
use Rattle.supply_entries.proofs.Entries.{no_entry, entry_at, entry_inside}
use Rattle.supply_entries.proofs.Values.{value_short, value_index, value_absent}
use Rattle.protocol.specs.Plans.{look}
use Rattle.protocol.specs.Building.{build_of}
use Rattle.supply_write.proofs.build_top.Goals as goal
use Rattle.supply_write.proofs.build_top.Goals.{then-entry-ne0-via-then-entry-ne0, then-entry-ne0-via-else-entry-ne0+then-entry}

pub returns-in_err-entry : goal.returns-in_err-entry
unfolding stand_of
returns-in_err-entry c =
    rw c.from_residual.ensures
    (value_short _ _ _ c.requires.0 _ _ _ _ (no_entry c.args.list.now 0 _ c.next_entry.ensures c.in_err-entry.was))

pub returns-then-entry-ne0 : goal.returns-then-entry-ne0
unfolding stand_of
returns-then-entry-ne0 c =
    let e = entry_at c.args.list.now 0 _ c.next_entry.ensures _ c.in_ok-entry.was in
    elim c.then-entry-ne0.branch [
      | then-entry-ne0-via-then-entry-ne0 w ↦ value_index _ _ _ c.requires.0 _ _ _ _ _ _ e w.if-entry-ne0.true
      | then-entry-ne0-via-else-entry-ne0+then-entry w ↦ value_absent _ _ _ c.requires.0 _ _ _ _ _ _ e w.if-entry.true
    ]

pub build_value-requires : goal.build_value-requires
build_value-requires c = (
  c.requires.0,
  entry_at c.args.list.now 0 _ c.next_entry.ensures _ c.in_ok-entry.was,
  c.if-entry.false,
  entry_inside c.args.list.now 0 _ c.next_entry.ensures _ c.in_ok-entry.was,
  omega arith,
  c.requires.1,
)

pub returns : goal.returns
returns c =
    c.build_value.ensures
    ∙ ap (λ (i : ℕ). put_at (build_of c.args.src.now (look c.args.plan.now) c.args.node i c.args.list.now) 0 c.args.out.now) c.if-entry-ne0.false
