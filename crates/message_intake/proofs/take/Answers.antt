use native.Mathlib.Omega.{arith}
use mathlib.Core.Path.{sym, ◌∙◌}
use lib.ListN.{length-take}
use Rattle.message_intake.proofs.Takes.{lacking_few, whole_fits, other_room, refused_again, unfit, lacks, whole}
use Rattle.message_intake.proofs.take.Goals as goal

pub returns-then-len-intake : goal.returns-then-len-intake
returns-then-len-intake c = rw c.refusing.ensures (other_room _ _ _ c.if-len-intake.true)

pub returns-then-intake-ne0 : goal.returns-then-intake-ne0
returns-then-intake-ne0 c =
    rw c.refusing-then-intake-ne0.ensures (refused_again _ _ _ c.if-len-intake.false c.if-intake-ne0.true)

pub slice_bounds-at_hand-end-2 : goal.slice_bounds-at_hand-end-2
slice_bounds-at_hand-end-2 c = simp length-take (omega (arith, c.min-held.ensures))

pub overflow_cast-held : goal.overflow_cast-held
overflow_cast-held c =
    let a = c.args in
    let m = c.min-held.ensures in
    let h = c.at_hand.ensures in
    omega (
      arith,
      lacking_few a.intake.held a.room.now a.src.now _ m _ h _
          (rw c.in-Ok-Lacking.field-0-is at c.in-Ok-Lacking.is),
    )

pub overflow_cast-src : goal.overflow_cast-src
overflow_cast-src c =
    let a = c.args in
    let m = c.min-held.ensures in
    let h = c.at_hand.ensures in
    omega (
      arith,
      lacking_few a.intake.held a.room.now a.src.now _ m _ h _
          (rw c.in-Ok-Lacking.field-0-is at c.in-Ok-Lacking.is),
    )

pub overflow_cast-rest : goal.overflow_cast-rest
overflow_cast-rest c =
    let a = c.args in
    let m = c.min-held.ensures in
    let h = c.at_hand.ensures in
    omega (
      arith,
      lacking_few a.intake.held a.room.now a.src.now _ m _ h _
          (rw c.in-Ok-Lacking.field-0-is at c.in-Ok-Lacking.is),
    )

pub take_whole-requires : goal.take_whole-requires
take_whole-requires c =
    let a = c.args in
    let m = c.min-held.ensures in
    let h = c.at_hand.ensures in
    whole_fits a.intake.held a.room.now a.src.now _ m _ h _ (rw c.in-Ok-Whole.field-0-is at c.in-Ok-Whole.is)

pub returns-in-Ok-Lacking : goal.returns-in-Ok-Lacking
returns-in-Ok-Lacking c =
    let r = c.if-len-intake.false in
    let z = c.if-intake-ne0.false in
    let m = c.min-held.ensures in
    let h = sym
    c.at_hand.ensures ∙ (rw c.in-Ok-Lacking.field-0-is at c.in-Ok-Lacking.is) in
    rw (c.taking.ensures, c.holding.ensures) (lacks _ _ _ r z _ m _ _ h c.put_bytes.ensures)

pub returns-in-Err : goal.returns-in-Err
returns-in-Err c =
    let r = c.if-len-intake.false in
    let z = c.if-intake-ne0.false in
    let m = c.min-held.ensures in
    let h = sym c.at_hand.ensures ∙ c.in-Err.is in
    rw (c.refusing-in-Err.ensures, c.ended.ensures, c.number-number.ensures) (unfit _ _ _ r z _ m _ h)

pub returns-in-Ok-Whole : goal.returns-in-Ok-Whole
returns-in-Ok-Whole c =
    let r = c.if-len-intake.false in
    let z = c.if-intake-ne0.false in
    let m = c.min-held.ensures in
    let h = sym
    c.at_hand.ensures ∙ (rw c.in-Ok-Whole.field-0-is at c.in-Ok-Whole.is) in
    whole _ _ _ r z _ m _ _ _ h c.take_whole.ensures
