use mathlib.Core.Path.{refl}
use native.Mathlib.Omega.{arith}
use lib.ListN.{length-take}
use Rattle.message_write.specs.Emitting.{stand_of, Bounded}
use Rattle.message_write.proofs.Caps.{cap_most}
use Rattle.message_write.proofs.Emits.{emit_none, emit_outside, emit_unfit, emit_done}
use borrow.Author.Rules.{rules}
use Rattle.message_write.proofs.Writer.field.Goals as goal

pub overflow_add-from : goal.overflow_add-from
unfolding Bounded
overflow_add-from c = search rules

pub returns-then-self-from : goal.returns-then-self-from
unfolding stand_of Bounded
returns-then-self-from c = record { out_after = emit_none _ _ _ _ _ _ _ c.if-self-from.true; bounded = tt }

pub returns-then-self-end : goal.returns-then-self-end
unfolding stand_of Bounded
returns-then-self-end c =
    record { out_after = emit_outside _ _ _ _ _ _ _ c.if-self-from.false _ _ refl refl c.if-self-end.true; bounded = tt }

pub returns-then-not-content_fits : goal.returns-then-not-content_fits
unfolding stand_of Bounded
returns-then-not-content_fits c = record {
  out_after = emit_unfit _ _ _ _ _ _ _ c.if-self-from.false _ _ refl refl
      c.if-self-end.false _ refl _ c.content_fits.ensures c.if-not-content_fits.true;
  bounded = tt;
}

pub frame-at-requires : goal.frame-at-requires
unfolding Bounded
frame-at-requires c = (
  c.requires.0,
  c.requires.1,
  simp length-take (omega arith),
  c.requires.2.1,
)

pub returns : goal.returns
unfolding stand_of Bounded
returns c = record {
  out_after = emit_done _ _ _ _ _ _ _ c.if-self-from.false _ _ refl refl
      c.if-self-end.false _ refl _
      c.content_fits.ensures c.if-not-content_fits.false _ _
      c.frame-at.ensures;
  bounded = (c.if-self-from.false, rw c.frame-at.ensures.next (cap_most _));
}
