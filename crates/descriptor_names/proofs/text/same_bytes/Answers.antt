use mathlib.Core.Path.{refl, sym, ◌∙◌}
use native.Mathlib.Omega.{arith}
use Rattle.descriptor_names.proofs.Texts.{unlike_lengths, same_next, same_end}
use Rattle.protocol.specs.Numbers.{pick}
use Rattle.descriptor_names.proofs.text.same_bytes.Goals as goal

pub returns-then-a-b : goal.returns-then-a-b
returns-then-a-b c = sym (unlike_lengths _ _ c.if-a-b.true)

pub loop-i-init : goal.loop-i-init
unfolding pick
loop-i-init c = (c.if-a-b.false, refl)

pub loop-i-preserved : goal.loop-i-preserved
loop-i-preserved c = (
  c.loop-i.invariant.0,
  c.loop-i.invariant.1
      ∙ same_next _ _ _ c.loop-i-test.true (omega (arith, c.loop-i.invariant.0, c.loop-i-test.true)) c.loop-i.same,
)

pub returns : goal.returns
returns c =
    sym (c.loop-i.invariant.1 ∙ same_end _ _ _ c.loop-i-test.false (omega (arith, c.loop-i.invariant.0, c.loop-i-test.false)) c.loop-i.same)
