use mathlib.Core.Path.{refl, sym, ◌∙◌}
use native.Mathlib.Omega.{arith}
use lib.ListN.{length-set}
use Rattle.c_words.proofs.Words.{take_next, take_done}
use Rattle.c_words.proofs.take_words.Goals as goal

pub loop-i-init : goal.loop-i-init
loop-i-init c = (refl, refl)

pub loop-i-preserved : goal.loop-i-preserved
loop-i-preserved c = (
  simp length-set c.loop-i.invariant.0,
  c.loop-i.invariant.1 ∙ take_next c.args.bytes.now _ c.loop-i.i _ (omega arith) c.u32_at.ensures,
)

pub shape_of-words : goal.shape_of-words
shape_of-words c = c.loop-i.invariant.0

pub returns : goal.returns
returns c = sym (c.loop-i.invariant.1 ∙ take_done c.args.bytes.now _ c.loop-i.i (omega arith))
