use mathlib.Core.Path.{refl, sym, ◌∙◌}
use native.Mathlib.Omega.{arith}
use Rattle.c_words.proofs.Words.{put_next, put_done}
use Rattle.c_words.proofs.put_words.Goals as goal

pub loop-i-init : goal.loop-i-init
loop-i-init c = (refl, refl)

pub loop-i-preserved : goal.loop-i-preserved
loop-i-preserved c = (
  c.put_u32.auto.out ∙ c.loop-i.invariant.0,
  c.loop-i.invariant.1 ∙ put_next c.args.words.now _ c.loop-i.i (omega arith) _ c.put_u32.ensures,
)

pub shape_of-out : goal.shape_of-out
shape_of-out c = c.loop-i.invariant.0

pub returns : goal.returns
returns c = sym (c.loop-i.invariant.1 ∙ put_done c.args.words.now _ c.loop-i.i (omega arith))
