-- `wire_stepless::alike` meets its contract: both checks answer what the one definition of well-formed text says.
use mathlib.Core.Path.{◌≡◌, refl, ap₂, ◌∙◌}
use mathlib.Core.Bool.{Bool, true, false, beq}
use Rattle.protocol.specs.Text.{well_formed}
use Rattle.wire_stepless.proofs.alike.Goals as goal

itself : (t : Bool) → beq t t ≡ true
itself true = refl
itself false = refl

pub returns : goal.returns
returns c =
    ap₂ beq c.is_utf8-stepped.ensures c.textbench_is_utf8_stepless-stepless.ensures ∙ itself (well_formed c.args.s.now)
