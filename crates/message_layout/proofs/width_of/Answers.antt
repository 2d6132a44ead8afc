use Rattle.message_layout.proofs.Rules.{width_sound}
use Rattle.message_layout.specs.Tables.{width_of, widths}
use mathlib.Core.Path.{ap, ◌∙◌}
use Rattle.message_layout.proofs.width_of.Goals as goal

pub returns : goal.returns
unfolding width_of widths
returns c = width_sound c.args.code _ c.requires (c.from-2.ensures ∙ ap width_of c.from.ensures)
