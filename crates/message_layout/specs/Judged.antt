-- Nobody has to believe these definitions: they are fields without the rules on their content, for the code's second pass over what a first
-- pass has judged.
use Rattle.std.specs.Prelude.{Bool, true, false, []}
use Rattle.protocol.specs.Messages.{Field, number, text, bytes, Layout, done, one, run}

-- the field as it is, or with any content permitted
unfoldable pub judged : Bool → Field → Field
judged true f = f
judged false (number w vs) = number w []
judged false text = bytes
judged false bytes = bytes

unfoldable pub unjudged : Layout → Layout
unjudged done = done
unjudged (one f rest) = one (judged false f) (unjudged rest)
unjudged (run items rest) = run (unjudged items) (unjudged rest)

unfoldable pub judged_all : Bool → Layout → Layout
judged_all true l = l
judged_all false l = unjudged l
