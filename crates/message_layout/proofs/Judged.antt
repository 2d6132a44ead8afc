-- The laws of layouts that are judged or not.
use mathlib.Core.Path.{◌≡◌, refl}
use mathlib.Core.Bool.{Bool, true, false}
use Rattle.message_layout.specs.Judged.{judged, unjudged, judged_all}
use Rattle.protocol.specs.Messages.{Field, Layout, done, one, run, u16}

pub judged_done : (j : Bool) → judged_all j done ≡ done
unfolding judged_all unjudged
judged_done true = refl
judged_done false = refl

pub judged_one : (j : Bool) (f : Field) (rest : Layout) → judged_all j (one f rest) ≡ one (judged j f) (judged_all j rest)
unfolding judged_all unjudged judged
judged_one true f rest = refl
judged_one false f rest = refl

pub judged_run : (j : Bool) (items rest : Layout) → judged_all j (run items rest) ≡ run (judged_all j items) (judged_all j rest)
unfolding judged_all unjudged
judged_run true items rest = refl
judged_run false items rest = refl

-- a run's count has no rule
pub judged_count : (j : Bool) → judged j u16 ≡ u16
unfolding judged
judged_count true = refl
judged_count false = refl
