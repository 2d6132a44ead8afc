-- Nobody has to believe these definitions: they are what the code says to itself of the plan and the list that a value is written from.
use Rattle.std.specs.Prelude.{◌≡◌, true, ℕ, List, length}
use Rattle.protocol.specs.Crossing.{crosses}

-- a plan and a list that cross (R9.4)
pub record BothCross (plan list : List ℕ) : Type 0 where
  pub plan_crosses : crosses (length plan) ≡ true
  pub list_crosses : crosses (length list) ≡ true
