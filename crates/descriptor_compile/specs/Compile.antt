-- How the answer of `descriptor_compile::compile` shows protocol's outcome of compiling: read it only for its contract.
use Rattle.std.specs.Prelude.{◌≡◌, ℕ, List, length, Result, Ok, Err}
use Rattle.forms.specs.declared.fault.Refusal.{Refusal}
use Rattle.protocol.specs.Answers.{Outcome, refused, accepted}
use Rattle.protocol.specs.Compiling.{plan_after}

-- number and place of a refusal; number of words
unfoldable pub answer_of : Outcome (List ℕ) → Result ℕ Refusal
answer_of (refused n p) = Err (record { fault = n; place = p })
answer_of (accepted ws) = Ok (length ws)

-- the outcome settles the answer and the plan's room (R1.1, R1.2)
pub record Gives (o : Outcome (List ℕ)) (r : Result ℕ Refusal) (l l' : List ℕ) : Type 0 where
  pub answer : r ≡ answer_of o
  pub plan : l' ≡ plan_after o l
