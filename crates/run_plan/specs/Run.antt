-- How the code shows protocol's outcome of running a plan: read it only for the contracts of `run_plan::run` and
-- `run_plan::check`, and of what they call.
use Rattle.std.specs.Prelude.{◌≡◌, ℕ, ◌*◌, ◌+◌, ◌≤◌, List, length, Result, Ok, Err}
use Rattle.std.proofs.lemmas.List.Edits.{sets}
use Rattle.forms.specs.declared.fault.Refusal.{Refusal}
use Rattle.value_parts.specs.Walk.{refusal}
use Rattle.protocol.specs.Lists.{Forest, empty, words}
use Rattle.protocol.specs.Values.{ValueOutcome}
use Rattle.protocol.specs.Answers.{refused, accepted}
use Rattle.protocol.specs.Running.{list_after, admitted}

-- the number of a refusal, if there is one
unfoldable pub fault_in : ValueOutcome → Result (Unit {0}) ℕ
fault_in (refused n p) = Err n
fault_in (accepted f) = Ok tt

-- that of the refusals before the value is looked at (R1.9)
unfoldable pub early_fault : List ℕ → List ℕ → Result (Unit {0}) ℕ
early_fault p s = fault_in (admitted p s (accepted empty))

-- ---- what the call answers and leaves in the list

-- number and place of a refusal; number of words
unfoldable pub answer_of : ValueOutcome → Result ℕ Refusal
answer_of (refused n p) = Err (refusal n p)
answer_of (accepted f) = Ok (length (words f))

-- the outcome settles the answer and the list (R1.1, R1.2)
pub record Gives (o : ValueOutcome) (r : Result ℕ Refusal) (l l' : List ℕ) : Type 0 where
  pub answer : r ≡ answer_of o
  pub list : l' ≡ list_after o l

-- an accepted value's words, stored from the start of a room as far as it goes; n bytes have at most 1 + n / 4 entries of five words (R6.10)
unfoldable pub Stored : ℕ → ValueOutcome → List ℕ → List ℕ → Type 0
Stored n (refused m p) l l' = Unit {0}
Stored n (accepted f) l l' = (l' ≡ sets l 0 (words f)) × (4 * length (words f) ≤ 5 * n + 20)

-- the answer but for the list's room, and the words of an accepted value
pub record Checks (n : ℕ) (o : ValueOutcome) (r : Result ℕ Refusal) (l l' : List ℕ) : Type 0 where
  pub answer : r ≡ answer_of o
  pub words : Stored n o l l'

-- the value was accepted
pub record Accepted (o : ValueOutcome) : Type 0 where
  pub forest : Forest
  pub is : o ≡ accepted forest
