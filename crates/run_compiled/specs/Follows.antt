-- How a run's answer shows protocol's outcome of compiling and then running: read it only for the contract of
-- `run_compiled::compile_and_run`, which is R4.14.
use Rattle.std.specs.Prelude.{◌≡◌, ℕ, List, length, Result, Ok, Err}
use Rattle.protocol.specs.Descriptors.{bare_form}
use Rattle.protocol.specs.OffDescriptor.{rules_by, compiled_then}
use Rattle.run_plan.specs.Run as run
use Rattle.forms.specs.declared.fault.Refusal.{Refusal}
use Rattle.protocol.specs.Compiling.{compile_by, plan_after}
use Rattle.protocol.specs.Lists.{Entries}

-- the answer for a value of n bytes has few entries (R6.10)
unfoldable pub Few : ℕ → Result ℕ Refusal → Type 0
Few n (Err r) = Unit {0}
Few n (Ok w) = Entries n w

-- R4.14: the answer and the list are those of the rules read off the descriptor, wherever its plan fits the room. The list has at most
-- one entry and one more for every four bytes of the value (R6.10).
pub record Follows (d root s : List ℕ) (r : Result ℕ Refusal) (p p' l l' : List ℕ) : Type 0 where
  pub plan : p' ≡ plan_after (compile_by bare_form d root (length p)) p
  pub gives : run.Gives (compiled_then (compile_by bare_form d root (length p)) (rules_by bare_form d root s (length l))) r l l'
  pub few : Few (length s) r
