-- Nobody has to believe these definitions: they are what the code says to itself of the required elements of a sparse object, counted, and of
-- where an element stands. That the count tells whether a required one is lacking (R5.14) is proved (proofs/Counts).
use Rattle.std.specs.Prelude.{ℕ, zero, suc, ◌+◌, ◌<◌, ◌≤◌, Bool, false, List, get_or}
use Rattle.forms.specs.declared.Head.{Head}
use Rattle.forms.specs.declared.Head.TheVariants.{Present, Absent}
use Rattle.protocol.specs.Numbers.{pick}
use Rattle.protocol.specs.Heads.{requires}

-- how many of the first n elements are required (R5.11), and how many of those are marked as given
unfoldable pub needed : List ℕ → ℕ → ℕ
needed cards zero = 0
needed cards (suc n) = needed cards n + pick (requires (get_or cards n 0)) 1 0

unfoldable pub given : List ℕ → List Bool → ℕ → ℕ
given cards marks zero = 0
given cards marks (suc n) = given cards marks n + pick (requires (get_or cards n 0)) (pick (get_or marks n false) 1 0) 0

-- an element stands after `at` and within n bytes
unfoldable pub Inside : ℕ → ℕ → Head → Type 0
Inside n at (Present i start size) = (at < start) × (start + size ≤ n)
Inside n at (Absent i start) = (at < start) × (start ≤ n)
