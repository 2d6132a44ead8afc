-- Nobody has to believe these definitions: they are what the code says to itself of the scratch room for the list of a value.
use Rattle.std.specs.Prelude.{ℕ, ◌*◌, ◌+◌, ◌≤◌}

-- scratch room that holds any list of a value of n bytes (R6.10) that can cross (R9.6)
abbrev pub Roomy : ℕ → ℕ → Type 0
Roomy n scratch = (w : ℕ) → 4 * w ≤ 5 * n + 20 → w ≤ 8192 → w ≤ scratch
