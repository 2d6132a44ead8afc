-- Nobody has to believe these definitions: they are the formats whose rule is a size alone (R5.15), by which the code judges a run of such
-- values at once.
use Rattle.std.specs.Prelude.{◌≡◌, List, ℕ, ◌≤◌, ◌<◌}
use Rattle.protocol.specs.Scalars.{of_size, scalar, FormatRule, fixed, ruled, format_rule}

unfoldable pub size_of : FormatRule → ℕ
size_of (fixed n) = n
size_of (ruled rule) = 0

-- the size of a format whose values are any bytes of that size, and 0 for each other
unfoldable pub fixed_size : ℕ → ℕ
fixed_size f = size_of (format_rule f)

-- what a format's size says of its values
pub record Fixed (f size : ℕ) : Type 0 where
  pub is : size ≡ fixed_size f
  pub small : size ≤ 16
  pub rule : 0 < size → (v : List ℕ) → scalar f v ≡ of_size size v
