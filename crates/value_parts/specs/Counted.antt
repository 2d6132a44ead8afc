-- Nobody has to believe these definitions: they are what the code's walk over a sparse object keeps of the indexes it met.
use Rattle.std.specs.Prelude.{◌≡◌, Bool, List, ℕ, length}
use Rattle.value_heads.specs.Heads.{given}
use Rattle.protocol.specs.Plans.{cards_at}

-- the marks of a sparse object's indexes, and how many of those are required
pub record Counted (p : List ℕ) (k : ℕ) (marks : List Bool) (n : ℕ) : Type 0 where
  pub room : length marks ≡ 512
  pub same : n ≡ given (cards_at p k) marks (length (cards_at p k))
