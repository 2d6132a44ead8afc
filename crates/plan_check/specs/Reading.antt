-- Nobody has to believe these definitions: they are what the code's reading of a plan's nodes gives, and what it leaves in its two lists.
use Rattle.std.specs.Prelude.{◌≡◌, ◌≤◌, ℕ, List, length, take, Option, Some, None}
use Rattle.plan_heights.specs.Scan.{known_of, Rising}
use Rattle.protocol.specs.Plans.{NodesRead, malformed, nodes, nodes_of}

-- what the code says of the nodes, as a reading of the plan
unfoldable pub read_of : List ℕ → List ℕ → List ℕ → Option ℕ → NodesRead
read_of p starts heights None = malformed
read_of p starts heights (Some n) = nodes (known_of p starts heights n)

unfoldable pub count_of : Option ℕ → ℕ
count_of None = 0
count_of (Some n) = n

-- what a whole reading leaves in the two lists
pub record Reads (p starts heights : List ℕ) (r : Option ℕ) : Type 0 where
  pub same : nodes_of p ≡ read_of p starts heights r
  pub room : count_of r ≤ length starts
  pub rising : Rising (take (count_of r) starts)
