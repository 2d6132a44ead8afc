-- Nobody has to believe these definitions: they are what the code's readers of a plan's nodes take and give.
use Rattle.std.specs.Prelude.{◌≡◌, ℕ, ◌≤◌, ◌^◌, ◌<◌, List, get_or, true}
use Rattle.std.proofs.Math.Option.{some}
use Rattle.protocol.specs.Nodes.{Node, ref_at}
use Rattle.protocol.specs.Plans.{nodes_of, plan_formed, starts_in}

-- a node starts at a position of a well-formed plan, and the position is a word
pub record At (p : List ℕ) (k : ℕ) : Type 0 where
  pub formed : plan_formed p ≡ true
  pub start : starts_in (nodes_of p) k ≡ true
  pub small : k < 2 ^ 32

-- a node has a reference for the element with an index
pub record Refers (v : Node) (i : ℕ) : Type 0 where
  pub to : ℕ
  pub is : ref_at v i ≡ some to

-- the kind of the node at a position
pub record KindAt (p : List ℕ) (k kind : ℕ) : Type 0 where
  pub is : kind ≡ get_or p k 0
  pub low : 1 ≤ kind
  pub high : kind ≤ 8
