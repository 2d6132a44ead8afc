-- Nobody has to believe these definitions: they are what the code says to itself of the pass that judges a descriptor and counts its plan's
-- words.
use Rattle.std.specs.Prelude.{◌≡◌, ℕ, List, length, get_or, Result, Ok, Err, Option, Some, None}
use Rattle.std.proofs.lemmas.List.Edits.{sets}
use Rattle.descriptor_fields.specs.Layouts.{valued}
use Rattle.descriptor_fields.specs.Fields.{Known, no_block, index_in}
use Rattle.descriptor_blocks.specs.Descriptor.{node_at, Compiled, refused_plan, plan}
use Rattle.forms.specs.declared.fault.Refusal.{Refusal}
use Rattle.protocol.specs.Numbers.{pick}

-- number and place of a refusal; number of words
unfoldable pub checked_answer : Compiled → Result ℕ Refusal
checked_answer (refused_plan n p) = Err (record { fault = n; place = p })
checked_answer (plan ws) = Ok (length ws)

-- an accepted descriptor's plan, stored from the start of a room as far as it goes
unfoldable pub Stored : Compiled → List ℕ → List ℕ → Type 0
Stored (refused_plan n p) l l' = Unit {0}
Stored (plan ws) l l' = l' ≡ sets l 0 ws

-- the answer but for the plan's room, and the words of an accepted descriptor's plan
pub record Checks (o : Compiled) (r : Result ℕ Refusal) (l l' : List ℕ) : Type 0 where
  pub answer : r ≡ checked_answer o
  pub words : Stored o l l'

-- where the node of the block with an index starts, if the block has values
unfoldable pub root_of : List Known → Option ℕ → Option ℕ
root_of known None = None
root_of known (Some k) = pick (valued (get_or known k no_block).tag) (Some (node_at known k)) None

-- the same of the block with an id, if it is there
unfoldable pub root_node : List ℕ → List Known → ℕ → Option ℕ
root_node d known i = root_of known (index_in d known i)
