-- Nobody has to believe these definitions: they say where a reading leads, as the code sees it: what it kept of the block, and the elements in
-- their run of numbers.
use Rattle.std.specs.Prelude.{ℕ, ◌+◌, ◌≤◌, List, [], ◌∷◌, leb, Result, Ok, Err}
use Rattle.descriptor_fields.specs.Layouts.{ELEMENT}
use Rattle.descriptor_fields.specs.Fields.{Element}
use Rattle.descriptor_fields.specs.Arrays.{elements_of}
use Rattle.descriptor_fields.specs.declared.Draft.{Draft}
use Rattle.descriptor_blocks.specs.Blocks.{Reading, stop, next}
use Rattle.protocol.specs.Numbers.{pick}

-- how many elements a field adds, and fields
unfoldable pub push : ℕ → ℕ
push c = pick (leb ELEMENT c) 1 0

unfoldable pub pushes : List ℕ → ℕ
pushes [] = 0
pushes (c ∷ cs) = push c + pushes cs

-- a reading that goes on is inside the descriptor, with at most so many items to come and elements read
unfoldable pub Inside : ℕ → ℕ → Result Draft ℕ → Type 0
Inside end n (Err m) = Unit {0}
Inside end n (Ok x) = (x.at ≤ end) × (x.left ≤ 512) × (x.count ≤ n)

-- where a reading leads, but for the fields that were noted
pub data Walk : Type 0 where
  stopped : ℕ → Walk
  moved : Draft → List Element → Walk

unfoldable pub led : Reading → Walk
led (stop n) = stopped n
led (next x es is) = moved x es

unfoldable pub walk_of : Result Draft ℕ → List ℕ → Walk
walk_of (Err n) a = stopped n
walk_of (Ok x) a = moved x (elements_of a x.count)
