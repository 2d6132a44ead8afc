-- The kinds of values (R4.2, R4.8). A reference is a key of some lookup: a plan's keys are word positions, a descriptor's are block indexes.
use Rattle.std.specs.Prelude.{ℕ, List, map}
use Rattle.std.proofs.Math.Option.{Option, none, some}
use Rattle.std.proofs.Math.ListN.{get_elem?}

pub data Node : Type 0 where
  -- a scalar of a format
  leaf : ℕ → Node
  enum : Node
  -- a set or an array
  row : ℕ → Node
  -- a set of arrays, of which the reference is to the array
  arrays : ℕ → Node
  tuple : List ℕ → Node
  -- an output object: references and cardinalities
  object : List ℕ → List ℕ → Node
  -- an input object
  sparse : List ℕ → List ℕ → Node
  range : ℕ → Node

-- the key of the node of the element with an index, if there is one
unfoldable pub ref_at : Node → ℕ → Option ℕ
ref_at (leaf f) i = none
ref_at enum i = none
ref_at (row r) i = some r
ref_at (arrays r) i = some r
ref_at (tuple refs) i = get_elem? refs i
ref_at (object refs cards) i = get_elem? refs i
ref_at (sparse refs cards) i = get_elem? refs i
ref_at (range r) i = some r

-- a node with its references renamed: ρ k is the new key of the node with the key k
unfoldable pub rename : (ℕ → ℕ) → Node → Node
rename ρ (leaf f) = leaf f
rename ρ enum = enum
rename ρ (row r) = row (ρ r)
rename ρ (arrays r) = arrays (ρ r)
rename ρ (tuple refs) = tuple (map ρ refs)
rename ρ (object refs cards) = object (map ρ refs) cards
rename ρ (sparse refs cards) = sparse (map ρ refs) cards
rename ρ (range r) = range (ρ r)
