-- Of every node: the head of an element takes at least four bytes, and it and the
-- container's own head lead to a place in the bytes that they were read from.
use mathlib.Core.Bool.{Bool}
use mathlib.Core.List.{List}
use Prim.Native.Nat.{ℕ, ◌+◌, ◌≤◌}
use native.Mathlib.Omega.{arith}
use lib.ListN.{length, get_or}
use Rattle.std.specs.Prelude.{Result, IfOk}
use Rattle.value_heads.specs.Bounds.{Opened}
use Rattle.forms.specs.declared.Head.{Head}
use Rattle.forms.specs.declared.Head.TheVariants.{Present, Absent}
use Rattle.value_heads.proofs.Cases.{plain_cases, object_cases, envelope_cases, sparse_cases}
use Rattle.value_heads.proofs.Bounds.{set_inside, count_inside, sparse_opening_inside, range_inside}
use Rattle.protocol.specs.Heads.{plain_head, requires, sparse_head}
use Rattle.protocol.specs.Nodes.{Node, leaf, enum, row, arrays, tuple, object, sparse, range}
use Rattle.protocol.specs.Values.{row_head, opening_of}

-- an element's data stands at least four bytes after `at`, and within n bytes
abbrev pub Spaced : ℕ → ℕ → Head → Type 0
Spaced n at (Present i start size) = (at + 4 ≤ start) × (start + size ≤ n)
Spaced n at (Absent i start) = (at + 4 ≤ start) × (start ≤ n)

module _ (s : List ℕ) (at : ℕ) where
  abbrev P : Result Head ℕ → Type 0
  P r = IfOk r (Spaced (length s) at)

  plain_spaced : (gap i : ℕ) → P (plain_head s gap i at)
  plain_spaced gap i = plain_cases P (λ _. tt) s gap i at (λ whole _ fit. (omega arith, omega arith))

  pub sparse_spaced : (cards : List ℕ) (marks : List Bool) → P (sparse_head s cards marks at)
  sparse_spaced cards marks =
      sparse_cases P (λ _. tt) s cards marks at (λ whole _ _ _. (omega arith, omega arith)) (λ whole _ _ _ fit. (omega arith, omega arith))

  pub row_spaced : (v : Node) (i : ℕ) → P (row_head v s i at)
  unfolding row_head
  row_spaced (leaf f) i = tt
  row_spaced enum i = tt
  row_spaced (row r) i = plain_spaced 0 i
  row_spaced (arrays r) i = envelope_cases P (λ _. tt) s i at (λ whole _ fit. (omega arith, omega arith))
  row_spaced (tuple refs) i = plain_spaced 4 i
  row_spaced (object refs cards) i =
      object_cases P (λ _. tt) s (requires (get_or cards i 0)) i at (λ whole _. (omega arith, omega arith)) (λ whole _ fit. (omega arith, omega arith))
  row_spaced (sparse refs cards) i = tt
  row_spaced (range r) i = plain_spaced 0 i

pub node_opened : (v : Node) (s : List ℕ) → IfOk (opening_of v s) (Opened (length s))
unfolding opening_of
node_opened (leaf f) s = tt
node_opened enum s = tt
node_opened (row r) s = set_inside s
node_opened (arrays r) s = set_inside s
node_opened (tuple refs) s = count_inside s (length refs)
node_opened (object refs cards) s = count_inside s (length refs)
node_opened (sparse refs cards) s = sparse_opening_inside s
node_opened (range r) s = range_inside s
