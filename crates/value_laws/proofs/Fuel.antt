-- A rule is only asked of the keys that a node refers to, so constant fuel is
-- enough for every key. It follows from a renaming that leaves each key as it is.
use mathlib.Core.Path.{◌≡◌, refl, sym, ap, ◌∙◌}
use mathlib.Core.List.{List, map-id}
use mathlib.Core.Option.{some}
use Prim.Native.Nat.{ℕ, suc, ◌<◌, ◌^◌}
use native.Mathlib.Omega.{arith}
use Rattle.value_laws.proofs.Relabel.{relabel}
use Rattle.protocol.specs.Nodes.{Node, leaf, enum, row, arrays, tuple, object, sparse, range, ref_at, rename}
use Rattle.protocol.specs.Lists.{Forest, empty, tree, renamed_forest}
use Rattle.protocol.specs.Values.{ValueOutcome, by_node, value, value_of, fuel, renamed}
use Rattle.protocol.specs.Answers.{refused, accepted}

-- each key as it is
abbrev same : ℕ → ℕ
same k = k

rename_same : (v : Node) → rename same v ≡ v
unfolding rename
rename_same (leaf f) = refl
rename_same enum = refl
rename_same (row r) = refl
rename_same (arrays r) = refl
rename_same (tuple refs) = rw (map-id refs)
rename_same (object refs cards) = rw (map-id refs)
rename_same (sparse refs cards) = rw (map-id refs)
rename_same (range r) = refl

forest_same : (f : Forest) → renamed_forest same f ≡ f
unfolding renamed_forest
forest_same empty = refl
forest_same (tree e below next) = rw (forest_same below, forest_same next)

renamed_same : (o : ValueOutcome) → renamed same o ≡ o
unfolding renamed
renamed_same (refused n p) = refl
renamed_same (accepted f) = ap accepted (forest_same f)

-- each node of Good refers to smaller keys of Good
module _ (look : ℕ → Node) (Good : ℕ → Type 0) (closed : (k i r : ℕ) → Good k → ref_at (look k) i ≡ some r → (Good r) × (r < k)) where
  -- the fuel does not matter where it is enough
  pub value_fuel : (f f' k : ℕ) → Good k → k < f → k < f' → (i base : ℕ) (s : List ℕ) → value look f' k i base s ≡ value look f k i base s
  value_fuel f f' k good enough enough' i base s =
      relabel same look look Good closed (λ k good. sym (rename_same (look k))) f f' k good enough enough' i base s
      ∙ renamed_same (value look f k i base s)

  -- with the fuel as it is for what the node refers to
  pub value_next : (f k : ℕ) → Good k → k < f → (i base : ℕ) (s : List ℕ) → value look f k i base s ≡ by_node (look k) (value look f) k i base s
  unfolding value
  value_next f k good enough = value_fuel (suc f) f k good (omega arith) enough

  pub value_step : (k : ℕ) → Good k → k < 2 ^ 32 → (i base : ℕ) (s : List ℕ) → value_of look k i base s ≡ by_node (look k) (value_of look) k i base s
  unfolding value_of
  value_step = value_next fuel
