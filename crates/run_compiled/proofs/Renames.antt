-- A node with its references renamed: its kind, its references, and that it obeys the rules of plans.
use mathlib.Core.Path.{◌≡◌, refl, ap, ap₂}
use mathlib.Core.List.{List, [], ◌∷◌, map}
use mathlib.Core.Option.{some}
use Prim.Native.Nat.{ℕ, zero, suc, ◌<◌}
use native.Mathlib.Omega.{arith}
use lib.ListN.{length, get_or, length-map}
use Rattle.plan_nodes.proofs.Looks.{elem_in}
use Rattle.run_compiled.proofs.Words.{kind_of, refs_of, Paired, Proper}
use Rattle.protocol.specs.Nodes.{Node, leaf, enum, row, arrays, tuple, object, sparse, range, ref_at, rename}

-- ---- lists

-- an element of a list, renamed
pub map_at : (ρ : ℕ → ℕ) (l : List ℕ) (k : ℕ) → k < length l → get_or (map ρ l) k 0 ≡ ρ (get_or l k 0)
map_at ρ [] k h = absurd (omega arith)
map_at ρ (x ∷ l) zero h = refl
map_at ρ (x ∷ l) (suc k) h = map_at ρ l k (omega arith)

map_same : (ρ σ : ℕ → ℕ) (l : List ℕ) → ((k : ℕ) → k < length l → ρ (get_or l k 0) ≡ σ (get_or l k 0)) → map ρ l ≡ map σ l
map_same ρ σ [] e = refl
map_same ρ σ (x ∷ l) e = ap₂ (λ (y : ℕ) (m : List ℕ). y ∷ m) (e 0 (omega arith)) (map_same ρ σ l (λ k h. e (suc k) (omega arith)))

-- ---- nodes

module _ (ρ : ℕ → ℕ) where
  pub rename_kind : (v : Node) → kind_of (rename ρ v) ≡ kind_of v
  unfolding rename kind_of
  rename_kind (leaf f) = refl
  rename_kind enum = refl
  rename_kind (row r) = refl
  rename_kind (arrays r) = refl
  rename_kind (tuple rs) = refl
  rename_kind (object rs cs) = refl
  rename_kind (sparse rs cs) = refl
  rename_kind (range r) = refl

  pub rename_refs : (v : Node) → refs_of (rename ρ v) ≡ map ρ (refs_of v)
  unfolding rename refs_of
  rename_refs (leaf f) = refl
  rename_refs enum = refl
  rename_refs (row r) = refl
  rename_refs (arrays r) = refl
  rename_refs (tuple rs) = refl
  rename_refs (object rs cs) = refl
  rename_refs (sparse rs cs) = refl
  rename_refs (range r) = refl

  paired_rename : (rs cs : List ℕ) → Paired rs cs → Paired (map ρ rs) cs
  paired_rename rs cs h = record { same = rw length-map h.same; few = rw length-map h.few; cards = h.cards }

  pub rename_proper : (v : Node) → Proper v → Proper (rename ρ v)
  unfolding rename Proper
  rename_proper (leaf f) h = h
  rename_proper enum h = tt
  rename_proper (row r) h = tt
  rename_proper (arrays r) h = tt
  rename_proper (tuple rs) h = rw length-map h
  rename_proper (object rs cs) h = paired_rename rs cs h
  rename_proper (sparse rs cs) h = paired_rename rs cs h
  rename_proper (range r) h = tt

  -- only the new keys of its references matter
  pub rename_same : (σ : ℕ → ℕ) (v : Node) → ((k : ℕ) → k < length (refs_of v) → ρ (get_or (refs_of v) k 0) ≡ σ (get_or (refs_of v) k 0)) → rename ρ v ≡ rename σ v
  unfolding rename refs_of
  rename_same σ (leaf f) e = refl
  rename_same σ enum e = refl
  rename_same σ (row r) e = ap row (e 0 (omega arith))
  rename_same σ (arrays r) e = ap arrays (e 0 (omega arith))
  rename_same σ (tuple rs) e = ap tuple (map_same ρ σ rs e)
  rename_same σ (object rs cs) e = ap (λ (l : List ℕ). object l cs) (map_same ρ σ rs e)
  rename_same σ (sparse rs cs) e = ap (λ (l : List ℕ). sparse l cs) (map_same ρ σ rs e)
  rename_same σ (range r) e = ap range (e 0 (omega arith))

-- the reference of an element stands among the node's
pub ref_in : (v : Node) (i r : ℕ) → ref_at v i ≡ some r → (j : ℕ) × (j < length (refs_of v)) × (r ≡ get_or (refs_of v) j 0)
unfolding ref_at refs_of
ref_in (leaf f) i r e = let z : ◌≡◌ {A = ℕ} 0 1 = cc in absurd (omega arith)
ref_in enum i r e = let z : ◌≡◌ {A = ℕ} 0 1 = cc in absurd (omega arith)
ref_in (row s) i r e = (0, omega arith, cc)
ref_in (arrays s) i r e = (0, omega arith, cc)
ref_in (tuple rs) i r e = let h = elem_in rs i r e in (i, h.0, h.1)
ref_in (object rs cs) i r e = let h = elem_in rs i r e in (i, h.0, h.1)
ref_in (sparse rs cs) i r e = let h = elem_in rs i r e in (i, h.0, h.1)
ref_in (range s) i r e = (0, omega arith, cc)
