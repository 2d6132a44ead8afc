-- The index of the first earlier block with an id, as the code looks for it, block by block.
use mathlib.Core.Path.{◌≡◌, refl, ap, sym, ◌∙◌}
use mathlib.Core.Bool.{Bool, true, false}
use mathlib.Core.List.{List, [], ◌∷◌}
use Prim.Native.Nat.{ℕ, zero, suc, ◌+◌, ◌≤◌, ◌<◌}
use native.Mathlib.Nat.{le_of_suc-le-suc}
use native.Mathlib.Omega.{arith}
use lib.Dec.{eqb}
use lib.ListN.{length, get_or}
use Rattle.std.specs.Prelude.{Option, Some, None, is_some}
use Rattle.std.specs.Option.{option_map}
use Rattle.std.proofs.lemmas.Option.{none-some}
use Rattle.wire.proofs.Picks.{pick_yes, pick_no}
use Rattle.descriptor_fields.specs.Fields.{Known, no_block, id_at, taken, index_in}
use Rattle.descriptor_fields.specs.Arrays.{known_at, known_of}
use Rattle.descriptor_fields.proofs.Known.{known_length, known_get}
use Rattle.protocol.specs.Numbers.{pick, any}

module _ (d : List ℕ) (v : ℕ) where
  abbrev pub has_id : Known → Bool
  has_id k = eqb (id_at d (k.start + 1)) v

  -- the first of the blocks with the id
  index_first : (ks : List Known) (i : ℕ) → i < length ks → ((j : ℕ) → j < i → has_id (get_or ks j no_block) ≡ false)
      → has_id (get_or ks i no_block) ≡ true → index_in d ks v ≡ Some i
  unfolding index_in
  index_first [] i h f t = absurd (omega arith)
  index_first (k ∷ ks) zero h f t = pick_yes _ _ _ t
  index_first (k ∷ ks) (suc i) h f t =
      pick_no _ _ _ (f 0 (omega arith)) ∙ ap (option_map suc) (index_first ks i (le_of_suc-le-suc h) (λ j l. f (suc j) (omega arith)) t)

  -- none of them
  index_none : (ks : List Known) → ((j : ℕ) → j < length ks → has_id (get_or ks j no_block) ≡ false) → index_in d ks v ≡ None
  unfolding index_in
  index_none [] f = refl
  index_none (k ∷ ks) f = pick_no _ _ _ (f 0 (omega arith)) ∙ ap (option_map suc) (index_none ks (λ j l. f (suc j) (omega arith)))

  -- as the code looks for it, block by block
  module _ (a : List ℕ) (n i : ℕ) (f : (j : ℕ) → j < i → has_id (known_at d a j) ≡ false) where
    kept_id : (j : ℕ) → j < n → has_id (get_or (known_of d a n) j no_block) ≡ has_id (known_at d a j)
    kept_id j l = ap has_id (known_get d a n j l)

    pub found_at : i < n → has_id (known_at d a i) ≡ true → Some i ≡ index_in d (known_of d a n) v
    found_at l t =
        sym (index_first (known_of d a n) i (rw (known_length d a n) l) (λ j m. kept_id j (omega arith) ∙ f j m) (kept_id i l ∙ t))

    pub found_none : n ≤ i → None ≡ index_in d (known_of d a n) v
    found_none l = sym (index_none (known_of d a n) (λ j m. let h : j < n = rw (known_length d a n) at m in kept_id j h ∙ f j (omega arith)))

  -- an id is taken where its index is found
  pub taken_index : (ks : List Known) → taken d ks v ≡ is_some (index_in d ks v)
  unfolding taken any index_in pick
  taken_index [] = refl
  taken_index (k ∷ ks) = go (has_id k) (index_in d ks v) (taken_index ks)
    where
      go : (t : Bool) (o : Option ℕ) → taken d ks v ≡ is_some o → pick t true (taken d ks v) ≡ is_some (pick t (Some 0) (option_map suc o))
      go true o e = refl
      go false None e = e
      go false (Some i) e = e

  -- and below how many there are
  pub index_below : (ks : List Known) (i : ℕ) → index_in d ks v ≡ Some i → i < length ks
  unfolding index_in pick
  index_below [] i e = absurd (none-some i e)
  index_below (k ∷ ks) i e = go (has_id k) (index_in d ks v) (λ j q. index_below ks j q) e
    where
      go : (t : Bool) (o : Option ℕ) → ((j : ℕ) → o ≡ Some j → j < length ks) → pick t (Some 0) (option_map suc o) ≡ Some i → i < suc (length ks)
      go true o f e = let z : 0 ≡ i = cc in omega arith
      go false None f e = absurd (none-some i e)
      go false (Some j) f e = let z : suc j ≡ i = cc in let l = f j refl in omega arith
