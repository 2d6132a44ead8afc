-- 34 exactly, as the C host meets it: a list that does not cross is 34 too, in its turn.
use mathlib.Core.Path.{◌≡◌, refl}
use mathlib.Core.Bool.{Bool, true, false}
use mathlib.Core.List.{List, [], ◌∷◌}
use mathlib.Core.Logic.{◌⊎◌, inl, inr, ⊎_elim, ◌↔◌}
use Prim.Native.Nat.{ℕ, zero, suc}
use native.Mathlib.Omega.{arith}
use lib.Dec.{lit<}
use lib.ListN.{length}
use Rattle.wire.proofs.Numbers.{be_below}
use Rattle.wire.proofs.Picks.{pick_split}
use Rattle.supply_laws.proofs.Fields.{Bytes}
use Rattle.supply_laws.proofs.SoundReads.{Words}
use Rattle.supply_laws.proofs.Exact.{NoneHas, exact_34}
use Rattle.protocol.specs.Numbers.{pick}
use Rattle.protocol.specs.Plans.{plan_formed}
use Rattle.protocol.specs.Answers.{refused_put}
use Rattle.protocol.specs.Building.{write_of}
use Rattle.protocol.specs.Crossing.{words_in, crosses, uncrossed_supply, write_from}

-- the words of bytes are words
words_in_lem : (s : List ℕ) → Bytes s → Words (words_in s)
unfolding words_in
words_in_lem [] h j = lit< tt
words_in_lem (a ∷ []) h j = lit< tt
words_in_lem (a ∷ b ∷ []) h j = lit< tt
words_in_lem (a ∷ b ∷ c ∷ []) h j = lit< tt
words_in_lem (a ∷ b ∷ c ∷ d ∷ s) h zero = be_below (a ∷ b ∷ c ∷ d ∷ s) 0 4 h (omega arith)
words_in_lem (a ∷ b ∷ c ∷ d ∷ s) h (suc j) = words_in_lem s (λ i. h (suc (suc (suc (suc i))))) j

not_34 : {A : Type 0} → refused_put 33 ≡ refused_put 34 → A
not_34 e = let z : ◌≡◌ {A = ℕ} 33 34 = cc in absurd (omega arith)

-- the plan's words are one, and the list does not cross or no accepted value has the supply
abbrev pub Unsupplied : (plan list src : List ℕ) → Type 0
Unsupplied plan list src = (plan_formed (words_in plan) ≡ true) × ((crosses (length list) ≡ false) ⊎ NoneHas (words_in plan) (words_in list) src)

module _ (plan list src : List ℕ) (room : ℕ) (words : Bytes list) (bytes : Bytes src) where
  of_words : (write_of (words_in plan) (words_in list) src room ≡ refused_put 34)
      ↔ ((plan_formed (words_in plan) ≡ true) × NoneHas (words_in plan) (words_in list) src)
  of_words = exact_34 (words_in plan) (words_in list) src room (words_in_lem list words) bytes

  unsupplied : pick (crosses (length list)) (write_of (words_in plan) (words_in list) src room) (uncrossed_supply (words_in plan)) ≡ refused_put 34 → Unsupplied plan list src
  unfolding uncrossed_supply
  unsupplied e =
      ⊎_elim
      (λ (q : (crosses (length list) ≡ true) × (write_of (words_in plan) (words_in list) src room ≡ refused_put 34)). let x = of_words.0 q.1 in (x.0, inr x.1))
      (λ q. (⊎_elim (λ f. f.0) (λ f. not_34 f.1) (pick_split _ _ _ _ q.1), inl q.0))
      (pick_split _ _ _ _ e)

  refuses : (t : Bool) → crosses (length list) ≡ t → Unsupplied plan list src
      → pick t (write_of (words_in plan) (words_in list) src room) (uncrossed_supply (words_in plan)) ≡ refused_put 34
  unfolding uncrossed_supply pick
  refuses false c x = rw x.0
  refuses true c x = of_words.1 (x.0, ⊎_elim (λ f. let z : ◌≡◌ {A = ℕ} 0 1 = cc in absurd (omega arith)) (λ none. none) x.1)

  -- From C 34 is given exactly when the plan crosses and is well formed, and the list does not cross or no accepted value has the supply.
  pub exact_34_from_c : (write_from plan list src room ≡ refused_put 34) ↔ ((crosses (length plan) ≡ true) × Unsupplied plan list src)
  unfolding write_from pick
  exact_34_from_c = (
    λ e. ⊎_elim (λ q. (q.0, unsupplied q.1)) (λ q. not_34 q.1) (pick_split _ _ _ _ e),
    λ x. rw x.0 (refuses (crosses (length list)) refl x.1),
  )
