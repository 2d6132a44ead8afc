-- How large a compiled plan is: at most 1,050,626 words, each below 2^32, and so is the place of each node.
use mathlib.Core.Path.{◌≡◌, refl, ap, ◌∙◌}
use mathlib.Core.Bool.{Bool, true, false}
use mathlib.Core.List.{List, [], ◌∷◌, ◌++◌, map}
use Prim.Native.Nat.{ℕ, zero, suc, ◌+◌, ◌*◌, ◌^◌, ◌≤◌, ◌<◌}
use native.Mathlib.Decide.{dec_lt}
use native.Mathlib.Omega.{arith}
use lib.Dec.{eqb}
use lib.ListN.{length, get_or, take, get_or-eq_default}
use lib.Seq.{take-length}
use borrow.Author.Tests.{eqb-true}
use Rattle.wire.proofs.Picks.{pick_case, clash}
use Rattle.descriptor_fields.specs.Layouts.{valued}
use Rattle.descriptor_blocks.specs.Descriptor.{node_at, Block, summaries, all_words, plan_words}
use Rattle.descriptor_blocks.proofs.Accepted.{missing, Accepted, Valued}
use Rattle.run_compiled.proofs.Words.{Proper}
use Rattle.descriptor_nodes.proofs.NodeWords.{pairs_length}
use Rattle.run_compiled.proofs.Places.{node_at_lem, place, node_is, words_none, words_are, all_next, place_next}
use Rattle.run_compiled.proofs.Renames.{rename_proper}
use Rattle.run_compiled.proofs.Blocks.{facts, renames_same}
use Rattle.protocol.specs.Nodes.{Node, leaf, enum, row, arrays, tuple, object, sparse, range, rename}
use Rattle.protocol.specs.Messages.{is_cardinality}
use Rattle.protocol.specs.Numbers.{any}
use Rattle.protocol.specs.Compiling.{ref_cards, node_as_words}

-- ---- words

-- all of a run's words are below 2^32
pub record Small (ws : List ℕ) : Type 0 where
  pub each : (j : ℕ) → get_or ws j 0 < 2 ^ 32

small_none : Small []
small_none = record { each = λ j. omega arith }

small_more : {w : ℕ} {ws : List ℕ} → w < 2 ^ 32 → Small ws → Small (w ∷ ws)
small_more {w} {ws} a b = record { each = go }
  where
    go : (j : ℕ) → get_or (w ∷ ws) j 0 < 2 ^ 32
    go zero = a
    go (suc j) = b.each j

small_rest : {w : ℕ} {ws : List ℕ} → Small (w ∷ ws) → Small ws
small_rest s = record { each = λ j. s.each (suc j) }

small_append : (xs : List ℕ) {ys : List ℕ} → Small xs → Small ys → Small (xs ++ ys)
small_append [] a b = b
small_append (x ∷ xs) a b = small_more (a.each 0) (small_append xs (small_rest a) b)

small_map : (ρ : ℕ → ℕ) → ((k : ℕ) → ρ k < 2 ^ 32) → (l : List ℕ) → Small (map ρ l)
small_map ρ h [] = small_none
small_map ρ h (x ∷ l) = small_more (h x) (small_map ρ h l)

small_card : (c : ℕ) → is_cardinality c ≡ true → c < 2 ^ 32
unfolding is_cardinality any
small_card c =
    let P : Bool → Type 0 = λ b. b ≡ true → c < 2 ^ 32 in
    let is : (n : ℕ) → n < 2 ^ 32 → eqb c n ≡ true → c < 2 ^ 32 = λ n l e. rw (eqb-true c n e) l in
    pick_case P (eqb c 0x6e) _ _ (λ e _. is 0x6e (omega arith) e)
    (λ _. pick_case P (eqb c 0x6f) _ _ (λ e _. is 0x6f (omega arith) e)
    (λ _. pick_case P (eqb c 0x41) _ _ (λ e _. is 0x41 (omega arith) e)
    (λ _. pick_case P (eqb c 0x6d) _ _ (λ e _. is 0x6d (omega arith) e)
    (λ _. pick_case P (eqb c 0x4d) _ _ (λ e _. is 0x4d (omega arith) e) (λ _ e. clash e)))))

small_pairs : (rs cs : List ℕ) → Small rs → ((j : ℕ) → j < length cs → is_cardinality (get_or cs j 0) ≡ true) → Small (ref_cards rs cs)
unfolding ref_cards
small_pairs [] cs a b = small_none
small_pairs (r ∷ rs) [] a b = small_none
small_pairs (r ∷ rs) (c ∷ cs) a b =
    small_more (a.each 0) (small_more (small_card c (b 0 (omega arith))) (small_pairs rs cs (small_rest a) (λ j l. b (suc j) (omega arith))))

-- ---- nodes

node_most : (v : Node) → Proper v → length (node_as_words v) ≤ 1026
unfolding node_as_words Proper
node_most (leaf f) h = omega arith
node_most enum h = omega arith
node_most (row r) h = omega arith
node_most (arrays r) h = omega arith
node_most (tuple rs) h = omega arith
node_most (object rs cs) h = omega (arith, pairs_length rs cs h.same, h.few)
node_most (sparse rs cs) h = omega (arith, pairs_length rs cs h.same, h.few)
node_most (range r) h = omega arith

node_small : (ρ : ℕ → ℕ) → ((k : ℕ) → ρ k < 2 ^ 32) → (v : Node) → Proper (rename ρ v) → Small (node_as_words (rename ρ v))
unfolding node_as_words Proper rename
node_small ρ s (leaf f) h = small_more (omega arith) (small_more (omega arith) small_none)
node_small ρ s enum h = small_more (omega arith) small_none
node_small ρ s (row r) h = small_more (omega arith) (small_more (s r) small_none)
node_small ρ s (arrays r) h = small_more (omega arith) (small_more (s r) small_none)
node_small ρ s (tuple rs) h = small_more (omega arith) (small_more (omega arith) (small_map ρ s rs))
node_small ρ s (object rs cs) h = small_more (omega arith) (small_more (omega (arith, h.few)) (small_pairs (map ρ rs) cs (small_map ρ s rs) h.cards))
node_small ρ s (sparse rs cs) h = small_more (omega arith) (small_more (omega (arith, h.few)) (small_pairs (map ρ rs) cs (small_map ρ s rs) h.cards))
node_small ρ s (range r) h = small_more (omega arith) (small_more (s r) small_none)

-- ---- plans

module _ (bs : List Block) (a : Accepted bs) where
  -- the words of a block with values, in the plan
  block_words : (i : ℕ) (v : Valued bs i) → (get_or bs i missing).words ≡ node_as_words (rename (node_at (summaries bs)) (get_or bs i missing).shape)
  block_words i v = words_are bs a i v.inside v.values ∙ ap node_as_words (renames_same bs a i v)

  block_proper : (i : ℕ) (v : Valued bs i) → Proper (rename (node_at (summaries bs)) (get_or bs i missing).shape)
  block_proper i v = rename_proper (node_at (summaries bs)) (get_or bs i missing).shape (facts bs a i v).proper

  -- what holds of no words and of a block's node holds of a block's words
  block_case : (P : List ℕ → Type 0) (i : ℕ) → i < length bs → P [] → ((v : Valued bs i) → P (node_as_words (rename (node_at (summaries bs)) (get_or bs i missing).shape))) → P (get_or bs i missing).words
  block_case P i l n f = go (valued (get_or bs i missing).tag) refl
    where
      go : (t : Bool) → valued (get_or bs i missing).tag ≡ t → P (get_or bs i missing).words
      go true t = let v : Valued bs i = record { inside = l; values = t } in rw (block_words i v) (f v)
      go false t = rw (words_none bs a i l t) n

  pub place_most : (i : ℕ) → i ≤ length bs → place bs i ≤ 2 + 1026 * i
  unfolding place all_words
  place_most zero l = omega arith
  place_most (suc i) l =
      let m : i < length bs = omega arith in
      let w : length (get_or bs i missing).words ≤ 1026 = block_case (λ ws. length ws ≤ 1026) i m (omega arith) (λ v. node_most _ (block_proper i v)) in
      omega (arith, place_next bs a i m, place_most i (omega arith))

  pub node_word : (r : ℕ) → node_at (summaries bs) r < 2 ^ 32
  node_word r =
      rw (node_at_lem bs r)
      (elim (dec_lt r (length bs)) [
        | yes l ↦ omega (arith, node_is bs a r l, place_most r (omega arith), a.few)
        | no l ↦ let e : length bs ≤ r = omega arith in rw (get_or-eq_default bs missing e) (omega arith)
      ])

  all_small : (i : ℕ) → i ≤ length bs → Small (all_words (take i bs))
  unfolding all_words
  all_small zero l = small_none
  all_small (suc i) l =
      let m : i < length bs = omega arith in
      rw (all_next bs a i m)
      (small_append (all_words (take i bs)) (all_small i (omega arith))
      (block_case Small i m small_none (λ v. node_small (node_at (summaries bs)) node_word (get_or bs i missing).shape (block_proper i v))))

  module _ (root : ℕ) where
    pub plan_length : length (plan_words bs root) ≤ 1050626
    unfolding plan_words place
    plan_length = let e = ap (λ (l : List Block). length (all_words l)) (take-length bs) in omega (arith, place_most (length bs) (omega arith), a.few)

    pub plan_words_lem : Small (plan_words bs root)
    unfolding plan_words
    plan_words_lem =
        let t : 2 + length (all_words bs) < 2 ^ 32 = omega (arith, plan_length) in
        small_more t (small_more (node_word root) (rw (take-length bs) at (all_small (length bs) (omega arith))))
