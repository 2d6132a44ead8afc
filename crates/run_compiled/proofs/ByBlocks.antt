-- Running the plan that a descriptor compiles to, by the code's own definitions of
-- its blocks: it is well formed, and gives what the rules read off those blocks give.
use mathlib.Core.Path.{◌≡◌, refl, ap, ◌∙◌}
use mathlib.Core.Bool.{true}
use mathlib.Core.List.{List, [], ◌∷◌}
use Prim.Native.Nat.{ℕ}
use native.Mathlib.Omega.{arith}
use lib.Dec.{ltb}
use lib.ListN.{length}
use Rattle.wire.proofs.Picks.{pick_yes, pick_no}
use Rattle.value_laws.proofs.Relabel.{relabel_value}
use Rattle.descriptor_blocks.specs.Descriptor.{node_at, Block, summaries, Description, refused_by, without_type, described, description_of, plan_words, plan_of}
use Rattle.descriptor_blocks.specs.Descriptor as descriptor
use Rattle.descriptor_blocks.proofs.Accepted.{Accepted, Valued, described_is}
use Rattle.run_compiled.specs.OffBlocks.{block_at, value_in, judged, rules_of}
use Rattle.run_compiled.proofs.Blocks.{closed}
use Rattle.run_compiled.proofs.Formed.{look_block, some_type, plan_formed_lem}
use Rattle.protocol.specs.Numbers.{pick}
use Rattle.protocol.specs.Values.{ValueOutcome, value_of}
use Rattle.protocol.specs.Answers.{refused}
use Rattle.protocol.specs.Plans.{without_type as plan·noType, look, plan_formed}
use Rattle.protocol.specs.Running.{list_roomed, value_by, checked, run_of, admitted}

-- ---- a descriptor with a type

module _ (bs : List Block) (root : ℕ) (a : Accepted bs) (v : Valued bs root) where
  -- the plan's nodes are the blocks', under other keys
  pub value_same : (s : List ℕ) → value_of (look (plan_words bs root)) (node_at (summaries bs) root) 0 0 s ≡ value_in bs root s
  unfolding value_in
  value_same s =
      relabel_value (node_at (summaries bs)) (block_at bs) (look (plan_words bs root)) (Valued bs)
      (λ k i r g e. closed bs a k g i r e)
      (λ k g. look_block bs a root k g)
      root v (omega (arith, v.inside, a.few)) 0 0 s

  run_same : (s : List ℕ) → checked (plan_words bs root) s ≡ judged (described bs root) s
  unfolding checked value_by judged plan_words admitted
  run_same s =
      pick_yes _ _ _ (plan_formed_lem bs a root v)
      ∙ ap (λ (o : ValueOutcome). pick (ltb 65535 (length s)) (refused 28 0) o) (pick_no _ _ _ (some_type bs a root v) ∙ value_same s)

-- ---- any descriptor

none_formed : plan_formed (2 ∷ 0 ∷ []) ≡ true
unfolding plan_formed plan·noType pick
none_formed = refl

none_same : (s : List ℕ) → checked (2 ∷ 0 ∷ []) s ≡ judged without_type s
unfolding checked value_by judged plan_formed plan·noType pick admitted
none_same s = refl

module _ (d root ws : List ℕ) (e : plan_of (description_of d root) ≡ descriptor.plan ws) where
  -- the plan of an accepted descriptor is well formed, and has the outcome of the rules
  blocks_both : (plan_formed ws ≡ true) × ((s : List ℕ) → checked ws s ≡ judged (description_of d root) s)
  unfolding plan_of
  blocks_both = go (description_of d root) refl e
    where
      go : (t : Description) → description_of d root ≡ t → plan_of t ≡ descriptor.plan ws → (plan_formed ws ≡ true) × ((s : List ℕ) → checked ws s ≡ judged t s)
      go (refused_by n p) w e = let z : ◌≡◌ {A = ℕ} 0 1 = cc in absurd (omega arith)
      go without_type w e = let q : 2 ∷ 0 ∷ [] ≡ ws = cc in rw (← q) (none_formed, none_same)
      go (described bs i) w e =
          let q : plan_words bs i ≡ ws = cc in
          let h = described_is d root bs i w in
          rw (← q) (plan_formed_lem bs h.0 i h.1, run_same bs i h.0 h.1)

  pub blocks_formed : plan_formed ws ≡ true
  blocks_formed = blocks_both.0

  pub blocks_three : (s : List ℕ) (room : ℕ) → run_of ws s room ≡ rules_of d root s room
  unfolding run_of rules_of
  blocks_three s room = ap (list_roomed room) (blocks_both.1 s)
