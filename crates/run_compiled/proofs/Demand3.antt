-- R4.14: running the plan that a descriptor compiles to gives what the rules read off the descriptor give, for every value and room;
-- that plan is well formed; and a descriptor that is refused is refused by both alike.
use mathlib.Core.Path.{◌≡◌, refl, sym, ◌∙◌}
use mathlib.Core.Logic.{⊎_elim}
use mathlib.Core.Bool.{true, false}
use mathlib.Core.List.{List, [], ◌∷◌}
use Prim.Native.Nat.{ℕ, zero, suc, ◌^◌, ◌<◌}
use native.Mathlib.Omega.{arith}
use lib.Dec.{ltb}
use lib.ListN.{length, get_or}
use Rattle.wire.proofs.Picks.{pick_split}
use Rattle.protocol.specs.Descriptors.{bare_form, DescribedType, describe}
use Rattle.protocol.specs.OffDescriptor.{judged_off, rules_by}
use Rattle.descriptor_blocks.specs.Descriptor.{Description, refused_by, without_type, described, description_of, plan_words, plan, plan_of}
use Rattle.descriptor_blocks.proofs.Accepted.{described_is}
use Rattle.descriptor_agree.proofs.Whole.{plan_is}
use Rattle.run_compiled.proofs.PlanSize.{plan_words_lem}
use Rattle.run_compiled.proofs.ByBlocks.{blocks_formed, blocks_three}
use Rattle.run_compiled.proofs.RulesSame.{rules_same}
use Rattle.protocol.specs.Answers.{refused as refusedList, Outcome, refused, accepted}
use Rattle.protocol.specs.Compiling.{whole_plan, plan_roomed, compile_by}
use Rattle.protocol.specs.Running.{list_roomed, run_of}
use Rattle.protocol.specs.Plans.{plan_formed}

-- the words of a plan are words
words_small : (d root ws : List ℕ) → plan_of (description_of d root) ≡ plan ws → (j : ℕ) → get_or ws j 0 < 2 ^ 32
unfolding plan_of
words_small d root ws e = go (description_of d root) refl e
  where
    none : (j : ℕ) → get_or (2 ∷ 0 ∷ []) j 0 < 2 ^ 32
    none zero = omega arith
    none (suc zero) = omega arith
    none (suc (suc j)) = omega arith

    go : (t : Description) → description_of d root ≡ t → plan_of t ≡ plan ws → (j : ℕ) → get_or ws j 0 < 2 ^ 32
    go (refused_by n p) w e = let z : ◌≡◌ {A = ℕ} 0 1 = cc in absurd (omega arith)
    go without_type w e = let q : 2 ∷ 0 ∷ [] ≡ ws = cc in rw (← q) none
    go (described bs i) w e =
        let q : plan_words bs i ≡ ws = cc in
        let h = described_is d root bs i w in
        rw (← q) (plan_words_lem bs h.0 i).each

-- ---- an accepted descriptor

module _ (d root : List ℕ) (t : DescribedType) (e : describe bare_form d root ≡ accepted t) where
  -- its plan is well formed, and is made of words
  pub compiled_formed : plan_formed (whole_plan t) ≡ true
  compiled_formed = blocks_formed d root (whole_plan t) (plan_is d root t e)

  pub compiled_small : (j : ℕ) → get_or (whole_plan t) j 0 < 2 ^ 32
  compiled_small = words_small d root (whole_plan t) (plan_is d root t e)

  -- a run by its plan gives what the rules read off the descriptor give
  pub demand_three : (s : List ℕ) (room : ℕ) → run_of (whole_plan t) s room ≡ rules_by bare_form d root s room
  demand_three s room = blocks_three d root (whole_plan t) (plan_is d root t e) s room ∙ sym (rules_same d root s room)

-- ---- what compiling gives

-- a plan that fits its room is the whole plan of what the descriptor describes
pub record Whole (d root ws : List ℕ) : Type 0 where
  pub type : DescribedType
  pub accepts : describe bare_form d root ≡ accepted type
  pub is : ws ≡ whole_plan type

pub compiled_is : (d root : List ℕ) (room : ℕ) (ws : List ℕ) → compile_by bare_form d root room ≡ accepted ws → Whole d root ws
unfolding compile_by plan_roomed
compiled_is d root room ws = go (describe bare_form d root) refl
  where
    go : (o : Outcome DescribedType) → describe bare_form d root ≡ o → plan_roomed room o ≡ accepted ws → Whole d root ws
    go (refused n p) i e = let z : ◌≡◌ {A = ℕ} 0 1 = cc in absurd (omega arith)
    go (accepted t) i e =
        ⊎_elim
        (λ (q : (ltb room (length (whole_plan t)) ≡ true) × (refused 30 0 ≡ accepted ws)). let f = q.1 in let z : ◌≡◌ {A = ℕ} 0 1 = cc in absurd (omega arith))
        (λ (q : (ltb room (length (whole_plan t)) ≡ false) × (accepted (whole_plan t) ≡ accepted ws)). let f = q.1 in record { type = t; accepts = i; is = cc })
        (pick_split (ltb room (length (whole_plan t))) (refused 30 0) (accepted (whole_plan t)) (accepted ws) e)

-- a descriptor that is not accepted has its own number and place by the rules too
pub refused_same : (d root : List ℕ) (n p : ℕ) → describe bare_form d root ≡ refused n p → (s : List ℕ) (room : ℕ) → rules_by bare_form d root s room ≡ refusedList n p
unfolding rules_by judged_off list_roomed
refused_same d root n p e s room = rw e
