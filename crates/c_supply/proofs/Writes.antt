-- The laws of writing a value on bytes.
use mathlib.Core.Path.{◌≡◌, refl, sym, ◌∙◌}
use mathlib.Core.Bool.{Bool, true, false}
use mathlib.Core.List.{List, ◌++◌}
use Prim.Native.Nat.{ℕ, ◌+◌, ◌*◌, ◌-◌, ◌/◌, ◌≤◌}
use native.Mathlib.Omega.{arith}
use lib.ListN.{length, take, drop}
use lib.Seq.{sets}
use Rattle.supply_write.specs.Answers.{answer_of, Puts}
use Rattle.std.specs.Prelude.{Ok, Err}
use Rattle.c_supply.specs.Supplies.{BothCross}
use Rattle.forms.specs.declared.Answer.{Answer}
use Rattle.c_words.proofs.Words.{first_taken, second_taken}
use Rattle.protocol.specs.Numbers.{pick}
use Rattle.protocol.specs.Plans.{plan_formed}
use Rattle.protocol.specs.Answers.{Put, refused_put, put_out, output_after}
use Rattle.protocol.specs.Building.{write_of}
use Rattle.protocol.specs.Crossing.{words_in, crosses, refusal, success, put_answer, uncrossed_supply, write_from, SettlesPut, WritesValue}

-- ---- the writer's answer

module _ (o : Put) (n : ℕ) (out out' : List ℕ) where
  pub settles_refused : Puts o (Err n) out out' → SettlesPut o (refusal n 0) out out'
  unfolding answer_of put_answer
  settles_refused p = record { answer = go o p.answer; output = p.output }
    where
      go : (x : Put) → Err n ≡ answer_of x → refusal n 0 ≡ put_answer x
      go (refused_put m) g = let h : n ≡ m = cc in rw h
      go (put_out b) g = let z : ◌≡◌ {A = ℕ} 0 1 = cc in absurd (omega arith)

  pub settles_written : Puts o (Ok n) out out' → SettlesPut o (success n 0) out out'
  unfolding answer_of put_answer
  settles_written p = record { answer = go o p.answer; output = p.output }
    where
      go : (x : Put) → Ok n ≡ answer_of x → success n 0 ≡ put_answer x
      go (refused_put m) g = let z : ◌≡◌ {A = ℕ} 0 1 = cc in absurd (omega arith)
      go (put_out b) g = let h : n ≡ length b = cc in rw h

-- ---- the crossing of plan and list

module _ (plan list src : List ℕ) (r : Answer) (out out' : List ℕ) (c : BothCross plan list) where
  both_crossed : SettlesPut (write_of (words_in plan) (words_in list) src (length out)) r out out' → WritesValue plan list src r out out'
  unfolding write_from pick
  both_crossed x = rw (c.plan_crosses, c.list_crosses) x

  pub writes_crossed : (words : List ℕ) → length plan + length list ≤ 4 * length words
      → (words' : List ℕ) → words' ≡ sets words 0 (words_in plan ++ words_in list)
      → SettlesPut (write_of (take (length plan / 4) words') (take (length plan / 4 + length list / 4 - length plan / 4) (drop (length plan / 4) words')) src (length out)) r out out'
      → WritesValue plan list src r out out'
  writes_crossed words h words' e x =
      both_crossed (rw (first_taken plan list words h words' e, second_taken plan list words h words' e (length plan / 4 + length list / 4 - length plan / 4) (omega arith)) at x)

module _ (plan list src out : List ℕ) where
  pub plan_uncrossed : crosses (length plan) ≡ false → WritesValue plan list src (refusal 33 0) out out
  unfolding write_from put_answer output_after pick
  plan_uncrossed e = record { answer = rw e; output = rw e }

  pub list_uncrossed : crosses (length plan) ≡ true → crosses (length list) ≡ false → (r : Answer) → r ≡ put_answer (uncrossed_supply (words_in plan)) → WritesValue plan list src r out out
  unfolding write_from uncrossed_supply output_after pick
  list_uncrossed e f r x = record { answer = rw (e, f) x; output = rw (e, f) (unchanged (plan_formed (words_in plan))) }
    where
      unchanged : (t : Bool) → out ≡ output_after (pick t (refused_put 34) (refused_put 33)) out
      unchanged true = refl
      unchanged false = refl

-- a list that does not cross: whether the plan is well formed
module _ (ws plan : List ℕ) (w : ws ≡ words_in plan) (b : Bool) (e : b ≡ plan_formed ws) where
  pub uncrossed_formed : b ≡ true → refusal 34 0 ≡ put_answer (uncrossed_supply (words_in plan))
  unfolding uncrossed_supply put_answer pick
  uncrossed_formed t = rw (← w, ← e, t)

  pub uncrossed_unformed : b ≡ false → refusal 33 0 ≡ put_answer (uncrossed_supply (words_in plan))
  unfolding uncrossed_supply put_answer pick
  uncrossed_unformed t = rw (← w, ← e, t)
