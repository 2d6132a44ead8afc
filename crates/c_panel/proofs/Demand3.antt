-- R4.14 as the C host meets it: the bytes that compiling wrote are a plan
-- that runs, with no descriptor, as the rules read off the descriptor do.
use mathlib.Core.Path.{◌≡◌, ap, ◌∙◌}
use mathlib.Core.List.{List}
use Prim.Native.Nat.{ℕ, ◌*◌, ◌≤◌}
use native.Mathlib.Omega.{arith}
use lib.ListN.{length, take, drop}
use lib.Seq.{take_at}
use Rattle.wire.proofs.Picks.{pick_yes}
use Rattle.protocol.specs.Descriptors.{bare_form}
use Rattle.protocol.specs.OffDescriptor.{rules_by}
use Rattle.run_plan.specs.Run.{answer_of}
use Rattle.run_compiled.specs.Follows.{Few}
use Rattle.run_compiled.proofs.Demand3.{demand_three, compiled_is, compiled_small}
use Rattle.run_compiled.proofs.Follows.{rules_few}
use Rattle.descriptor_compile.proofs.Compiles.{planned_room}
use Rattle.forms.specs.declared.Answer.{Answer}
use Rattle.c_words.proofs.Words.{length_out, words_back, room_most, crosses_words}
use Rattle.protocol.specs.Answers.{Outcome, accepted}
use Rattle.protocol.specs.Compiling.{compile_by}
use Rattle.protocol.specs.Running.{run_of}
use Rattle.protocol.specs.Crossing.{bytes_out, crosses, word_room, run_from, compile_room, CompilesPlan}

module _ (d root p p' : List ℕ) (r : Answer) (c : CompilesPlan d root r p p') (ws : List ℕ) (e : compile_by bare_form d root (word_room (length p)) ≡ accepted ws) where
  written : take (4 * length ws) p' ≡ bytes_out ws
  unfolding compile_room
  written =
      ap (take (4 * length ws)) (c.plan ∙ ap (λ (o : Outcome (List ℕ)). compile_room o p) e)
      ∙ take_at (bytes_out ws) (drop (4 * length ws) p) (4 * length ws) (length_out ws)

  few : length ws ≤ 8192
  few = omega (arith, planned_room d root (word_room (length p)) ws e, (room_most (length p)).0)

  -- the plan's bytes run as the rules read off the descriptor do
  pub demand_three_bytes : (s : List ℕ) (room : ℕ) → run_from (take (4 * length ws) p') s room ≡ rules_by bare_form d root s room
  unfolding run_from
  demand_three_bytes s room =
      let q = compiled_is d root (word_room (length p)) ws e in
      let n : length (bytes_out ws) ≡ 4 * length ws = length_out ws in
      ap (λ (b : List ℕ). run_from b s room) written
      ∙ pick_yes _ _ _ (ap crosses n ∙ crosses_words (length ws) few)
      ∙ ap (λ (v : List ℕ). run_of v s room) (words_back ws (rw q.is (compiled_small d root q.type q.accepts)) ∙ q.is)
      ∙ demand_three d root q.type q.accepts s room

  -- and list few entries
  pub demand_three_few : (s : List ℕ) (room : ℕ) → Few (length s) (answer_of (run_from (take (4 * length ws) p') s room))
  demand_three_few s room = rw (demand_three_bytes s room) (rules_few d root s room)
