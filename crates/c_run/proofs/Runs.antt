-- The laws of running a plan on bytes.
use mathlib.Core.Path.{◌≡◌, refl}
use mathlib.Core.Bool.{true, false}
use mathlib.Core.List.{List}
use Prim.Native.Nat.{ℕ, ◌≤◌}
use native.Mathlib.Omega.{arith}
use lib.ListN.{length, take}
use Rattle.run_plan.specs.Run.{Checks}
use Rattle.std.specs.Prelude.{Ok, Err}
use Rattle.forms.specs.declared.fault.Refusal.{Refusal}
use Rattle.run_plan.proofs.Runs.{Found, found, turned_down}
use Rattle.c_words.specs.Answers.{WordsOut}
use Rattle.c_run.specs.Runs.{Roomy}
use Rattle.forms.specs.declared.Answer.{Answer}
use Rattle.c_words.proofs.Words.{room_most, out_settled}
use Rattle.protocol.specs.Numbers.{pick}
use Rattle.protocol.specs.Lists.{words}
use Rattle.protocol.specs.Answers.{refused, accepted}
use Rattle.protocol.specs.Running.{list_roomed, checked, run_of}
use Rattle.protocol.specs.Crossing.{words_in, crosses, word_room, refusal, run_answer, run_list, run_from, SettlesRun}

module _ (p s k k' l : List ℕ) where
  pub settles_refused : (e : Refusal) → Checks (length s) (checked p s) (Err e) k k' → SettlesRun (run_of p s (word_room (length l))) (refusal e.fault e.place) l l
  unfolding run_of list_roomed run_answer run_list
  settles_refused e c = let o = turned_down _ _ (Err e) k k' c e refl in record { answer = rw o; list = rw o }

  module _ (w : ℕ) (c : Checks (length s) (checked p s) (Ok w) k k') where
    f : Found (length s) (checked p s) w k k'
    f = found _ _ (Ok w) k k' c w refl

    -- a list for which there is room is whole in the scratch room
    pub scratch_holds : Roomy (length s) (length k) → w ≤ word_room (length l) → w ≤ length k
    scratch_holds r h = r w f.few (omega (arith, (room_most (length l)).0))

    pub settles_listed : Roomy (length s) (length k) → (r : Answer) (l' : List ℕ) → WordsOut 31 w (take w k') r l l' → SettlesRun (run_of p s (word_room (length l))) r l l'
    unfolding run_of list_roomed run_answer run_list
    settles_listed b r l' g =
        let x = out_settled run_answer (λ o. run_list o l) (refused 31 0) (accepted f.forest) 31 w k k' (words f.forest) l r l' refl refl refl refl f.stored f.count (scratch_holds b) g in
        record { answer = rw f.is x.0; list = rw f.is x.1 }

-- ---- the plan's crossing

module _ (plan value : List ℕ) (r : Answer) (l l' : List ℕ) where
  pub crossed_plan : crosses (length plan) ≡ true → (ws : List ℕ) → ws ≡ words_in plan
      → SettlesRun (run_of ws value (word_room (length l))) r l l' → SettlesRun (run_from plan value (word_room (length l))) r l l'
  unfolding run_from pick
  crossed_plan e ws w x = rw (e, ← w) x

pub uncrossed_plan : (plan value l : List ℕ) → crosses (length plan) ≡ false → SettlesRun (run_from plan value (word_room (length l))) (refusal 33 0) l l
unfolding run_from run_answer run_list pick
uncrossed_plan plan value l e = record { answer = rw e; list = rw e }
