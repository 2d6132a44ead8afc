-- The laws of compiling on bytes.
use mathlib.Core.Path.{◌≡◌, refl}
use mathlib.Core.Bool.{Bool, true, false}
use mathlib.Core.List.{List}
use Prim.Native.Nat.{ℕ, ◌≤◌}
use native.Mathlib.Omega.{arith}
use lib.Dec.{ltb}
use lib.ListN.{length, take}
use Rattle.protocol.specs.Descriptors.{bare_form}
use Rattle.descriptor_blocks.specs.Descriptor.{description_of, plan_of, roomed, compile_of}
use Rattle.descriptor_agree.proofs.Whole.{refused_by_lem, planned_by}
use Rattle.descriptor_compile.specs.Checking.{Checks}
use Rattle.std.specs.Prelude.{Ok, Err}
use Rattle.forms.specs.declared.fault.Refusal.{Refusal}
use Rattle.descriptor_compile.proofs.Compiles.{Found, found, turned_down}
use Rattle.c_words.specs.Answers.{WordsOut}
use Rattle.forms.specs.declared.Answer.{Answer}
use Rattle.c_words.proofs.Words.{room_most, out_settled}
use Rattle.protocol.specs.Numbers.{pick}
use Rattle.protocol.specs.Answers.{Outcome, refused, accepted}
use Rattle.protocol.specs.Compiling.{compile_by}
use Rattle.protocol.specs.Crossing.{word_room, refusal, compile_answer, compile_room, SettlesPlan}

module _ (d root k k' l : List ℕ) where
  pub plans_refused : (e : Refusal) → Checks (plan_of (description_of d root)) (Err e) k k' → SettlesPlan (compile_by bare_form d root (word_room (length l))) (refusal e.fault e.place) l l
  unfolding compile_of roomed compile_answer compile_room
  plans_refused e c =
      let o = turned_down _ k k' e c in
      rw (refused_by_lem d root (word_room (length l)) e.fault e.place (rw o)) (record { answer = refl; plan = refl })

  module _ (w : ℕ) (c : Checks (plan_of (description_of d root)) (Ok w) k k') where
    f : Found (plan_of (description_of d root)) w k k'
    f = found _ k k' w c

    -- a plan for which there is room is whole in the scratch room
    pub scratch_holds : 8192 ≤ length k → w ≤ word_room (length l) → w ≤ length k
    scratch_holds r h = omega (arith, (room_most (length l)).0)

    -- the outcome, by the plan's words and the room
    compiled : compile_by bare_form d root (word_room (length l)) ≡ pick (ltb (word_room (length l)) (length f.words)) (refused 30 0) (accepted f.words)
    unfolding compile_of roomed pick
    compiled = go (ltb (word_room (length l)) (length f.words)) refl
      where
        go : (t : Bool) → ltb (word_room (length l)) (length f.words) ≡ t → compile_by bare_form d root (word_room (length l)) ≡ pick t (refused 30 0) (accepted f.words)
        go true h = refused_by_lem d root (word_room (length l)) 30 0 (rw (f.is, h))
        go false h = planned_by d root (word_room (length l)) f.words (rw (f.is, h))

    pub plans_settled : 8192 ≤ length k → (r : Answer) (l' : List ℕ) → WordsOut 30 w (take w k') r l l' → SettlesPlan (compile_by bare_form d root (word_room (length l))) r l l'
    unfolding compile_answer compile_room
    plans_settled b r l' g =
        let x =
        out_settled compile_answer (λ (o : Outcome (List ℕ)). compile_room o l) (refused 30 0) (accepted f.words) 30 w k k' f.words l r l'
        refl refl refl refl f.stored f.count (scratch_holds b) g
        in
        rw compiled (record { answer = x.0; plan = x.1 })
