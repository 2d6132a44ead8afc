-- R4.14 as the contract of the function that compiles and then runs.
use mathlib.Core.Path.{◌≡◌, refl, ap, ap₂, sym, ◌∙◌}
use mathlib.Core.List.{List}
use Prim.Native.Nat.{ℕ, ◌+◌, ◌≤◌}
use native.Mathlib.Omega.{arith}
use lib.ListN.{length, take, drop}
use lib.Seq.{take_at}
use Rattle.value_laws.proofs.Forests.{words_length}
use Rattle.value_laws.proofs.Bound.{Fits}
use Rattle.protocol.specs.Descriptors.{bare_form}
use Rattle.protocol.specs.OffDescriptor.{rules_by, compiled_then}
use Rattle.run_plan.specs.Run as run
use Rattle.std.specs.Prelude.{Result, Ok, Err}
use Rattle.forms.specs.declared.fault.Refusal.{Refusal}
use Rattle.descriptor_compile.specs.Compile.{answer_of, Gives}
use Rattle.descriptor_compile.proofs.Compiles.{refused_of, planned_room}
use Rattle.run_compiled.specs.Follows.{Few, Follows}
use Rattle.run_compiled.proofs.Demand3.{demand_three, compiled_is}
use Rattle.run_compiled.proofs.EntryBound.{rules_fit}
use Rattle.value_laws.specs.Counts.{entry_count}
use Rattle.protocol.specs.Values.{ValueOutcome as ListOutcome}
use Rattle.protocol.specs.Answers.{refused as refusedList, accepted, Outcome, refused}
use Rattle.protocol.specs.Compiling.{compile_by, plan_after}
use Rattle.protocol.specs.Running.{list_after, run_of}

-- an outcome of few entries answers with few
few_of : (n : ℕ) (o : ListOutcome) → Fits (n + 4) o → Few n (run.answer_of o)
unfolding Few run.answer_of
few_of n (refusedList m q) h = tt
few_of n (accepted f) h = record { entries = entry_count f; words = words_length f; most = omega arith }

-- the rules read off a descriptor list few entries
pub rules_few : (d root s : List ℕ) (room : ℕ) → Few (length s) (run.answer_of (rules_by bare_form d root s room))
rules_few d root s room = few_of (length s) _ (rules_fit d root s room)

-- a plan that was written: its words are at the start of the room
pub record Written (d root : List ℕ) (w : ℕ) (p p' : List ℕ) : Type 0 where
  pub words : List ℕ
  pub is : compile_by bare_form d root (length p) ≡ accepted words
  pub entry_count : w ≡ length words
  pub room : w ≤ length p
  pub first : take w p' ≡ words

module _ (d root p p' : List ℕ) where
  pub follows_refused : (e : Refusal) → Gives (compile_by bare_form d root (length p)) (Err e) p p' → (s l : List ℕ) → Follows d root s (Err e) p p' l l
  unfolding compiled_then run.answer_of list_after Few
  follows_refused e g s l =
      let o = refused_of _ e g.answer in
      record { plan = g.plan; gives = rw o (record { answer = refl; list = refl }); few = tt }

  module _ (w : ℕ) (g : Gives (compile_by bare_form d root (length p)) (Ok w) p p') where
    written_in : (o : Outcome (List ℕ)) → compile_by bare_form d root (length p) ≡ o → Ok w ≡ answer_of o → p' ≡ plan_after o p → Written d root w p p'
    unfolding answer_of plan_after
    written_in (refused n q) i x y = let z : ◌≡◌ {A = ℕ} 0 1 = cc in absurd (omega arith)
    written_in (accepted ws) i x y =
        let c : w ≡ length ws = cc in
        record {
          words = ws;
          is = i;
          entry_count = c;
          room = omega (arith, planned_room d root (length p) ws i);
          first = ap₂ take c y ∙ take_at ws (drop (length ws) p) (length ws) refl;
        }

    pub written : Written d root w p p'
    written = written_in (compile_by bare_form d root (length p)) refl g.answer g.plan

    pub follows_run : (s l l' : List ℕ) (r : Result ℕ Refusal) → run.Gives (run_of (take w p') s (length l)) r l l' → Follows d root s r p p' l l'
    unfolding compiled_then
    follows_run s l l' r h =
        let q = compiled_is d root (length p) written.words written.is in
        let o : run_of (take w p') s (length l) ≡ rules_by bare_form d root s (length l) =
        ap (λ (ws : List ℕ). run_of ws s (length l)) (written.first ∙ q.is)
        ∙ demand_three d root q.type q.accepts s (length l) in
        record { plan = g.plan; gives = rw written.is (rw o at h); few = rw (h.answer, o) (rules_few d root s (length l)) }
