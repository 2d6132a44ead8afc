-- The calls on bytes: what a room keeps, and compiling and then running.
use mathlib.Core.Path.{◌≡◌, refl, ap, sym, ◌∙◌}
use mathlib.Core.Bool.{true, false}
use mathlib.Core.List.{List, [], ◌∷◌, ◌++◌}
use mathlib.Core.Logic.{⊎_elim}
use mathlib.Core.Option.{Option, some, none}
use Prim.Native.Nat.{ℕ, ◌+◌, ◌*◌, ◌≤◌}
use native.Mathlib.Omega.{arith}
use lib.ListN.{length, take, drop, length-append}
use lib.Seq.{drop_at}
use borrow.Author.Tests.{ltb-false}
use Rattle.wire.proofs.Numbers.{length_bytes}
use Rattle.wire.proofs.Picks.{pick_split, pick_case}
use Rattle.message_laws.proofs.Words.{bounded}
use Rattle.descriptor_compile.proofs.Compiles.{planned_room}
use Rattle.forms.specs.declared.Answer.{Answer}
use Rattle.c_words.proofs.Words.{length_out, room_most}
use Rattle.c_panel.proofs.Demand3.{demand_three_bytes}
use Rattle.supply_laws.proofs.Written.{supplied_is_bytes}
use Rattle.protocol.specs.Answers.{Outcome, refused, accepted, Put, refused_put, put_out, output_roomed, output_after}
use Rattle.protocol.specs.Messages.{Layout, layout_of, MessageRead, unread, read, message_call, Written, unwritten, wrote, fields_written}
use Rattle.protocol.specs.Messages.{message_whole, body_written, message_written}
use Rattle.protocol.specs.Descriptors.{bare_form}
use Rattle.protocol.specs.Lists.{words}
use Rattle.protocol.specs.Values.{ValueOutcome}
use Rattle.protocol.specs.Plans.{plan_formed}
use Rattle.protocol.specs.Compiling.{compile_by}
use Rattle.protocol.specs.Running.{run_of}
use Rattle.protocol.specs.OffDescriptor.{rules_by}
use Rattle.protocol.specs.Building.{made_by, supplied_by, write_of}
use Rattle.protocol.specs.Crossing.{words_in, bytes_out, crosses, word_room, refusal, success, read_answer, read_list, ReadsMessage, uncrossed_list}
use Rattle.protocol.specs.Crossing.{written_from, put_answer, WritesMessage, compile_answer, compile_room, CompilesPlan, run_answer, run_list, run_from}
use Rattle.protocol.specs.Crossing.{SettlesRun, RunsValue, uncrossed_supply, write_from, WritesValue}
use Rattle.theorems.specs.Terms.{Bytes, Keeps}
use Rattle.theorems.proofs.Accepted.{descriptor_number, compile_refused, run_listed}
use Rattle.theorems.proofs.Lists.{never_33}

-- ---- rooms

-- a refusal keeps the room, and n bytes that fit are put before the rest of it
keeps_refusal : (n p : ℕ) (l : List ℕ) → Keeps (refusal n p) 0 l l
keeps_refusal n p l = record { on_refusal = λ _. (refl, refl); inside = omega arith; beyond = refl }

keeps_success : (a c n : ℕ) (b l : List ℕ) → length b ≡ n → n ≤ length l → Keeps (success a c) n l (b ++ drop n l)
keeps_success a c n b l e h = record { on_refusal = λ not. absurd (not refl); inside = h; beyond = drop_at b (drop n l) n e }

-- w words of a room that has room for as many
keeps_words : (a c w : ℕ) (ws l : List ℕ) → length ws ≡ w → w ≤ word_room (length l) → Keeps (success a c) (4 * w) l (bytes_out ws ++ drop (4 * w) l)
keeps_words a c w ws l e h = keeps_success a c (4 * w) (bytes_out ws) l (length_out ws ∙ ap (λ (k : ℕ). 4 * k) e) (omega (arith, (room_most (length l)).1))

pub read_keeps : (side : ℕ) (s : List ℕ) (r : Answer) (l l' : List ℕ) → ReadsMessage side s r l l' → Keeps r (4 * r.second) l l'
unfolding read_answer read_list
read_keeps side s r l l' c = rw (c.answer, c.list) (go (message_call side s (word_room (length l))) refl)
  where
    go : (o : MessageRead) → message_call side s (word_room (length l)) ≡ o → Keeps (read_answer o) (4 * (read_answer o).second) l (read_list o l)
    go (unread n p) e = keeps_refusal n p l
    go (read u ws) e = keeps_words u (length ws) (length ws) ws l refl (bounded side s (word_room (length l)) u ws e).listed

pub compile_keeps : (d root : List ℕ) (r : Answer) (l l' : List ℕ) → CompilesPlan d root r l l' → Keeps r (4 * r.first) l l'
unfolding compile_answer compile_room
compile_keeps d root r l l' c = rw (c.answer, c.plan) (go (compile_by bare_form d root (word_room (length l))) refl)
  where
    go : (o : Outcome (List ℕ)) → compile_by bare_form d root (word_room (length l)) ≡ o
        → Keeps (compile_answer o) (4 * (compile_answer o).first) l (compile_room o l)
    go (refused n p) e = keeps_refusal n p l
    go (accepted ws) e = keeps_words (length ws) 0 (length ws) ws l refl (planned_room d root (word_room (length l)) ws e)

pub run_keeps : (p s : List ℕ) (r : Answer) (l l' : List ℕ) → RunsValue p s r l l' → Keeps r (4 * r.first) l l'
unfolding run_answer run_list run_from
run_keeps p s r l l' c = rw (c.answer, c.list) (go (run_from p s (word_room (length l))) refl)
  where
    go : (o : ValueOutcome) → run_from p s (word_room (length l)) ≡ o → Keeps (run_answer o) (4 * (run_answer o).first) l (run_list o l)
    go (refused n q) e = keeps_refusal n q l
    go (accepted f) e =
        ⊎_elim
        (λ (x : (crosses (length p) ≡ true) × (run_of (words_in p) s (word_room (length l)) ≡ accepted f)).
        keeps_words (length (words f)) 0 (length (words f)) (words f) l refl (run_listed (words_in p) s (word_room (length l)) f x.1).1)
        (λ (x : (crosses (length p) ≡ false) × (refused 33 0 ≡ accepted f)). let h = x.1 in let z : ◌≡◌ {A = ℕ} 0 1 = cc in absurd (omega arith))
        (pick_split _ _ _ _ e)

-- what the message writer puts out has room
abbrev FitsOut : ℕ → Put → Type 0
FitsOut room (refused_put n) = Unit {0}
FitsOut room (put_out b) = length b ≤ room

whole_fits : (t room : ℕ) (w : Written) → FitsOut room (message_whole t room w)
unfolding message_whole
whole_fits t room unwritten = tt
whole_fits t room (wrote b (w ∷ ws)) = tt
whole_fits t room (wrote b []) =
    pick_case (FitsOut room) _ _ _ (λ _. tt)
    (λ _. pick_case (FitsOut room) _ _ _ (λ _. tt) (λ e. simp (length-append, length_bytes) (omega (arith, ltb-false room (length b + 5) e))))

body_fits : (k : (Option Layout)) (t : ℕ) (ws src : List ℕ) (room : ℕ) → FitsOut room (body_written k t ws src room)
unfolding body_written
body_fits none t ws src room = tt
body_fits (some l) t ws src room = whole_fits t room (fields_written l src ws)

uncrossed_fits : (k : (Option Layout)) (room : ℕ) → FitsOut room (uncrossed_list k)
unfolding uncrossed_list
uncrossed_fits none room = tt
uncrossed_fits (some l) room = tt

written_fits : (side t : ℕ) (list src : List ℕ) (room : ℕ) → FitsOut room (written_from side t list src room)
unfolding written_from message_written
written_fits side t list src room =
    pick_case (FitsOut room) _ _ _ (λ _. body_fits (layout_of side t) t (words_in list) src room) (λ _. uncrossed_fits (layout_of side t) room)

-- and so has what the value writer puts out
roomed_fits : (room : ℕ) (x : Put) → FitsOut room (output_roomed room x)
unfolding output_roomed
roomed_fits room (refused_put n) = tt
roomed_fits room (put_out b) = pick_case (FitsOut room) _ _ _ (λ _. tt) (λ e. ltb-false room (length b) e)

value_fits : (p list src : List ℕ) (room : ℕ) → FitsOut room (write_from p list src room)
unfolding write_from write_of uncrossed_supply
value_fits p list src room =
    let F = FitsOut room in
    pick_case F _ _ _
    (λ _. pick_case F _ _ _
    (λ _. pick_case F _ _ _ (λ _. roomed_fits room (supplied_by (made_by (words_in p) (words_in list) src))) (λ _. tt))
    (λ _. pick_case F _ _ _ (λ _. tt) (λ _. tt)))
    (λ _. tt)

-- of either writer
put_keeps : (o : Put) (l : List ℕ) → FitsOut (length l) o → Keeps (put_answer o) (put_answer o).first l (output_after o l)
unfolding put_answer output_after
put_keeps (refused_put n) l h = keeps_refusal n 0 l
put_keeps (put_out b) l h = keeps_success (length b) 0 (length b) b l refl h

pub write_keeps : (side t : ℕ) (list src : List ℕ) (r : Answer) (l l' : List ℕ) → WritesMessage side t list src r l l' → Keeps r r.first l l'
write_keeps side t list src r l l' c =
    rw (c.answer, c.output) (put_keeps (written_from side t list src (length l)) l (written_fits side t list src (length l)))

pub value_keeps : (p list src : List ℕ) (r : Answer) (l l' : List ℕ) → WritesValue p list src r l l' → Keeps r r.first l l'
value_keeps p list src r l l' c = rw (c.answer, c.output) (put_keeps (write_from p list src (length l)) l (value_fits p list src (length l)))

-- ---- compiling and then running

module _ (d root : List ℕ) (r : Answer) (p p' : List ℕ) (c : CompilesPlan d root r p p') (z : r.number ≡ 0) where
  -- a compiling call that succeeded wrote a plan
  wrote_plan : (ws : List ℕ) × (compile_by bare_form d root (word_room (length p)) ≡ accepted ws) × (r.first ≡ length ws)
  unfolding compile_answer
  wrote_plan = go (compile_by bare_form d root (word_room (length p))) refl c.answer
    where
      go : (o : Outcome (List ℕ)) → compile_by bare_form d root (word_room (length p)) ≡ o → r ≡ compile_answer o
          → (ws : List ℕ) × (compile_by bare_form d root (word_room (length p)) ≡ accepted ws) × (r.first ≡ length ws)
      go (refused n q) e a =
          let m : n ≡ 0 = sym (ap (λ (x : Answer). x.number) a) ∙ z in
          absurd
          (⊎_elim (λ x. omega (arith, (descriptor_number d root n q x).0)) (λ x. omega (arith, x.0)) (compile_refused d root (word_room (length p)) n q e))
      go (accepted ws) e a = (ws, e, ap (λ (x : Answer). x.first) a)

  pub runs_rules : (s : List ℕ) (room : ℕ) → run_from (take (4 * r.first) p') s room ≡ rules_by bare_form d root s room
  runs_rules s room = let w = wrote_plan in rw w.2 (demand_three_bytes d root p p' r c w.0 w.1 s room)

  not_33 : (s : List ℕ) (room : ℕ) (o : ValueOutcome) → rules_by bare_form d root s room ≡ o → (run_answer o).number ≡ 33 → ⊥
  unfolding run_answer
  not_33 s room (refused n q) e h = never_33 d root s room n q e h
  not_33 s room (accepted f) e h = omega arith

  pub call_runs_rules : (s : List ℕ) (q : Answer) (l l' : List ℕ) → RunsValue (take (4 * r.first) p') s q l l'
      → SettlesRun (rules_by bare_form d root s (word_room (length l))) q l l' × (q.number ≡ 33 → ⊥)
  call_runs_rules s q l l' x =
      let room = word_room (length l) in
      let y : SettlesRun (rules_by bare_form d root s room) q l l' = rw (runs_rules s room) at x in
      (y, λ h. not_33 s room (rules_by bare_form d root s room) refl (ap (λ (a : Answer). a.number) (sym y.answer) ∙ h))

-- ---- what is written is bytes

pub written_bytes : (p ws src : List ℕ) (room : ℕ) (b : List ℕ) → write_of p ws src room ≡ put_out b → Bytes src → Bytes b
unfolding write_of output_roomed
written_bytes p ws src room b e bytes =
    ⊎_elim
    (λ (q : (plan_formed p ≡ true) × (output_roomed room (supplied_by (made_by p ws src)) ≡ put_out b)).
    supplied_is_bytes p ws src bytes b (go (supplied_by (made_by p ws src)) q.1))
    (λ (q : (plan_formed p ≡ false) × (refused_put 33 ≡ put_out b)). let h = q.1 in let z : ◌≡◌ {A = ℕ} 0 1 = cc in absurd (omega arith))
    (pick_split _ _ _ _ e)
  where
    go : (x : Put) → output_roomed room x ≡ put_out b → x ≡ put_out b
    go (refused_put n) e = e
    go (put_out c) e = ⊎_elim (λ q. let h = q.1 in let z : ◌≡◌ {A = ℕ} 0 1 = cc in absurd (omega arith)) (λ q. q.1) (pick_split _ _ _ _ e)
