-- The laws of a run: the tests in their order, and what an answer says of the outcome.
use mathlib.Core.Path.{◌≡◌, refl, ap, sym, ◌∙◌}
use mathlib.Core.Bool.{Bool, true, false}
use mathlib.Core.List.{List, ◌++◌}
use Prim.Native.Nat.{ℕ, ◌+◌, ◌*◌, ◌^◌, ◌<◌, ◌≤◌}
use native.Mathlib.Omega.{arith}
use native.Mathlib.Nat.{zero-add}
use lib.Dec.{ltb}
use lib.ListN.{length, get_or, drop}
use lib.Seq.{sets, sets-eq}
use borrow.Author.Tests.{lt-ltb, le-ltb, eq-eqb, ne_eqb, ltb-false}
use Rattle.plan_nodes.proofs.Roots.{root_none, root_some}
use Rattle.std.specs.Prelude.{Result, Ok, Err}
use Rattle.forms.specs.declared.fault.Refusal.{Refusal}
use Rattle.value_parts.specs.Walk.{refusal, stopped, reached, walk_of, led, Within}
use Rattle.run_plan.specs.Run.{early_fault, answer_of, Gives, Stored, Checks, fault_in}
use Rattle.protocol.specs.Numbers.{pick}
use Rattle.protocol.specs.Lists.{Forest, empty, words}
use Rattle.protocol.specs.Values.{ValueOutcome, value_of}
use Rattle.protocol.specs.Answers.{refused, accepted}
use Rattle.protocol.specs.Plans.{look, plan_formed}
use Rattle.protocol.specs.Running.{nothing_in, list_roomed, value_by, checked, run_of, list_after, admitted}

-- ---- a value by a well-formed plan

reached_is : (o : ValueOutcome) (at : ℕ) (l l' : List ℕ) → reached at l' ≡ led o 0 l → (f : Forest) × (o ≡ accepted f) × (at ≡ length (words f)) × (l' ≡ sets l 0 (words f))
unfolding led
reached_is (refused n p) at l l' e = let z : ◌≡◌ {A = ℕ} 0 1 = cc in absurd (omega arith)
reached_is (accepted f) at l l' e = let a : 0 + length (words f) ≡ at = cc in (f, refl, sym a ∙ zero-add (length (words f)), cc)

stopped_is : (o : ValueOutcome) (n p : ℕ) (l : List ℕ) → stopped n p ≡ led o 0 l → o ≡ refused n p
unfolding led
stopped_is (refused m q) n p l e = cc
stopped_is (accepted f) n p l e = let z : ◌≡◌ {A = ℕ} 0 1 = cc in absurd (omega arith)

-- a refusal says nothing of the scratch room
refuses : (m : ℕ) (o : ValueOutcome) (n p : ℕ) (l l' : List ℕ) → o ≡ refused n p → Checks m o (Err (refusal n p)) l l'
unfolding answer_of Stored
refuses m o n p l l' e = rw e (record { answer = refl; words = tt })

module _ (p s : List ℕ) (f : plan_formed p ≡ true) (l l' : List ℕ) where
  module _ (w : (j : ℕ) → get_or p j 0 < 2 ^ 32) (r : ℕ) (er : r ≡ get_or p 1 0) (z : r ≡ 0) where
    nothing_is : value_by p s ≡ nothing_in s
    unfolding value_by pick
    nothing_is = rw (root_none p f (sym er ∙ z) w)

    pub check_nothing : length s ≡ 0 → l' ≡ l → Checks (length s) (value_by p s) (Ok 0) l l'
    unfolding nothing_in pick answer_of Stored words
    check_nothing e g = rw (nothing_is, eq-eqb (length s) 0 e) (record { answer = refl; words = (g, omega arith) })

    pub check_bytes : (length s ≡ 0 → ⊥) → Checks (length s) (value_by p s) (Err (refusal 21 0)) l l'
    unfolding nothing_in pick
    check_bytes e = refuses _ _ 21 0 l l' (nothing_is ∙ rw (ne_eqb (length s) 0 e))

  module _ (r : ℕ) (er : r ≡ get_or p 1 0) (nz : r ≡ 0 → ⊥) where
    value_is : value_by p s ≡ value_of (look p) r 0 0 s
    unfolding value_by pick
    value_is = rw (root_some p f (λ e. nz (er ∙ e)), er)

    module _ (x : Result ℕ Refusal) (q : walk_of x l' ≡ led (value_of (look p) r 0 0 s) 0 l) where
      pub check_refused : (e : Refusal) → x ≡ Err e → Checks (length s) (value_by p s) (Err e) l l'
      unfolding walk_of
      check_refused e ex = refuses _ _ e.fault e.place l l' (value_is ∙ stopped_is _ e.fault e.place l (rw ex at q))

      pub check_listed : (at : ℕ) → x ≡ Ok at → Within (0 + length s) x → Checks (length s) (value_by p s) (Ok at) l l'
      unfolding walk_of Within answer_of Stored
      check_listed at e b =
          let h = reached_is (value_of (look p) r 0 0 s) at l l' (rw e at q) in
          let c = rw e at b in
          rw (value_is, h.1) (record { answer = ap Ok h.2; words = (h.3, omega (arith, h.2)) })

-- ---- the tests before the value, in their order

module _ (p s : List ℕ) where
  pub fault_unformed : plan_formed p ≡ false → Err 33 ≡ early_fault p s
  unfolding early_fault fault_in admitted pick
  fault_unformed e = rw e

  module _ (f : plan_formed p ≡ true) where
    pub fault_large : 65535 < length s → Err 28 ≡ early_fault p s
    unfolding early_fault fault_in admitted pick
    fault_large h = rw (f, lt-ltb 65535 (length s) h)

    pub fault_none : length s ≤ 65535 → Ok tt ≡ early_fault p s
    unfolding early_fault fault_in admitted pick
    fault_none h = rw (f, le-ltb 65535 (length s) h)

  early_cases : (n : ℕ) (a b : Bool) → Err n ≡ fault_in (pick a (pick b (refused 28 0) (accepted empty)) (refused 33 0))
      → pick a (pick b (refused 28 0) (value_by p s)) (refused 33 0) ≡ refused n 0
  unfolding pick fault_in
  early_cases n true true e = let h : n ≡ 28 = cc in rw h
  early_cases n true false e = let z : ◌≡◌ {A = ℕ} 0 1 = cc in absurd (omega arith)
  early_cases n false b e = let h : n ≡ 33 = cc in rw h

  pub early_refused : (n : ℕ) → Err n ≡ early_fault p s → checked p s ≡ refused n 0
  unfolding early_fault admitted checked fault_in
  early_refused n e = early_cases n (plan_formed p) (ltb 65535 (length s)) e

  none_cases : (a b : Bool) → Ok tt ≡ fault_in (pick a (pick b (refused 28 0) (accepted empty)) (refused 33 0)) → (a ≡ true) × (b ≡ false)
  unfolding pick fault_in
  none_cases true true e = let z : ◌≡◌ {A = ℕ} 0 1 = cc in absurd (omega arith)
  none_cases true false e = (refl, refl)
  none_cases false b e = let z : ◌≡◌ {A = ℕ} 0 1 = cc in absurd (omega arith)

  -- where none refuses, the value's own rules are left
  pub early_none : Ok tt ≡ early_fault p s → (plan_formed p ≡ true) × (length s ≤ 65535) × (checked p s ≡ value_by p s)
  unfolding early_fault fault_in admitted checked pick
  early_none e =
      let h = none_cases (plan_formed p) (ltb 65535 (length s)) e in
      (h.0, ltb-false 65535 (length s) h.1, rw (h.0, h.1))

  module _ (l l' : List ℕ) where
    pub check_early : (n : ℕ) → checked p s ≡ refused n 0 → Checks (length s) (checked p s) (Err (refusal n 0)) l l'
    check_early n e = refuses _ _ n 0 l l' e

    pub check_rest : checked p s ≡ value_by p s → (r : Result ℕ Refusal) → Checks (length s) (value_by p s) r l l' → Checks (length s) (checked p s) r l l'
    check_rest e r c = rw e c

  module _ (room : ℕ) (l : List ℕ) where
    pub run_early : (n : ℕ) → checked p s ≡ refused n 0 → Gives (run_of p s room) (Err (refusal n 0)) l l
    unfolding run_of list_roomed answer_of list_after
    run_early n e = rw e (record { answer = refl; list = refl })

    pub run_rest : (l' : List ℕ) → checked p s ≡ value_by p s → (r : Result ℕ Refusal) → Gives (list_roomed room (value_by p s)) r l l' → Gives (run_of p s room) r l l'
    unfolding run_of
    run_rest l' e r c = rw e c

-- ---- what an answer says of the outcome

-- an accepted value: its words, and that they are in the scratch room
pub record Found (m : ℕ) (o : ValueOutcome) (w : ℕ) (l l' : List ℕ) : Type 0 where
  pub forest : Forest
  pub is : o ≡ accepted forest
  pub count : w ≡ length (words forest)
  pub stored : l' ≡ sets l 0 (words forest)
  pub few : 4 * w ≤ 5 * m + 20

found_in : (m : ℕ) (o : ValueOutcome) (w : ℕ) (l l' : List ℕ) → Ok w ≡ answer_of o → Stored m o l l' → Found m o w l l'
unfolding answer_of Stored
found_in m (refused n p) w l l' e s = let z : ◌≡◌ {A = ℕ} 0 1 = cc in absurd (omega arith)
found_in m (accepted f) w l l' e s = let c : w ≡ length (words f) = cc in record { forest = f; is = refl; count = c; stored = s.0; few = omega (arith, s.1) }

refused_in : (o : ValueOutcome) (e : Refusal) → Err e ≡ answer_of o → o ≡ refused e.fault e.place
unfolding answer_of
refused_in (refused m q) e h = let r : e ≡ refusal m q = cc in rw r
refused_in (accepted f) e h = let z : ◌≡◌ {A = ℕ} 0 1 = cc in absurd (omega arith)

module _ (m : ℕ) (o : ValueOutcome) (a : Result ℕ Refusal) (l l' : List ℕ) (c : Checks m o a l l') where
  pub found : (w : ℕ) → a ≡ Ok w → Found m o w l l'
  found w e = found_in m o w l l' (sym e ∙ c.answer) c.words

  pub turned_down : (e : Refusal) → a ≡ Err e → o ≡ refused e.fault e.place
  turned_down e h = refused_in o e (sym h ∙ c.answer)

-- ---- the two passes

module _ (m : ℕ) (o : ValueOutcome) (a : Result ℕ Refusal) (k k' : List ℕ) (c : Checks m o a k k') (l : List ℕ) where
  pub gives_refused : (e : Refusal) → a ≡ Err e → Gives (list_roomed (length l) o) (Err e) l l
  unfolding list_roomed answer_of list_after
  gives_refused e x = let h = turned_down m o a k k' c e x in record { answer = rw h; list = rw h }

  module _ (w : ℕ) (e : a ≡ Ok w) where
    f : Found m o w k k'
    f = found m o a k k' c w e

    pub gives_full : length l < w → Gives (list_roomed (length l) o) (Err (refusal 31 0)) l l
    unfolding list_roomed answer_of list_after pick
    gives_full h =
        let h' : length l < length (words f.forest) = omega (arith, f.count) in
        rw (f.is, lt-ltb _ _ h') (record { answer = refl; list = refl })

    pub gives_listed : w ≤ length l → (a' : Result ℕ Refusal) (l' : List ℕ) → Checks m o a' l l' → Gives (list_roomed (length l) o) a' l l'
    unfolding list_roomed answer_of list_after Stored pick
    gives_listed h a' l' d =
        let h' : length (words f.forest) ≤ length l = omega (arith, f.count) in
        let g = rw f.is at d.words in
        rw (f.is, le-ltb _ _ h')
        (record {
          answer = rw f.is at d.answer;
          list = g.0 ∙ sets-eq (words f.forest) l 0 (omega arith) ∙ ap (λ (n : ℕ). words f.forest ++ drop n l) (zero-add (length (words f.forest)));
        })
