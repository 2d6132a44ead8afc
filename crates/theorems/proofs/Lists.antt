-- What a run's answer and list are: their numbers, how many entries there are, the part that a path finds, and what a scalar in it is.
use mathlib.Core.Path.{◌≡◌, refl, ap, sym, ◌∙◌}
use mathlib.Core.Bool.{Bool, true, false}
use mathlib.Core.List.{List, [], ◌∷◌}
use mathlib.Core.Logic.{◌⊎◌, inl, inr, ⊎_elim}
use Prim.Native.Nat.{ℕ, zero, suc, ◌+◌, ◌*◌, ◌^◌, ◌<◌, ◌≤◌}
use native.Mathlib.Omega.{arith}
use lib.Dec.{eqb}
use lib.ListN.{length, get_or, take, drop, length-take, length-drop}
use borrow.Author.Tests.{eqb-false, le-leb, lt-leb}
use Rattle.wire.proofs.Picks.{pick_split}
use Rattle.value_scalars.proofs.Times.{time_number, time_length}
use Rattle.value_laws.proofs.Forests.{words_length}
use Rattle.plan_nodes.proofs.Nodes.{at_root}
use Rattle.run_plan.proofs.Numbers.{run_expected}
use Rattle.find_path.proofs.Paths.{follow_nowhere, Within, Accepts}
use Rattle.find_path.proofs.Calls.{passed, nothing_listed, led, find_accepts}
use Rattle.find_path.proofs.Indexes.{Distinct}
use Rattle.find_number.proofs.Numbers.{scalar_permitted}
use Rattle.run_compiled.proofs.EntryBound.{run_fits}
use Rattle.run_compiled.proofs.Numbers.{Told, rules_told}
use Rattle.forms.specs.declared.Answer.{Answer}
use Rattle.theorems.specs.Terms.{Words, RunNumber, IndexesApart}
use Rattle.theorems.proofs.Accepted.{descriptor_number}
use Rattle.protocol.specs.Constants.{ABSENT}
use Rattle.protocol.specs.Numbers.{bytes_be}
use Rattle.protocol.specs.Scalars.{local_time, scalar, format_rule, formats, rule_of}
use Rattle.protocol.specs.Lists.{Forest, empty, tree, words, Entries}
use Rattle.value_laws.specs.Counts.{entry_count}
use Rattle.protocol.specs.Values.{ValueOutcome}
use Rattle.protocol.specs.Answers.{Outcome, refused, accepted}
use Rattle.protocol.specs.Descriptors.{bare_form, DescribedType, describe}
use Rattle.protocol.specs.OffDescriptor.{rules_by}
use Rattle.protocol.specs.Plans.{without_type, plan_formed}
use Rattle.protocol.specs.Running.{checked, run_of}
use Rattle.protocol.specs.Finding.{Spot, nowhere, spot, top_of, follow, unfound, found, found_at, found_in, find_of}
use Rattle.protocol.specs.Crossing.{words_in, crosses, word_room, run_answer, run_from, RunsValue}

-- ---- numbers

pub run_number : (p : List ℕ) → Words p → plan_formed p ≡ true → (s : List ℕ) (room n q : ℕ) → run_of p s room ≡ refused n q → RunNumber (length s) n q
run_number p w f s room n q e = rw e at (run_expected p w s room f)

pub rules_number : (d root s : List ℕ) (room n q : ℕ) → rules_by bare_form d root s room ≡ refused n q
    → (describe bare_form d root ≡ refused n q) ⊎ RunNumber (length s) n q
rules_number d root s room n q e = go (describe bare_form d root) refl (rw e at (rules_told d root s room))
  where
    go : (t : Outcome DescribedType) → describe bare_form d root ≡ t → Told t (length s) (refused n q)
        → (describe bare_form d root ≡ refused n q) ⊎ RunNumber (length s) n q
    go (refused m p) w h = let a : m ≡ n = cc in let b : p ≡ q = cc in inl (w ∙ rw (a, b) refl)
    go (accepted t) w h = inr h

-- so none of them is 33
pub never_33 : (d root s : List ℕ) (room n q : ℕ) → rules_by bare_form d root s room ≡ refused n q → n ≡ 33 → ⊥
never_33 d root s room n q e h =
    ⊎_elim
    (λ (x : describe bare_form d root ≡ refused n q). omega (arith, (descriptor_number d root n q x).1))
    (λ x. ⊎_elim (λ a. omega (arith, a.0)) (λ y. ⊎_elim (λ b. omega (arith, b.0.1)) (λ a. omega (arith, a.0)) y) x)
    (rules_number d root s room n q e)

-- ---- entries

-- as many as the words of a list say
listed_entries : (n : ℕ) (f : Forest) → 4 * entry_count f ≤ n + 4 → Entries n (length (words f))
listed_entries n f h = record { entries = entry_count f; words = words_length f; most = omega arith }

pub run_entries : (p s : List ℕ) (room : ℕ) (f : Forest) → run_of p s room ≡ accepted f → Entries (length s) (length (words f))
run_entries p s room f e = listed_entries (length s) f (rw e at (run_fits p s room))

pub call_entries : (plan s : List ℕ) (r : Answer) (l l' : List ℕ) → RunsValue plan s r l l' → Entries (length s) r.first
unfolding run_answer run_from
call_entries plan s r l l' c = rw c.answer (go (run_from plan s (word_room (length l))) refl)
  where
    none : Entries (length s) 0
    none = record { entries = 0; words = refl; most = omega arith }

    go : (o : ValueOutcome) → run_from plan s (word_room (length l)) ≡ o → Entries (length s) (run_answer o).first
    go (refused n q) e = none
    go (accepted f) e =
        ⊎_elim
        (λ (x : (crosses (length plan) ≡ true) × (run_of (words_in plan) s (word_room (length l)) ≡ accepted f)).
        run_entries (words_in plan) s (word_room (length l)) f x.1)
        (λ (x : (crosses (length plan) ≡ false) × (refused 33 0 ≡ accepted f)). let h = x.1 in let z : ◌≡◌ {A = ℕ} 0 1 = cc in absurd (omega arith))
        (pick_split _ _ _ _ e)

-- ---- what is found

pub indexes_apart_lem : (f : Forest) → Distinct f → IndexesApart f
unfolding Distinct
indexes_apart_lem empty h = tt
indexes_apart_lem (tree e below next) h = (h.0, indexes_apart_lem below h.1, indexes_apart_lem next h.2)

-- the first n, taken by how many there are
take_own : (n : ℕ) (s : List ℕ) → take (length (take n s)) s ≡ take n s
take_own zero s = refl
take_own (suc n) [] = refl
take_own (suc n) (x ∷ s) = ap (λ (t : List ℕ). x ∷ t) (take_own n s)

module _ (s : List ℕ) (k a : ℕ) (b : List ℕ) where
  part_of : (x : Spot) → Within (length s) x → found_at s x ≡ found k a b → (a + length b ≤ length s) × (b ≡ take (length b) (drop a s))
  unfolding found_at Within
  part_of nowhere w e = let z : ◌≡◌ {A = ℕ} 0 1 = cc in absurd (omega arith)
  part_of (spot d below) w e =
      ⊎_elim
      (λ (q : (eqb d.size ABSENT ≡ true) × (unfound 36 0 ≡ found k a b)). let f = q.1 in let z : ◌≡◌ {A = ℕ} 0 1 = cc in absurd (omega arith))
      (λ (q : (eqb d.size ABSENT ≡ false) × (found d.node d.start (take d.size (drop d.start s)) ≡ found k a b)).
      ⊎_elim (λ (y : d.size ≡ ABSENT). absurd (eqb-false d.size ABSENT q.0 y)) (λ (y : d.start + d.size ≤ length s). own q.1 y) w)
      (pick_split _ _ _ _ e)
    where
      own : found d.node d.start (take d.size (drop d.start s)) ≡ found k a b → d.start + d.size ≤ length s
          → (a + length b ≤ length s) × (b ≡ take (length b) (drop a s))
      own q le =
          let ea : d.start ≡ a = cc in
          let eb : take d.size (drop d.start s) ≡ b = cc in
          let n : length (take d.size (drop d.start s)) ≡ d.size = simp (length-take, length-drop) (omega arith) in
          let m : length b ≡ d.size = ap length (sym eb) ∙ n in
          (omega (arith, m, ea), sym eb ∙ sym (take_own d.size (drop d.start s)) ∙ rw (eb, ea) refl)

none_within : (n : ℕ) (path : List ℕ) → Within n (follow path (top_of empty))
unfolding top_of Within
none_within n path = rw (follow_nowhere path) tt

pub found_part : (p s path : List ℕ) (f : Forest) → Words p → checked p s ≡ accepted f → (k a : ℕ) (b : List ℕ) → find_of p s path ≡ found k a b
    → (a + length b ≤ length s) × (b ≡ take (length b) (drop a s))
unfolding find_of found_in
found_part p s path f small e k a b q = go (without_type p) refl
  where
    here : found_at s (follow path (top_of f)) ≡ found k a b
    here = rw e at q

    go : (c : Bool) → without_type p ≡ c → (a + length b ≤ length s) × (b ≡ take (length b) (drop a s))
    go true n = part_of s k a b (follow path (top_of f)) (rw (nothing_listed p s f e n) (none_within (length s) path)) here
    go false n = part_of s k a b (follow path (top_of f)) (led p s f e n (get_or p 1 0) refl (at_root p (passed p s f e).formed n small) path).within here

-- ---- scalars

pub found_permitted : (p s path : List ℕ) → Words p → (k a : ℕ) (b : List ℕ) → find_of p s path ≡ found k a b → get_or p k 0 ≡ 1 → scalar (get_or p (k + 1) 0) b ≡ true
unfolding Accepts
found_permitted p s path w k a b q e =
    let x : Accepts p (found k a b) = rw q at (find_accepts p s path w) in
    scalar_permitted p k x.0 e x.1.0 a b x.1.1 x.1.2

-- the bytes of a number, by the format of a time of day
time_is : (v : List ℕ) → scalar 13 v ≡ local_time v
unfolding scalar format_rule formats rule_of
time_is v = refl

module _ (n : ℕ) where
  pub time_in_day : n < 24 * 3600 * 1000000 → scalar 13 (bytes_be 8 n) ≡ true
  time_in_day h = time_is (bytes_be 8 n) ∙ time_number n (omega arith) ∙ le-leb n 86399999999 (omega arith)

  pub time_over : 24 * 3600 * 1000000 ≤ n → n < 2 ^ 64 → scalar 13 (bytes_be 8 n) ≡ false
  time_over h l = time_is (bytes_be 8 n) ∙ time_number n (omega arith) ∙ lt-leb n 86399999999 (omega arith)

pub time_of_size : (v : List ℕ) → (length v ≡ 8 → ⊥) → scalar 13 v ≡ false
time_of_size v h = time_is v ∙ time_length v h
