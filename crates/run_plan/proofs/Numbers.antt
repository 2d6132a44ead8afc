-- The numbers of a run. By a well-formed plan they are 28, those of a value's faults (20 to 27) at places in the value, and 31; so 28, 31
-- and 33 are given exactly where R1.3 says. A plan's words are below 2 ^ 32, as lent words are.
use mathlib.Core.Path.{◌≡◌, refl, ap, sym, ◌∙◌}
use mathlib.Core.Bool.{Bool, true, false}
use mathlib.Core.List.{List}
use mathlib.Core.Logic.{◌⊎◌, inl, inr, ⊎_elim, ◌↔◌}
use Prim.Native.Nat.{ℕ, ◌^◌, ◌<◌, ◌≤◌}
use native.Mathlib.Omega.{arith}
use lib.Dec.{ltb, lit≤}
use lib.ListN.{length, get_or}
use borrow.Author.Tests.{ltb-true, lt-ltb}
use Rattle.wire.proofs.Picks.{pick_yes, pick_no, pick_case, pick_split}
use Rattle.value_laws.proofs.Faults.{ValueFault, Judged, Covered, value_judged}
use Rattle.plan_nodes.proofs.Looks.{refs_length, cards_length}
use Rattle.plan_nodes.proofs.Nodes.{at_root, at_ref}
use Rattle.protocol.specs.Lists.{Forest, words}
use Rattle.protocol.specs.Values.{ValueOutcome, value_of, fuel}
use Rattle.protocol.specs.Answers.{refused, accepted}
use Rattle.protocol.specs.Plans.{look, plan_formed}
use Rattle.plan_nodes.specs.Readers.{At}
use Rattle.protocol.specs.Running.{nothing_in, list_roomed, value_by, checked, run_of, admitted}

-- of a value of n bytes: 28 at 0, or as its own rules judge it
abbrev Sized : ℕ → ValueOutcome → Type 0
Sized n (refused m q) = ((m ≡ 28) × (q ≡ 0)) ⊎ (ValueFault m × (q ≤ n))
Sized n (accepted f) = Unit {0}

-- what a run by a well-formed plan gives of a value of n bytes: 28 at 0, a value's fault at a place in it, 31 at 0, or a list
abbrev pub Expected : ℕ → ValueOutcome → Type 0
Expected n (refused m q) = ((m ≡ 28) × (q ≡ 0)) ⊎ ((ValueFault m × (q ≤ n)) ⊎ ((m ≡ 31) × (q ≡ 0)))
Expected n (accepted f) = Unit {0}

module _ (n : ℕ) where
  judged_sized : (o : ValueOutcome) → Judged n o → Sized n o
  judged_sized (refused m q) x = inr x
  judged_sized (accepted f) x = tt

  module _ (room : ℕ) where
    roomed_expected : (o : ValueOutcome) → Sized n o → Expected n (list_roomed room o)
    unfolding list_roomed
    roomed_expected (refused m q) x = ⊎_elim (λ a. inl a) (λ b. inr (inl b)) x
    roomed_expected (accepted f) x = pick_case (Expected n) _ _ _ (λ _. inr (inr (refl, refl))) (λ _. tt)

    -- the room adds 31 to the numbers of a value's faults
    roomed_number : (m q : ℕ) (o : ValueOutcome) → Judged n o → list_roomed room o ≡ refused m q → ValueFault m ⊎ (m ≡ 31)
    unfolding list_roomed
    roomed_number m q (refused k r) x e = let h : k ≡ m = cc in inl (rw h at x.0)
    roomed_number m q (accepted f) x e =
        ⊎_elim (λ y. let h = y.1 in inr (cc)) (λ y. let h = y.1 in let z : ◌≡◌ {A = ℕ} 0 1 = cc in absurd (omega arith)) (pick_split _ _ _ _ e)

-- a sparse object of a plan has as many references as cardinalities
look_covered : (p : List ℕ) (k : ℕ) → Covered (look p k)
unfolding look
look_covered p k =
    pick_case Covered _ _ _ (λ _. tt)
    (λ _. pick_case Covered _ _ _ (λ _. tt)
    (λ _. pick_case Covered _ _ _ (λ _. tt)
    (λ _. pick_case Covered _ _ _ (λ _. tt)
    (λ _. pick_case Covered _ _ _ (λ _. tt)
    (λ _. pick_case Covered _ _ _ (λ _. omega (arith, refs_length p k, cards_length p k))
    (λ _. pick_case Covered _ _ _ (λ _. tt) (λ _. tt)))))))

module _ (p s : List ℕ) where
  unformed_is : plan_formed p ≡ false → checked p s ≡ refused 33 0
  unfolding checked admitted
  unformed_is e = pick_no _ _ _ e

  module _ (f : plan_formed p ≡ true) where
    large_is : ltb 65535 (length s) ≡ true → checked p s ≡ refused 28 0
    unfolding checked admitted
    large_is h = pick_yes _ _ _ f ∙ pick_yes _ _ _ h

    small_is : ltb 65535 (length s) ≡ false → checked p s ≡ value_by p s
    unfolding checked admitted
    small_is h = pick_yes _ _ _ f ∙ pick_no _ _ _ h

module _ (p : List ℕ) (w : (j : ℕ) → get_or p j 0 < 2 ^ 32) (s : List ℕ) where
  -- a value by a well-formed plan
  value_is : plan_formed p ≡ true → Judged (length s) (value_by p s)
  unfolding value_by value_of nothing_in
  value_is formed =
      let J = Judged (length s) in
      pick_case J _ _ _
      (λ _. pick_case J _ _ _ (λ _. tt) (λ _. ((lit≤ tt, lit≤ tt), omega arith)))
      (λ t.
      let a = at_root p formed t w in
      value_judged (look p) (At p) (at_ref p) (λ k _. look_covered p k) (length s) fuel (get_or p 1 0) a a.small 0 0 s (omega arith))

  checked_sized : plan_formed p ≡ true → Sized (length s) (checked p s)
  unfolding checked admitted
  checked_sized formed =
      let S = Sized (length s) in
      pick_case S _ _ _
      (λ _. pick_case S _ _ _ (λ _. inl (refl, refl)) (λ _. judged_sized (length s) (value_by p s) (value_is formed)))
      (λ e. let z : ◌≡◌ {A = ℕ} 0 1 = cc in absurd (omega arith))

  module _ (room : ℕ) where
    -- A run by a well-formed plan gives nothing else.
    pub run_expected : plan_formed p ≡ true → Expected (length s) (run_of p s room)
    unfolding run_of
    run_expected formed = roomed_expected (length s) room (checked p s) (checked_sized formed)

    -- 33 is given exactly when the plan is not well formed.
    pub exact_33 : (run_of p s room ≡ refused 33 0) ↔ (plan_formed p ≡ false)
    unfolding run_of list_roomed
    exact_33 = (λ e. go (plan_formed p) refl e, λ e. ap (list_roomed room) (unformed_is p s e))
      where
        never : Expected (length s) (refused 33 0) → ⊥
        never x = ⊎_elim (λ a. omega (arith, a.0)) (λ y. ⊎_elim (λ b. omega (arith, b.0.1)) (λ c. omega (arith, c.0)) y) x

        go : (t : Bool) → plan_formed p ≡ t → run_of p s room ≡ refused 33 0 → plan_formed p ≡ false
        go true f e = absurd (never (rw e at (run_expected f)))
        go false f e = f

    -- 28 is given exactly when the plan is well formed and the value has over 65,535 bytes.
    pub exact_28 : (run_of p s room ≡ refused 28 0) ↔ ((plan_formed p ≡ true) × (65535 < length s))
    unfolding run_of list_roomed
    exact_28 = (
      λ e. go (plan_formed p) (ltb 65535 (length s)) refl refl e,
      λ x. ap (list_roomed room) (large_is p s x.0 (lt-ltb 65535 (length s) x.1)),
    )
      where
        go : (t u : Bool) → plan_formed p ≡ t → ltb 65535 (length s) ≡ u → run_of p s room ≡ refused 28 0 → (plan_formed p ≡ true) × (65535 < length s)
        go false u f l e =
            let h : run_of p s room ≡ refused 33 0 = exact_33.1 f in
            let z : ◌≡◌ {A = ℕ} 28 33 = cc in
            absurd (omega arith)
        go true true f l e = (f, ltb-true 65535 (length s) l)
        go true false f l e =
            let n = roomed_number (length s) room 28 0 (value_by p s) (value_is f) (ap (list_roomed room) (sym (small_is p s f l)) ∙ e) in
            absurd (⊎_elim (λ a. omega (arith, a.1)) (λ b. omega arith) n)

    -- 31 is given exactly when the value is accepted and its list has more words than the room.
    pub exact_31 : (run_of p s room ≡ refused 31 0) ↔ ((f : Forest) × (checked p s ≡ accepted f) × (room < length (words f)))
    unfolding run_of list_roomed
    exact_31 = (
      λ e. go (checked p s) refl e,
      λ x. ap (list_roomed room) x.1 ∙ pick_yes _ _ _ (lt-ltb room (length (words x.0)) x.2),
    )
      where
        never : (t : Bool) (n q : ℕ) → plan_formed p ≡ t → checked p s ≡ refused n q → n ≡ 31 → ⊥
        never true n q f c e = ⊎_elim (λ a. omega (arith, a.0)) (λ b. omega (arith, b.0.1)) (rw c at (checked_sized f))
        never false n q f c e = let h = unformed_is p s f in let z : n ≡ 33 = cc in omega arith

        go : (o : ValueOutcome) → checked p s ≡ o → list_roomed room o ≡ refused 31 0 → (f : Forest) × (checked p s ≡ accepted f) × (room < length (words f))
        go (refused n q) c e = absurd (never (plan_formed p) n q refl c (cc))
        go (accepted f) c e =
            ⊎_elim
            (λ y. (f, c, ltb-true room (length (words f)) y.0))
            (λ y. let h = y.1 in let z : ◌≡◌ {A = ℕ} 0 1 = cc in absurd (omega arith))
            (pick_split _ _ _ _ e)
