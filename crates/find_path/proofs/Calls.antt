-- The laws of the call: what a check says of the value, and where its path then leads.
use mathlib.Core.Path.{◌≡◌, refl, sym}
use mathlib.Core.Bool.{Bool, true, false}
use mathlib.Core.List.{List}
use Prim.Native.Nat.{ℕ, ◌^◌, ◌<◌, ◌≤◌}
use native.Mathlib.Omega.{arith}
use lib.Dec.{eqb, ltb}
use lib.ListN.{length, get_or}
use borrow.Author.Tests.{ltb-false}
use Rattle.value_laws.proofs.Parts.{stands_self}
use Rattle.plan_nodes.proofs.Nodes.{at_root}
use Rattle.run_plan.specs.Run.{Checks}
use Rattle.std.specs.Prelude.{Result, Ok, Err}
use Rattle.forms.specs.declared.fault.Refusal.{Refusal}
use Rattle.run_plan.proofs.Runs.{found, turned_down}
use Rattle.find_path.specs.Descent.{descend}
use Rattle.find_path.proofs.Paths.{follow_nowhere, Accepts, Led, leads}
use Rattle.protocol.specs.Numbers.{pick}
use Rattle.protocol.specs.Lists.{Forest, empty}
use Rattle.protocol.specs.Values.{ValueOutcome, value_of}
use Rattle.protocol.specs.Answers.{refused, accepted}
use Rattle.protocol.specs.Plans.{look, without_type, plan_formed}
use Rattle.plan_nodes.specs.Readers.{At}
use Rattle.protocol.specs.Running.{nothing_in, value_by, checked, admitted}
use Rattle.protocol.specs.Finding.{top_of, follow, unfound, found_at, found_in, find_of}

-- what it takes for a value to be accepted
pub record Passed (p s : List ℕ) (f : Forest) : Type 0 where
  pub formed : plan_formed p ≡ true
  pub few : length s ≤ 65535
  pub value : value_by p s ≡ accepted f

passed_by : (s : List ℕ) (a : Bool) (o : ValueOutcome) (f : Forest) → pick a (pick (ltb 65535 (length s)) (refused 28 0) o) (refused 33 0) ≡ accepted f
    → (a ≡ true) × (length s ≤ 65535) × (o ≡ accepted f)
unfolding pick
passed_by s true o f e = go (ltb 65535 (length s)) refl e
  where
    go : (b : Bool) → ltb 65535 (length s) ≡ b → pick b (refused 28 0) o ≡ accepted f → (true ≡ true) × (length s ≤ 65535) × (o ≡ accepted f)
    go true l x = let z : ◌≡◌ {A = ℕ} 0 1 = cc in absurd (omega arith)
    go false l x = (refl, ltb-false 65535 (length s) l, x)
passed_by s false o f e = let z : ◌≡◌ {A = ℕ} 0 1 = cc in absurd (omega arith)

pub passed : (p s : List ℕ) (f : Forest) → checked p s ≡ accepted f → Passed p s f
unfolding checked admitted
passed p s f e = let x = passed_by s (plan_formed p) (value_by p s) f e in record { formed = x.0; few = x.1; value = x.2 }

-- no type lists nothing (R6.8)
none_listed : (b : Bool) (f : Forest) → pick b (accepted empty) (refused 21 0) ≡ accepted f → f ≡ empty
unfolding pick
none_listed true f e = cc
none_listed false f e = let z : ◌≡◌ {A = ℕ} 0 1 = cc in absurd (omega arith)

module _ (p s : List ℕ) (f : Forest) (e : checked p s ≡ accepted f) where
  pub nothing_listed : without_type p ≡ true → f ≡ empty
  unfolding value_by nothing_in pick
  nothing_listed n = none_listed (eqb (length s) 0) f (rw n at (passed p s f e).value)

  module _ (n : without_type p ≡ false) (r : ℕ) (er : r ≡ get_or p 1 0) (a : At p r) where
    pub root_listed : value_of (look p) r 0 0 s ≡ accepted f
    unfolding value_by pick
    root_listed = rw (n, ← er) at (passed p s f e).value

    pub led : (path : List ℕ) → Led p s (follow path (top_of f)) (descend (look p) path r 0 s)
    led path = leads p s (passed p s f e).few path r a 0 0 s f (omega arith) (stands_self s) root_listed

module _ (p s : List ℕ) (a : Result ℕ Refusal) (k k' : List ℕ) (c : Checks (length s) (checked p s) a k k') where
  pub finds_refused : (path : List ℕ) (r : Refusal) → a ≡ Err r → unfound r.fault r.place ≡ find_of p s path
  unfolding find_of found_in
  finds_refused path r e = rw (turned_down _ _ a k k' c r e)

  module _ (w : ℕ) (e : a ≡ Ok w) where
    abbrev pub forest : Forest
    forest = (found _ _ a k k' c w e).forest

    is_accepted : checked p s ≡ accepted forest
    is_accepted = (found _ _ a k k' c w e).is

    pub sound : Passed p s forest
    sound = passed p s forest is_accepted

    pub finds_nothing : (path : List ℕ) → without_type p ≡ true → unfound 35 0 ≡ find_of p s path
    unfolding find_of found_in found_at top_of
    finds_nothing path n = rw (is_accepted, nothing_listed p s forest is_accepted n, follow_nowhere path)

    module _ (n : without_type p ≡ false) (r : ℕ) (er : r ≡ get_or p 1 0) (at-r : At p r) where
      pub finds_down : (path : List ℕ) → descend (look p) path r 0 s ≡ find_of p s path
      unfolding find_of found_in
      finds_down path = rw is_accepted (sym (led p s forest is_accepted n r er at-r path).found_is)

-- ---- what is found is an accepted value of a node

module _ (p s path : List ℕ) (small : (j : ℕ) → get_or p j 0 < 2 ^ 32) where
  listed_accepts : (f : Forest) → checked p s ≡ accepted f → (c : Bool) → without_type p ≡ c → Accepts p (found_at s (follow path (top_of f)))
  unfolding found_at top_of Accepts
  listed_accepts f e true n = rw (nothing_listed p s f e n, follow_nowhere path) tt
  listed_accepts f e false n =
      let l = led p s f e n (get_or p 1 0) refl (at_root p (passed p s f e).formed n small) path in
      rw l.found_is l.accepts

  outcome_accepts : (o : ValueOutcome) → checked p s ≡ o → Accepts p (found_in s path o)
  unfolding found_in Accepts
  outcome_accepts (refused n q) e = tt
  outcome_accepts (accepted f) e = listed_accepts f e (without_type p) refl

  pub find_accepts : Accepts p (find_of p s path)
  unfolding find_of
  find_accepts = outcome_accepts (checked p s) refl
