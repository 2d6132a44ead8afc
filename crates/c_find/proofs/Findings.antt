-- The laws of finding on bytes.
use mathlib.Core.Path.{◌≡◌, refl}
use mathlib.Core.Bool.{true, false}
use mathlib.Core.List.{List}
use Prim.Native.Nat.{ℕ, ◌≤◌}
use native.Mathlib.Omega.{arith}
use lib.Dec.{eqb}
use lib.ListN.{length, length-take, length-drop}
use Rattle.wire.proofs.Picks.{pick_case}
use Rattle.run_plan.specs.Run.{Checks}
use Rattle.std.specs.Prelude.{Result, Ok, Err}
use Rattle.forms.specs.declared.fault.Refusal.{Refusal}
use Rattle.run_plan.proofs.Runs.{found, turned_down}
use Rattle.find_path.proofs.Calls.{passed}
use Rattle.protocol.specs.Numbers.{pick}
use Rattle.protocol.specs.Constants.{ABSENT}
use Rattle.protocol.specs.Values.{ValueOutcome}
use Rattle.protocol.specs.Answers.{refused, accepted}
use Rattle.protocol.specs.Running.{checked}
use Rattle.protocol.specs.Finding.{Spot, nowhere, spot, top_of, follow, Found, unfound, found as foundPart, found_at, found_in, find_of}
use Rattle.protocol.specs.Crossing.{words_in, crosses, no_path, find_from}

-- ---- a path that does not cross

module _ (plan p s : List ℕ) (e : p ≡ words_in plan) (a : Result ℕ Refusal) (k k' : List ℕ) (c : Checks (length s) (checked p s) a k k') where
  pub lost_refused : (r : Refusal) → a ≡ Err r → unfound r.fault r.place ≡ no_path (checked (words_in plan) s)
  unfolding no_path
  lost_refused r x = rw (← e, turned_down _ _ a k k' c r x)

  pub lost_listed : (w : ℕ) → a ≡ Ok w → unfound 35 0 ≡ no_path (checked (words_in plan) s)
  unfolding no_path
  lost_listed w r = rw (← e, (found _ _ a k k' c w r).is)

-- ---- a part is no longer than the value, which is short

unfoldable Few : ℕ → Found → Type 0
Few n (unfound m q) = Unit {0}
Few n (foundPart k a b) = length b ≤ n

few_more : (n m : ℕ) → n ≤ m → (x : Found) → Few n x → Few m x
unfolding Few
few_more n m l (unfound k q) f = tt
few_more n m l (foundPart k a b) f = omega (arith, f)

spot_few : (t : List ℕ) (x : Spot) → Few (length t) (found_at t x)
unfolding found_at Few
spot_few t nowhere = tt
spot_few t (spot e below) =
    pick_case (Few (length t)) (eqb e.size ABSENT) (unfound 36 0) _ (λ _. tt) (λ _. simp (length-take, length-drop) (omega arith))

outcome_few : (p s path : List ℕ) (o : ValueOutcome) → checked p s ≡ o → Few 65535 (found_in s path o)
unfolding found_in Few
outcome_few p s path (refused n q) e = tt
outcome_few p s path (accepted f) e = few_more (length s) 65535 (passed p s f e).few _ (spot_few s (follow path (top_of f)))

none_few : (o : ValueOutcome) → Few 65535 (no_path o)
unfolding no_path Few
none_few (refused n q) = tt
none_few (accepted f) = tt

all_few : (plan value path : List ℕ) → Few 65535 (find_from plan value path)
unfolding find_from find_of Few
all_few plan value path =
    pick_case (Few 65535) (crosses (length plan)) _ (unfound 33 0)
    (λ _. pick_case (Few 65535) (crosses (length path)) _ _ (λ _. outcome_few (words_in plan) value (words_in path) _ refl) (λ _. none_few (checked (words_in plan) value)))
    (λ _. tt)

pub part_few : (plan value path : List ℕ) (k a : ℕ) (b : List ℕ) → foundPart k a b ≡ find_from plan value path → length b ≤ 65535
unfolding Few
part_few plan value path k a b e = rw (← e) at (all_few plan value path)

-- ---- the crossing

module _ (plan value path : List ℕ) where
  pub find_uncrossed : crosses (length plan) ≡ false → unfound 33 0 ≡ find_from plan value path
  unfolding find_from pick
  find_uncrossed e = rw e

  module _ (e : crosses (length plan) ≡ true) where
    pub find_lost : crosses (length path) ≡ false → no_path (checked (words_in plan) value) ≡ find_from plan value path
    unfolding find_from pick
    find_lost d = rw (e, d)

    pub find_crossed : crosses (length path) ≡ true → (p q : List ℕ) → p ≡ words_in plan → q ≡ words_in path
        → find_of p value q ≡ find_from plan value path
    unfolding find_from pick
    find_crossed d p q ep eq = rw (e, d, ep, eq)
