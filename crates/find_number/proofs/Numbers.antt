-- The number of what was found: a scalar that is accepted is permitted, and its number is the call's.
use mathlib.Core.Path.{◌≡◌, refl, sym, ◌∙◌}
use mathlib.Core.Bool.{Bool, true, false}
use mathlib.Core.List.{List}
use Prim.Native.Nat.{ℕ, ◌+◌}
use native.Mathlib.Omega.{arith}
use lib.ListN.{get_or}
use Rattle.std.specs.Prelude.{Result, Err}
use Rattle.forms.specs.declared.fault.Refusal.{Refusal}
use Rattle.plan_nodes.proofs.Looks.{look_leaf}
use Rattle.value_parts.specs.Walk.{leaf_kind, leaf_good}
use Rattle.value_parts.proofs.Members.{value_leaf}
use Rattle.find_path.proofs.Paths.{Accepts}
use Rattle.find_number.specs.Number.{shown, Proper, Gives}
use Rattle.find_number.specs.declared.Number.{Number}
use Rattle.protocol.specs.Numbers.{pick}
use Rattle.protocol.specs.Scalars.{scalar}
use Rattle.protocol.specs.Lists.{Forest}
use Rattle.protocol.specs.Answers.{accepted}
use Rattle.protocol.specs.Values.{leaf_rule, value_of}
use Rattle.protocol.specs.Plans.{look}
use Rattle.plan_nodes.specs.Readers.{At}
use Rattle.protocol.specs.Finding.{Found, unfound, found as foundPart, of_node, of_found}

-- a scalar that is accepted is permitted
leaf_permitted : (good : Bool) (k i base : ℕ) (s : List ℕ) (f : Forest) → leaf_rule good k i base s ≡ accepted f → good ≡ true
unfolding leaf_rule pick
leaf_permitted true k i base s f e = refl
leaf_permitted false k i base s f e = let z : ◌≡◌ {A = ℕ} 0 1 = cc in absurd (omega arith)

pub scalar_permitted : (p : List ℕ) (k : ℕ) → At p k → get_or p k 0 ≡ 1 → (i base : ℕ) (b : List ℕ) (f : Forest) → value_of (look p) k i base b ≡ accepted f → scalar (get_or p (k + 1) 0) b ≡ true
unfolding leaf_kind leaf_good pick
scalar_permitted p k a e i base b f h =
    let g = leaf_permitted (leaf_good (look p k) b) k i base b f (sym (value_leaf p k a (rw e refl) i base b) ∙ h) in
    rw (look_leaf p k e) at g

-- what is found, or why nothing is
module _ (p : List ℕ) (x : Found) where
  pub number_refused : (r : Refusal) → unfound r.fault r.place ≡ x → Gives (of_found p x) (Err r)
  unfolding of_found shown Proper
  number_refused r e = rw (← e) (record { is = refl; proper = tt })

  module _ (k at : ℕ) (b : List ℕ) (e : foundPart k at b ≡ x) where
    pub number_node : Accepts p x → (At p k) × (get_or p k 0 ≡ 1 → scalar (get_or p (k + 1) 0) b ≡ true)
    unfolding Accepts
    number_node a = let y = rw (← e) at a in (y.0, λ g. scalar_permitted p k y.0 g y.1.0 at b y.1.1 y.1.2)

    pub number_found : (r : Result Number Refusal) → Gives (of_node (look p k) b) r → Gives (of_found p x) r
    unfolding of_found
    number_found r g = rw (← e) g
