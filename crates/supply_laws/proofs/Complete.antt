-- Completeness: where an accepted value has the supply, what is put out is that value with the reserved fields of its containers zero. So no
-- two accepted values with the supply differ but in those fields, and 34 is given only where no accepted value has it.
use mathlib.Core.Path.{◌≡◌, refl, sym, ◌∙◌}
use mathlib.Core.Bool.{true, false}
use mathlib.Core.List.{List, [], ◌∷◌}
use Prim.Native.Nat.{ℕ, ◌≤◌, ◌<◌}
use native.Mathlib.Omega.{arith}
use lib.Dec.{ltb}
use lib.ListN.{length, get_or}
use borrow.Author.Tests.{eqb-true, ltb-false, le-ltb}
use Rattle.wire.proofs.Picks.{pick_case}
use Rattle.value_laws.proofs.Parts.{stands_self}
use Rattle.supply_laws.proofs.Zeros.{Whole, value_whole}
use Rattle.protocol.specs.Numbers.{pick}
use Rattle.protocol.specs.Lists.{Forest, empty}
use Rattle.protocol.specs.Values.{ValueOutcome, value_of, fuel}
use Rattle.protocol.specs.Answers.{refused, accepted, Put, refused_put, put_out, output_roomed}
use Rattle.protocol.specs.Plans.{look, without_type, plan_formed}
use Rattle.protocol.specs.Running.{nothing_in, value_by, checked, admitted}
use Rattle.protocol.specs.Supplies.{Agrees, zero_value, zeroed, HasSupply}
use Rattle.protocol.specs.Building.{build_of, made_by, supplied_by, write_of}

-- ---- the call

-- what an accepted value is: of no type the one of no bytes (R4.6), and else one of the root's node
data Accepts (p s : List ℕ) (f : Forest) : Type 0 where
  nothing_in_lem : without_type p ≡ true → s ≡ [] → f ≡ empty → Accepts p s f
  value_in : without_type p ≡ false → length s ≤ 65535 → value_of (look p) (get_or p 1 0) 0 0 s ≡ accepted f → Accepts p s f

refuse : {A : Type 0} {n p : ℕ} {f : Forest} → refused n p ≡ accepted f → A
refuse e = let z : ◌≡◌ {A = ℕ} 0 1 = cc in absurd (omega arith)

module _ (p s : List ℕ) where
  accepts : (f : Forest) → checked p s ≡ accepted f → (plan_formed p ≡ true) × Accepts p s f
  unfolding checked value_by nothing_in admitted
  accepts f =
      let P : ValueOutcome → Type 0 = λ o. o ≡ accepted f → (plan_formed p ≡ true) × Accepts p s f in
      pick_case P _ _ _
      (λ formed. pick_case P _ _ _ (λ _ e. refuse e)
      (λ small. pick_case P _ _ _
      (λ none. pick_case P _ _ _ (λ z e. (formed, nothing_in_lem none (no_bytes s (eqb-true _ _ z)) (cc))) (λ _ e. refuse e))
      (λ some e. (formed, value_in some (ltb-false _ _ small) e))))
      (λ _ e. refuse e)
    where
      no_bytes : (s : List ℕ) → length s ≡ 0 → s ≡ []
      no_bytes [] e = refl
      no_bytes (x ∷ s) e = absurd (omega arith)

module _ (p s : List ℕ) (bytes : (i : ℕ) → get_or s i 0 < 256) where
  -- a value that has a type is whole for any source
  of_value : (src : List ℕ) (f : Forest) → length s ≤ 65535 → value_of (look p) (get_or p 1 0) 0 0 s ≡ accepted f
      → Whole (look p) s src 0 (build_of src (look p) (get_or p 1 0) 0) (zero_value (look p) fuel (get_or p 1 0) s) (length s) f
  unfolding value_of build_of
  of_value src f small e =
      let top = stands_self s in
      rw e at (value_whole (look p) s src fuel (get_or p 1 0) 0 0 s top bytes small)

  accepted_length : (f : Forest) → Accepts p s f → length (zeroed p s) ≡ length s
  unfolding zeroed pick
  accepted_length f (nothing_in_lem no_type e g) = rw no_type
  accepted_length f (value_in typed small e) = rw typed (of_value [] f small e).size

  accepted_supplied : (ws src : List ℕ) (f : Forest) → Accepts p s f → Agrees (look p) s src f ws [] → supplied_by (made_by p ws src) ≡ put_out (zeroed p s)
  unfolding supplied_by made_by zeroed pick Agrees
  accepted_supplied ws src f (nothing_in_lem no_type e g) a = let over : ws ≡ [] = rw g at a in rw (no_type, over, e)
  accepted_supplied ws src f (value_in typed small e) a =
      let w = of_value src f small e in
      rw (typed, (w.makes ws [] a).is, w.size, le-ltb 65535 (length s) small)

  -- An accepted value is as long with its containers' reserved fields zero.
  pub zeroed_length : (f : Forest) → checked p s ≡ accepted f → length (zeroed p s) ≡ length s
  zeroed_length f e = accepted_length f (accepts p s f e).1

  -- what is made of its supply, whatever the room
  pub supplied : (ws src : List ℕ) → HasSupply p s ws src → supplied_by (made_by p ws src) ≡ put_out (zeroed p s)
  supplied ws src h = accepted_supplied ws src h.forest (accepts p s h.forest h.accepted).1 h.agrees

-- Where an accepted value has the supply, that value is put out with its containers' reserved fields zero, or the room is too small for it.
pub complete : (p s ws src : List ℕ) (room : ℕ) → ((i : ℕ) → get_or s i 0 < 256) → HasSupply p s ws src → write_of p ws src room ≡ output_roomed room (put_out (zeroed p s))
unfolding write_of pick
complete p s ws src room bytes h = rw ((accepts p s h.forest h.accepted).0, supplied p s bytes ws src h)

-- Where 34 is given, no accepted value has the supply.
pub refused_none : (p s ws src : List ℕ) (room : ℕ) → ((i : ℕ) → get_or s i 0 < 256) → write_of p ws src room ≡ refused_put 34 → HasSupply p s ws src → ⊥
unfolding output_roomed
refused_none p s ws src room bytes e h =
    let P : Put → Type 0 = λ x. x ≡ refused_put 34 → ⊥ in
    pick_case P (ltb room (length (zeroed p s))) (refused_put 32) (put_out (zeroed p s))
    (λ _ d. let z : ◌≡◌ {A = ℕ} 32 34 = cc in omega arith)
    (λ _ d. let z : ◌≡◌ {A = ℕ} 0 1 = cc in omega arith)
    (sym (complete p s ws src room bytes h) ∙ e)

-- Accepted values that have one supply are the same but for their containers' reserved fields.
pub one_value : (p s s' ws src : List ℕ) → ((i : ℕ) → get_or s i 0 < 256) → ((i : ℕ) → get_or s' i 0 < 256) → HasSupply p s ws src → HasSupply p s' ws src
    → zeroed p s ≡ zeroed p s'
one_value p s s' ws src bytes bytes' h h' =
    let x = supplied p s bytes ws src h in
    let y = supplied p s' bytes' ws src h' in
    cc
