-- The laws of a leaf that is put out with its head at once.
use mathlib.Core.Path.{◌≡◌, refl, ap, sym, ◌∙◌}
use mathlib.Core.Bool.{Bool, true, false}
use mathlib.Core.List.{List}
use mathlib.Core.Option.{some}
use Prim.Native.Nat.{ℕ, ◌+◌, ◌-◌, ◌<◌, ◌≤◌}
use native.Mathlib.Omega.{arith}
use native.Mathlib.Nat.{add-sub_cancel_left}
use lib.Dec.{eqb, ltb}
use Rattle.std.specs.Prelude.{Option, Some, None}
use lib.ListN.{length, take, drop, get_or}
use lib.Seq.{sets}
use Rattle.value_scalars.specs.Sizes.{Fixed}
use borrow.Author.Tests.{eq-eqb, ne_eqb, lt-ltb, le-ltb}
use Rattle.plan_nodes.proofs.Refs.{kind_gives}
use Rattle.value_parts.specs.Walk.{leaf_good, Container}
use Rattle.value_parts.proofs.Nodes.{good_scalar}
use Rattle.supply_entries.specs.Emitting.{claim, stands, put_at, head_of, head_size, leaf_size, LeafPut}
use Rattle.supply_entries.specs.declared.Entry.{Entry}
use Rattle.value_parts.proofs.Containers.{leaf_only}
use Rattle.supply_entries.proofs.Parts.{leaf_done, member_go}
use Rattle.supply_entries.proofs.Values.{value_leaf}
use Rattle.protocol.specs.Numbers.{pick}
use Rattle.protocol.specs.Scalars.{of_size}
use Rattle.protocol.specs.Constants.{ABSENT}
use Rattle.protocol.specs.Nodes.{ref_at}
use Rattle.protocol.specs.Plans.{look}
use Rattle.plan_nodes.specs.Readers.{At}
use Rattle.protocol.specs.Supplies.{Claim, next, next_of}
use Rattle.protocol.specs.Building.{part_made, build_of}

-- ---- whether its bytes are permitted

-- by their number alone
pub fits_size : (p : List ℕ) (k kind : ℕ) → kind ≡ get_or p k 0 → kind ≡ 1 → (f : ℕ) → f ≡ get_or p (k + 1) 0 → (size : ℕ) → Fixed f size → 0 < size
    → (part : List ℕ) → eqb (length part) size ≡ leaf_good (look p k) part
unfolding of_size
fits_size p k kind is one f ef size fixed z part = sym (fixed.rule z part) ∙ good_scalar p k kind is part f ef one

-- ---- its head and its bytes

module _ (src p : List ℕ) (k kind : ℕ) (is : Container p k kind) (c : Claim) (r : ℕ) (er : ref_at (look p k) c.index ≡ some r)
    (a : At p r) (en : c.node ≡ r) (z : c.count ≡ 0) (at : ℕ) (out : List ℕ) where
  pub leaf_put : (h : ℕ) → h ≡ head_size kind → at + (h + c.size) ≤ 65535 → c.start + c.size ≤ length src
      → (part : List ℕ) → part ≡ take (c.start + c.size - c.start) (drop c.start src) → leaf_good (look p r) part ≡ true
      → (out₁ : List ℕ) → out₁ ≡ sets out (at + h) part → (out₂ : List ℕ) → out₂ ≡ sets out₁ at (head_of kind c.index c.size)
      → (rest ws : List ℕ) → next_of ws ≡ next c rest
      → stands rest (at + (h + c.size)) out₂ ≡ put_at (part_made (build_of src (look p)) (look p k) (ref_at (look p k) c.index) c rest ws) at out
  leaf_put h eh small inside part ep fit out₁ o₁ out₂ o₂ rest ws e =
      let there : c.size ≡ ABSENT → ⊥ = λ g. omega arith in
      let q : stands rest (at + h + c.size) out₁ ≡ put_at (build_of src (look p) r c.index ws) (at + h) out =
      leaf_done (leaf_good (look p r)) src c rest (at + h) out z inside part ep (leaf_good (look p r) part) refl fit (omega arith) out₁ o₁
      ∙ value_leaf src p r a c rest ws e there (at + h) out en (leaf_only p r (kind_gives p r a) part fit) in
      let s : at + (h + c.size) ≡ at + h + c.size = omega arith in
      rw s
      (member_go p k kind is (build_of src (look p)) c rest ws r er at out there h eh rest (at + h + c.size) out₁ q out₂
      (o₂ ∙ ap (λ (m : ℕ). sets out₁ at (head_of kind c.index m)) (sym (add-sub_cancel_left (at + h) c.size))))

-- ---- what is put out, and when

module _ (src p : List ℕ) (k kind : ℕ) (e : Entry) (child : ℕ) (er : ref_at (look p k) e.index ≡ some child) (at : ℕ) (out : List ℕ) where
  known_to : (r : Option ℕ) → r ≡ leaf_size src p kind child e at → (child' : ℕ) → ref_at (look p k) e.index ≡ some child' → r ≡ leaf_size src p kind child' e at
  known_to r q child' er' = let z : some child ≡ some child' = sym er ∙ er' in let y : child ≡ child' = cc in rw y at q

  none_put : None ≡ leaf_size src p kind child e at → LeafPut src p k kind e at out None out
  none_put q =
      record { is = known_to None q; kept = λ _. refl; put = λ to z. cc }

  pub put_stranger : (e.node ≡ child → ⊥) → LeafPut src p k kind e at out None out
  unfolding leaf_size pick
  put_stranger n = none_put (rw (ne_eqb e.node child n))

  module _ (en : e.node ≡ child) where
    pub put_above : (e.count ≡ 0 → ⊥) → LeafPut src p k kind e at out None out
    unfolding leaf_size pick
    put_above n = none_put (rw (eq-eqb e.node child en, ne_eqb e.count 0 n))

    module _ (ec : e.count ≡ 0) (h : ℕ) (eh : h ≡ head_size kind) where
      pub put_large : 65535 < at + (h + e.size) → LeafPut src p k kind e at out None out
      unfolding leaf_size pick
      put_large l = none_put (rw (eq-eqb e.node child en, eq-eqb e.count 0 ec, lt-ltb 65535 (at + (head_size kind + e.size)) (rw (← eh) l)))

      module _ (small : at + (h + e.size) ≤ 65535) where
        fits : ltb 65535 (at + (head_size kind + e.size)) ≡ false
        fits = le-ltb 65535 (at + (head_size kind + e.size)) (rw (← eh) small)

        pub put_outside : length src < e.start + e.size → LeafPut src p k kind e at out None out
        unfolding leaf_size pick
        put_outside l = none_put (rw (eq-eqb e.node child en, eq-eqb e.count 0 ec, fits, lt-ltb (length src) (e.start + e.size) l))

        module _ (inside : e.start + e.size ≤ length src) (part : List ℕ) (ep : part ≡ take (e.start + e.size - e.start) (drop e.start src)) (b : Bool) (eb : b ≡ leaf_good (look p child) part) where
          judged : pick b (Some (h + e.size)) None ≡ leaf_size src p kind child e at
          unfolding leaf_size pick
          judged =
              let g : part ≡ take e.size (drop e.start src) = rw add-sub_cancel_left at ep in
              rw (eq-eqb e.node child en, eq-eqb e.count 0 ec, fits, le-ltb (length src) (e.start + e.size) inside, ← g, ← eb, ← eh)

          pub put_bad : b ≡ false → LeafPut src p k kind e at out None out
          unfolding pick
          put_bad f = none_put (rw f at judged)

          pub put_good : Container p k kind → At p child → b ≡ true → (out₁ : List ℕ) → out₁ ≡ sets out (at + h) part
              → (out₂ : List ℕ) → out₂ ≡ sets out₁ at (head_of kind e.index e.size) → LeafPut src p k kind e at out (Some (h + e.size)) out₂
          unfolding pick
          put_good is a t out₁ o₁ out₂ o₂ =
              record {
                is = known_to (Some (h + e.size)) (rw t at judged);
                kept = λ z. cc;
                put = λ n z rest ws q.
                    let y : h + e.size ≡ n = cc in
                    rw (← y) (leaf_put src p k kind is (claim e) child er a en ec at out h eh small inside part ep (sym eb ∙ t) out₁ o₁ out₂ o₂ rest ws q);
              }
