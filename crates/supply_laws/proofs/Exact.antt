-- The numbers of writing a value are given exactly where R1.3 says: 33, 34 and 32. A value, a source and a list are as lent:
-- the first two are bytes, and the list's are words.
use mathlib.Core.Path.{◌≡◌, refl, sym, ◌∙◌}
use mathlib.Core.Bool.{Bool, true, false}
use mathlib.Core.List.{List, [], ◌∷◌}
use mathlib.Core.Logic.{◌⊎◌, inl, inr, ⊎_elim, ◌↔◌}
use Prim.Native.Nat.{ℕ, ◌<◌}
use native.Mathlib.Omega.{arith}
use lib.Dec.{ltb}
use lib.ListN.{length}
use borrow.Author.Tests.{ltb-true, lt-ltb, le-ltb}
use Rattle.wire.proofs.Picks.{pick_yes, pick_no, pick_split}
use Rattle.supply_laws.proofs.Fields.{Bytes}
use Rattle.supply_laws.proofs.SoundReads.{Words}
use Rattle.supply_laws.proofs.Sound.{sound}
use Rattle.supply_laws.proofs.Written.{supplied_is_bytes}
use Rattle.supply_laws.proofs.Complete.{zeroed_length, complete, refused_none}
use Rattle.protocol.specs.Numbers.{pick}
use Rattle.protocol.specs.Plans.{plan_formed}
use Rattle.protocol.specs.Supplies.{zeroed, HasSupply}
use Rattle.protocol.specs.Building.{Made, wrong, made, made_by, supplied_by, write_of}
use Rattle.protocol.specs.Answers.{Put, refused_put, put_out, output_roomed}

-- of all values that are bytes and are accepted, none has the supply (R8.6)
abbrev pub NoneHas : (p ws src : List ℕ) → Type 0
NoneHas p ws src = (s : List ℕ) → Bytes s → HasSupply p s ws src → ⊥

-- what is supplied is 34 or a value
sized : (b : List ℕ) (t : Bool) → (pick t (refused_put 34) (put_out b) ≡ refused_put 34) ⊎ ((c : List ℕ) × (pick t (refused_put 34) (put_out b) ≡ put_out c))
unfolding pick
sized b true = inl refl
sized b false = inr (b, refl)

either : (m : Made) → (supplied_by m ≡ refused_put 34) ⊎ ((b : List ℕ) × (supplied_by m ≡ put_out b))
unfolding supplied_by
either wrong = inl refl
either (made b (w ∷ ws)) = inl refl
either (made b []) = sized b (ltb 65535 (length b))

-- a plan that is not well formed is 33, and so 34 says that it is
pub refused_formed : (p ws src : List ℕ) (room : ℕ) → write_of p ws src room ≡ refused_put 34 → plan_formed p ≡ true
unfolding write_of
refused_formed p ws src room e =
    ⊎_elim (λ q. q.0) (λ q. let h = q.1 in let z : ◌≡◌ {A = ℕ} 33 34 = cc in absurd (omega arith)) (pick_split _ _ _ _ e)

module _ (p ws src : List ℕ) (formed : plan_formed p ≡ true) where
  refused_is : (room : ℕ) → supplied_by (made_by p ws src) ≡ refused_put 34 → write_of p ws src room ≡ refused_put 34
  unfolding write_of output_roomed pick
  refused_is room e = rw (formed, e)

  written_is : (b : List ℕ) → supplied_by (made_by p ws src) ≡ put_out b → write_of p ws src (length b) ≡ put_out b
  unfolding write_of output_roomed pick
  written_is b e = rw (formed, e, le-ltb (length b) (length b) (omega arith))

  -- where no accepted value has the supply, the call gives 34: else what it makes is one
  pub none_refused : Words ws → Bytes src → NoneHas p ws src → (room : ℕ) → write_of p ws src room ≡ refused_put 34
  none_refused small bytes none room =
      ⊎_elim
      (λ (e : supplied_by (made_by p ws src) ≡ refused_put 34). refused_is room e)
      (λ (e : (b : List ℕ) × (supplied_by (made_by p ws src) ≡ put_out b)).
      let b = e.0 in
      absurd (none b (supplied_is_bytes p ws src bytes b e.1) (sound p ws src (length b) b small (written_is b e.1)).0))
      (either (made_by p ws src))

-- 34 is given exactly when the plan is well formed and no accepted value has the supply, whatever the room.
pub exact_34 : (p ws src : List ℕ) (room : ℕ) → Words ws → Bytes src → (write_of p ws src room ≡ refused_put 34) ↔ ((plan_formed p ≡ true) × NoneHas p ws src)
exact_34 p ws src room small bytes = (
  λ e. (refused_formed p ws src room e, λ s b h. refused_none p s ws src room b e h),
  λ x. none_refused p ws src x.0 small bytes x.1 room,
)

-- ---- 33 and 32

-- what the room makes of 34 or a value is 34, 32 or the value
roomed_short : (room : ℕ) (x : Put) (n : ℕ) → (x ≡ refused_put 34) ⊎ ((b : List ℕ) × (x ≡ put_out b)) → output_roomed room x ≡ refused_put n
    → (n ≡ 34) ⊎ ((n ≡ 32) × ((b : List ℕ) × (x ≡ put_out b) × (room < length b)))
unfolding output_roomed
roomed_short room (refused_put m) n o e =
    ⊎_elim
    (λ (h : refused_put m ≡ refused_put 34). inl (cc))
    (λ (h : (b : List ℕ) × (refused_put m ≡ put_out b)). let g = h.1 in let z : ◌≡◌ {A = ℕ} 0 1 = cc in absurd (omega arith))
    o
roomed_short room (put_out b) n o e =
    ⊎_elim
    (λ (h : (ltb room (length b) ≡ true) × (refused_put 32 ≡ refused_put n)). let g = h.1 in inr (cc, (b, refl, ltb-true room (length b) h.0)))
    (λ (h : (ltb room (length b) ≡ false) × (put_out b ≡ refused_put n)). let g = h.1 in let z : ◌≡◌ {A = ℕ} 0 1 = cc in absurd (omega arith))
    (pick_split _ _ _ _ e)

module _ (p ws src : List ℕ) (room : ℕ) where
  -- a refusal by a well-formed plan
  refused_short : (n : ℕ) → plan_formed p ≡ true → write_of p ws src room ≡ refused_put n
      → (n ≡ 34) ⊎ ((n ≡ 32) × ((b : List ℕ) × (supplied_by (made_by p ws src) ≡ put_out b) × (room < length b)))
  unfolding write_of
  refused_short n f e =
      roomed_short room (supplied_by (made_by p ws src)) n (either (made_by p ws src)) (sym (pick_yes _ _ _ f) ∙ e)

  unformed_is : plan_formed p ≡ false → write_of p ws src room ≡ refused_put 33
  unfolding write_of
  unformed_is f = pick_no _ _ _ f

  -- 33 is given exactly when the plan is not well formed.
  pub exact_33 : (write_of p ws src room ≡ refused_put 33) ↔ (plan_formed p ≡ false)
  exact_33 = (λ e. go (plan_formed p) refl e, unformed_is)
    where
      go : (t : Bool) → plan_formed p ≡ t → write_of p ws src room ≡ refused_put 33 → plan_formed p ≡ false
      go true f e = absurd (⊎_elim (λ a. omega arith) (λ b. omega (arith, b.0)) (refused_short 33 f e))
      go false f e = f

  -- 32 is given exactly when an accepted value has the supply, and is longer than the room.
  pub exact_32 : Words ws → Bytes src → (write_of p ws src room ≡ refused_put 32) ↔ ((s : List ℕ) × Bytes s × HasSupply p s ws src × (room < length s))
  unfolding output_roomed
  exact_32 small bytes = (
    λ e. go (plan_formed p) refl e,
    λ x.
        let s = x.0 in
        let h = x.2 in
        let l : length (zeroed p s) ≡ length s = zeroed_length p s x.1 h.forest h.accepted in
        complete p s ws src room x.1 h ∙ pick_yes _ _ _ (lt-ltb room (length (zeroed p s)) (rw l x.3)),
  )
    where
      go : (t : Bool) → plan_formed p ≡ t → write_of p ws src room ≡ refused_put 32 → (s : List ℕ) × Bytes s × HasSupply p s ws src × (room < length s)
      go true f e =
          ⊎_elim
          (λ a. absurd (omega arith))
          (λ y.
          let b = y.1.0 in
          let m = y.1.1 in
          (b, supplied_is_bytes p ws src bytes b m, (sound p ws src (length b) b small (written_is p ws src f b m)).0, y.1.2))
          (refused_short 32 f e)
      go false f e = let h = unformed_is f in let z : ◌≡◌ {A = ℕ} 32 33 = cc in absurd (omega arith)
