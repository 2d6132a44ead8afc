-- A message, a descriptor and a value are accepted exactly when the definitions' tests pass, one by one.
use mathlib.Core.Path.{◌≡◌, refl, ap, sym, subst, ◌∙◌}
use mathlib.Core.Bool.{Bool, true, false, not}
use mathlib.Core.List.{List, [], ◌∷◌}
use mathlib.Core.Logic.{◌⊎◌, inl, inr, ⊎_elim, ◌↔◌}
use mathlib.Core.Option.{Option, none, some}
use Prim.Native.Nat.{ℕ, ◌+◌, ◌<◌, ◌≤◌}
use native.Mathlib.Omega.{arith}
use lib.ListN.{length, take, drop}
use lib.Seq.{length-take-le}
use borrow.Author.Tests.{eqb-true, eqb-false, eq-eqb, ne_eqb, ltb-true, ltb-false, lt-ltb, le-ltb}
use Rattle.wire.proofs.Picks.{clash, pick_yes, pick_no, pick_split}
use Rattle.message_laws.proofs.Again.{made, used}
use Rattle.message_laws.proofs.Words.{bounded}
use Rattle.message_laws.proofs.Accepted.{is_read}
use Rattle.descriptor_blocks.specs.Descriptor.{Description, refused_by, without_type, described, description_of}
use Rattle.descriptor_blocks.proofs.Numbers.{Refusable, described_refusable}
use Rattle.descriptor_agree.proofs.Whole.{Alike, description_same}
use Rattle.descriptor_compile.proofs.Compiles.{planned_room}
use Rattle.run_compiled.proofs.Demand3.{compiled_is}
use Rattle.find_path.proofs.Calls.{passed}
use Rattle.protocol.specs.Numbers.{pick, be}
use Rattle.protocol.specs.Answers.{Outcome, refused, accepted}
use Rattle.protocol.specs.Messages.{read, fields_read, message_call}
use Rattle.protocol.specs.Descriptors.{Block, bare_form, all_blocks, DescribedType, no_type, block_type, root_in, rooted_at, rooted_blocks, describe}
use Rattle.protocol.specs.Lists.{Forest, words}
use Rattle.protocol.specs.Values.{ValueOutcome}
use Rattle.protocol.specs.Plans.{plan_formed}
use Rattle.protocol.specs.Compiling.{whole_plan, plan_roomed, compile_by}
use Rattle.protocol.specs.Running.{value_by, checked, list_roomed, run_of, admitted}
use Rattle.theorems.specs.Terms.{WholeMessage, TypedDescriptor}

-- ---- messages

module _ (side : ℕ) (s : List ℕ) (room u : ℕ) (ws : List ℕ) where
  read_whole : message_call side s room ≡ read u ws → WholeMessage side s u ws × (length ws ≤ room)
  read_whole e =
      let w = made side s room u ws e in
      let n = used side s room u ws e in (
        record {
          used = n;
          low = w.low;
          high = w.high;
          inside = rw n w.fits;
          layout = w.layout;
          known_type = w.kind;
          fields_are = ap (λ (k : ℕ). fields_read w.layout (take k s) 5) n ∙ w.body.outcome;
        },
        (bounded side s room u ws e).listed,
      )

  whole_read : WholeMessage side s u ws × (length ws ≤ room) → message_call side s room ≡ read u ws
  whole_read x =
      let w = x.0 in
      let n = be (take 4 (drop 1 s)) in
      let k : n + 1 ≤ length s = rw (← w.used) w.inside in
      let size : length (take (n + 1) s) ≡ n + 1 = length-take-le (n + 1) s k in
      is_read side s n u ws
      (record {
        size = refl;
        long = omega (arith, w.low);
        low = w.low;
        high = w.high;
        fits = k;
        layout = w.layout;
        kind = w.known_type;
        body = record { outcome = ap (λ (k : ℕ). fields_read w.layout (take k s) 5) (sym w.used) ∙ w.fields_are; end = omega (arith, size, w.used) };
      }) room x.1

  pub message_exact : (message_call side s room ≡ read u ws) ↔ (WholeMessage side s u ws × (length ws ≤ room))
  message_exact = (read_whole, whole_read)

-- ---- descriptors

-- nothing is refused and accepted
unrefused : {A B : Type 0} (n p : ℕ) (a : A) → refused n p ≡ accepted a → B
unrefused n p a e = let z : ◌≡◌ {A = ℕ} 0 1 = cc in absurd (omega arith)

is_false : (b : Bool) → not b ≡ true → b ≡ false
is_false true e = clash e
is_false false e = refl

is_true : (b : Bool) → not b ≡ false → b ≡ true
is_true true e = refl
is_true false e = clash (sym e)

no_bytes : (d : List ℕ) → length d ≡ 0 → d ≡ []
no_bytes [] e = refl
no_bytes (x ∷ d) e = absurd (omega arith)

-- what is accepted passed the first two tests, and is "no type" or has a root
data Opened (d root : List ℕ) (t : DescribedType) : Type 0 where
  none_in : d ≡ [] → length root ≡ 16 → be root ≡ 0 → no_type ≡ t → Opened d root t
  some_in : length d ≤ 65535 → length root ≡ 16 → (be root ≡ 0 → ⊥) → rooted_blocks (length d) (be root) (all_blocks bare_form d) ≡ accepted t
      → Opened d root t

-- a root is one of the blocks that were read
record Rooted (i : ℕ) (o : Outcome (List Block)) (t : DescribedType) : Type 0 where
  blocks : List Block
  index : ℕ
  blocks_are : o ≡ accepted blocks
  root_is : root_in i blocks ≡ some index
  type_is : block_type blocks index ≡ t

rooted : (size i : ℕ) (o : Outcome (List Block)) (t : DescribedType) → rooted_blocks size i o ≡ accepted t → Rooted i o t
unfolding rooted_blocks rooted_at
rooted size i (refused n p) t e = unrefused n p t e
rooted size i (accepted bs) t e = go (root_in i bs) refl e
  where
    go : (k : Option ℕ) → root_in i bs ≡ k → rooted_at size bs k ≡ accepted t → Rooted i (accepted bs) t
    go none w e = unrefused 18 size t e
    go (some k) w e = record { blocks = bs; index = k; blocks_are = refl; root_is = w; type_is = cc }

module _ (d root : List ℕ) where
  opened : (t : DescribedType) → describe bare_form d root ≡ accepted t → Opened d root t
  unfolding describe
  opened t e =
      ⊎_elim
      (λ z. unrefused _ _ t z.1)
      (λ a.
      ⊎_elim
      (λ z. unrefused _ _ t z.1)
      (λ b.
      ⊎_elim
      (λ c. some_in (ltb-false _ _ a.0) (eqb-true _ _ (is_true _ b.0)) (eqb-false _ _ (is_false _ c.0)) c.1)
      (λ c.
      ⊎_elim
      (λ z. let f = z.1 in none_in (no_bytes d (eqb-true _ _ z.0)) (eqb-true _ _ (is_true _ b.0)) (eqb-true _ _ (is_true _ c.0)) (cc))
      (λ z. unrefused _ _ t z.1)
      (pick_split _ _ _ _ c.1))
      (pick_split _ _ _ _ b.1))
      (pick_split _ _ _ _ a.1))
      (pick_split _ _ _ _ e)

  none_is : describe bare_form d root ≡ accepted no_type → (d ≡ []) × (length root ≡ 16) × (be root ≡ 0)
  none_is e = go (opened no_type e)
    where
      go : Opened d root no_type → (d ≡ []) × (length root ≡ 16) × (be root ≡ 0)
      go (none_in a b c f) = (a, b, c)
      go (some_in a b c f) =
          let r = rooted (length d) (be root) (all_blocks bare_form d) no_type f in
          let h = r.type_is in
          let z : ◌≡◌ {A = ℕ} 0 1 = cc in
          absurd (omega arith)

  is_none : (d ≡ []) × (length root ≡ 16) × (be root ≡ 0) → describe bare_form d root ≡ accepted no_type
  unfolding describe pick
  is_none x = rw (x.0, eq-eqb _ _ x.1, eq-eqb _ _ x.2)

  pub no_type_exact : (describe bare_form d root ≡ accepted no_type) ↔ ((d ≡ []) × (length root ≡ 16) × (be root ≡ 0))
  no_type_exact = (none_is, is_none)

  module _ (bs : List Block) (i : ℕ) where
    typed : describe bare_form d root ≡ accepted (block_type bs i) → TypedDescriptor d root bs i
    typed e = go (opened (block_type bs i) e)
      where
        go : Opened d root (block_type bs i) → TypedDescriptor d root bs i
        go (none_in a b c f) = let z : ◌≡◌ {A = ℕ} 0 1 = cc in absurd (omega arith)
        go (some_in a b c f) =
            let r = rooted (length d) (be root) (all_blocks bare_form d) (block_type bs i) f in
            let h = r.type_is in
            let x : r.blocks ≡ bs = cc in
            let k : r.index ≡ i = cc in
            record { size = a; id_size = b; id_some = c; blocks_are = rw x at r.blocks_are; root_is = rw (x, k) at r.root_is }

    is_typed : TypedDescriptor d root bs i → describe bare_form d root ≡ accepted (block_type bs i)
    unfolding describe rooted_blocks rooted_at pick
    is_typed x = rw (le-ltb _ _ x.size, eq-eqb _ _ x.id_size, ne_eqb _ _ x.id_some, x.blocks_are, x.root_is)

    pub descriptor_exact : (describe bare_form d root ≡ accepted (block_type bs i)) ↔ TypedDescriptor d root bs i
    descriptor_exact = (typed, is_typed)

  -- the code's own definition has these numbers, and so has this one
  pub descriptor_number : (n p : ℕ) → describe bare_form d root ≡ refused n p → (10 ≤ n) × (n ≤ 18) × (p ≤ length d)
  descriptor_number n p e =
      go (description_of d root) (described_refusable d root) (subst (Alike d (description_of d root)) e (description_same d root))
    where
      go : (o : Description) → Refusable d o → Alike d o (refused n p) → (10 ≤ n) × (n ≤ 18) × (p ≤ length d)
      go (refused_by m q) r a = rw (a.0, a.1) at r
      go without_type r a = absurd a
      go (described bs i) r a = absurd a

-- ---- plans

module _ (d root : List ℕ) (room : ℕ) where
  pub plan_exact : (ws : List ℕ)
      → (compile_by bare_form d root room ≡ accepted ws)
      ↔ ((t : DescribedType) × (describe bare_form d root ≡ accepted t) × (ws ≡ whole_plan t) × (length ws ≤ room))
  unfolding compile_by plan_roomed
  plan_exact ws = (
    λ e. let w = compiled_is d root room ws e in (w.type, w.accepts, w.is, planned_room d root room ws e),
    λ x.
        ap (plan_roomed room) x.1
        ∙ pick_no _ _ _ (le-ltb room (length (whole_plan x.0)) (rw x.2 at x.3))
        ∙ ap accepted (sym x.2),
  )

  -- a refusal is the descriptor's own, or the room's
  pub compile_refused : (n p : ℕ) → compile_by bare_form d root room ≡ refused n p
      → (describe bare_form d root ≡ refused n p)
      ⊎ ((n ≡ 30) × ((t : DescribedType) × (describe bare_form d root ≡ accepted t) × (room < length (whole_plan t))))
  unfolding compile_by plan_roomed
  compile_refused n p = go (describe bare_form d root) refl
    where
      go : (o : Outcome DescribedType) → describe bare_form d root ≡ o → plan_roomed room o ≡ refused n p
          → (describe bare_form d root ≡ refused n p)
          ⊎ ((n ≡ 30) × ((t : DescribedType) × (describe bare_form d root ≡ accepted t) × (room < length (whole_plan t))))
      go (refused m q) w e = let a : m ≡ n = cc in let b : q ≡ p = cc in inl (w ∙ rw (a, b) refl)
      go (accepted t) w e =
          ⊎_elim
          (λ q. let f = q.1 in let m : n ≡ 30 = cc in inr (m, (t, w, ltb-true room (length (whole_plan t)) q.0)))
          (λ q. unrefused n p (whole_plan t) (sym q.1))
          (pick_split _ _ _ _ e)

  pub full_exact : (compile_by bare_form d root room ≡ refused 30 0)
      ↔ ((t : DescribedType) × (describe bare_form d root ≡ accepted t) × (room < length (whole_plan t)))
  unfolding compile_by plan_roomed
  full_exact = (
    λ e. ⊎_elim (λ a. absurd (omega (arith, (descriptor_number d root 30 0 a).1))) (λ b. b.1) (compile_refused 30 0 e),
    λ x. ap (plan_roomed room) x.1 ∙ pick_yes _ _ _ (lt-ltb room (length (whole_plan x.0)) x.2),
  )

  pub refused_own : (n p : ℕ) → describe bare_form d root ≡ refused n p → compile_by bare_form d root room ≡ refused n p
  unfolding compile_by plan_roomed
  refused_own n p e = rw e

-- ---- values

module _ (p s : List ℕ) (room : ℕ) (f : Forest) where
  -- what a run lists was accepted, and has room
  pub run_listed : run_of p s room ≡ accepted f → (checked p s ≡ accepted f) × (length (words f) ≤ room)
  unfolding run_of list_roomed
  run_listed e = go (checked p s) refl e
    where
      go : (o : ValueOutcome) → checked p s ≡ o → list_roomed room o ≡ accepted f → (checked p s ≡ accepted f) × (length (words f) ≤ room)
      go (refused n q) w e = let z : ◌≡◌ {A = ℕ} 0 1 = cc in absurd (omega arith)
      go (accepted g) w e =
          ⊎_elim
          (λ q. let h = q.1 in let z : ◌≡◌ {A = ℕ} 0 1 = cc in absurd (omega arith))
          (λ q. let h = q.1 in let g' : g ≡ f = cc in (w ∙ ap accepted g', rw g' at (ltb-false room (length (words g)) q.0)))
          (pick_split _ _ _ _ e)

  pub value_exact : (run_of p s room ≡ accepted f) ↔ ((plan_formed p ≡ true) × (length s ≤ 65535) × (value_by p s ≡ accepted f) × (length (words f) ≤ room))
  unfolding run_of checked list_roomed admitted
  value_exact = (
    λ e. let x = run_listed e in let y = passed p s f x.0 in (y.formed, y.few, y.value, x.1),
    λ x.
        ap (list_roomed room) (pick_yes _ _ _ x.0 ∙ pick_no _ _ _ (le-ltb 65535 (length s) x.1) ∙ x.2)
        ∙ pick_no _ _ _ (le-ltb room (length (words f)) x.3),
  )
