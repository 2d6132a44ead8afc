-- The laws of compiling: the root, the tests in their order, what an answer says of the outcome, and the plan's room.
use mathlib.Core.Path.{◌≡◌, refl, ap, ap₂, sym, ◌∙◌}
use mathlib.Core.Logic.{⊎_elim}
use mathlib.Core.Bool.{Bool, true, false}
use mathlib.Core.List.{List, [], ◌∷◌, ◌++◌}
use Prim.Native.Nat.{ℕ, suc, ◌<◌, ◌≤◌}
use native.Mathlib.Decide.{dec_lt}
use native.Mathlib.Omega.{arith}
use native.Mathlib.Nat.{zero-add}
use lib.Dec.{eqb, ltb}
use lib.ListN.{length, drop, set, get_or, length-map}
use lib.Seq.{sets, sets-eq, set_comm}
use borrow.Author.Tests.{lt-ltb, le-ltb, ltb-false, eq-eqb, ne_eqb}
use Rattle.wire.proofs.Picks.{pick_yes, pick_no, pick_split}
use Rattle.protocol.specs.Descriptors.{bare_form, DescribedType, describe}
use Rattle.descriptor_fields.specs.Layouts.{valued}
use Rattle.descriptor_fields.specs.Fields.{Known, no_block, id_at, index_in}
use Rattle.descriptor_blocks.specs.Descriptor.{node_at, Block, summary, summaries, all_words, Blocks, faulty, whole, blocks_of, index_of, tag_at}
use Rattle.descriptor_blocks.specs.Descriptor.{root_at, refused_by, without_type, described, rooted, Description, description_of, plan_words, Compiled, refused_plan, plan}
use Rattle.descriptor_blocks.specs.Descriptor.{plan_of, roomed, compile_of}
use Rattle.descriptor_fields.specs.Arrays.{known_at, known_of}
use Rattle.descriptor_fields.proofs.Known.{known_length, known_get}
use Rattle.descriptor_scan.specs.Scan.{Kept, Scans}
use Rattle.descriptor_compile.specs.Compile.{answer_of, Gives}
use Rattle.descriptor_compile.specs.Checking.{checked_answer, Stored, Checks, root_of, root_node}
use Rattle.std.specs.Prelude.{Result, Ok, Err, Option, Some, None}
use Rattle.forms.specs.declared.fault.Refusal.{Refusal}
use Rattle.descriptor_scan.specs.declared.Scanned.{Scanned}
use Rattle.descriptor_names.proofs.Earlier.{index_below}
use Rattle.descriptor_agree.proofs.Whole.{refused_by_lem, planned_by}
use Rattle.descriptor_nodes.proofs.Roots.{tag_same, tag_out}
use Rattle.protocol.specs.Numbers.{pick}
use Rattle.protocol.specs.Answers.{Outcome, refused, accepted}
use Rattle.protocol.specs.Compiling.{whole_plan, plan_roomed, compile_by, plan_after}

-- ---- two words put in front last

set_first : (ws l : List ℕ) (i k a : ℕ) → i < k → sets (set l i a) k ws ≡ set (sets l k ws) i a
set_first [] l i k a h = refl
set_first (w ∷ ws) l i k a h =
    ap (λ (m : List ℕ). sets m (suc k) ws) (set_comm l i k a w (λ (e : i ≡ k). omega arith)) ∙ set_first ws (set l k w) i (suc k) a (omega arith)

front : (l ws : List ℕ) (a b : ℕ) → sets (sets l 2 ws) 0 (a ∷ b ∷ []) ≡ sets l 0 (a ∷ b ∷ ws)
front l ws a b = sym (set_first ws (set l 0 a) 1 2 b (omega arith) ∙ ap (λ (m : List ℕ). set m 1 b) (set_first ws l 0 2 a (omega arith)))

-- ---- refusals

abbrev refusal : ℕ → ℕ → Refusal
refusal n p = record { fault = n; place = p }

refuses : (o : Compiled) (n p : ℕ) (l l' : List ℕ) → o ≡ refused_plan n p → Checks o (Err (refusal n p)) l l'
unfolding checked_answer Stored
refuses o n p l l' e = rw e (record { answer = refl; words = tt })

-- ---- the blocks

pub record Finished (d : List ℕ) (t : Blocks) (n to : ℕ) (known l l' : List ℕ) : Type 0 where
  pub bs : List Block
  pub is : t ≡ whole bs
  pub kept : Kept d known n to bs
  pub words : l' ≡ sets l 2 (all_words bs)

finished_in : (d : List ℕ) (t : Blocks) (x : Scanned) (known l l' : List ℕ) → Scans d t (Ok x) known l l' → Finished d t x.count x.end known l l'
unfolding Scans
finished_in d (faulty m q) x known l l' s = absurd s
finished_in d (whole bs) x known l l' s = record { bs = bs; is = refl; kept = s.0; words = s.1 }

faulty_in : (d : List ℕ) (t : Blocks) (r : Refusal) (known l l' : List ℕ) → Scans d t (Err r) known l l' → t ≡ faulty r.fault r.place
unfolding Scans
faulty_in d (faulty n p) r known l l' s = ap₂ faulty (sym s.0) (sym s.1)
faulty_in d (whole bs) r known l l' s = absurd s

-- the node of the root, as the code looks for it
pub root_missing : (d : List ℕ) (ks : List Known) (i : ℕ) → None ≡ index_in d ks i → None ≡ root_node d ks i
unfolding root_of root_node
root_missing d ks i e = ap (root_of ks) e

module _ (d a : List ℕ) (n i k : ℕ) (e : Some k ≡ index_in d (known_of d a n) i) where
  pub root_below : k < n
  root_below = let h = index_below d i (known_of d a n) k (sym e) in omega (arith, known_length d a n)

  root_is : root_node d (known_of d a n) i ≡ pick (valued (known_at d a k).tag) (Some (known_at d a k).node) None
  unfolding root_of root_node node_at
  root_is =
      ap (root_of (known_of d a n)) (sym e)
      ∙ ap (λ (b : Known). pick (valued b.tag) (Some b.node) None) (known_get d a n k root_below)

  module _ (t : ℕ) (p : t ≡ (known_at d a k).tag) (v : Bool) (q : v ≡ valued t) where
    pub root_valued : v ≡ true → (w : ℕ) → w ≡ (known_at d a k).node → Some w ≡ root_node d (known_of d a n) i
    root_valued h w r = ap Some r ∙ sym (root_is ∙ pick_yes _ _ _ (ap valued (sym p) ∙ sym q ∙ h))

    pub root_valueless : v ≡ false → None ≡ root_node d (known_of d a n) i
    root_valueless h = sym (root_is ∙ pick_no _ _ _ (ap valued (sym p) ∙ sym q ∙ h))

-- what the node of the root says of the description: there is none, or the root is the block that has it
abbrev pub RootSame : List ℕ → List Block → Description → Option ℕ → Type 0
RootSame d bs x v =
    ((v ≡ None) → x ≡ refused_by 18 (length d)) × ((w : ℕ) → v ≡ Some w → (k : ℕ) × (x ≡ described bs k) × (w ≡ node_at (summaries bs) k))

root_same : (d : List ℕ) (bs : List Block) (o : Option ℕ) → ((k : ℕ) → o ≡ Some k → k < length bs) → (v : Option ℕ) → v ≡ root_of (summaries bs) o
    → RootSame d bs (root_at d bs o) v
unfolding root_of root_at
root_same d bs None h v e =
    (λ z. refl, λ w z. let f = sym z ∙ e in let n : ◌≡◌ {A = ℕ} 0 1 = cc in absurd (omega arith))
root_same d bs (Some k) h v e = go (valued (tag_at bs k)) refl
  where
    same : valued (get_or (summaries bs) k no_block).tag ≡ valued (tag_at bs k)
    same = ap valued (sym (tag_same bs k (h k refl)))

    go : (t : Bool) → valued (tag_at bs k) ≡ t → RootSame d bs (pick (valued (tag_at bs k)) (described bs k) (refused_by 18 (length d))) v
    go true q =
        let f = e ∙ pick_yes _ _ _ (same ∙ q) in
        (λ z. let n : ◌≡◌ {A = ℕ} 0 1 = cc in absurd (omega arith), λ w z. (k, pick_yes _ _ _ q, cc))
    go false q =
        let f = e ∙ pick_no _ _ _ (same ∙ q) in
        (λ z. pick_no _ _ _ q, λ w z. let n : ◌≡◌ {A = ℕ} 0 1 = cc in absurd (omega arith))

module _ (d : List ℕ) (i : ℕ) (known l l' : List ℕ) where
  pub blocks_refused : (r : Refusal) → Scans d (blocks_of d) (Err r) known l l' → (k' : List ℕ) → Checks (plan_of (rooted d i (blocks_of d))) (Err r) l k'
  unfolding plan_of rooted
  blocks_refused r g k' =
      refuses (plan_of (rooted d i (blocks_of d))) r.fault r.place l k' (ap (λ (t : Blocks). plan_of (rooted d i t)) (faulty_in d (blocks_of d) r known l l' g))

  module _ (x : Scanned) (g : Scans d (blocks_of d) (Ok x) known l l') where
    pub ended : Finished d (blocks_of d) x.count x.end known l l'
    ended = finished_in d (blocks_of d) x known l l' g

    abbrev bs : List Block
    bs = ended.bs

    rooted_is : rooted d i (blocks_of d) ≡ root_at d bs (index_of d bs i)
    unfolding rooted
    rooted_is = ap (rooted d i) ended.is

    module _ (v : Option ℕ) (w : v ≡ root_node d (known_of d known x.count) i) where
      same : RootSame d bs (root_at d bs (index_of d bs i)) v
      unfolding root_node
      same =
          root_same d bs (index_of d bs i)
          (λ k e. let h = index_below d i (summaries bs) k e in let m : length (summaries bs) ≡ length bs = length-map bs summary in omega arith)
          v (w ∙ ap (λ (ks : List Known). root_node d ks i) ended.kept.same)

      pub blocks_rootless : v ≡ None → Checks (plan_of (rooted d i (blocks_of d))) (Err (refusal 18 (length d))) l l'
      unfolding plan_of
      blocks_rootless e = refuses (plan_of (rooted d i (blocks_of d))) 18 (length d) l l' (ap plan_of (rooted_is ∙ same.0 e))

      pub blocks_planned : (f : ℕ) → v ≡ Some f → (p : List ℕ) → p ≡ sets l' 0 (x.end ∷ f ∷ []) → Checks (plan_of (rooted d i (blocks_of d))) (Ok x.end) l p
      unfolding plan_of plan_words checked_answer Stored
      blocks_planned f e p q =
          let s = same.1 f e in
          let o : plan_of (rooted d i (blocks_of d)) ≡ plan (plan_words bs s.0) = ap plan_of (rooted_is ∙ s.1) in
          rw o
          (record {
            answer = let m : x.end ≡ suc (suc (length (all_words bs))) = omega (arith, ended.kept.end) in ap Ok m;
            words =
                q ∙ ap (λ (m : List ℕ). sets m 0 (x.end ∷ f ∷ [])) ended.words ∙ front l (all_words bs) x.end f
                ∙ ap₂ (λ (a b : ℕ). sets l 0 (a ∷ b ∷ all_words bs)) ended.kept.end s.2;
          })

-- ---- the tests, in their order

module _ (d root l l' : List ℕ) where
  pub check_large : 65535 < length d → Checks (plan_of (description_of d root)) (Err (refusal 17 0)) l l'
  unfolding description_of plan_of
  check_large h = refuses _ 17 0 l l' (ap plan_of (pick_yes _ _ _ (lt-ltb 65535 (length d) h)))

  module _ (h : length d ≤ 65535) where
    small : ltb 65535 (length d) ≡ false
    small = le-ltb 65535 (length d) h

    pub check_short : (length root ≡ 16 → ⊥) → Checks (plan_of (description_of d root)) (Err (refusal 18 (length d))) l l'
    unfolding description_of plan_of
    check_short n = refuses _ 18 (length d) l l' (ap plan_of (pick_no _ _ _ small ∙ pick_no _ _ _ (ne_eqb _ _ n)))

    module _ (e : length root ≡ 16) where
      pub check_rest : eqb (id_at root 0) 0 ≡ false → (r : Result ℕ Refusal) → Checks (plan_of (rooted d (id_at root 0) (blocks_of d))) r l l' → Checks (plan_of (description_of d root)) r l l'
      unfolding description_of
      check_rest z r c =
          let o : description_of d root ≡ rooted d (id_at root 0) (blocks_of d) = pick_no _ _ _ small ∙ pick_yes _ _ _ (eq-eqb _ _ e) ∙ pick_no _ _ _ z in
          rw o c

      module _ (z : eqb (id_at root 0) 0 ≡ true) where
        pub check_zero : (length d ≡ 0 → ⊥) → Checks (plan_of (description_of d root)) (Err (refusal 18 (length d))) l l'
        unfolding description_of plan_of
        check_zero n = refuses _ 18 (length d) l l' (ap plan_of (pick_no _ _ _ small ∙ pick_yes _ _ _ (eq-eqb _ _ e) ∙ pick_yes _ _ _ z ∙ pick_no _ _ _ (ne_eqb _ _ n)))

        pub check_none : length d ≡ 0 → l' ≡ sets l 0 (2 ∷ 0 ∷ []) → Checks (plan_of (description_of d root)) (Ok 2) l l'
        unfolding description_of plan_of checked_answer Stored
        check_none n w =
            let o : description_of d root ≡ without_type = pick_no _ _ _ small ∙ pick_yes _ _ _ (eq-eqb _ _ e) ∙ pick_yes _ _ _ z ∙ pick_yes _ _ _ (eq-eqb _ _ n) in
            rw o (record { answer = refl; words = w })

-- ---- what an answer says of the outcome

-- an accepted descriptor: its plan, and that it is in the scratch room
pub record Found (o : Compiled) (w : ℕ) (l l' : List ℕ) : Type 0 where
  pub words : List ℕ
  pub is : o ≡ plan words
  pub count : w ≡ length words
  pub stored : l' ≡ sets l 0 words

found_in : (o : Compiled) (w : ℕ) (l l' : List ℕ) → Ok w ≡ checked_answer o → Stored o l l' → Found o w l l'
unfolding checked_answer Stored
found_in (refused_plan n p) w l l' e s = let z : ◌≡◌ {A = ℕ} 0 1 = cc in absurd (omega arith)
found_in (plan ws) w l l' e s = record { words = ws; is = refl; count = cc; stored = s }

refused_in : (o : Compiled) (r : Refusal) → Err r ≡ checked_answer o → o ≡ refused_plan r.fault r.place
unfolding checked_answer
refused_in (refused_plan m q) r e = let f : r ≡ refusal m q = cc in rw f
refused_in (plan ws) r e = let z : ◌≡◌ {A = ℕ} 0 1 = cc in absurd (omega arith)

module _ (o : Compiled) (l l' : List ℕ) where
  pub found : (w : ℕ) → Checks o (Ok w) l l' → Found o w l l'
  found w c = found_in o w l l' c.answer c.words

  pub turned_down : (r : Refusal) → Checks o (Err r) l l' → o ≡ refused_plan r.fault r.place
  turned_down r c = refused_in o r c.answer

-- ---- the call

module _ (d root k k' l : List ℕ) where
  pub gives_refused : (r : Refusal) → Checks (plan_of (description_of d root)) (Err r) k k' → Gives (compile_by bare_form d root (length l)) (Err r) l l
  unfolding compile_of roomed answer_of plan_after
  gives_refused r c =
      let o = turned_down _ k k' r c in
      rw (refused_by_lem d root (length l) r.fault r.place (rw o)) (record { answer = refl; plan = refl })

  module _ (w : ℕ) (c : Checks (plan_of (description_of d root)) (Ok w) k k') where
    f : Found (plan_of (description_of d root)) w k k'
    f = found _ k k' w c

    pub gives_full : length l < w → Gives (compile_by bare_form d root (length l)) (Err (refusal 30 0)) l l
    unfolding compile_of roomed answer_of plan_after pick
    gives_full h =
        let h' : length l < length f.words = omega (arith, f.count) in
        rw (refused_by_lem d root (length l) 30 0 (rw (f.is, lt-ltb _ _ h'))) (record { answer = refl; plan = refl })

    pub gives_planned : w ≤ length l → (a : Result ℕ Refusal) (l' : List ℕ) → Checks (plan_of (description_of d root)) a l l' → Gives (compile_by bare_form d root (length l)) a l l'
    unfolding compile_of roomed answer_of plan_after checked_answer Stored pick
    gives_planned h a l' b =
        let h' : length f.words ≤ length l = omega (arith, f.count) in
        let g = rw f.is at b.words in
        let r = rw f.is at b.answer in
        rw (planned_by d root (length l) f.words (rw (f.is, le-ltb _ _ h')))
        (record {
          answer = r;
          plan = g ∙ sets-eq f.words l 0 (omega arith) ∙ ap (λ (n : ℕ). f.words ++ drop n l) (zero-add (length f.words));
        })

-- what an answer says of the outcome
pub refused_of : (o : Outcome (List ℕ)) (r : Refusal) → Err r ≡ answer_of o → o ≡ refused r.fault r.place
unfolding answer_of
refused_of (refused m q) r e = let f : r ≡ refusal m q = cc in rw f
refused_of (accepted ws) r e = let z : ◌≡◌ {A = ℕ} 0 1 = cc in absurd (omega arith)

-- ---- its room

-- a plan that is given fits its room
pub planned_room : (d root : List ℕ) (room : ℕ) (ws : List ℕ) → compile_by bare_form d root room ≡ accepted ws → length ws ≤ room
unfolding compile_by plan_roomed
planned_room d root room ws = go (describe bare_form d root)
  where
    go : (o : Outcome DescribedType) → plan_roomed room o ≡ accepted ws → length ws ≤ room
    go (refused n p) e = let z : ◌≡◌ {A = ℕ} 0 1 = cc in absurd (omega arith)
    go (accepted t) e =
        ⊎_elim
        (λ (q : (ltb room (length (whole_plan t)) ≡ true) × (refused 30 0 ≡ accepted ws)). let f = q.1 in let z : ◌≡◌ {A = ℕ} 0 1 = cc in absurd (omega arith))
        (λ (q : (ltb room (length (whole_plan t)) ≡ false) × (accepted (whole_plan t) ≡ accepted ws)). let f = q.1 in
        let v : whole_plan t ≡ ws = cc in
        let h = ltb-false room (length (whole_plan t)) q.0 in
        rw v at h)
        (pick_split (ltb room (length (whole_plan t))) (refused 30 0) (accepted (whole_plan t)) (accepted ws) e)
