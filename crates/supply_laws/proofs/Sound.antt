-- What is written is accepted by the rules, has the supply, and its containers' reserved fields are zero.
use mathlib.Core.Path.{◌≡◌, refl, ap, sym, ◌∙◌}
use mathlib.Core.Logic.{⊎_elim}
use mathlib.Core.Bool.{Bool, true, false}
use mathlib.Core.List.{List, [], ◌∷◌, ◌++◌, append-nil, append_assoc}
use Prim.Native.Nat.{ℕ, zero, suc, ◌*◌, ◌^◌, ◌<◌, ◌≤◌}
use native.Mathlib.Omega.{arith}
use lib.Dec.{ltb, eqb}
use lib.ListN.{length, take, drop, get_or, length-append}
use lib.Seq.{take-append_seam, drop-append_seam}
use borrow.Author.Tests.{eqb-true, leb-true, ltb-false, le-ltb, eq-eqb, not-true}
use Rattle.std.specs.Prelude.{Ok}
use Rattle.wire.proofs.Picks.{both, pick_split, pick_yes, pick_no}
use Rattle.value_parts.specs.Walk.{IsRow}
use Rattle.supply_laws.proofs.SoundHeads.{Tail, tail_take, row_present, row_absent, sparse_present, sparse_absent, Opens, opens}
use Rattle.supply_laws.proofs.SoundReads.{not_made, passed, spared, After, before_parts, Words, words_drop, next_is, Reads, reads_under, reads_alone, agree_present, Laws, Inner, elements_back}
use Rattle.protocol.specs.Heads.{opening}
use Rattle.protocol.specs.Scalars.{scalar, enumeration}
use Rattle.protocol.specs.Constants.{ABSENT}
use Rattle.protocol.specs.Nodes.{Node, leaf, enum, row, arrays, tuple, object, sparse, range, ref_at}
use Rattle.protocol.specs.Lists.{empty, tree, entry_of}
use Rattle.protocol.specs.Answers.{accepted, Put, refused_put, put_out, output_roomed}
use Rattle.protocol.specs.Values.{under, Rule, Form, elements, row_form, sparse_form, no_marks, opening_of, leaf_rule, row_rule, sparse_rule, by_node, value, value_of, fuel}
use Rattle.protocol.specs.Plans.{look, without_type, plan_formed}
use Rattle.protocol.specs.Running.{nothing_in, value_by, checked, admitted}
use Rattle.protocol.specs.Supplies.{Claim, Next, short, next, next_of, SameLeaf, SameBytes, Agrees, HasSupply, zero_opening, zero_elements, zero_row, zero_sparse, zero_node, zero_value, zeroed}
use Rattle.protocol.specs.Building.{Made, wrong, made, Builder, Front, no_front, front, front_of, head_bytes, Order, row_order, sparse_order}
use Rattle.protocol.specs.Building.{may_lack, elements_made, leaf_made, row_made, sparse_made, node_made, entry_made, build, build_of, made_by}
use Rattle.protocol.specs.Building.{supplied_by, write_of}

-- ---- both orders

row_laws : (v : Node) (s : List ℕ) → IsRow v → Laws row_order (row_form v s) v s
row_laws v s x =
    record {
      there = λ st i at n more admitted _ few fit w. rw (eqb-true st i admitted) (row_present s i at n more few fit v x w);
      not_there = λ st i at more admitted _ may w. rw (eqb-true st i admitted) (row_absent s i at more v x may w);
      onward = λ st h. refl;
      ends = λ st. refl;
    }

sparse_laws : (refs cards s : List ℕ) → Laws (sparse_order cards) (sparse_form cards s) (sparse refs cards) s
unfolding head_bytes may_lack
sparse_laws refs cards s =
    record {
      there = λ st i at n more admitted small few fit w.
          let a = both _ _ admitted in
          sparse_present s cards st i at n more small a.0 (not-true _ a.1) w (omega arith) fit;
      not_there = λ st i at more admitted small may w.
          let a = both _ _ admitted in
          sparse_absent s cards st i at ABSENT more small a.0 (not-true _ a.1) w refl (not-true _ may);
      onward = λ st h. refl;
      ends = λ st. refl;
    }

-- ---- a value by its node

leaf_good_lem : (good : Bool) (k i base : ℕ) (s : List ℕ) → good ≡ true → leaf_rule good k i base s ≡ accepted (tree (entry_of k i base (length s)) empty empty)
unfolding leaf_rule
leaf_good_lem good k i base s e = pick_yes _ _ _ e

-- c is the entry at the front of ws, of a present value of the node with the key k and of the index i
record Claims (k i : ℕ) (ws : List ℕ) (c : Claim) (ws' : List ℕ) : Type 0 where
  entry : next_of ws ≡ next c ws'
  node : c.node ≡ k
  index : c.index ≡ i
  there : eqb c.size ABSENT ≡ false

module _ (look : ℕ → Node) (t src : List ℕ) (k i base : ℕ) (ws : List ℕ) (c : Claim) (ws' : List ℕ) (x : Claims k i ws c ws') (small : Words ws)
    (b rest more : List ℕ) (few : length b < 2 ^ 30) (stands : Tail t base (b ++ more)) where
  words_after : Words ws'
  words_after = rw (next_is ws c ws' x.entry).1 at (words_drop 5 ws small)

  leaf_back : (good : List ℕ → Bool) → leaf_made good src c ws' ≡ made b rest
      → (SameLeaf t src base (length b) c.start c.size → SameBytes t src (look k) base (length b) c.start c.size)
      → Reads look t src 1 (leaf_rule (good b) k i base b) b b ws rest
  unfolding leaf_made SameLeaf
  leaf_back good e same =
      let count = passed _ _ b rest e in
      let fit = passed _ _ b rest count.1 in
      let fine = passed _ _ b rest fit.1 in
      let m = fine.1 in
      let p : take c.size (drop c.start src) ≡ b = cc in
      let q : ws' ≡ rest = cc in
      rw (leaf_good_lem (good b) k i base b (rw p at fine.0))
      (reads_alone look t src (entry_of k i base (length b)) b b ws c rest (rw q at x.entry)
      (agree_present look t src (look k) k i base (length b) 0 c x.node x.index (sym (eqb-true _ _ count.0)) x.there (omega arith)
      (same (leb-true _ _ fit.0, tail_take b more stands ∙ sym p)))
      refl (rw q at words_after))

  module _ (rule : Builder) (rules : Rule) (zrule : ℕ → List ℕ → List ℕ) (inner : Inner look t src rule rules zrule) where
    module _ (v : Node) (kind : look k ≡ v) {S : Type 0} (order : Order S) (form : Form S) (laws : Laws order form v b) (st : S) (o : List ℕ) (first : ℕ)
        (head : Opens v src c o first) (a : After (elements_made order rule v c.count st ws') o b rest) where
      begins : Tail b (length o) a.last
      begins =
          record {
            inside = omega (arith, ap length a.bytes, length-append o a.last);
            is = ap (drop (length o)) a.bytes ∙ drop-append_seam o a.last;
          }

      below : Reads look t src c.count (elements form rules (ref_at v) base b c.count st (length o)) (zero_elements form zrule v b c.count st (length o)) a.last ws' rest
          × (4 * c.count ≤ length a.last)
      below =
          elements_back look t src rule rules zrule inner v base b more stands few order form laws c.count st ws' a.last rest (length o) words_after a.made_is begins

      opening_back : opening_of v b ≡ Ok (opening c.count first (length o))
      opening_back =
          ap (opening_of v) a.bytes
          ∙ head.opening (omega (arith, below.1, ap length a.bytes, length-append o a.last)) a.last

      container_back : Reads look t src 1 (under (entry_of k i base (length b)) (elements form rules (ref_at v) base b c.count st (length o)))
          (zero_opening v (take (length o) b) ++ zero_elements form zrule v b c.count st (length o)) b ws rest
      container_back =
          reads_under look t src c.count (entry_of k i base (length b)) _ _ _ a.last o b ws rest c ws' x.entry
          (rw kind
          (agree_present look t src v k i base (length b) c.count c x.node x.index refl x.there (omega arith)
          (head.same t base (length b) (a.last ++ more) (rw (a.bytes, append_assoc) at stands))))
          (ap (zero_opening v) (ap (take (length o)) a.bytes ∙ take-append_seam o a.last) ∙ head.zero_is)
          a.bytes
          below.0

    row_back : (v : Node) → look k ≡ v → IsRow v → (h : Front) → front_of v src c ≡ h → row_made rule v h c ws' ≡ made b rest
        → Reads look t src 1 (row_rule v rules (opening_of v b) k i base b) (zero_row zrule v (opening_of v b) b) b ws rest
    unfolding row_made row_rule zero_row
    row_back v kind y no_front is e = not_made e
    row_back v kind y (front o first) is e =
        let a = before_parts o (elements_made row_order rule v c.count first ws') b rest e in
        let head = opens src c o first v is in
        let laws = row_laws v b y in
        rw (opening_back v kind row_order (row_form v b) laws first o first head a) (container_back v kind row_order (row_form v b) laws first o first head a)

    sparse_back : (refs cards : List ℕ) → look k ≡ sparse refs cards → (h : Front) → front_of (sparse refs cards) src c ≡ h → sparse_made rule refs cards h c ws' ≡ made b rest
        → Reads look t src 1 (sparse_rule refs cards rules (opening_of (sparse refs cards) b) k i base b) (zero_sparse zrule refs cards (opening_of (sparse refs cards) b) b) b ws rest
    unfolding sparse_made sparse_rule zero_sparse
    sparse_back refs cards kind no_front is e = not_made e
    sparse_back refs cards kind (front o first) is e =
        let v = sparse refs cards in
        let order = sparse_order cards in
        let form = sparse_form cards b in
        let a = before_parts o (elements_made order rule v c.count no_marks ws') b rest e in
        let head = opens src c o first v is in
        let laws = sparse_laws refs cards b in
        rw (opening_back v kind order form laws no_marks o first head a) (container_back v kind order form laws no_marks o first head a)

    node_back : (v : Node) → look k ≡ v → node_made src v rule c ws' ≡ made b rest → Reads look t src 1 (by_node v rules k i base b) (zero_node v zrule b) b ws rest
    unfolding node_made by_node zero_node IsRow SameBytes
    node_back (leaf f) kind e = leaf_back (scalar f) e (λ same. rw kind same)
    node_back enum kind e = leaf_back enumeration e (λ same. rw kind same)
    node_back (row r) kind e = row_back (row r) kind tt _ refl e
    node_back (arrays r) kind e = row_back (arrays r) kind tt _ refl e
    node_back (tuple refs) kind e = row_back (tuple refs) kind tt _ refl e
    node_back (object refs cards) kind e = row_back (object refs cards) kind tt _ refl e
    node_back (sparse refs cards) kind e = sparse_back refs cards kind _ refl e
    node_back (range r) kind e = row_back (range r) kind tt _ refl e

-- ---- a value by its key

module _ (look : ℕ → Node) (t src : List ℕ) (rule : Builder) (rules : Rule) (zrule : ℕ → List ℕ → List ℕ) (inner : Inner look t src rule rules zrule)
    (k i : ℕ) (ws b rest : List ℕ) (small : Words ws) (few : length b < 2 ^ 30) (base : ℕ) (more : List ℕ) (stands : Tail t base (b ++ more)) where
  entry_back : (x : Next) → next_of ws ≡ x → entry_made src (look k) rule k i x ≡ made b rest → Reads look t src 1 (by_node (look k) rules k i base b) (zero_node (look k) zrule b) b ws rest
  unfolding entry_made
  entry_back short entry e = not_made e
  entry_back (next c ws') entry e =
      let node = passed _ _ b rest e in
      let index = passed _ _ b rest node.1 in
      let there = spared _ _ b rest index.1 in
      node_back look t src k i base ws c ws' (record { entry = entry; node = eqb-true _ _ node.0; index = eqb-true _ _ index.0; there = there.0 })
      small b rest more few stands rule rules zrule inner (look k) refl there.1

pub build_back : (look : ℕ → Node) (t src : List ℕ) (f : ℕ) → Inner look t src (build src look f) (value look f) (zero_value look f)
unfolding build value zero_value
build_back look t src zero k i ws b rest small e few base more stands = not_made e
build_back look t src (suc f) k i ws b rest small e few base more stands =
    entry_back look t src (build src look f) (value look f) (zero_value look f) (build_back look t src f) k i ws b rest small few base more stands (next_of ws) refl e

-- ---- what is put out

not_put : {A : Type 0} {n : ℕ} {b : List ℕ} → refused_put n ≡ put_out b → A
not_put e = let z : ◌≡◌ {A = ℕ} 0 1 = cc in absurd (omega arith)

roomed_out : (room : ℕ) (x : Put) (b : List ℕ) → output_roomed room x ≡ put_out b → x ≡ put_out b
unfolding output_roomed
roomed_out room (refused_put n) b e = not_put e
roomed_out room (put_out c) b e = ⊎_elim (λ p. not_put p.1) (λ p. p.1) (pick_split _ _ _ _ e)

supplied_out : (m : Made) (b : List ℕ) → supplied_by m ≡ put_out b → (m ≡ made b []) × (length b ≤ 65535)
unfolding supplied_by
supplied_out wrong b e = not_put e
supplied_out (made c (w ∷ ws)) b e = not_put e
supplied_out (made c []) b e =
    ⊎_elim
    (λ p. not_put p.1)
    (λ (p : (ltb 65535 (length c) ≡ false) × (put_out c ≡ put_out b)).
    let h = p.1 in
    let q : c ≡ b = cc in
    (rw q, rw q at (ltb-false 65535 (length c) p.0)))
    (pick_split _ _ _ _ e)

module _ (p ws src b : List ℕ) (small : Words ws) (formed : plan_formed p ≡ true) (fits : length b ≤ 65535) where
  checked_by : checked p b ≡ value_by p b
  unfolding checked admitted
  checked_by = pick_yes _ _ _ formed ∙ pick_no _ _ _ (le-ltb 65535 (length b) fits)

  -- no type (R8.11)
  none_sound : without_type p ≡ true → made [] ws ≡ made b [] → HasSupply p b ws src × (zeroed p b ≡ b)
  unfolding value_by nothing_in Agrees zeroed
  none_sound t e =
      let nil : b ≡ [] = cc in (
        record {
          forest = empty;
          accepted = checked_by ∙ pick_yes _ _ _ t ∙ pick_yes _ _ _ (eq-eqb (length b) 0 (ap length nil));
          agrees = cc;
        },
        pick_yes _ _ _ t,
      )

  some_sound : without_type p ≡ false → build_of src (look p) (get_or p 1 0) 0 ws ≡ made b [] → HasSupply p b ws src × (zeroed p b ≡ b)
  unfolding value_by value_of build_of zeroed
  some_sound t e =
      let x = build_back (look p) b src fuel (get_or p 1 0) 0 ws b [] small e (omega arith) 0 [] (record { inside = omega arith; is = sym (append-nil b) }) in (
        record {
          forest = x.forest;
          accepted = checked_by ∙ pick_no _ _ _ t ∙ x.is;
          agrees = x.agrees;
        },
        pick_no _ _ _ t ∙ x.zeros_are,
      )

  made_sound : made_by p ws src ≡ made b [] → HasSupply p b ws src × (zeroed p b ≡ b)
  unfolding made_by
  made_sound e = ⊎_elim (λ q. none_sound q.0 q.1) (λ q. some_sound q.0 q.1) (pick_split _ _ _ _ e)

-- the list's words are below 2 ^ 32, and of the plan's words and the source's bytes nothing is asked
pub sound : (p ws src : List ℕ) (room : ℕ) (b : List ℕ) → Words ws → write_of p ws src room ≡ put_out b → HasSupply p b ws src × (zeroed p b ≡ b)
unfolding write_of
sound p ws src room b small e =
    ⊎_elim
    (λ (q : (plan_formed p ≡ true) × (output_roomed room (supplied_by (made_by p ws src)) ≡ put_out b)).
    let m = supplied_out (made_by p ws src) b (roomed_out room (supplied_by (made_by p ws src)) b q.1) in
    made_sound p ws src b small q.0 m.1 m.0)
    (λ q. not_put q.1)
    (pick_split _ _ _ _ e)
