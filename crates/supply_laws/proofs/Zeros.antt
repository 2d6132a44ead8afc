-- An accepted value with its containers' reserved fields zero is as long as the value, and is what is made of every supply that agrees
-- with the value's entries. By induction over the rules, and over the elements whatever the container's form.
use mathlib.Core.Path.{◌≡◌, refl, ap, sym, ◌∙◌}
use mathlib.Core.Bool.{Bool, true, false}
use mathlib.Core.List.{List, [], ◌++◌}
use mathlib.Core.Option.{Option, none, some}
use Prim.Native.Nat.{ℕ, zero, suc, ◌+◌, ◌≤◌}
use native.Mathlib.Omega.{arith}
use native.Mathlib.Nat.{add-zero}
use lib.Dec.{eqb}
use lib.ListN.{length, take, drop, length-append, length-take, length-drop}
use borrow.Author.Tests.{eqb-true, le-leb, eq-eqb, ne_eqb}
use Rattle.std.specs.Prelude.{Result, Ok, Err}
use Rattle.wire.proofs.Picks.{pick_case}
use Rattle.forms.specs.declared.Opening.{Opening}
use Rattle.forms.specs.declared.Head.{Head}
use Rattle.forms.specs.declared.Head.TheVariants.{Present, Absent}
use Rattle.value_laws.proofs.Widths.{elements_width}
use Rattle.value_laws.proofs.Parts.{Stands, stands_whole, stands_part}
use Rattle.supply_laws.proofs.Fields.{Bytes, bytes_part, HeadOf, Element, Again, row_again, sparse_again, Opens, Opened, opened}
use Rattle.protocol.specs.Numbers.{pick}
use Rattle.protocol.specs.Scalars.{scalar, enumeration}
use Rattle.protocol.specs.Constants.{ABSENT}
use Rattle.protocol.specs.Heads.{end_of}
use Rattle.protocol.specs.Nodes.{Node, leaf, enum, row, arrays, tuple, object, sparse, range, ref_at}
use Rattle.protocol.specs.Lists.{Entry, Forest, empty, tree, append, width, entry_of}
use Rattle.protocol.specs.Values.{ValueOutcome, then, under, Rule, absent, present, element_outcome, Form, container_end, elements, row_form}
use Rattle.protocol.specs.Values.{sparse_form, no_marks, leaf_rule, row_rule, sparse_rule, by_node, value}
use Rattle.protocol.specs.Answers.{refused, accepted}
use Rattle.protocol.specs.Supplies.{Claim, Next, next, next_of, SameLeaf, SameBytes, SamePart, Agree, AgreeNext, Agrees, zero_opening}
use Rattle.protocol.specs.Supplies.{zero_head, between, zero_part, zero_member, zero_elements, zero_row, zero_sparse, zero_node, zero_value}
use Rattle.protocol.specs.Building.{Made, made, made_before, then_made, Builder, front, front_of, Order, row_order, sparse_order, may_lack}
use Rattle.protocol.specs.Building.{absent_made, headed, part_made, member_made, state_after, elements_made, leaf_made, row_made, sparse_made}
use Rattle.protocol.specs.Building.{node_made, entry_made, build}

-- ---- the entries of a supply

module _ (look : ℕ → Node) (t src : List ℕ) where
  -- entries side by side
  agrees_split : (f g : Forest) (ws rest : List ℕ) → Agrees look t src (append f g) ws rest
      → (mid : List ℕ) × (Agrees look t src f ws mid) × (Agrees look t src g mid rest)
  unfolding Agrees append
  agrees_split empty g ws rest a = (ws, refl, a)
  agrees_split (tree e below sib) g ws rest a =
      let s = agrees_split sib g a.1.0 rest a.1.2 in
      (s.0, (a.0, (a.1.0, a.1.1, s.1)), s.2)

  -- an entry that agrees with the next of the supply
  agree_next : (v : Node) (e : Entry) (c : ℕ) (ws : List ℕ) → AgreeNext v t src e c (next_of ws)
      → (d : Claim) × (next_of ws ≡ next d (drop 5 ws)) × Agree v t src e c d
  unfolding AgreeNext next_of
  agree_next v e c ws =
      let P : Next → Type 0 = λ x. AgreeNext v t src e c x → (d : Claim) × (x ≡ next d (drop 5 ws)) × Agree v t src e c d in
      pick_case P _ _ _ (λ _ h. absurd h) (λ _ h. (_, refl, h))

  -- ---- what is made of the entries of an accepted value

  -- of a value with an index: its entry is present, and z is made
  pub record Makes (i : ℕ) (b : List ℕ → Made) (z ws rest : List ℕ) : Type 0 where
    pub claim : Claim
    pub first : next_of ws ≡ next claim (drop 5 ws)
    pub index : i ≡ claim.index
    pub present : eqb claim.size ABSENT ≡ false
    pub is : b ws ≡ made z rest

  -- z has n bytes, and is made wherever the supply agrees
  pub record Whole (i : ℕ) (b : List ℕ → Made) (z : List ℕ) (n : ℕ) (g : Forest) : Type 0 where
    pub size : length z ≡ n
    pub makes : (ws rest : List ℕ) → Agrees look t src g ws rest → Makes i b z ws rest

  abbrev pub Completes : ℕ → (List ℕ → Made) → List ℕ → ℕ → ValueOutcome → Type 0
  Completes i b z n (refused m p) = Unit {0}
  Completes i b z n (accepted g) = Whole i b z n g

  -- of the elements of a container, from a position to its end at n
  record Row (b : List ℕ → Made) (z : List ℕ) (at n : ℕ) (g : Forest) : Type 0 where
    size : at + length z ≡ n
    makes : (ws rest : List ℕ) → Agrees look t src g ws rest → b ws ≡ made z rest

  abbrev RowOf : (List ℕ → Made) → List ℕ → ℕ → ℕ → ValueOutcome → Type 0
  RowOf b z at n (refused m p) = Unit {0}
  RowOf b z at n (accepted g) = Row b z at n g

  -- of one of them, with the state after it
  record One {S : Type 0} (b : List ℕ → Made) (after : List ℕ → S) (z : List ℕ) (at end n : ℕ) (st : S) (g : Forest) : Type 0 where
    size : at + length z ≡ end
    inside : end ≤ n
    makes : (ws rest : List ℕ) → Agrees look t src g ws rest → (b ws ≡ made z rest) × (after ws ≡ st)

  abbrev OneOf : {S : Type 0} → (List ℕ → Made) → (List ℕ → S) → List ℕ → ℕ → ℕ → ℕ → S → ValueOutcome → Type 0
  OneOf b after z at end n st (refused m p) = Unit {0}
  OneOf b after z at end n st (accepted g) = One b after z at end n st g

  -- one element and the rest
  one_then : {S : Type 0} (b : List ℕ → Made) (after : List ℕ → S) (more : S → List ℕ → Made) (z zs : List ℕ) (at end n : ℕ) (st : S) (x y : ValueOutcome)
      → OneOf b after z at end n st x → (end ≤ n → RowOf (more st) zs end n y) → RowOf (λ ws. then_made (b ws) (more (after ws))) (z ++ zs) at n (then x y)
  unfolding then then_made made_before
  one_then b after more z zs at end n st (refused m p) y h k = tt
  one_then b after more z zs at end n st (accepted f) (refused m p) h k = tt
  one_then b after more z zs at end n st (accepted f) (accepted g) h k =
      let r = k h.inside in
      record {
        size = omega (arith, length-append z zs, h.size, r.size);
        makes = λ ws rest a.
            let s = agrees_split f g ws rest a in
            let o = h.makes ws s.0 s.1 in
            rw (o.0, o.1, r.makes s.0 rest s.2);
      }

  -- ---- a container, with what is known of the values that it refers to

  -- a rule, what is made of its values, and their zeroing
  abbrev pub Known : Rule → Builder → (ℕ → List ℕ → List ℕ) → Type 0
  Known rule build zeroing = (k i base : ℕ) (s : List ℕ) → Stands t base s → Bytes s → length s ≤ 65535 → Completes i (build k i) (zeroing k s) (length s) (rule k i base s)

  module _ (rule : Rule) (build : Builder) (zeroing : ℕ → List ℕ → List ℕ) (known : Known rule build zeroing)
      (v : Node) (base : ℕ) (s : List ℕ) (stands : Stands t base s) (bytes : Bytes s) (small : length s ≤ 65535) where
    module _ {S : Type 0} (form : Form S) (order : Order S) (st : S) (at : ℕ) where
      -- what is made of the next element, and the state after it
      abbrev Member : List ℕ → ℕ → S → ValueOutcome → Type 0
      Member z end st' = OneOf (λ ws. member_made order build v st ws (next_of ws)) (λ ws. state_after order build v st (next_of ws)) z at end (length s) st'

      module _ (i start n : ℕ) (st' : S) (el : Element order v s st at st' i start n) (d : Claim) (ws : List ℕ) (first : next_of ws ≡ next d (drop 5 ws)) (index : i ≡ d.index) where
        state_made : state_after order build v st (next_of ws) ≡ st'
        unfolding state_after
        state_made = rw (first, ← index) el.after

        part_made_lem : member_made order build v st ws (next_of ws) ≡ part_made build v (ref_at v i) d (drop 5 ws) ws
        unfolding member_made pick
        part_made_lem = rw (first, ← index, el.admits)

      absent_made_lem : (i start k : ℕ) (d : Claim) (ws : List ℕ) → may_lack v i ≡ true → HeadOf v s at i start ABSENT → i ≡ d.index → k ≡ d.node → 0 ≡ d.count → true ≡ eqb d.size ABSENT
          → part_made build v (some k) d (drop 5 ws) ws ≡ made (zero_head v (between s at start)) (drop 5 ws)
      unfolding part_made absent_made pick
      absent_made_lem i start k d ws lack h index node count size = rw (← size, ← index, lack, ← node, eq-eqb k k refl, ← count, ← h.same)

      head_size_lem : (i start n : ℕ) → HeadOf v s at i start n → at + length (zero_head v (between s at start)) ≡ start
      head_size_lem i start n h = rw (← h.same) h.whole

      absent_one : (i start : ℕ) → Again form order v s st at (Ok (Absent i start)) → (o : Option ℕ) → ref_at v i ≡ o
          → Member (zero_head v (between s at start)) start (form.next st (Ok (Absent i start))) (absent o i (base + start))
      unfolding absent Agrees width
      absent_one i start (lack, inside, el) none ref = tt
      absent_one i start (lack, inside, el) (some k) ref =
          record {
            size = head_size_lem i start ABSENT el.head;
            inside = inside;
            makes = λ ws rest a.
                let (d, first, g) = agree_next (look k) (entry_of k i (base + start) ABSENT) 0 ws a.0 in
                let after : drop 5 ws ≡ rest = a.1.1 ∙ a.1.2 in (
                  part_made_lem i start ABSENT _ el d ws first g.index
                      ∙ rw ref (absent_made_lem i start k d ws lack el.head g.index g.node g.count g.absence)
                      ∙ ap (made (zero_head v (between s at start))) after,
                  state_made i start ABSENT _ el d ws first g.index,
                );
          }

      present_made : (i start n k : ℕ) → Again form order v s st at (Ok (Present i start n)) → ref_at v i ≡ some k → (part : List ℕ) → length part ≡ n
          → (o : ValueOutcome) → Completes i (build k i) (zeroing k part) (length part) o
          → Member (zero_head v (between s at start) ++ zeroing k part) (start + n) (form.next st (Ok (Present i start n))) o
      unfolding part_made headed pick
      present_made i start n k a ref part long (refused m p) h = tt
      present_made i start n k (inside, el) ref part long (accepted g) h =
          let z = zeroing k part in
          let size : length z ≡ n = h.size ∙ long in
          record {
            size = omega (arith, length-append (zero_head v (between s at start)) z, head_size_lem i start n el.head);
            inside = inside;
            makes = λ ws rest a.
                let m = h.makes ws rest a in (
                  part_made_lem i start n _ el m.claim ws m.first m.index
                      ∙ rw (ref, m.present, ← m.index, m.is, size, el.head.same),
                  state_made i start n _ el m.claim ws m.first m.index,
                );
          }

      present_one : (i start n : ℕ) → Again form order v s st at (Ok (Present i start n)) → (o : Option ℕ) → ref_at v i ≡ o
          → Member (zero_head v (between s at start) ++ zero_part zeroing o (take n (drop start s))) (start + n) (form.next st (Ok (Present i start n)))
          (present rule o i (base + start) (take n (drop start s)))
      unfolding present zero_part
      present_one i start n a none ref = tt
      present_one i start n a (some k) ref =
          let part = take n (drop start s) in
          let inside : start + n ≤ length s = a.0 in
          let long : length part ≡ n = simp (length-take, length-drop) (omega arith) in
          present_made i start n k a ref part long (rule k i (base + start) part)
          (known k i (base + start) part (stands_part t base s stands start n inside) (bytes_part s bytes start n) (omega arith))

      member_one : (h : Result Head ℕ) → Again form order v s st at h → Member (zero_member zeroing v s at h) (end_of h) (form.next st h) (element_outcome rule (ref_at v) base s h)
      unfolding zero_member element_outcome end_of
      member_one (Err n) a = tt
      member_one (Ok (Absent i start)) a = absent_one i start a (ref_at v i) refl
      member_one (Ok (Present i start n)) a = present_one i start n a (ref_at v i) refl

    -- the elements, where the heads that are read are the heads that are made
    module _ {S : Type 0} (form : Form S) (order : Order S) (lacks : (st : S) → order.lacks st ≡ form.lacks st)
        (again : (st : S) (at : ℕ) → Again form order v s st at (form.head st at)) where
      row_end_lem : (st : S) (at : ℕ) → (whole lack : Bool) → eqb at (length s) ≡ whole → form.lacks st ≡ lack
          → RowOf (elements_made order build v zero st) [] at (length s) (pick whole (pick lack (refused 27 base) (accepted empty)) (refused 21 base))
      unfolding elements_made Agrees pick
      row_end_lem st at true true e l = tt
      row_end_lem st at true false e l = record { size = add-zero at ∙ eqb-true _ _ e; makes = λ ws rest a. rw (lacks st, l, a) }
      row_end_lem st at false lack e l = tt

      row_made_lem : (n : ℕ) (st : S) (at : ℕ) → at ≤ length s
          → RowOf (elements_made order build v n st) (zero_elements form zeroing v s n st at) at (length s) (elements form rule (ref_at v) base s n st at)
      unfolding elements container_end elements_made zero_elements
      row_made_lem zero st at h = row_end_lem st at (eqb at (length s)) (form.lacks st) refl refl
      row_made_lem (suc n) st at h =
          one_then _ (λ ws. state_after order build v st (next_of ws)) (elements_made order build v n) _ _ at (end_of (form.head st at)) (length s) (form.next st (form.head st at)) _ _
          (member_one form order st at (form.head st at) (again st at))
          (row_made_lem n (form.next st (form.head st at)) (end_of (form.head st at)))

  -- ---- an entry, and what is below it

  module _ (build : Builder) (v : Node) (k i base : ℕ) (s : List ℕ) (is : look k ≡ v) (small : length s ≤ 65535) where
    not_gone : eqb (length s) ABSENT ≡ false
    not_gone = ne_eqb (length s) ABSENT (λ e. omega arith)

    same_bytes : (d : Claim) (c : ℕ) → Agree (look k) t src (entry_of k i base (length s)) c d → SameBytes t src v base (length s) d.start d.size
    unfolding SamePart
    same_bytes d c g = rw (is, not_gone) at g.part

    entry_made_lem : (d : Claim) (ws : List ℕ) → k ≡ d.node → i ≡ d.index → eqb (length s) ABSENT ≡ eqb d.size ABSENT → entry_made src v build k i (next d ws) ≡ node_made src v build d ws
    unfolding entry_made pick
    entry_made_lem d ws node index absence = rw (← node, ← index, eq-eqb k k refl, eq-eqb i i refl, ← absence, not_gone)

    entry_whole : (z : List ℕ) (below : Forest) → length z ≡ length s
        → ((d : Claim) (ws rest : List ℕ) → width below ≡ d.count → SameBytes t src v base (length s) d.start d.size → Agrees look t src below ws rest → node_made src v build d ws ≡ made z rest)
        → Whole i (λ ws. entry_made src v build k i (next_of ws)) z (length s) (tree (entry_of k i base (length s)) below empty)
    unfolding Agrees
    entry_whole z below size f =
        record {
          size = size;
          makes = λ ws rest a.
              let (d, first, g) = agree_next (look k) (entry_of k i base (length s)) (width below) ws a.0 in
              record {
                claim = d;
                first = first;
                index = g.index;
                present = sym g.absence ∙ not_gone;
                is =
                    ap (entry_made src v build k i) first
                    ∙ entry_made_lem d (drop 5 ws) g.node g.index g.absence
                    ∙ f d (drop 5 ws) a.1.0 g.count (same_bytes d (width below) g) a.1.1
                    ∙ ap (made z) a.1.2;
              };
        }

    -- a leaf
    leaf_made_lem : (good : List ℕ → Bool) (d : Claim) (ws : List ℕ) → good s ≡ true → Stands t base s → 0 ≡ d.count → SameLeaf t src base (length s) d.start d.size
        → leaf_made good src d ws ≡ made s ws
    unfolding leaf_made SameLeaf pick
    leaf_made_lem good d ws e stands c same =
        let own : take d.size (drop d.start src) ≡ s = sym same.1 ∙ stands_whole t base s stands in
        rw (← c, le-leb (d.start + d.size) (length src) same.0, own, e)

    leaf_whole : (good : List ℕ → Bool) → Stands t base s → ((d : Claim) (ws : List ℕ) → node_made src v build d ws ≡ leaf_made good src d ws)
        → ((d : Claim) → SameBytes t src v base (length s) d.start d.size → SameLeaf t src base (length s) d.start d.size)
        → Completes i (λ ws. entry_made src v build k i (next_of ws)) s (length s) (leaf_rule (good s) k i base s)
    unfolding leaf_rule width Agrees
    leaf_whole good stands p q =
        pick_case (Completes i (λ ws. entry_made src v build k i (next_of ws)) s (length s)) (good s) _ _
        (λ e. entry_whole s empty refl (λ d ws rest c same a. p d ws ∙ leaf_made_lem good d ws e stands c (q d same) ∙ ap (made s) a))
        (λ _. tt)

    -- a container
    under_whole : (z zs : List ℕ) (n at : ℕ) (more : List ℕ → Made) → length z ≡ at → at ≤ length s
        → ((d : Claim) (ws : List ℕ) → n ≡ d.count → SameBytes t src v base (length s) d.start d.size → node_made src v build d ws ≡ made_before z (more ws))
        → (o : ValueOutcome) → ((below : Forest) → o ≡ accepted below → width below ≡ n) → RowOf more zs at (length s) o
        → Completes i (λ ws. entry_made src v build k i (next_of ws)) (z ++ zs) (length s) (under (entry_of k i base (length s)) o)
    unfolding under made_before
    under_whole z zs n at more size inside f (refused m p) wide h = tt
    under_whole z zs n at more size inside f (accepted below) wide h =
        entry_whole (z ++ zs) below (omega (arith, length-append z zs, h.size))
        (λ d ws rest c same a. f d ws (sym (wide below refl) ∙ c) same ∙ rw (h.makes ws rest a))

  -- ---- a value of a node, with less fuel for what it refers to

  module _ (f : ℕ) (known : Known (value look f) (build src look f) (zero_value look f))
      (k i base : ℕ) (s : List ℕ) (stands : Stands t base s) (bytes : Bytes s) (small : length s ≤ 65535) where
    -- what is made of its entry
    abbrev Done : Node → List ℕ → ValueOutcome → Type 0
    Done v z = Completes i (λ ws. entry_made src v (build src look f) k i (next_of ws)) z (length s)

    container_whole : {S : Type 0} (form : Form S) (order : Order S) → ((st : S) → order.lacks st ≡ form.lacks st) → (v : Node) → look k ≡ v
        → ((st : S) (at : ℕ) → Again form order v s st at (form.head st at)) → (st : S) (n first at : ℕ) → Opens v t src base s n first at
        → ((d : Claim) (ws b : List ℕ) → front_of v src d ≡ front b first → node_made src v (build src look f) d ws ≡ made_before b (elements_made order (build src look f) v d.count st ws))
        → Done v (zero_opening v (take at s) ++ zero_elements form (zero_value look f) v s n st at) (under (entry_of k i base (length s)) (elements form (value look f) (ref_at v) base s n st at))
    container_whole form order lacks v is again st n first at o p =
        let x = elements form (value look f) (ref_at v) base s n st at in
        under_whole (build src look f) v k i base s is small (zero_opening v (take at s)) _ n at (elements_made order (build src look f) v n st) o.whole o.inside
        (λ d ws c same. p d ws _ (o.front d c same) ∙ rw c)
        x
        (elements_width look f (ref_at v) base s form n st at)
        (row_made_lem (value look f) (build src look f) (zero_value look f) known v base s stands bytes small form order lacks again n st at o.inside)

    row_whole : (v : Node) → look k ≡ v → ((d : Claim) (ws : List ℕ) → node_made src v (build src look f) d ws ≡ row_made (build src look f) v (front_of v src d) d ws)
        → (o : Result Opening ℕ) → Opened v t src base s o → Done v (zero_row (zero_value look f) v o s) (row_rule v (value look f) o k i base s)
    unfolding row_rule zero_row row_made
    row_whole v is p (Err n) h = tt
    row_whole v is p (Ok o) h =
        container_whole (row_form v s) row_order (λ _. refl) v is (λ st at. row_again s bytes st at v) o.first o.count o.first o.at h (λ d ws b e. p d ws ∙ rw e)

    sparse_whole : (refs cards : List ℕ) → look k ≡ sparse refs cards
        → (o : Result Opening ℕ) → Opened (sparse refs cards) t src base s o → Done (sparse refs cards) (zero_sparse (zero_value look f) refs cards o s) (sparse_rule refs cards (value look f) o k i base s)
    unfolding sparse_rule zero_sparse node_made sparse_made
    sparse_whole refs cards is (Err n) h = tt
    sparse_whole refs cards is (Ok o) h =
        container_whole (sparse_form cards s) (sparse_order cards) (λ _. refl) (sparse refs cards) is (λ st at. sparse_again s bytes refs cards st at) no_marks o.count o.first o.at h (λ d ws b e. rw e)

    node_whole : (v : Node) → look k ≡ v → Done v (zero_node v (zero_value look f) s) (by_node v (value look f) k i base s)
    unfolding by_node zero_node node_made SameBytes
    node_whole (leaf g) is = leaf_whole (build src look f) (leaf g) k i base s is small (scalar g) stands (λ _ _. refl) (λ _ h. h)
    node_whole enum is = leaf_whole (build src look f) enum k i base s is small enumeration stands (λ _ _. refl) (λ _ h. h)
    node_whole (row r) is = row_whole (row r) is (λ _ _. refl) _ (opened s bytes t src base stands (row r))
    node_whole (arrays r) is = row_whole (arrays r) is (λ _ _. refl) _ (opened s bytes t src base stands (arrays r))
    node_whole (tuple refs) is = row_whole (tuple refs) is (λ _ _. refl) _ (opened s bytes t src base stands (tuple refs))
    node_whole (object refs cards) is = row_whole (object refs cards) is (λ _ _. refl) _ (opened s bytes t src base stands (object refs cards))
    node_whole (sparse refs cards) is = sparse_whole refs cards is _ (opened s bytes t src base stands (sparse refs cards))
    node_whole (range r) is = row_whole (range r) is (λ _ _. refl) _ (opened s bytes t src base stands (range r))

  pub value_whole : (f : ℕ) → Known (value look f) (build src look f) (zero_value look f)
  unfolding value build zero_value
  value_whole zero k i base s stands bytes small = tt
  value_whole (suc f) k i base s stands bytes small = node_whole f (value_whole f) k i base s stands bytes small (look k) refl
