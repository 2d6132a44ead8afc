-- The round trip: an accepted value has its own list and bytes for a supply, so that writing it again gives the same bytes but for the
-- containers' reserved fields, which are zero.
use mathlib.Core.Path.{◌≡◌, refl, ◌∙◌}
use mathlib.Core.Bool.{Bool, true, false}
use mathlib.Core.List.{List, [], ◌∷◌, ◌++◌, append-nil, append_assoc}
use mathlib.Core.Option.{Option, none, some}
use Prim.Native.Nat.{ℕ, zero, suc, ◌+◌, ◌≤◌, ◌<◌}
use native.Mathlib.Omega.{arith}
use lib.Dec.{eqb}
use lib.ListN.{length, take, drop, get_or, length-take, length-drop}
use borrow.Author.Tests.{le-ltb}
use Rattle.std.specs.Prelude.{Result, Ok, Err, IfOk}
use Rattle.wire.proofs.Picks.{pick_no, pick_case}
use Rattle.value_heads.specs.Bounds.{Opened}
use Rattle.forms.specs.declared.Opening.{Opening}
use Rattle.forms.specs.declared.Head.{Head}
use Rattle.forms.specs.declared.Head.TheVariants.{Present, Absent}
use Rattle.value_laws.proofs.Forests.{words_append}
use Rattle.value_laws.proofs.HeadSizes.{Spaced, row_spaced, sparse_spaced, node_opened}
use Rattle.supply_laws.proofs.Complete.{zeroed_length, complete}
use Rattle.protocol.specs.Numbers.{pick}
use Rattle.protocol.specs.Constants.{ABSENT}
use Rattle.protocol.specs.Nodes.{Node, leaf, enum, row, arrays, tuple, object, sparse, range, ref_at}
use Rattle.protocol.specs.Lists.{Entry, Forest, empty, tree, append, width, words, entry_of}
use Rattle.protocol.specs.Values.{ValueOutcome, then, under, Rule, absent, present, element_outcome, Form, container_end, elements, row_form}
use Rattle.protocol.specs.Values.{sparse_form, no_marks, leaf_rule, row_rule, sparse_rule, by_node, value, value_of, fuel}
use Rattle.protocol.specs.Answers.{refused, accepted, put_out, output_roomed}
use Rattle.protocol.specs.Plans.{look}
use Rattle.protocol.specs.Running.{nothing_in, value_by, checked, admitted}
use Rattle.protocol.specs.Supplies.{next_of, SameLeaf, SameFlags, SameBytes, SamePart, AgreeNext, Agrees, zeroed, HasSupply}
use Rattle.protocol.specs.Building.{write_of}

-- ---- entries that agree with their own words

module _ (look : ℕ → Node) (t : List ℕ) where
  agrees_join : (f g : Forest) (ws mid rest : List ℕ) → Agrees look t t f ws mid → Agrees look t t g mid rest → Agrees look t t (append f g) ws rest
  unfolding Agrees append
  agrees_join empty g ws mid rest a b = rw a b
  agrees_join (tree e below sib) g ws mid rest a b = (a.0, (a.1.0, a.1.1, agrees_join sib g a.1.0 mid rest a.1.2 b))

  abbrev Own : Forest → Type 0
  Own g = (rest : List ℕ) → Agrees look t t g (words g ++ rest) rest

  abbrev OwnOf : ValueOutcome → Type 0
  OwnOf (refused n p) = Unit {0}
  OwnOf (accepted g) = Own g

  own_then : (a b : ValueOutcome) → OwnOf a → OwnOf b → OwnOf (then a b)
  unfolding then
  own_then (refused n p) b x y = tt
  own_then (accepted f) (refused n p) x y = tt
  own_then (accepted f) (accepted g) x y = λ rest. rw (words_append f g, append_assoc) (agrees_join f g _ (words g ++ rest) rest (x (words g ++ rest)) (y rest))

  same_part : (v : Node) (a n : ℕ) (b : Bool) → SameBytes t t v a n a n → SamePart t t v b a n a n
  unfolding SamePart
  same_part v a n true h = tt
  same_part v a n false h = h

  -- an entry, and what is below it
  own_tree : (e : Entry) (below : Forest) → SamePart t t (look e.node) (eqb e.size ABSENT) e.start e.size e.start e.size → Own below → Own (tree e below empty)
  unfolding Agrees AgreeNext next_of words pick
  own_tree e below same o rest =
      let more = (words below ++ []) ++ rest in
      let ws = e.node ∷ e.index ∷ e.start ∷ e.size ∷ width below ∷ more in
      (rw (le-ltb (length ws) 5 (omega arith)) (record { node = refl; index = refl; count = refl; absence = refl; part = same }), (rest, rw (append-nil (words below)) (o rest), refl))

  -- an absent element
  absent_own : (r : Option ℕ) (i start : ℕ) → OwnOf (absent r i start)
  unfolding absent SamePart Agrees words
  absent_own none i start = tt
  absent_own (some k) i start = own_tree (entry_of k i start ABSENT) empty tt (λ rest. refl)

  -- ---- the rules, for parts of t

  abbrev Lists : Rule → Type 0
  Lists rule = (k i base : ℕ) (s : List ℕ) → base + length s ≤ length t → OwnOf (rule k i base s)

  module _ (rule : Rule) (lists : Lists rule) (ref : ℕ → Option ℕ) (base : ℕ) (s : List ℕ) (inside : base + length s ≤ length t) where
    present_own : (r : Option ℕ) (i start n : ℕ) → start + n ≤ length s → OwnOf (present rule r i (base + start) (take n (drop start s)))
    unfolding present
    present_own none i start n h = tt
    present_own (some k) i start n h =
        lists k i (base + start) (take n (drop start s)) (simp (length-take, length-drop) (omega arith))

    member_own : (at : ℕ) (h : Result Head ℕ) → IfOk h (Spaced (length s) at) → OwnOf (element_outcome rule ref base s h)
    unfolding element_outcome
    member_own at (Err n) d = tt
    member_own at (Ok (Absent i start)) d = absent_own (ref i) i (base + start)
    member_own at (Ok (Present i start n)) d = present_own (ref i) i start n d.1

    module _ {S : Type 0} (form : Form S) (spaced : (st : S) (at : ℕ) → IfOk (form.head st at) (Spaced (length s) at)) where
      elements_own : (n : ℕ) (st : S) (at : ℕ) → OwnOf (elements form rule ref base s n st at)
      unfolding elements container_end Agrees words
      elements_own zero st at = pick_case OwnOf _ _ _ (λ _. pick_case OwnOf _ _ _ (λ _. tt) (λ _ rest. refl)) (λ _. tt)
      elements_own (suc n) st at = own_then _ _ (member_own at (form.head st at) (spaced st at)) (elements_own n _ _)

  module _ (k i base : ℕ) (s : List ℕ) (v : Node) (is : look k ≡ v) where
    entry_own : SameBytes t t v base (length s) base (length s) → (below : Forest) → Own below → Own (tree (entry_of k i base (length s)) below empty)
    entry_own same below = own_tree (entry_of k i base (length s)) below (rw is (same_part v base (length s) (eqb (length s) ABSENT) same))

    under_own : SameBytes t t v base (length s) base (length s) → (o : ValueOutcome) → OwnOf o → OwnOf (under (entry_of k i base (length s)) o)
    unfolding under
    under_own same (refused n p) h = tt
    under_own same (accepted below) h = entry_own same below h

    leaf_own : (good : Bool) → SameBytes t t v base (length s) base (length s) → OwnOf (leaf_rule good k i base s)
    unfolding leaf_rule Agrees words
    leaf_own good same = pick_case OwnOf good _ _ (λ _. entry_own same empty (λ rest. refl)) (λ _. tt)

  module _ (f : ℕ) (lists : Lists (value look f)) (k i base : ℕ) (s : List ℕ) (inside : base + length s ≤ length t) where
    row_own : (v : Node) → look k ≡ v → (o : Result Opening ℕ) → IfOk o (Opened (length s)) → (1 ≤ length s → SameBytes t t v base (length s) base (length s)) → OwnOf (row_rule v (value look f) o k i base s)
    unfolding row_rule
    row_own v is (Err n) h same = tt
    row_own v is (Ok o) h same =
        under_own k i base s v is (same (omega arith)) _ (elements_own (value look f) lists (ref_at v) base s inside (row_form v s) (λ i at. row_spaced s at v i) o.count o.first o.at)

    sparse_own : (refs cards : List ℕ) → look k ≡ sparse refs cards → (o : Result Opening ℕ) → OwnOf (sparse_rule refs cards (value look f) o k i base s)
    unfolding sparse_rule SameBytes
    sparse_own refs cards is (Err n) = tt
    sparse_own refs cards is (Ok o) =
        under_own k i base s (sparse refs cards) is tt _
        (elements_own (value look f) lists (ref_at (sparse refs cards)) base s inside (sparse_form cards s) (λ marks at. sparse_spaced s at cards marks) o.count no_marks o.at)

    node_own : (v : Node) → look k ≡ v → OwnOf (by_node v (value look f) k i base s)
    unfolding by_node SameBytes SameLeaf SameFlags
    node_own (leaf g) is = leaf_own k i base s (leaf g) is _ (inside, refl)
    node_own enum is = leaf_own k i base s enum is _ (inside, refl)
    node_own (row r) is = row_own (row r) is _ (node_opened (row r) s) (λ _. tt)
    node_own (arrays r) is = row_own (arrays r) is _ (node_opened (arrays r) s) (λ _. tt)
    node_own (tuple refs) is = row_own (tuple refs) is _ (node_opened (tuple refs) s) (λ _. tt)
    node_own (object refs cards) is = row_own (object refs cards) is _ (node_opened (object refs cards) s) (λ _. tt)
    node_own (sparse refs cards) is = sparse_own refs cards is _
    node_own (range r) is = row_own (range r) is _ (node_opened (range r) s) (λ h. (omega arith, refl))

  value_own : (f : ℕ) → Lists (value look f)
  unfolding value
  value_own zero k i base s h = tt
  value_own (suc f) k i base s h = node_own f (value_own f) k i base s h (look k) refl

-- ---- an accepted value

module _ (p s : List ℕ) where
  checked_own : OwnOf (look p) s (checked p s)
  unfolding checked value_by value_of nothing_in Agrees words admitted
  checked_own =
      let P = OwnOf (look p) s in
      pick_case P _ _ _
      (λ _. pick_case P _ _ _ (λ _. tt)
      (λ _. pick_case P _ _ _
      (λ _. pick_case P _ _ _ (λ _ rest. refl) (λ _. tt))
      (λ _. value_own (look p) s fuel (get_or p 1 0) 0 0 s (omega arith))))
      (λ _. tt)

  -- An accepted value has its own list and bytes for a supply.
  pub own_supply : (f : Forest) → checked p s ≡ accepted f → HasSupply p s (words f) s
  own_supply f e = record { forest = f; accepted = e; agrees = rw append-nil at ((rw e at checked_own) []) }

-- An accepted value that is written again from its list and its own bytes is the same but for its containers' reserved fields, which are zero.
pub round_trip : (p s : List ℕ) (room : ℕ) (f : Forest) → ((i : ℕ) → get_or s i 0 < 256) → checked p s ≡ accepted f
    → write_of p (words f) s room ≡ output_roomed room (put_out (zeroed p s))
round_trip p s room f bytes e = complete p s (words f) s room bytes (own_supply p s f e)

-- A room as large as the value is enough.
pub round_trip_fits : (p s : List ℕ) (room : ℕ) (f : Forest) → ((i : ℕ) → get_or s i 0 < 256) → checked p s ≡ accepted f → length s ≤ room
    → write_of p (words f) s room ≡ put_out (zeroed p s)
unfolding output_roomed
round_trip_fits p s room f bytes e h =
    let l : length (zeroed p s) ≤ room = rw (zeroed_length p s bytes f e) h in
    round_trip p s room f bytes e ∙ pick_no _ _ _ (le-ltb room (length (zeroed p s)) l)
