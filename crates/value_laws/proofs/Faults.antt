-- A value of a node whose references all lead to nodes is listed, or refused with a number from 20 to 27 at a place in it: never with 33,
-- which stands in the rules where a node is missing. By induction over the rules.
use mathlib.Core.Path.{◌≡◌, refl}
use mathlib.Core.Bool.{Bool}
use mathlib.Core.List.{List, [], ◌∷◌}
use mathlib.Core.Option.{Option, none, some}
use Prim.Native.Nat.{ℕ, zero, suc, ◌+◌, ◌≤◌, ◌<◌}
use native.Mathlib.Omega.{arith}
use lib.Dec.{lit≤}
use lib.ListN.{length, take, drop, get_or, get_elem?, length-take, length-drop}
use borrow.Author.Tests.{leb-false}
use Rattle.std.specs.Prelude.{Result, Ok, Err, IfOk}
use Rattle.wire.proofs.Picks.{pick_case}
use Rattle.forms.specs.declared.Opening.{Opening}
use Rattle.forms.specs.declared.Head.{Head}
use Rattle.forms.specs.declared.Head.TheVariants.{Present, Absent}
use Rattle.value_laws.proofs.HeadSizes.{Spaced, row_spaced, sparse_spaced}
use Rattle.protocol.specs.Heads.{word, bounds, set_opening, count_opening, sparse_opening, range_opening, element_in, optional, plain_head}
use Rattle.protocol.specs.Heads.{object_head, envelope_head, sparse_index, requires, sparse_rest, sparse_head, dimension}
use Rattle.protocol.specs.Nodes.{Node, leaf, enum, row, arrays, tuple, object, sparse, range, ref_at}
use Rattle.protocol.specs.Lists.{Entry}
use Rattle.protocol.specs.Values.{ValueOutcome, then, under, Rule, absent, present, element_outcome, Form, container_end, elements, row_head}
use Rattle.protocol.specs.Values.{row_form, sparse_form, no_marks, opening_of, leaf_rule, row_rule, sparse_rule, by_node, value}
use Rattle.protocol.specs.Answers.{refused, accepted}

-- the numbers of a value's faults
abbrev pub ValueFault : ℕ → Type 0
ValueFault n = (20 ≤ n) × (n ≤ 27)

-- refused with such a number, at a place in the n bytes of the top value; or listed
abbrev pub Judged : ℕ → ValueOutcome → Type 0
Judged n (refused m p) = ValueFault m × (p ≤ n)
Judged n (accepted f) = Unit {0}

-- there is a node
abbrev Has : Option ℕ → Type 0
Has none = ⊥
Has (some r) = Unit {0}

-- ---- heads

-- a fault, or an element whose index has P
abbrev Numbered : (P : ℕ → Type 0) → Result Head ℕ → Type 0
Numbered P (Err n) = ValueFault n
Numbered P (Ok (Absent i at)) = P i
Numbered P (Ok (Present i at size)) = P i

module _ (P : ℕ → Type 0) (s : List ℕ) where
  abbrev H : Result Head ℕ → Type 0
  H = Numbered P

  sized_numbered : (i start size : ℕ) → P i → H (element_in s i start size)
  unfolding element_in
  sized_numbered i start size x =
      pick_case H _ _ _ (λ _. (lit≤ tt, lit≤ tt)) (λ _. pick_case H _ _ _ (λ _. (lit≤ tt, lit≤ tt)) (λ _. x))

  optional_numbered : (required : Bool) (i start size : ℕ) → P i → H (optional s required i start size)
  unfolding optional
  optional_numbered required i start size x =
      pick_case H _ _ _ (λ _. pick_case H _ _ _ (λ _. (lit≤ tt, lit≤ tt)) (λ _. x)) (λ _. sized_numbered i start size x)

  plain_numbered : (gap i at : ℕ) → P i → H (plain_head s gap i at)
  unfolding plain_head
  plain_numbered gap i at x = pick_case H _ _ _ (λ _. (lit≤ tt, lit≤ tt)) (λ _. sized_numbered i _ _ x)

  object_numbered : (required : Bool) (i at : ℕ) → P i → H (object_head s required i at)
  unfolding object_head
  object_numbered required i at x = pick_case H _ _ _ (λ _. (lit≤ tt, lit≤ tt)) (λ _. optional_numbered required i _ _ x)

  envelope_numbered : (i at : ℕ) → P i → H (envelope_head s i at)
  unfolding envelope_head
  envelope_numbered i at x =
      pick_case H _ _ _ (λ _. (lit≤ tt, lit≤ tt))
      (λ _. pick_case H _ _ _
      (λ _. pick_case H _ _ _ (λ _. (lit≤ tt, lit≤ tt))
      (λ _. pick_case H _ _ _ (λ _. (lit≤ tt, lit≤ tt))
      (λ _. pick_case H _ _ _ (λ _. sized_numbered i _ _ x) (λ _. (lit≤ tt, lit≤ tt)))))
      (λ _. (lit≤ tt, lit≤ tt)))

  sparse_numbered : (cards : List ℕ) (marks : List Bool) (at : ℕ) → ((i : ℕ) → i < length cards → P i) → H (sparse_head s cards marks at)
  unfolding sparse_head sparse_rest sparse_index
  sparse_numbered cards marks at x =
      let Q : Result ℕ ℕ → Type 0 = λ j. H (sparse_rest s cards at j) in
      pick_case Q _ _ _ (λ _. (lit≤ tt, lit≤ tt))
      (λ _. pick_case Q _ _ _ (λ _. (lit≤ tt, lit≤ tt))
      (λ few. pick_case Q _ _ _ (λ _. (lit≤ tt, lit≤ tt))
      (λ _. optional_numbered (requires (get_or cards (word s at) 0)) (word s at) _ _ (x (word s at) (leb-false _ _ few)))))

-- a fault, or elements whose number and first index have P
abbrev Opens : (P : ℕ → ℕ → Type 0) → Result Opening ℕ → Type 0
Opens P (Err n) = ValueFault n
Opens P (Ok o) = P o.count o.first

module _ (P : ℕ → ℕ → Type 0) (s : List ℕ) where
  abbrev O : Result Opening ℕ → Type 0
  O = Opens P

  set_opens : ((n first : ℕ) → P n first) → O (set_opening s)
  unfolding set_opening dimension
  set_opens x =
      pick_case O _ _ _ (λ _. (lit≤ tt, lit≤ tt))
      (λ _. pick_case O _ _ _ (λ _. (lit≤ tt, lit≤ tt))
      (λ _. pick_case O _ _ _ (λ _. (lit≤ tt, lit≤ tt))
      (λ _. pick_case O _ _ _ (λ _. x _ _)
      (λ _. pick_case O _ _ _ (λ _. (lit≤ tt, lit≤ tt))
      (λ _. pick_case O _ _ _ (λ _. (lit≤ tt, lit≤ tt))
      (λ _. pick_case O _ _ _ (λ _. (lit≤ tt, lit≤ tt))
      (λ _. pick_case O _ _ _ (λ _. (lit≤ tt, lit≤ tt))
      (λ _. pick_case O _ _ _ (λ _. x _ _) (λ _. (lit≤ tt, lit≤ tt))))))))))

  count_opens : (n : ℕ) → P n 0 → O (count_opening n s)
  unfolding count_opening
  count_opens n x = pick_case O _ _ _ (λ _. (lit≤ tt, lit≤ tt)) (λ _. pick_case O _ _ _ (λ _. x) (λ _. (lit≤ tt, lit≤ tt)))

  sparse_opens : ((n first : ℕ) → P n first) → O (sparse_opening s)
  unfolding sparse_opening
  sparse_opens x = pick_case O _ _ _ (λ _. (lit≤ tt, lit≤ tt)) (λ _. pick_case O _ _ _ (λ _. (lit≤ tt, lit≤ tt)) (λ _. x _ _))

  range_opens : ((n first : ℕ) → P n first) → O (range_opening s)
  unfolding range_opening bounds
  range_opens x =
      pick_case O _ _ _ (λ _. (lit≤ tt, lit≤ tt))
      (λ _. pick_case O _ _ _
      (λ _. pick_case O _ _ _ (λ _. x _ _)
      (λ _. pick_case O _ _ _ (λ _. pick_case O _ _ _ (λ _. x _ _) (λ _. x _ _)) (λ _. pick_case O _ _ _ (λ _. x _ _) (λ _. x _ _))))
      (λ _. (lit≤ tt, lit≤ tt)))

-- ---- elements, in a top value of `all` bytes

module _ (all : ℕ) where
  abbrev J : ValueOutcome → Type 0
  J = Judged all

  then_judged : (a b : ValueOutcome) → J a → J b → J (then a b)
  unfolding then
  then_judged (refused n p) b x y = x
  then_judged (accepted f) (refused n p) x y = y
  then_judged (accepted f) (accepted g) x y = tt

  under_judged : (e : Entry) (o : ValueOutcome) → J o → J (under e o)
  unfolding under
  under_judged e (refused n p) x = x
  under_judged e (accepted f) x = tt

  absent_judged : (o : Option ℕ) (i start : ℕ) → Has o → J (absent o i start)
  unfolding absent
  absent_judged none i start x = absurd x
  absent_judged (some k) i start x = tt

  leaf_judged : (good : Bool) (k i base : ℕ) (s : List ℕ) → base + length s ≤ all → J (leaf_rule good k i base s)
  unfolding leaf_rule
  leaf_judged good k i base s fit = pick_case J _ _ _ (λ _. tt) (λ _. ((lit≤ tt, lit≤ tt), omega arith))

  -- the values of a key
  abbrev JudgedBy : Rule → ℕ → Type 0
  JudgedBy rule k = (i base : ℕ) (s : List ℕ) → base + length s ≤ all → J (rule k i base s)

  module _ (rule : Rule) where
    present_judged : (o : Option ℕ) → ((r : ℕ) → o ≡ some r → JudgedBy rule r) → (i start : ℕ) (s : List ℕ) → start + length s ≤ all → Has o
        → J (present rule o i start s)
    unfolding present
    present_judged none inner i start s fit x = absurd x
    present_judged (some k) inner i start s fit x = inner k refl i start s fit

    module _ (ref : ℕ → Option ℕ) (inner : (i r : ℕ) → ref i ≡ some r → JudgedBy rule r) (base : ℕ) (s : List ℕ) (fit : base + length s ≤ all) where
      member_judged : (at : ℕ) (h : Result Head ℕ) → IfOk h (Spaced (length s) at) → Numbered (λ i. Has (ref i)) h → J (element_outcome rule ref base s h)
      unfolding element_outcome
      member_judged at (Err n) d x = (x, omega arith)
      member_judged at (Ok (Absent i start)) d x = absent_judged (ref i) i (base + start) x
      member_judged at (Ok (Present i start size)) d x =
          present_judged (ref i) (inner i) i (base + start) (take size (drop start s)) (simp (length-take, length-drop) (omega arith)) x

      -- where n elements are left, the next has a node, and so have those after it
      module _ {S : Type 0} (form : Form S) (spaced : (st : S) (at : ℕ) → IfOk (form.head st at) (Spaced (length s) at)) (Left : ℕ → S → Type 0)
          (step : (n : ℕ) (st : S) (at : ℕ) → Left (suc n) st → Numbered (λ i. Has (ref i)) (form.head st at) × Left n (form.next st (form.head st at))) where
        elements_judged : (n : ℕ) (st : S) (at : ℕ) → Left n st → J (elements form rule ref base s n st at)
        unfolding elements container_end
        elements_judged zero st at x =
            pick_case J _ _ _
            (λ _. pick_case J _ _ _ (λ _. ((lit≤ tt, lit≤ tt), omega arith)) (λ _. tt))
            (λ _. ((lit≤ tt, lit≤ tt), omega arith))
        elements_judged (suc n) st at x =
            let y = step n st at x in
            then_judged _ _ (member_judged at (form.head st at) (spaced st at) y.0) (elements_judged n _ _ y.1)

-- ---- a value

-- each of n elements from an index on has a node
abbrev Led : Node → ℕ → ℕ → Type 0
Led v n i = (j : ℕ) → i ≤ j → j < i + n → Has (ref_at v j)

elem_has : (l : List ℕ) (j : ℕ) → j < length l → Has (get_elem? l j)
elem_has [] j lt = absurd (omega arith)
elem_has (x ∷ l) zero lt = tt
elem_has (x ∷ l) (suc j) lt = elem_has l j (omega arith)

-- a sparse object has a reference for each of its cardinalities
abbrev pub Covered : Node → Type 0
Covered (leaf f) = Unit {0}
Covered enum = Unit {0}
Covered (row r) = Unit {0}
Covered (arrays r) = Unit {0}
Covered (tuple refs) = Unit {0}
Covered (object refs cards) = Unit {0}
Covered (sparse refs cards) = length cards ≤ length refs
Covered (range r) = Unit {0}

module _ (all : ℕ) (rule : Rule) (k i base : ℕ) (s : List ℕ) (fit : base + length s ≤ all) where
  row_judged : (v : Node) → ((j r : ℕ) → ref_at v j ≡ some r → JudgedBy all rule r)
      → ((j at : ℕ) → Has (ref_at v j) → Numbered (λ i. Has (ref_at v i)) (row_head v s j at)) → (o : Result Opening ℕ) → Opens (Led v) o
      → Judged all (row_rule v rule o k i base s)
  unfolding row_rule
  row_judged v inner heads (Err n) x = (x, omega arith)
  row_judged v inner heads (Ok o) x =
      under_judged all _ _
      (elements_judged all rule (ref_at v) inner base s fit (row_form v s) (λ j at. row_spaced s at v j) (Led v)
      (λ n j at y. (heads j at (y j (omega arith) (omega arith)), λ m a b. y m (omega arith) (omega arith))) o.count o.first o.at x)

  sparse_judged : (refs cards : List ℕ) → ((j r : ℕ) → ref_at (sparse refs cards) j ≡ some r → JudgedBy all rule r) → length cards ≤ length refs
      → (o : Result Opening ℕ) → Opens (λ n first. Unit {0}) o → Judged all (sparse_rule refs cards rule o k i base s)
  unfolding sparse_rule ref_at
  sparse_judged refs cards inner each (Err n) x = (x, omega arith)
  sparse_judged refs cards inner each (Ok o) x =
      under_judged all _ _
      (elements_judged all rule (ref_at (sparse refs cards)) inner base s fit (sparse_form cards s) (λ marks at. sparse_spaced s at cards marks)
      (λ n marks. Unit {0}) (λ n marks at y. (sparse_numbered _ s cards marks at (λ j lt. elem_has refs j (omega arith)), tt)) o.count no_marks o.at tt)

  by_node_judged : (v : Node) → Covered v → ((j r : ℕ) → ref_at v j ≡ some r → JudgedBy all rule r) → Judged all (by_node v rule k i base s)
  unfolding by_node opening_of row_head ref_at
  by_node_judged (leaf f) c inner = leaf_judged all _ k i base s fit
  by_node_judged enum c inner = leaf_judged all _ k i base s fit
  by_node_judged (row r) c inner = row_judged (row r) inner (plain_numbered _ s 0) _ (set_opens _ s (λ _ _ _ _ _. tt))
  by_node_judged (arrays r) c inner = row_judged (arrays r) inner (envelope_numbered _ s) _ (set_opens _ s (λ _ _ _ _ _. tt))
  by_node_judged (tuple refs) c inner =
      row_judged (tuple refs) inner (plain_numbered _ s 4) _ (count_opens _ s (length refs) (λ j _ lt. elem_has refs j (omega arith)))
  by_node_judged (object refs cards) c inner =
      row_judged (object refs cards) inner (λ j. object_numbered _ s (requires (get_or cards j 0)) j) _
      (count_opens _ s (length refs) (λ j _ lt. elem_has refs j (omega arith)))
  by_node_judged (sparse refs cards) c inner = sparse_judged refs cards inner c _ (sparse_opens _ s (λ _ _. tt))
  by_node_judged (range r) c inner = row_judged (range r) inner (plain_numbered _ s 0) _ (range_opens _ s (λ _ _ _ _ _. tt))

-- Each node of Good refers to smaller keys of Good, and is covered: then its values are judged, with any fuel that is enough.
module _ (look : ℕ → Node) (Good : ℕ → Type 0) (closed : (k i r : ℕ) → Good k → ref_at (look k) i ≡ some r → (Good r) × (r < k))
    (covered : (k : ℕ) → Good k → Covered (look k)) (all : ℕ) where
  pub value_judged : (f k : ℕ) → Good k → k < f → (i base : ℕ) (s : List ℕ) → base + length s ≤ all → Judged all (value look f k i base s)
  unfolding value
  value_judged zero k good enough i base s fit = absurd (omega arith)
  value_judged (suc f) k good enough i base s fit =
      by_node_judged all (value look f) k i base s fit (look k) (covered k good)
      (λ j r e. let c = closed k j r good e in value_judged f r c.0 (omega arith))
