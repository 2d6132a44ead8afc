-- Rules over two descriptions that agree up to a renaming of keys have outcomes that agree up to that renaming.
use mathlib.Core.Path.{◌≡◌, refl, sym, ap, ap₂}
use mathlib.Core.Bool.{Bool, true, false}
use mathlib.Core.List.{List, [], ◌∷◌, map}
use mathlib.Core.Option
use mathlib.Core.Option.{Option, none, some}
use Prim.Native.Nat.{ℕ, zero, suc, ◌+◌, ◌<◌, ◌^◌}
use native.Mathlib.Omega.{arith}
use lib.ListN.{length, take, drop, get_elem?, length-map}
use Rattle.std.specs.Prelude.{Result, Ok, Err}
use Rattle.forms.specs.declared.Opening.{Opening}
use Rattle.forms.specs.declared.Head.{Head}
use Rattle.forms.specs.declared.Head.TheVariants.{Present, Absent}
use Rattle.protocol.specs.Numbers.{pick}
use Rattle.protocol.specs.Heads.{end_of}
use Rattle.protocol.specs.Nodes.{Node, leaf, enum, row, arrays, tuple, object, sparse, range, ref_at, rename}
use Rattle.protocol.specs.Lists.{Forest, empty, tree, append, entry_of, renamed_forest}
use Rattle.protocol.specs.Values.{ValueOutcome, then, under, Rule, absent, present, element_outcome, Form, container_end, elements, row_head}
use Rattle.protocol.specs.Values.{row_form, sparse_form, no_marks, opening_of, leaf_rule, row_rule, sparse_rule, by_node, value, value_of, fuel}
use Rattle.protocol.specs.Values.{renamed}
use Rattle.protocol.specs.Answers.{refused, accepted}

module _ (ρ : ℕ → ℕ) where
  renamed_append : (f g : Forest) → renamed_forest ρ (append f g) ≡ append (renamed_forest ρ f) (renamed_forest ρ g)
  unfolding renamed_forest append
  renamed_append empty g = refl
  renamed_append (tree e below next) g = rw (renamed_append next g)

  renamed_then : (a b : ValueOutcome) → renamed ρ (then a b) ≡ then (renamed ρ a) (renamed ρ b)
  unfolding renamed then
  renamed_then (refused n p) b = refl
  renamed_then (accepted f) (refused n p) = refl
  renamed_then (accepted f) (accepted g) = ap accepted (renamed_append f g)

  renamed_under : (k i base size : ℕ) (o : ValueOutcome) → renamed ρ (under (entry_of k i base size) o) ≡ under (entry_of (ρ k) i base size) (renamed ρ o)
  unfolding renamed renamed_forest under
  renamed_under k i base size (refused n p) = refl
  renamed_under k i base size (accepted f) = refl

  renamed_pick : (t : Bool) (a b : ValueOutcome) → renamed ρ (pick t a b) ≡ pick t (renamed ρ a) (renamed ρ b)
  unfolding pick
  renamed_pick true a b = refl
  renamed_pick false a b = refl

  -- ---- a node with its references renamed

  at_renamed : (refs : List ℕ) (i : ℕ) → get_elem? (map ρ refs) i ≡ Option.map ρ (get_elem? refs i)
  at_renamed [] i = refl
  at_renamed (r ∷ refs) zero = refl
  at_renamed (r ∷ refs) (suc i) = at_renamed refs i

  ref_renamed : (v : Node) (i : ℕ) → ref_at (rename ρ v) i ≡ Option.map ρ (ref_at v i)
  unfolding ref_at rename
  ref_renamed (leaf f) i = refl
  ref_renamed enum i = refl
  ref_renamed (row r) i = refl
  ref_renamed (arrays r) i = refl
  ref_renamed (tuple refs) i = at_renamed refs i
  ref_renamed (object refs cards) i = at_renamed refs i
  ref_renamed (sparse refs cards) i = at_renamed refs i
  ref_renamed (range r) i = refl

  -- ---- what asks no other rule

  absent_renamed : (o : Option ℕ) (i start : ℕ) → absent (Option.map ρ o) i start ≡ renamed ρ (absent o i start)
  unfolding absent renamed renamed_forest
  absent_renamed none i start = refl
  absent_renamed (some k) i start = refl

  leaf_renamed : (good : Bool) (k i base : ℕ) (s : List ℕ) → leaf_rule good (ρ k) i base s ≡ renamed ρ (leaf_rule good k i base s)
  unfolding leaf_rule renamed renamed_forest
  leaf_renamed good k i base s = simp renamed_pick

  -- ---- two rules that agree at the references of a node

  abbrev Agree : Rule → Rule → ℕ → Type 0
  Agree rule rule' k = (i base : ℕ) (s : List ℕ) → rule' (ρ k) i base s ≡ renamed ρ (rule k i base s)

  module _ (rule rule' : Rule) where
    present_renamed : (o : Option ℕ) → ((r : ℕ) → o ≡ some r → Agree rule rule' r) → (i start : ℕ) (s : List ℕ)
        → present rule' (Option.map ρ o) i start s ≡ renamed ρ (present rule o i start s)
    unfolding present renamed
    present_renamed none h i start s = refl
    present_renamed (some k) h i start s = h k refl i start s

    module _ (ref ref' : ℕ → Option ℕ) (same : (i : ℕ) → ref' i ≡ Option.map ρ (ref i)) (agree : (i r : ℕ) → ref i ≡ some r → Agree rule rule' r)
        (base : ℕ) (s : List ℕ) where
      member_renamed : (h : Result Head ℕ) → element_outcome rule' ref' base s h ≡ renamed ρ (element_outcome rule ref base s h)
      unfolding element_outcome renamed
      member_renamed (Err n) = refl
      member_renamed (Ok (Absent i at)) = rw (same i) (absent_renamed (ref i) i (base + at))
      member_renamed (Ok (Present i at size)) = rw (same i) (present_renamed (ref i) (agree i) i (base + at) (take size (drop at s)))

      module _ {S : Type 0} (form : Form S) where
        elements_renamed : (n : ℕ) (st : S) (at : ℕ) → elements form rule' ref' base s n st at ≡ renamed ρ (elements form rule ref base s n st at)
        unfolding elements container_end renamed renamed_forest
        elements_renamed zero st at = simp renamed_pick
        elements_renamed (suc n) st at =
            rw renamed_then (ap₂ then (member_renamed (form.head st at)) (elements_renamed n (form.next st (form.head st at)) (end_of (form.head st at))))

        below_renamed : (k i n : ℕ) (st : S) (at : ℕ)
            → under (entry_of (ρ k) i base (length s)) (elements form rule' ref' base s n st at)
            ≡ renamed ρ (under (entry_of k i base (length s)) (elements form rule ref base s n st at))
        below_renamed k i n st at = rw (elements_renamed n st at) (sym (renamed_under k i base (length s) (elements form rule ref base s n st at)))

    module _ (v : Node) (agree : (i r : ℕ) → ref_at v i ≡ some r → Agree rule rule' r) (k i base : ℕ) (s : List ℕ) where
      row_renamed : row_head (rename ρ v) ≡ row_head v → (o : Result Opening ℕ) → row_rule (rename ρ v) rule' o (ρ k) i base s ≡ renamed ρ (row_rule v rule o k i base s)
      unfolding row_rule renamed
      row_renamed heads (Err n) = refl
      row_renamed heads (Ok o) =
          rw heads (below_renamed (ref_at v) (ref_at (rename ρ v)) (ref_renamed v) agree base s (row_form v s) k i o.count o.first o.at)

    sparse_renamed : (refs cards : List ℕ) → ((i r : ℕ) → ref_at (sparse refs cards) i ≡ some r → Agree rule rule' r) → (o : Result Opening ℕ) (k i base : ℕ) (s : List ℕ)
        → sparse_rule (map ρ refs) cards rule' o (ρ k) i base s ≡ renamed ρ (sparse_rule refs cards rule o k i base s)
    unfolding sparse_rule renamed rename
    sparse_renamed refs cards agree (Err n) k i base s = refl
    sparse_renamed refs cards agree (Ok o) k i base s =
        below_renamed (ref_at (sparse refs cards)) (ref_at (sparse (map ρ refs) cards)) (ref_renamed (sparse refs cards)) agree base s (sparse_form cards s) k i o.count no_marks o.at

    by_node_renamed : (v : Node) → ((i r : ℕ) → ref_at v i ≡ some r → Agree rule rule' r) → (k i base : ℕ) (s : List ℕ)
        → by_node (rename ρ v) rule' (ρ k) i base s ≡ renamed ρ (by_node v rule k i base s)
    unfolding by_node rename row_head opening_of
    by_node_renamed (leaf f) agree k i base s = leaf_renamed _ k i base s
    by_node_renamed enum agree k i base s = leaf_renamed _ k i base s
    by_node_renamed (row r) agree k i base s = row_renamed (row r) agree k i base s refl _
    by_node_renamed (arrays r) agree k i base s = row_renamed (arrays r) agree k i base s refl _
    by_node_renamed (tuple refs) agree k i base s = rw (length-map refs ρ) (row_renamed (tuple refs) agree k i base s refl _)
    by_node_renamed (object refs cards) agree k i base s = rw (length-map refs ρ) (row_renamed (object refs cards) agree k i base s refl _)
    by_node_renamed (sparse refs cards) agree k i base s = sparse_renamed refs cards agree _ k i base s
    by_node_renamed (range r) agree k i base s = row_renamed (range r) agree k i base s refl _

  -- Each node of Good refers to smaller keys of Good, and the other description has it under its new key: the new keys need not descend.
  module _ (look look' : ℕ → Node) (Good : ℕ → Type 0) (closed : (k i r : ℕ) → Good k → ref_at (look k) i ≡ some r → (Good r) × (r < k))
      (same : (k : ℕ) → Good k → look' (ρ k) ≡ rename ρ (look k)) where
    pub relabel : (f f' k : ℕ) → Good k → k < f → k < f' → (i base : ℕ) (s : List ℕ) → value look' f' (ρ k) i base s ≡ renamed ρ (value look f k i base s)
    unfolding value
    relabel zero f' k good enough enough' i base s = absurd (omega arith)
    relabel (suc f) zero k good enough enough' i base s = absurd (omega arith)
    relabel (suc f) (suc f') k good enough enough' i base s =
        rw (same k good)
        (by_node_renamed (value look f) (value look' f') (look k)
        (λ i r e. let c = closed k i r good e in relabel f f' r c.0 (omega arith) (omega arith)) k i base s)

    pub relabel_value : (k : ℕ) → Good k → k < 2 ^ 32 → (i base : ℕ) (s : List ℕ) → value_of look' (ρ k) i base s ≡ renamed ρ (value_of look k i base s)
    unfolding value_of
    relabel_value k good small = relabel fuel fuel k good small small
