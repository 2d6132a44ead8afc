-- A value that is accepted is one tree, and a container has as many entries directly below it as elements.
use mathlib.Core.Path.{◌≡◌, refl}
use mathlib.Core.Bool.{Bool}
use mathlib.Core.List.{List}
use mathlib.Core.Option.{Option, none, some}
use Prim.Native.Nat.{ℕ, zero, suc, ◌+◌}
use native.Mathlib.Omega.{arith}
use lib.ListN.{take, drop}
use Rattle.std.specs.Prelude.{Result, Ok, Err}
use Rattle.wire.proofs.Picks.{pick_case}
use Rattle.forms.specs.declared.Opening.{Opening}
use Rattle.forms.specs.declared.Head.{Head}
use Rattle.forms.specs.declared.Head.TheVariants.{Present, Absent}
use Rattle.value_laws.proofs.Forests.{width_append}
use Rattle.protocol.specs.Nodes.{Node, leaf, enum, row, arrays, tuple, object, sparse, range}
use Rattle.protocol.specs.Lists.{Entry, Forest, width}
use Rattle.protocol.specs.Values.{ValueOutcome, then, under, Rule, absent, present, element_outcome, Form, container_end, elements, leaf_rule, row_rule, sparse_rule, by_node, value}
use Rattle.protocol.specs.Answers.{refused, accepted}

-- if it is accepted, n trees side by side
abbrev Wide : ℕ → ValueOutcome → Type 0
Wide n (refused m p) = Unit {0}
Wide n (accepted f) = width f ≡ n

then_wide : (n : ℕ) (a b : ValueOutcome) → Wide 1 a → Wide n b → Wide (suc n) (then a b)
unfolding then
then_wide n (refused m p) b h k = tt
then_wide n (accepted f) (refused m p) h k = tt
then_wide n (accepted f) (accepted g) h k = omega (arith, width_append f g)

-- ---- a value, whatever the rule for what is below it

under_wide : (e : Entry) (o : ValueOutcome) → Wide 1 (under e o)
unfolding under width
under_wide e (refused m p) = tt
under_wide e (accepted f) = refl

module _ (k i base : ℕ) (s : List ℕ) where
  leaf_wide : (good : Bool) → Wide 1 (leaf_rule good k i base s)
  unfolding leaf_rule width
  leaf_wide good = pick_case (Wide 1) good _ _ (λ _. refl) (λ _. tt)

  module _ (rule : Rule) where
    row_wide : (v : Node) (o : Result Opening ℕ) → Wide 1 (row_rule v rule o k i base s)
    unfolding row_rule
    row_wide v (Err n) = tt
    row_wide v (Ok o) = under_wide _ _

    sparse_wide : (refs cards : List ℕ) (o : Result Opening ℕ) → Wide 1 (sparse_rule refs cards rule o k i base s)
    unfolding sparse_rule
    sparse_wide refs cards (Err n) = tt
    sparse_wide refs cards (Ok o) = under_wide _ _

    by_node_wide : (v : Node) → Wide 1 (by_node v rule k i base s)
    unfolding by_node
    by_node_wide (leaf f) = leaf_wide _
    by_node_wide enum = leaf_wide _
    by_node_wide (row r) = row_wide (row r) _
    by_node_wide (arrays r) = row_wide (arrays r) _
    by_node_wide (tuple refs) = row_wide (tuple refs) _
    by_node_wide (object refs cards) = row_wide (object refs cards) _
    by_node_wide (sparse refs cards) = sparse_wide refs cards _
    by_node_wide (range r) = row_wide (range r) _

  value_wide : (look : ℕ → Node) (f : ℕ) → Wide 1 (value look f k i base s)
  unfolding value
  value_wide look zero = tt
  value_wide look (suc f) = by_node_wide (value look f) (look k)

pub value_one : (look : ℕ → Node) (f k i base : ℕ) (s : List ℕ) (g : Forest) → value look f k i base s ≡ accepted g → width g ≡ 1
value_one look f k i base s g e = rw e at (value_wide k i base s look f)

-- ---- the elements of a container

absent_wide : (o : Option ℕ) (i start : ℕ) → Wide 1 (absent o i start)
unfolding absent width
absent_wide none i start = tt
absent_wide (some k) i start = refl

module _ (look : ℕ → Node) (f : ℕ) where
  present_wide : (o : Option ℕ) (i start : ℕ) (s : List ℕ) → Wide 1 (present (value look f) o i start s)
  unfolding present
  present_wide none i start s = tt
  present_wide (some k) i start s = value_wide k i start s look f

  module _ (ref : ℕ → Option ℕ) (base : ℕ) (s : List ℕ) where
    member_wide : (h : Result Head ℕ) → Wide 1 (element_outcome (value look f) ref base s h)
    unfolding element_outcome
    member_wide (Err n) = tt
    member_wide (Ok (Absent i at)) = absent_wide (ref i) i (base + at)
    member_wide (Ok (Present i at size)) = present_wide (ref i) i (base + at) (take size (drop at s))

    module _ {S : Type 0} (form : Form S) where
      elements_wide : (n : ℕ) (st : S) (at : ℕ) → Wide n (elements form (value look f) ref base s n st at)
      unfolding elements container_end width
      elements_wide zero st at = pick_case (Wide 0) _ _ _ (λ _. pick_case (Wide 0) _ _ _ (λ _. tt) (λ _. refl)) (λ _. tt)
      elements_wide (suc n) st at = then_wide n _ _ (member_wide (form.head st at)) (elements_wide n _ _)

      pub elements_width : (n : ℕ) (st : S) (at : ℕ) (g : Forest) → elements form (value look f) ref base s n st at ≡ accepted g → width g ≡ n
      elements_width n st at g e = rw e at (elements_wide n st at)
