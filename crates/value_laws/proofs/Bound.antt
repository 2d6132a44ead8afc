-- A value of L bytes has at most 1 + L / 4 entries: each element's head takes four bytes.
use mathlib.Core.Path.{◌≡◌}
use mathlib.Core.Bool.{Bool}
use mathlib.Core.List.{List}
use mathlib.Core.Option.{Option, none, some}
use Prim.Native.Nat.{ℕ, zero, suc, ◌+◌, ◌*◌, ◌≤◌, zero-le}
use native.Mathlib.Omega.{arith}
use lib.ListN.{length, take, drop, length-take, length-drop}
use Rattle.std.specs.Prelude.{Result, Ok, Err, IfOk}
use Rattle.wire.proofs.Picks.{pick_case}
use Rattle.value_heads.specs.Bounds.{Opened}
use Rattle.forms.specs.declared.Opening.{Opening}
use Rattle.forms.specs.declared.Head.{Head}
use Rattle.forms.specs.declared.Head.TheVariants.{Present, Absent}
use Rattle.value_laws.proofs.Outcomes.{entries_of, entries_then_le}
use Rattle.value_laws.proofs.HeadSizes.{Spaced, sparse_spaced, row_spaced, node_opened}
use Rattle.protocol.specs.Heads.{end_of}
use Rattle.protocol.specs.Nodes.{Node, leaf, enum, row, arrays, tuple, object, sparse, range, ref_at}
use Rattle.protocol.specs.Lists.{Entry, Forest, entry_of}
use Rattle.value_laws.specs.Counts.{entry_count}
use Rattle.protocol.specs.Values.{ValueOutcome, then, under, Rule, absent, present, element_outcome, Form, container_end, elements, row_form}
use Rattle.protocol.specs.Values.{sparse_form, no_marks, leaf_rule, row_rule, sparse_rule, by_node, value}
use Rattle.protocol.specs.Answers.{refused, accepted}

-- no more entries than n bytes have room for
abbrev pub Fits : ℕ → ValueOutcome → Type 0
Fits n o = 4 * entries_of o ≤ n

under_fits : (e : Entry) (n : ℕ) (o : ValueOutcome) → Fits n o → Fits (n + 4) (under e o)
unfolding under entry_count
under_fits e n (refused m p) h = zero-le
under_fits e n (accepted f) h = omega arith

absent_fits : (o : Option ℕ) (i start : ℕ) → Fits 4 (absent o i start)
unfolding absent entry_count
absent_fits none i start = zero-le
absent_fits (some k) i start = omega arith

leaf_fits : (good : Bool) (k i base : ℕ) (s : List ℕ) → Fits (length s + 4) (leaf_rule good k i base s)
unfolding leaf_rule entry_count
leaf_fits good k i base s = pick_case (Fits (length s + 4)) good _ _ (λ _. omega arith) (λ _. zero-le)

module _ (rule : Rule) (small : (k i base : ℕ) (s : List ℕ) → Fits (length s + 4) (rule k i base s)) where
  present_fits : (o : Option ℕ) (i start : ℕ) (s : List ℕ) → Fits (length s + 4) (present rule o i start s)
  unfolding present
  present_fits none i start s = zero-le
  present_fits (some k) i start s = small k i start s

  module _ (ref : ℕ → Option ℕ) (base : ℕ) (s : List ℕ) where
    -- an element and the rest, from `at` on
    step_fits : (at : ℕ) (h : Result Head ℕ) → at ≤ length s → IfOk h (Spaced (length s) at) → (rest : ValueOutcome) → (end_of h ≤ length s → 4 * entries_of rest + end_of h ≤ length s)
        → 4 * entries_of (then (element_outcome rule ref base s h) rest) + at ≤ length s
    unfolding element_outcome end_of then
    step_fits at (Err n) le d rest e = omega arith
    step_fits at (Ok (Absent i start)) le d rest e =
        omega (arith, entries_then_le (absent (ref i) i (base + start)) rest, absent_fits (ref i) i (base + start), e d.1)
    step_fits at (Ok (Present i start size)) le d rest e =
        let part : List ℕ = take size (drop start s) in
        let len : length part ≤ size = simp (length-take, length-drop) (omega arith) in
        omega (arith, entries_then_le (present rule (ref i) i (base + start) part) rest, present_fits (ref i) i (base + start) part, e d.1)

    module _ {S : Type 0} (form : Form S) (spaced : (st : S) (at : ℕ) → IfOk (form.head st at) (Spaced (length s) at)) where
      pub elements_fit : (n : ℕ) (st : S) (at : ℕ) → at ≤ length s → 4 * entries_of (elements form rule ref base s n st at) + at ≤ length s
      unfolding elements container_end entry_count
      elements_fit zero st at le =
          let P : ValueOutcome → Type 0 = λ o. 4 * entries_of o + at ≤ length s in
          pick_case P _ _ _ (λ _. pick_case P _ _ _ (λ _. omega arith) (λ _. omega arith)) (λ _. omega arith)
      elements_fit (suc n) st at le = step_fits at (form.head st at) le (spaced st at) _ (elements_fit n _ _)

      below_fits : (k i n : ℕ) (st : S) (at : ℕ) → at ≤ length s → Fits (length s + 4) (under (entry_of k i base (length s)) (elements form rule ref base s n st at))
      below_fits k i n st at le = under_fits (entry_of k i base (length s)) (length s) (elements form rule ref base s n st at) (omega (arith, elements_fit n st at le))

  module _ (k i base : ℕ) (s : List ℕ) where
    row_fits : (v : Node) (o : Result Opening ℕ) → IfOk o (Opened (length s)) → Fits (length s + 4) (row_rule v rule o k i base s)
    unfolding row_rule
    row_fits v (Err n) h = zero-le
    row_fits v (Ok o) h = below_fits (ref_at v) base s (row_form v s) (λ i at. row_spaced s at v i) k i o.count o.first o.at h.1

    sparse_fits : (refs cards : List ℕ) (o : Result Opening ℕ) → IfOk o (Opened (length s)) → Fits (length s + 4) (sparse_rule refs cards rule o k i base s)
    unfolding sparse_rule
    sparse_fits refs cards (Err n) h = zero-le
    sparse_fits refs cards (Ok o) h =
        below_fits (ref_at (sparse refs cards)) base s (sparse_form cards s) (λ marks at. sparse_spaced s at cards marks) k i o.count no_marks o.at h.1

    by_node_fits : (v : Node) → Fits (length s + 4) (by_node v rule k i base s)
    unfolding by_node
    by_node_fits (leaf f) = leaf_fits _ k i base s
    by_node_fits enum = leaf_fits _ k i base s
    by_node_fits (row r) = row_fits (row r) _ (node_opened (row r) s)
    by_node_fits (arrays r) = row_fits (arrays r) _ (node_opened (arrays r) s)
    by_node_fits (tuple refs) = row_fits (tuple refs) _ (node_opened (tuple refs) s)
    by_node_fits (object refs cards) = row_fits (object refs cards) _ (node_opened (object refs cards) s)
    by_node_fits (sparse refs cards) = sparse_fits refs cards _ (node_opened (sparse refs cards) s)
    by_node_fits (range r) = row_fits (range r) _ (node_opened (range r) s)

pub value_fits : (look : ℕ → Node) (f k i base : ℕ) (s : List ℕ) → Fits (length s + 4) (value look f k i base s)
unfolding value
value_fits look zero k i base s = zero-le
value_fits look (suc f) k i base s = by_node_fits (value look f) (value_fits look f) k i base s (look k)

pub entries_bound : (look : ℕ → Node) (f k i base : ℕ) (s : List ℕ) (g : Forest) → value look f k i base s ≡ accepted g → 4 * entry_count g ≤ length s + 4
entries_bound look f k i base s g e = rw e at (value_fits look f k i base s)
