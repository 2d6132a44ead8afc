-- Nobody has to believe these definitions: they are the rules of values as the code goes by them, the list by the number of its words so far.
-- A refusal says nothing of the list.
use Rattle.std.specs.Prelude.{◌≡◌, ℕ, ◌+◌, ◌*◌, ◌^◌, ◌<◌, ◌≤◌, Bool, true, false, List, eqb, length, get_or, Result, Ok, Err}
use Rattle.std.proofs.lemmas.List.Edits.{sets}
use Rattle.value_heads.specs.Heads.{Inside}
use Rattle.value_heads.specs.Bounds.{From}
use Rattle.forms.specs.declared.Head.{Head}
use Rattle.forms.specs.declared.fault.Refusal.{Refusal}
use Rattle.plan_nodes.specs.Readers.{Refers}
use Rattle.protocol.specs.Lists.{words}
use Rattle.protocol.specs.Values.{ValueOutcome}
use Rattle.protocol.specs.Answers.{refused, accepted}
use Rattle.protocol.specs.Nodes.{Node, leaf, enum, row, arrays, tuple, object, sparse, range}
use Rattle.protocol.specs.Numbers.{pick}
use Rattle.protocol.specs.Scalars.{scalar, enumeration}
use Rattle.protocol.specs.Heads.{index_of, end_of}

-- a refusal with a number and a place
abbrev pub refusal : ℕ → ℕ → Refusal
refusal n p = record { fault = n; place = p }

-- where a walk ends
pub data Walk : Type 0 where
  stopped : ℕ → ℕ → Walk
  reached : ℕ → List ℕ → Walk

unfoldable pub walk_of : Result ℕ Refusal → List ℕ → Walk
walk_of (Err r) l = stopped r.fault r.place
walk_of (Ok at) l = reached at l

-- where an outcome leads, from k words on: the list by `sets`, whose stores past the end do nothing
unfoldable pub led : ValueOutcome → ℕ → List ℕ → Walk
led (refused n p) k l = stopped n p
led (accepted f) k l = reached (k + length (words f)) (sets l k (words f))

-- the end of a container's elements (R5.14): whether no byte is left over, and whether a required index is lacking
unfoldable pub end_step : Bool → Bool → ℕ → ℕ → Result ℕ Refusal
end_step whole lacks base at = pick whole (pick lacks (Err (refusal 27 base)) (Ok at)) (Err (refusal 21 base))

-- by the byte at e, at most 1 + e / 4 entries of five words (R6.10): each has at least four bytes of its own
unfoldable pub Within : ℕ → Result ℕ Refusal → Type 0
Within e (Err r) = Unit {0}
Within e (Ok at) = 4 * at ≤ 5 * e + 20

-- a leaf's kinds: a scalar's and an enumeration's (R4.2)
unfoldable pub leaf_kind : ℕ → Bool
leaf_kind kind = pick (eqb kind 1) true (eqb kind 8)

-- whether a leaf's content is permitted (R5.15, R5.17)
unfoldable pub leaf_good : Node → List ℕ → Bool
leaf_good (leaf f) s = scalar f s
leaf_good enum s = enumeration s
leaf_good (row r) s = false
leaf_good (arrays r) s = false
leaf_good (tuple refs) s = false
leaf_good (object refs cards) s = false
leaf_good (sparse refs cards) s = false
leaf_good (range r) s = false

-- a container whose elements come in the order of their indexes
unfoldable pub IsRow : Node → Type 0
IsRow (leaf f) = ⊥
IsRow enum = ⊥
IsRow (row r) = Unit {0}
IsRow (arrays r) = Unit {0}
IsRow (tuple refs) = Unit {0}
IsRow (object refs cards) = Unit {0}
IsRow (sparse refs cards) = ⊥
IsRow (range r) = Unit {0}

-- the kind word of a container's node
pub record Container (p : List ℕ) (k kind : ℕ) : Type 0 where
  pub is : kind ≡ get_or p k 0
  pub low : 2 ≤ kind
  pub high : kind ≤ 7

-- every element below n has a node
abbrev pub Holds : Node → ℕ → Type 0
Holds v n = (i : ℕ) → i < n → Refers v i

-- what holds of an element's head that was read at a position of n bytes, in a container of a node
pub record HeadIn (v : Node) (n at : ℕ) (h : Head) : Type 0 where
  pub inside : Inside n at h
  pub from : From (at + 4) h
  pub refers : Refers v (index_of (Ok h))
  pub small : index_of (Ok h) < 2 ^ 32

-- the words of an element that was reached are few enough for its end
unfoldable pub WithinHead : ℕ → Head → Result ℕ Refusal → Type 0
WithinHead base h (Err r) = Unit {0}
WithinHead base h (Ok at) = 4 * at ≤ 5 * (base + end_of (Ok h)) + 20
