-- The laws of outcomes: one after the other, and one below an entry.
use mathlib.Core.Path.{◌≡◌, refl, ap}
use mathlib.Core.List.{List, [], ◌++◌, append-nil}
use Prim.Native.Nat.{ℕ, ◌+◌, ◌≤◌, zero-le}
use native.Mathlib.Omega.{arith}
use Rattle.value_laws.proofs.Forests.{words_append, width_append, count_append, append_empty, append_assoc}
use Rattle.protocol.specs.Lists.{Entry, Forest, empty, append, width, words, entry_words}
use Rattle.value_laws.specs.Counts.{entry_count}
use Rattle.protocol.specs.Values.{ValueOutcome, then, under}
use Rattle.protocol.specs.Answers.{refused, accepted}

pub then_assoc : (a b c : ValueOutcome) → then a (then b c) ≡ then (then a b) c
unfolding then
then_assoc (refused n p) b c = refl
then_assoc (accepted f) (refused n p) c = refl
then_assoc (accepted f) (accepted g) (refused n p) = refl
then_assoc (accepted f) (accepted g) (accepted h) = ap accepted (append_assoc f g h)

pub then_empty : (o : ValueOutcome) → then (accepted empty) o ≡ o
unfolding then append
then_empty (refused n p) = refl
then_empty (accepted f) = refl

pub empty_then : (o : ValueOutcome) → then o (accepted empty) ≡ o
unfolding then
empty_then (refused n p) = refl
empty_then (accepted f) = ap accepted (append_empty f)

-- ---- what is listed, and nothing of a refusal

abbrev pub words_of : ValueOutcome → List ℕ
words_of (refused n p) = []
words_of (accepted f) = words f

-- how many entries there are in all
abbrev pub entries_of : ValueOutcome → ℕ
entries_of (refused n p) = 0
entries_of (accepted f) = entry_count f

-- how many trees stand side by side
abbrev pub width_of : ValueOutcome → ℕ
width_of (refused n p) = 0
width_of (accepted f) = width f

abbrev pub Accepted : ValueOutcome → Type 0
Accepted (refused n p) = ⊥
Accepted (accepted f) = Unit {0}

pub accepted_listed : (o : ValueOutcome) (f : Forest) → o ≡ accepted f → Accepted o
accepted_listed o f e = rw e tt

-- both parts of what is accepted
pub accepted_both : (a b : ValueOutcome) → Accepted (then a b) → Accepted a × Accepted b
unfolding then
accepted_both (refused n p) b h = absurd h
accepted_both (accepted f) (refused n p) h = absurd h
accepted_both (accepted f) (accepted g) h = (tt, tt)

pub words_then : (a b : ValueOutcome) → Accepted (then a b) → words_of (then a b) ≡ words_of a ++ words_of b
unfolding then
words_then (refused n p) b h = absurd h
words_then (accepted f) (refused n p) h = absurd h
words_then (accepted f) (accepted g) h = words_append f g

pub entries_then : (a b : ValueOutcome) → Accepted (then a b) → entries_of (then a b) ≡ entries_of a + entries_of b
unfolding then
entries_then (refused n p) b h = absurd h
entries_then (accepted f) (refused n p) h = absurd h
entries_then (accepted f) (accepted g) h = count_append f g

-- of a refusal too
pub entries_then_le : (a b : ValueOutcome) → entries_of (then a b) ≤ entries_of a + entries_of b
unfolding then
entries_then_le (refused n p) b = zero-le
entries_then_le (accepted f) (refused n p) = zero-le
entries_then_le (accepted f) (accepted g) = omega (arith, count_append f g)

pub width_then : (a b : ValueOutcome) → Accepted (then a b) → width_of (then a b) ≡ width_of a + width_of b
unfolding then
width_then (refused n p) b h = absurd h
width_then (accepted f) (refused n p) h = absurd h
width_then (accepted f) (accepted g) h = width_append f g

module _ (e : Entry) where
  pub accepted_under : (o : ValueOutcome) → Accepted (under e o) → Accepted o
  unfolding under
  accepted_under (refused n p) h = h
  accepted_under (accepted f) h = tt

  pub words_under : (o : ValueOutcome) → Accepted (under e o) → words_of (under e o) ≡ entry_words e (width_of o) ++ words_of o
  unfolding under words
  words_under (refused n p) h = absurd h
  words_under (accepted f) h = rw append-nil

  pub entries_under : (o : ValueOutcome) → Accepted (under e o) → entries_of (under e o) ≡ entries_of o + 1
  unfolding under entry_count
  entries_under (refused n p) h = absurd h
  entries_under (accepted f) h = omega arith

  pub width_under : (o : ValueOutcome) → Accepted (under e o) → width_of (under e o) ≡ 1
  unfolding under width
  width_under (refused n p) h = absurd h
  width_under (accepted f) h = refl
