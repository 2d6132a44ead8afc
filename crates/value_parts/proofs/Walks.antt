-- The laws of a walk: what is left of a value leads to the same place.
use mathlib.Core.Path.{◌≡◌, refl, ap, sym, ◌∙◌}
use mathlib.Core.Bool.{Bool, true, false}
use mathlib.Core.List.{List, [], ◌++◌, append-nil}
use mathlib.Core.Option.{Option}
use Prim.Native.Nat.{ℕ, zero, suc, ◌+◌, ◌-◌, ◌<◌, ◌≤◌}
use native.Mathlib.Omega.{arith}
use native.Mathlib.Nat.{add_assoc, add-zero, not-suc-le-zero}
use native.Mathlib.Numerals.{sub-one}
use lib.Dec.{eqb}
use lib.ListN.{length, length-append}
use lib.Seq.{sets}
use Rattle.std.specs.Prelude.{Result, Ok, Err}
use Rattle.wire.proofs.Stores.{sets_append}
use Rattle.forms.specs.declared.Head.{Head}
use Rattle.value_laws.proofs.Forests.{words_append}
use Rattle.value_laws.proofs.Widths.{value_one}
use Rattle.forms.specs.declared.fault.Refusal.{Refusal}
use Rattle.value_parts.specs.Walk.{refusal, stopped, reached, walk_of, led, end_step}
use Rattle.protocol.specs.Numbers.{pick}
use Rattle.protocol.specs.Heads.{end_of}
use Rattle.protocol.specs.Nodes.{Node}
use Rattle.protocol.specs.Lists.{Entry, Forest, empty, tree, width, words, entry_words}
use Rattle.protocol.specs.Values.{ValueOutcome, then, under, Rule, element_outcome, Form, container_end, elements, value_of, fuel}
use Rattle.protocol.specs.Answers.{refused, accepted}

-- ---- one part of a value after the other

then_stop : (n p : ℕ) (o b : ValueOutcome) (k : ℕ) (l : List ℕ) → stopped n p ≡ led o k l → stopped n p ≡ led (then o b) k l
unfolding led then
then_stop n p (refused m q) b k l e = e
then_stop n p (accepted f) b k l e = let z : ◌≡◌ {A = ℕ} 0 1 = cc in absurd (omega arith)

then_go : (k' : ℕ) (l' : List ℕ) (o b : ValueOutcome) (k : ℕ) (l : List ℕ) → reached k' l' ≡ led o k l → led (then o b) k l ≡ led b k' l'
unfolding led then
then_go k' l' (refused m q) b k l e = let z : ◌≡◌ {A = ℕ} 0 1 = cc in absurd (omega arith)
then_go k' l' (accepted f) (refused m q) k l e = refl
then_go k' l' (accepted f) (accepted g) k l e =
    let ek : k + length (words f) ≡ k' = cc in
    let el : sets l k (words f) ≡ l' = cc in
    rw (words_append f g, length-append, ← add_assoc, ← sets_append, ek, el)

module _ (s : Result ℕ Refusal) (l' : List ℕ) (o : ValueOutcome) (k : ℕ) (l : List ℕ) (q : walk_of s l' ≡ led o k l) (b : ValueOutcome) where
  pub stop : (r : Refusal) → s ≡ Err r → walk_of s l' ≡ led (then o b) k l
  unfolding walk_of
  stop r e = rw e (then_stop r.fault r.place o b k l (rw e at q))

  pub go : (at : ℕ) → s ≡ Ok at → led (then o b) k l ≡ led b at l'
  unfolding walk_of
  go at e = then_go at l' o b k l (rw e at q)

-- ---- a container's entry, and what is below it

pub under_go : (e : Entry) (n : ℕ) (o : ValueOutcome) (k : ℕ) (l l' : List ℕ) → ((f : Forest) → o ≡ accepted f → width f ≡ n) → l' ≡ sets l k (entry_words e n)
    → led (under e o) k l ≡ led o (k + 5) l'
unfolding led under words
under_go e n (refused m q) k l l' w g = refl
under_go e n (accepted f) k l l' w g =
    let h : width f ≡ n = w f refl in
    let a : sets (sets l k (entry_words e n)) (k + 5) (words f) ≡ sets l k (entry_words e n ++ words f) = sets_append l k (entry_words e n) (words f) in
    let c : k + length (entry_words e n ++ (words f ++ [])) ≡ k + 5 + length (words f) =
    omega (arith, length-append (entry_words e n) (words f ++ []), length-append (words f) []) in
    rw (h, c, g, append-nil) (ap (reached (k + 5 + length (words f))) (sym a))

-- of a leaf, and of an element that is absent: an entry and nothing below it
pub alone : (e : Entry) (k : ℕ) (l l' : List ℕ) → l' ≡ sets l k (entry_words e 0) → reached (k + 5) l' ≡ led (accepted (tree e empty empty)) k l
unfolding led words width
alone e k l l' g = rw g

-- ---- every value is one tree, so that a container has as many entries below it as its head says

abbrev pub Single : Rule → Type 0
Single rule = (k i base : ℕ) (s : List ℕ) (f : Forest) → rule k i base s ≡ accepted f → width f ≡ 1

pub single : (look : ℕ → Node) → Single (value_of look)
unfolding value_of
single look = value_one look fuel

-- ---- the elements of a container

-- the end of them
ended : (w b : Bool) (base k : ℕ) (l : List ℕ) → walk_of (end_step w b base k) l ≡ led (pick w (pick b (refused 27 base) (accepted empty)) (refused 21 base)) k l
unfolding walk_of end_step led pick words
ended true true base k l = refl
ended true false base k l = rw add-zero
ended false b base k l = refl

module _ (rule : Rule) (one : Single rule) (ref : ℕ → Option ℕ) (base : ℕ) (s : List ℕ) where
  module _ {S : Type 0} (form : Form S) where
    -- a loop's turn, and its end
    module _ (st : S) (at k : ℕ) (l : List ℕ) where
      pub next_one : (n : ℕ) → 0 < n
          → led (elements form rule ref base s n st at) k l
          ≡ led (then (element_outcome rule ref base s (form.head st at)) (elements form rule ref base s (n - 1) (form.next st (form.head st at)) (end_of (form.head st at)))) k l
      unfolding elements
      next_one zero h = absurd (not-suc-le-zero h)
      next_one (suc n) h = rw sub-one

      module _ (n : ℕ) (z : n ≤ 0) where
        none_is : elements form rule ref base s n st at ≡ pick (eqb at (length s)) (pick (form.lacks st) (refused 27 base) (accepted empty)) (refused 21 base)
        unfolding elements container_end
        none_is = let e : n ≡ 0 = omega arith in rw e

        pub done : (w b : Bool) → w ≡ eqb at (length s) → b ≡ form.lacks st → (x : Result ℕ Refusal) → x ≡ end_step w b base k → walk_of x l ≡ led (elements form rule ref base s n st at) k l
        done w b ew eb x ex = rw (ex, none_is, ← ew, ← eb) (ended w b base k l)

      -- an element whose head is refused
      pub turn_fault : (n : ℕ) → 0 < n → (m : ℕ) → form.head st at ≡ Err m → (x : Result ℕ Refusal) → x ≡ Err (refusal m base) → walk_of x l ≡ led (elements form rule ref base s n st at) k l
      unfolding element_outcome then led walk_of
      turn_fault n h m e x ex = rw ex (sym (next_one n h ∙ rw e))

    -- a turn of the loop: the next element's head, its answer, and the state after it
    module _ (st : S) (pos k n : ℕ) (l : List ℕ) (z : 0 < n) (h : Result Head ℕ) (eh : h ≡ form.head st pos) (x : Result ℕ Refusal) (l' : List ℕ) (q : walk_of x l' ≡ led (element_outcome rule ref base s h) k l) where
      turn_is : led (elements form rule ref base s n st pos) k l ≡ led (then (element_outcome rule ref base s h) (elements form rule ref base s (n - 1) (form.next st h) (end_of h))) k l
      turn_is = next_one st pos k l n z ∙ rw eh

      pub turn_stop : (r : Refusal) → x ≡ Err r → walk_of x l' ≡ led (elements form rule ref base s n st pos) k l
      turn_stop r e = stop x l' (element_outcome rule ref base s h) k l q _ r e ∙ sym turn_is

      pub turn_go : (at : ℕ) → x ≡ Ok at → (st' : S) → st' ≡ form.next st h → (pos' : ℕ) → pos' ≡ end_of h
          → led (elements form rule ref base s n st pos) k l ≡ led (elements form rule ref base s (n - 1) st' pos') at l'
      turn_go at e st' es pos' ep = turn_is ∙ go x l' (element_outcome rule ref base s h) k l q _ at e ∙ rw (es, ep)
