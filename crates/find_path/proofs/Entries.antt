-- What is found is what the path leads to in the words of the run's list: the whole answer is read off that list (`find_lines`), and the part
-- found has the node, start and length of the entry that the path names there (`found_entry`).
use mathlib.Core.Path.{◌≡◌, refl, ap, sym, ◌∙◌}
use mathlib.Core.Bool.{Bool, true, false}
use mathlib.Core.List.{List, [], ◌∷◌, ◌++◌, append_assoc, append-nil}
use mathlib.Core.Logic.{⊎_elim}
use Prim.Native.Nat.{ℕ, zero, suc, ◌+◌, ◌*◌, ◌^◌, ◌<◌, ◌≤◌}
use native.Mathlib.Omega.{arith}
use native.Mathlib.Nat.{zero-add, add-zero}
use lib.Dec.{eqb}
use lib.ListN.{length, take, drop, get_or, length-take, length-drop}
use lib.Seq.{drop-length, drop-nil, drop-drop}
use borrow.Author.Tests.{eqb-false}
use Rattle.wire.proofs.Picks.{pick_case, pick_split}
use Rattle.plan_nodes.proofs.Nodes.{at_root}
use Rattle.find_path.proofs.Paths.{Within, follow_nowhere}
use Rattle.find_path.proofs.Calls.{passed, nothing_listed, led}
use Rattle.protocol.specs.Numbers.{pick}
use Rattle.protocol.specs.Constants.{ABSENT}
use Rattle.protocol.specs.Lists.{Entry, Forest, empty, tree, width, words}
use Rattle.protocol.specs.Answers.{accepted}
use Rattle.protocol.specs.Plans.{without_type}
use Rattle.protocol.specs.Running.{checked}
use Rattle.protocol.specs.Finding.{Spot, nowhere, spot, top_of, sibling, step, follow, unfound, found, found_at, found_in, find_of, Line, lines_in, past_lines, among, lead, found_on}

-- ---- the entries of a forest's words

abbrev line : Entry → ℕ → Line
line e n = record { node = e.node; index = e.index; start = e.start; size = e.size; below = n }

lines : Forest → List Line
lines empty = []
lines (tree e below next) = line e (width below) ∷ (lines below ++ lines next)

words_lines : (f : Forest) (ws : List ℕ) → lines_in (words f ++ ws) ≡ lines f ++ lines_in ws
unfolding words lines lines_in
words_lines empty ws = refl
words_lines (tree e below next) ws =
    rw (append_assoc (words below) (words next) ws, words_lines below (words next ++ ws), words_lines next ws, append_assoc (lines below) (lines next) (lines_in ws))

own_lines : (f : Forest) → lines_in (words f) ≡ lines f
unfolding lines_in
own_lines f = ap lines_in (sym (append-nil (words f))) ∙ words_lines f [] ∙ append-nil (lines f)

-- after the trees of a forest come those that are left
after_forest : (f : Forest) (n : ℕ) (ls : List Line) → past_lines (lines f ++ ls) (width f + n) ≡ past_lines ls n
unfolding width lines past_lines
after_forest empty n ls = ap (past_lines ls) (zero-add n)
after_forest (tree e below next) n ls =
    let w : width next + 1 + n ≡ suc (width next + n) = omega arith in
    rw (w, append_assoc (lines below) (lines next) ls, after_forest below (width next + n) (lines next ++ ls), after_forest next n ls)

after_none : (ls : List Line) → past_lines ls 0 ≡ ls
unfolding past_lines
after_none [] = refl
after_none (l ∷ ls) = refl

after_all : (f : Forest) (ls : List Line) → past_lines (lines f ++ ls) (width f) ≡ ls
after_all f ls = ap (past_lines (lines f ++ ls)) (sym (add-zero (width f))) ∙ after_forest f 0 ls ∙ after_none ls

-- the entry of a spot comes first, then all below it
Begins : Spot → List Line → Type 0
Begins nowhere ls = ls ≡ []
Begins (spot e below) ls = (rest : List Line) × (ls ≡ line e (width below) ∷ (lines below ++ rest))

begins_pick : (t : Bool) (x y : Spot) (ls ms : List Line) → Begins x ls → Begins y ms → Begins (pick t x y) (pick t ls ms)
unfolding pick
begins_pick true x y ls ms b c = b
begins_pick false x y ls ms b c = c

among_forest : (i : ℕ) (f : Forest) (ls : List Line) → Begins (sibling i f) (among i (width f) (lines f ++ ls))
unfolding sibling width lines among Begins
among_forest i empty ls = refl
among_forest i (tree e below next) ls =
    let w : width next + 1 ≡ suc (width next) = omega arith in
    rw (w, append_assoc (lines below) (lines next) ls, after_all below (lines next ++ ls))
    (begins_pick (eqb e.index i) (spot e below) (sibling i next) _ _ (lines next ++ ls, refl) (among_forest i next ls))

-- where a path leads in a forest, it leads in its entries
lead_forest : (path : List ℕ) (x : Spot) (ls : List Line) → Begins x ls → Begins (follow path x) (lead path ls)
unfolding follow step lead Begins
lead_forest [] x ls b = b
lead_forest (i ∷ path) nowhere ls b = rw (b, follow_nowhere path) refl
lead_forest (i ∷ path) (spot e below) ls b = rw b.1 (lead_forest path (sibling i below) _ (among_forest i below b.0))

top_forest : (f : Forest) → Begins (top_of f) (lines_in (words f))
unfolding top_of lines Begins
top_forest empty = own_lines empty
top_forest (tree e below next) = (lines next, own_lines (tree e below next))

-- ---- of the call

on_lines : (t : List ℕ) (x : Spot) (ls : List Line) → Begins x ls → found_at t x ≡ found_on t ls
unfolding Begins found_at found_on
on_lines t nowhere ls b = rw b
on_lines t (spot e below) ls b = rw b.1

-- The whole answer is read off the list that a run of the plan gives: 35 where the path leads to no entry of it, 36 where to one of length
-- ffffffff, and else the entry's node, and its bytes.
pub find_lines : (p s path : List ℕ) (f : Forest) → checked p s ≡ accepted f → find_of p s path ≡ found_on s (lead path (lines_in (words f)))
unfolding find_of found_in
find_lines p s path f e = rw e (on_lines s (follow path (top_of f)) _ (lead_forest path (top_of f) _ (top_forest f)))

-- ---- by the entry's number

-- the entries that a path leads to are those of the list from a number on
record From (ls rest : List Line) : Type 0 where
  number : ℕ
  is : rest ≡ drop number ls

from_none : (ls : List Line) → From ls []
from_none ls = record { number = length ls; is = sym (drop-length ls) }

from_next : (l : Line) (ls rest : List Line) → From ls rest → From (l ∷ ls) rest
from_next l ls rest x = record { number = suc x.number; is = x.is }

from_from : (ls rest more : List Line) → From ls rest → From rest more → From ls more
from_from ls rest more x y = record { number = x.number + y.number; is = y.is ∙ rw x.is (drop-drop y.number x.number ls) }

after_from : (ls : List Line) (n : ℕ) → From ls (past_lines ls n)
unfolding past_lines
after_from [] n = from_none []
after_from (l ∷ ls) zero = record { number = 0; is = refl }
after_from (l ∷ ls) (suc n) = from_next l ls _ (after_from ls (l.below + n))

among_from : (i n : ℕ) (ls : List Line) → From ls (among i n ls)
unfolding among
among_from i zero ls = from_none ls
among_from i (suc n) [] = from_none []
among_from i (suc n) (l ∷ ls) =
    pick_case (From (l ∷ ls)) (eqb l.index i) (l ∷ ls) (among i n (past_lines ls l.below))
    (λ _. record { number = 0; is = refl })
    (λ _. from_next l ls _ (from_from ls (past_lines ls l.below) _ (after_from ls l.below) (among_from i n (past_lines ls l.below))))

lead_from : (path : List ℕ) (ls : List Line) → From ls (lead path ls)
unfolding lead
lead_from [] ls = record { number = 0; is = refl }
lead_from (i ∷ path) [] = from_none []
lead_from (i ∷ path) (l ∷ ls) =
    from_next l ls _ (from_from ls (among i l.below ls) _ (among_from i l.below ls) (lead_from path (among i l.below ls)))

-- the words of the entry with a number
record Worded (ws : List ℕ) (m : ℕ) (l : Line) : Type 0 where
  inside : 5 * m + 4 < length ws
  node_is : get_or ws (5 * m) 0 ≡ l.node
  start_is : get_or ws (5 * m + 2) 0 ≡ l.start
  size_is : get_or ws (5 * m + 3) 0 ≡ l.size

none_left : (m : ℕ) (l : Line) (ls : List Line) → drop m [] ≡ l ∷ ls → ⊥
none_left m l ls e = go (l ∷ ls) (sym e ∙ drop-nil m) refl
  where
    go : (xs : List Line) → xs ≡ [] → xs ≡ l ∷ ls → ⊥
    go xs x y = let z : ◌≡◌ {A = ℕ} 0 1 = cc in absurd (omega arith)

-- a word past those of the first entry
next_word : (k i a n c : ℕ) (ws : List ℕ) (q j : ℕ) → q ≡ suc (suc (suc (suc (suc j)))) → get_or (k ∷ i ∷ a ∷ n ∷ c ∷ ws) q 0 ≡ get_or ws j 0
next_word k i a n c ws q j e = rw e

worded : (m : ℕ) (ws : List ℕ) (l : Line) (ls : List Line) → drop m (lines_in ws) ≡ l ∷ ls → Worded ws m l
unfolding lines_in
worded m [] l ls e = absurd (none_left m l ls e)
worded m (k ∷ []) l ls e = absurd (none_left m l ls e)
worded m (k ∷ i ∷ []) l ls e = absurd (none_left m l ls e)
worded m (k ∷ i ∷ a ∷ []) l ls e = absurd (none_left m l ls e)
worded m (k ∷ i ∷ a ∷ n ∷ []) l ls e = absurd (none_left m l ls e)
worded zero (k ∷ i ∷ a ∷ n ∷ c ∷ ws) l ls e = record { inside = omega arith; node_is = cc; start_is = cc; size_is = cc }
worded (suc m) (k ∷ i ∷ a ∷ n ∷ c ∷ ws) l ls e =
    let w = worded m ws l ls e in
    record {
      inside = omega (arith, w.inside);
      node_is = next_word k i a n c ws (5 * suc m) (5 * m) (omega arith) ∙ w.node_is;
      start_is = next_word k i a n c ws (5 * suc m + 2) (5 * m + 2) (omega arith) ∙ w.start_is;
      size_is = next_word k i a n c ws (5 * suc m + 3) (5 * m + 3) (omega arith) ∙ w.size_is;
    }

-- the entry of a list that a path names: its number, and what stands there
pub record Names (ws path : List ℕ) (k a n : ℕ) : Type 0 where
  pub entry : ℕ
  pub reached : lead path (lines_in ws) ≡ drop entry (lines_in ws)
  pub inside : 5 * entry + 4 < length ws
  pub node_is : get_or ws (5 * entry) 0 ≡ k
  pub start_is : get_or ws (5 * entry + 2) 0 ≡ a
  pub size_is : get_or ws (5 * entry + 3) 0 ≡ n

-- the part of a spot that lies in the value t
module _ (t ws path : List ℕ) (k a : ℕ) (b : List ℕ) where
  part_named : (x : Spot) → Begins x (lead path (lines_in ws)) → Within (length t) x → found_at t x ≡ found k a b → Names ws path k a (length b)
  unfolding Begins Within found_at
  part_named nowhere h l e = let z : ◌≡◌ {A = ℕ} 0 1 = cc in absurd (omega arith)
  part_named (spot d below) h l e =
      ⊎_elim
      (λ q. let z : ◌≡◌ {A = ℕ} 0 1 = unlike q.1 in absurd (omega arith))
      (λ q. ⊎_elim (λ (y : d.size ≡ ABSENT). absurd (eqb-false d.size ABSENT q.0 y)) (λ (y : d.start + d.size ≤ length t). shown q.1 y) l)
      (pick_split (eqb d.size ABSENT) (unfound 36 0) (found d.node d.start (take d.size (drop d.start t))) (found k a b) e)
    where
      unlike : unfound 36 0 ≡ found k a b → ◌≡◌ {A = ℕ} 0 1
      unlike q = cc

      shown : found d.node d.start (take d.size (drop d.start t)) ≡ found k a b → d.start + d.size ≤ length t → Names ws path k a (length b)
      shown q le =
          let ek : d.node ≡ k = cc in
          let ea : d.start ≡ a = cc in
          let eb : take d.size (drop d.start t) ≡ b = cc in
          let n : length (take d.size (drop d.start t)) ≡ d.size = simp (length-take, length-drop) (omega arith) in
          let m = lead_from path (lines_in ws) in
          let w = worded m.number ws (line d (width below)) _ (sym m.is ∙ h.1) in
          record {
            entry = m.number;
            reached = m.is;
            inside = w.inside;
            node_is = w.node_is ∙ ek;
            start_is = w.start_is ∙ ea;
            size_is = w.size_is ∙ sym n ∙ ap length eb;
          }

none_within : (n : ℕ) (path : List ℕ) → Within n (follow path (top_of empty))
unfolding top_of Within
none_within n path = rw (follow_nowhere path) tt

-- The part that is found: its node, start and length stand in the entry that the path names in the list that a run of the plan gives.
pub found_entry : (p s path : List ℕ) (f : Forest) → ((j : ℕ) → get_or p j 0 < 2 ^ 32) → checked p s ≡ accepted f
    → (k a : ℕ) (b : List ℕ) → find_of p s path ≡ found k a b → Names (words f) path k a (length b)
unfolding find_of found_in
found_entry p s path f small e k a b q = go (without_type p) refl
  where
    named : Within (length s) (follow path (top_of f)) → Names (words f) path k a (length b)
    named w = part_named s (words f) path k a b (follow path (top_of f)) (lead_forest path (top_of f) _ (top_forest f)) w (rw e at q)

    go : (c : Bool) → without_type p ≡ c → Names (words f) path k a (length b)
    go true n = named (rw (nothing_listed p s f e n) (none_within (length s) path))
    go false n = named (led p s f e n (get_or p 1 0) refl (at_root p (passed p s f e).formed n small) path).within
