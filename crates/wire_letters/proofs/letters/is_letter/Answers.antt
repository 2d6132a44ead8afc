-- `wire_letters::letters::is_letter` meets its contract: each byte that passes leaves a letter with one byte less to come.
use mathlib.Core.Path.{◌≡◌, sym, ◌∙◌}
use mathlib.Core.Bool.{true}
use mathlib.Core.List.{List, ◌∷◌}
use Prim.Native.Nat.{ℕ, ◌+◌, ◌-◌, ◌<◌}
use native.Mathlib.Omega.{arith}
use lib.ListN.{length, drop, get_or}
use Rattle.wire.specs.Scan.{follower, ahead, follow}
use Rattle.wire.proofs.Picks.{pick_yes, pick_no}
use Rattle.wire_letters.proofs.Rows.{follow_next, ahead_yes, ahead_no, ahead_none, ahead_last}
use Rattle.protocol.specs.Text.{Range, ◌to◌, within}
use Rattle.wire_letters.proofs.letters.is_letter.Goals as goal

-- a letter of the row, its first byte in f and its second in r, and what is left of it after its first byte, its second and its third
module _ (s : List ℕ) (i : ℕ) (f r : Range) (left : ℕ) (h : i + left < length s) (p : 0 < left) (a : within f (get_or s i 0) ≡ true) where
  one : follow (f ∷ ahead left r) (drop i s) ≡ follow (ahead left r) (drop (i + 1) s)
  one = follow_next s i f (ahead left r) (omega arith) ∙ pick_yes (within f (get_or s i 0)) (follow (ahead left r) (drop (i + 1) s)) _ a

  module _ (b : within r (get_or s (i + 1) 0) ≡ true) where
    two : follow (f ∷ ahead left r) (drop i s) ≡ follow (ahead (left - 1) follower) (drop (i + 2) s)
    two = one ∙ ahead_yes s i 1 left r p (omega arith) b

    three : 1 < left → within follower (get_or s (i + 2) 0) ≡ true → follow (f ∷ ahead left r) (drop i s) ≡ follow (ahead (left - 1 - 1) follower) (drop (i + 3) s)
    three q c = two ∙ ahead_yes s i 2 (left - 1) follower (omega arith) (omega arith) c

pub returns-then-not-is_within : goal.returns-then-not-is_within
returns-then-not-is_within c =
    let a = c.args in
    sym
    (follow_next a.s.now a.i (a.first to a.last) (ahead a.left (a.low to a.high)) (omega arith)
    ∙ pick_no (within (a.first to a.last) (get_or a.s.now a.i 0)) (follow (ahead a.left (a.low to a.high)) (drop (a.i + 1) a.s.now)) _ (sym c.is_within.ensures ∙ c.if-not-is_within.true))

pub returns-then-not-is_within-2 : goal.returns-then-not-is_within-2
returns-then-not-is_within-2 c =
    let a = c.args in
    sym
    (one a.s.now a.i (a.first to a.last) (a.low to a.high) a.left c.requires.0 c.requires.1 (sym c.is_within.ensures ∙ c.if-not-is_within.false)
    ∙ ahead_no a.s.now a.i 1 a.left (a.low to a.high) (omega arith) (omega arith) (sym c.is_within-2.ensures ∙ c.if-not-is_within-2.true))

pub returns-then-left-eq1 : goal.returns-then-left-eq1
returns-then-left-eq1 c =
    let a = c.args in
    sym
    (two a.s.now a.i (a.first to a.last) (a.low to a.high) a.left c.requires.0 c.requires.1 (sym c.is_within.ensures ∙ c.if-not-is_within.false) (sym c.is_within-2.ensures ∙ c.if-not-is_within-2.false)
    ∙ ahead_none _ _ _ (omega arith))

pub returns-then-not-is_within-3 : goal.returns-then-not-is_within-3
returns-then-not-is_within-3 c =
    let a = c.args in
    sym
    (two a.s.now a.i (a.first to a.last) (a.low to a.high) a.left c.requires.0 c.requires.1 (sym c.is_within.ensures ∙ c.if-not-is_within.false) (sym c.is_within-2.ensures ∙ c.if-not-is_within-2.false)
    ∙ ahead_no a.s.now a.i 2 (a.left - 1) follower (omega arith) (omega arith) (sym c.is_within-3.ensures ∙ c.if-not-is_within-3.true))

pub returns-then-left-eq2 : goal.returns-then-left-eq2
returns-then-left-eq2 c =
    let a = c.args in
    sym
    (three a.s.now a.i (a.first to a.last) (a.low to a.high) a.left c.requires.0 c.requires.1 (sym c.is_within.ensures ∙ c.if-not-is_within.false) (sym c.is_within-2.ensures ∙ c.if-not-is_within-2.false) (omega arith) (sym c.is_within-3.ensures ∙ c.if-not-is_within-3.false)
    ∙ ahead_none _ _ _ (omega arith))

pub returns : goal.returns
returns c =
    let a = c.args in
    sym
    (three a.s.now a.i (a.first to a.last) (a.low to a.high) a.left c.requires.0 c.requires.1 (sym c.is_within.ensures ∙ c.if-not-is_within.false) (sym c.is_within-2.ensures ∙ c.if-not-is_within-2.false) (omega arith) (sym c.is_within-3.ensures ∙ c.if-not-is_within-3.false)
    ∙ ahead_last a.s.now a.i 3 (a.left - 1 - 1) follower (omega arith) (omega arith) (omega arith) ∙ sym c.is_within-4.ensures)
