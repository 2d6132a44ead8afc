-- `wire::text::rest_at` meets its contract: each byte that passes leaves a sequence with one byte less to come.
use mathlib.Core.Path.{◌≡◌, sym, ◌∙◌}
use mathlib.Core.Bool.{Bool, true}
use mathlib.Core.List.{List}
use Prim.Native.Nat.{ℕ, ◌+◌, ◌-◌, ◌<◌}
use native.Mathlib.Omega.{arith}
use lib.ListN.{length, get_or}
use Rattle.protocol.specs.Text.{within}
use Rattle.wire.specs.Scan.{follower, second, Begins}
use Rattle.wire.proofs.Sequences.{Going, begun, passed, broken, cut, whole}
use Rattle.wire.proofs.text.rest_at.Goals as goal
use Rattle.wire.proofs.text.rest_at.Goals.{then-s-i-via-then-s-i, then-s-i-via-else-s-i+then-not-may_follow}

module _ (s : List ℕ) (i n : ℕ) where
  one_in : Begins s i n → Going s i 1 n (second (get_or s i 0))
  one_in h = begun s i n (second (get_or s i 0)) h.inside h.row

  two_in : Begins s i n → i + 1 < length s → (t : Bool) → t ≡ within (second (get_or s i 0)) (get_or s (i + 1) 0) → t ≡ true → Going s i 2 (n - 1) follower
  two_in h l t e p = passed s i 1 n (second (get_or s i 0)) (one_in h) h.some l (sym e ∙ p)

more_in : (s : List ℕ) (i k n : ℕ) → Going s i k n follower → 0 < n → i + k < length s → (t : Bool) → t ≡ within follower (get_or s (i + k) 0) → t ≡ true → Going s i (k + 1) (n - 1) follower
more_in s i k n g h l t e p = passed s i k n follower g h l (sym e ∙ p)

pub returns-then-s-i : goal.returns-then-s-i
returns-then-s-i c =
    elim c.then-s-i.branch [
      | then-s-i-via-then-s-i w ↦ cut _ _ 1 _ _ (one_in _ _ _ c.requires) (omega arith) (omega arith)
      | then-s-i-via-else-s-i+then-not-may_follow w ↦
          broken _ _ 1 _ _ (one_in _ _ _ c.requires) c.requires.some (omega arith) (sym w.may_follow.ensures ∙ w.if-not-may_follow.true)
    ]

pub returns-then-left-eq1 : goal.returns-then-left-eq1
returns-then-left-eq1 c =
    let two = two_in _ _ _ c.requires (omega arith) _ c.may_follow.ensures c.if-not-may_follow.false in
    whole _ _ 2 _ _ two (omega arith)

pub returns-then-not-is_within : goal.returns-then-not-is_within
returns-then-not-is_within c =
    let two = two_in _ _ _ c.requires (omega arith) _ c.may_follow.ensures c.if-not-may_follow.false in
    broken _ _ 2 _ _ two (omega arith) (omega arith) (sym c.is_within.ensures ∙ c.if-not-is_within.true)

pub returns-then-left-eq2 : goal.returns-then-left-eq2
returns-then-left-eq2 c =
    let two = two_in _ _ _ c.requires (omega arith) _ c.may_follow.ensures c.if-not-may_follow.false in
    let three = more_in _ _ 2 _ two (omega arith) (omega arith) _ c.is_within.ensures c.if-not-is_within.false in
    whole _ _ 3 _ _ three (omega arith)

pub returns-then-not-is_within-2 : goal.returns-then-not-is_within-2
returns-then-not-is_within-2 c =
    let two = two_in _ _ _ c.requires (omega arith) _ c.may_follow.ensures c.if-not-may_follow.false in
    let three = more_in _ _ 2 _ two (omega arith) (omega arith) _ c.is_within.ensures c.if-not-is_within.false in
    broken _ _ 3 _ _ three (omega arith) (omega arith) (sym c.is_within-2.ensures ∙ c.if-not-is_within-2.true)

pub returns : goal.returns
returns c =
    let two = two_in _ _ _ c.requires (omega arith) _ c.may_follow.ensures c.if-not-may_follow.false in
    let three = more_in _ _ 2 _ two (omega arith) (omega arith) _ c.is_within.ensures c.if-not-is_within.false in
    let four = more_in _ _ 3 _ three (omega arith) (omega arith) _ c.is_within-2.ensures c.if-not-is_within-2.false in
    whole _ _ 4 _ _ four (omega arith)
