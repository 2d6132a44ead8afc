use native.Mathlib.Omega.{arith}
use mathlib.Core.Path.{sym}
use lib.ListN.{length-append}
use Rattle.message_intake.proofs.Hands.{hand_none, hand_no_head, hand_short, hand_length, hand_unfit, hand_lacking, hand_whole}
use Rattle.message_intake.proofs.at_hand.Goals as goal

pub returns-then-all-eq0 : goal.returns-then-all-eq0
returns-then-all-eq0 c = sym (hand_none _ _ (simp length-append c.if-all-eq0.true))

pub returns-then-room-lt-MESSAGE_HEAD : goal.returns-then-room-lt-MESSAGE_HEAD
returns-then-room-lt-MESSAGE_HEAD c = sym (hand_no_head _ _ (simp length-append (omega arith)) c.if-room-lt-MESSAGE_HEAD.true)

pub returns-then-all-lt-MESSAGE_HEAD : goal.returns-then-all-lt-MESSAGE_HEAD
returns-then-all-lt-MESSAGE_HEAD c =
    rw (← length-append) (sym (hand_short _ _ c.if-room-lt-MESSAGE_HEAD.false (simp length-append (omega arith)) (simp length-append (omega arith))))

pub returns-then-length-lt4 : goal.returns-then-length-lt4
returns-then-length-lt4 c =
    sym (hand_length _ _ c.if-room-lt-MESSAGE_HEAD.false (simp length-append (omega arith)) _ c.length_field-length.ensures
    c.then-length-lt4.either)

pub returns-then-room-size : goal.returns-then-room-size
returns-then-room-size c =
    sym (hand_unfit _ _ c.if-room-lt-MESSAGE_HEAD.false (simp length-append (omega arith)) _
    c.length_field-length.ensures c.if-length-lt4.false c.if-length-gt-MOST_LENGTH.false c.if-room-size.true)

pub returns-then-all-size : goal.returns-then-all-size
returns-then-all-size c =
    rw (← length-append) (sym (hand_lacking _ _ c.if-room-lt-MESSAGE_HEAD.false (simp length-append (omega arith)) _
    c.length_field-length.ensures c.if-length-lt4.false c.if-length-gt-MOST_LENGTH.false
    c.if-room-size.false (simp length-append (omega arith))))

pub returns : goal.returns
returns c =
    sym (hand_whole _ _ c.if-room-lt-MESSAGE_HEAD.false (simp length-append (omega arith)) _
    c.length_field-length.ensures c.if-length-lt4.false c.if-length-gt-MOST_LENGTH.false
    c.if-room-size.false (simp length-append (omega arith)))
