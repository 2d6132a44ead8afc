-- What a call comes to (R1.1, R1.2): a refusal with its number and place, or what is accepted; and what it leaves in the room that it was lent.
use Rattle.std.specs.Prelude.{ℕ, List, ◌++◌, ltb, length, drop}
use Rattle.protocol.specs.Numbers.{pick}
use Rattle.protocol.specs.Constants.{OUTPUT_ROOM}

-- number and place of a refusal, or what is accepted
pub data Outcome (A : Type 0) : Type 0 where
  refused : ℕ → ℕ → Outcome A
  accepted : A → Outcome A

-- R1.2: what is put out from the start of a room, and then what the room held
abbrev pub over : List ℕ → List ℕ → List ℕ
over new old = new ++ drop (length new) old

-- ---- the two writers

-- a refusal's number, whose place is 0, or the bytes that are put out
pub data Put : Type 0 where
  refused_put : ℕ → Put
  put_out : List ℕ → Put

-- R8.12: the output needs room for them
unfoldable pub output_roomed : ℕ → Put → Put
output_roomed room (refused_put n) = refused_put n
output_roomed room (put_out b) = pick (ltb room (length b)) (refused_put OUTPUT_ROOM) (put_out b)

-- R1.1, R1.2: a refusal changes nothing
unfoldable pub output_after : Put → List ℕ → List ℕ
output_after (refused_put n) out = out
output_after (put_out b) out = over b out
