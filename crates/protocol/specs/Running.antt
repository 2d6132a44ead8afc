-- Running a plan over a value, in the order of R1.9.
use Rattle.std.specs.Prelude.{ℕ, List, ltb, eqb, length, get_or}
use Rattle.protocol.specs.Constants.{MOST_VALUE, VALUE_LEFT, VALUE_SIZE, LIST_ROOM, BAD_PLAN}
use Rattle.protocol.specs.Numbers.{pick}
use Rattle.protocol.specs.Answers.{refused, accepted, over}
use Rattle.protocol.specs.Lists.{empty, words}
use Rattle.protocol.specs.Values.{ValueOutcome, value_of}
use Rattle.protocol.specs.Plans.{look, without_type, plan_formed}

-- R6.8: no type has the value of no bytes, which lists nothing
unfoldable pub nothing_in : List ℕ → ValueOutcome
nothing_in s = pick (eqb (length s) 0) (accepted empty) (refused VALUE_LEFT 0)

-- R5.1: a value by a well-formed plan, as a whole judged by the root's node
unfoldable pub value_by : List ℕ → List ℕ → ValueOutcome
value_by p s = pick (without_type p) (nothing_in s) (value_of (look p) (get_or p 1 0) 0 0 s)

-- R4.4, R5.1: the refusals before the value is looked at, or what comes then
unfoldable pub admitted : List ℕ → List ℕ → ValueOutcome → ValueOutcome
admitted p s o = pick (plan_formed p) (pick (ltb MOST_VALUE (length s)) (refused VALUE_SIZE 0) o) (refused BAD_PLAN 0)

-- the outcome but for the list's room
unfoldable pub checked : List ℕ → List ℕ → ValueOutcome
checked p s = admitted p s (value_by p s)

-- R6.9
unfoldable pub list_roomed : ℕ → ValueOutcome → ValueOutcome
list_roomed room (refused n p) = refused n p
list_roomed room (accepted f) = pick (ltb room (length (words f))) (refused LIST_ROOM 0) (accepted f)

-- the call, for a list of `room` words
unfoldable pub run_of : List ℕ → List ℕ → ℕ → ValueOutcome
run_of p s room = list_roomed room (checked p s)

-- R1.1, R1.2: what the list then holds
unfoldable pub list_after : ValueOutcome → List ℕ → List ℕ
list_after (refused n p) l = l
list_after (accepted f) l = over (words f) l
