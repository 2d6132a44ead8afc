-- The intake (R10): what the bytes of one side come to, read message after message; what an intake does with a delivery of them; and a host that
-- hands in deliveries.
use Rattle.std.specs.Prelude.{◌≡◌, ℕ, zero, suc, ◌-◌, List, [], ◌∷◌, ◌++◌, ltb, eqb, length, take, drop, Result, Ok, Err}
use Rattle.protocol.specs.Constants.{MESSAGE_HEAD, BAD_LENGTH, OUTPUT_ROOM}
use Rattle.protocol.specs.Numbers.{pick}
use Rattle.protocol.specs.Answers.{over}
use Rattle.protocol.specs.Messages.{MessageHead, head_short, bad_length, body_short, body_whole, message_head, MessageRead, unread, read, message_of}
use Rattle.forms.specs.declared.AtHand.{AtHand}
use Rattle.forms.specs.declared.AtHand.TheVariants.{Lacking, Whole}
use Rattle.forms.specs.declared.Intake.{Intake}
use Rattle.forms.specs.declared.Delivery.{Delivery}

-- ---- the bytes at hand (R10.3)

-- rows 3 to 6: a message must fit the room, which is asked as soon as its size is known
unfoldable pub roomed_head : ℕ → MessageHead → Result AtHand ℕ
roomed_head room (head_short k) = Ok (Lacking k)
roomed_head room bad_length = Err BAD_LENGTH
roomed_head room (body_short n k) = pick (ltb room n) (Err OUTPUT_ROOM) (Ok (Lacking k))
roomed_head room (body_whole n) = pick (ltb room n) (Err OUTPUT_ROOM) (Ok (Whole n))

-- rows 1 and 2, and then those
unfoldable pub at_hand : ℕ → List ℕ → Result AtHand ℕ
at_hand room [] = Ok (Lacking MESSAGE_HEAD)
at_hand room (b ∷ s) = pick (ltb room MESSAGE_HEAD) (Err OUTPUT_ROOM) (roomed_head room (message_head (b ∷ s)))

-- ---- all bytes of a side, read message after message (R10.8)

-- the bytes of a message that is not whole; or a refusal's number and place
pub data StreamEnd : Type 0 where
  unfinished : List ℕ → StreamEnd
  broken_off : ℕ → ℕ → StreamEnd

pub record Stream : Type 0 where
  pub messages : List (List ℕ)
  pub end : StreamEnd

abbrev pub no_message : StreamEnd → Stream
no_message e = record { messages = []; end = e }

-- rows 7 and 8: a whole message, as the reader reads it, and what the bytes after it come to
unfoldable pub with_message : List ℕ → MessageRead → Stream → Stream
with_message m (unread n p) after = no_message (broken_off n p)
with_message m (read u ws) after = record { messages = m ∷ after.messages; end = after.end }

unfoldable pub stream_by : ℕ → List ℕ → (List ℕ → Stream) → Result AtHand ℕ → Stream
stream_by side s after (Ok (Lacking k)) = no_message (unfinished s)
stream_by side s after (Err n) = no_message (broken_off n 0)
stream_by side s after (Ok (Whole n)) = with_message (take n s) (message_of side (take n s)) (after (drop n s))

module _ (side room : ℕ) where
  -- a message has bytes, so that the steps, as many as there are bytes, never run out
  unfoldable pub stream_in : ℕ → List ℕ → Stream
  stream_in zero s = no_message (unfinished s)
  stream_in (suc k) s = stream_by side s (stream_in k) (at_hand room s)

  unfoldable pub stream_of : List ℕ → Stream
  stream_of s = stream_in (length s) s

-- ---- states (R10.2, R10.5)

abbrev pub holding : ℕ → ℕ → ℕ → Intake
holding room side k = record { room = room; side = side; held = k; number = 0; place = 0 }

abbrev pub intake_start : ℕ → ℕ → Intake
intake_start side room = holding room side 0

abbrev pub intake_reset : Intake → Intake
intake_reset i = holding i.room i.side 0

abbrev pub intake_ended : Intake → ℕ → ℕ → Intake
intake_ended i n p = record { room = i.room; side = i.side; held = 0; number = n; place = p }

-- ---- a delivery (R10.3 to R10.7)

-- the answer, and what the room then holds
pub record Taken : Type 0 where
  pub answer : Delivery
  pub room : List ℕ

abbrev pub refused_delivery : Intake → ℕ → ℕ → Delivery
refused_delivery i n p = record { intake = i; number = n; place = p; taken = 0; size = 0; lacks = 0 }

abbrev pub taken_delivery : Intake → ℕ → ℕ → ℕ → Delivery
taken_delivery i t n k = record { intake = i; number = 0; place = 0; taken = t; size = n; lacks = k }

-- rows 7 and 8: a message of n bytes, as the reader reads it, of which t bytes were taken
unfoldable pub judged_delivery : Intake → ℕ → ℕ → MessageRead → Delivery
judged_delivery i t n (unread m p) = refused_delivery (intake_ended i m p) m p
judged_delivery i t n (read u ws) = taken_delivery (intake_reset i) t n MESSAGE_HEAD

-- h is held, and l is the room
unfoldable pub take_by : Intake → List ℕ → List ℕ → List ℕ → Result AtHand ℕ → Taken
take_by i h src l (Ok (Lacking k)) =
    record { answer = taken_delivery (holding i.room i.side (length (h ++ src))) (length src) 0 k; room = over (h ++ src) l }
take_by i h src l (Err n) = record { answer = refused_delivery (intake_ended i n 0) n 0; room = l }
take_by i h src l (Ok (Whole n)) =
    record { answer = judged_delivery i (n - length h) n (message_of i.side (take n (h ++ src))); room = over (take n (h ++ src)) l }

-- what changes nothing: the state and the room stay
abbrev pub unchanged : Intake → ℕ → ℕ → List ℕ → Taken
unchanged i n p l = record { answer = refused_delivery i n p; room = l }

-- the call: another room comes first (R10.6), then the refusal that ended the intake (R10.5)
unfoldable pub take_of : Intake → List ℕ → List ℕ → Taken
take_of i src l =
    pick (eqb (length l) i.room)
    (pick (eqb i.number 0)
    (take_by i (take i.held l) src l (at_hand (length l) (take i.held l ++ src)))
    (unchanged i i.number i.place l))
    (unchanged i OUTPUT_ROOM 0 l)

-- what the call settles: the answer, with the next state, and every byte of the room
pub record SettlesTaken (t : Taken) (r : Delivery) (l' : List ℕ) : Type 0 where
  pub answer : r ≡ t.answer
  pub room : l' ≡ t.room

abbrev pub TakesDelivery : Intake → List ℕ → Delivery → List ℕ → List ℕ → Type 0
TakesDelivery i src r l l' = SettlesTaken (take_of i src l) r l'

-- ---- a host that hands in deliveries (R10.8)

-- the state, the room, and the messages that were given so far
pub record Conversation : Type 0 where
  pub intake : Intake
  pub room : List ℕ
  pub given : List (List ℕ)

-- after a call
abbrev pub after_call : Conversation → Taken → Conversation
after_call c t = record { intake = t.answer.intake; room = t.room; given = c.given }

-- and with the message that it gave, which stands at the front of the room
abbrev pub with_given : Conversation → Taken → Conversation
with_given c t = record { intake = t.answer.intake; room = t.room; given = c.given ++ (take t.answer.size t.room ∷ []) }

-- the rest of a delivery is handed in again as long as a call gives a message
unfoldable pub hand_on : Conversation → (Conversation → List ℕ → Conversation) → List ℕ → Taken → Conversation
hand_on c again d t = pick (eqb t.answer.size 0) (after_call c t) (again (with_given c t) (drop t.answer.taken d))

-- each call that gives a message takes a byte, so that the calls, one more than there are bytes, never run out
unfoldable pub hand_in : ℕ → Conversation → List ℕ → Conversation
hand_in zero c d = c
hand_in (suc k) c d = hand_on c (hand_in k) d (take_of c.intake d c.room)

unfoldable pub hand_all : Conversation → List (List ℕ) → Conversation
hand_all c [] = c
hand_all c (d ∷ ds) = hand_all (hand_in (suc (length d)) c d) ds

abbrev pub conversation : ℕ → List ℕ → Conversation
conversation side l = record { intake = intake_start side (length l); room = l; given = [] }

-- the bytes of all deliveries, joined
unfoldable pub all_bytes : List (List ℕ) → List ℕ
all_bytes [] = []
all_bytes (d ∷ ds) = d ++ all_bytes ds

-- the state in which an intake ends, and the bytes that it holds, by how the reading of all bytes ends
unfoldable pub end_state : ℕ → ℕ → StreamEnd → Intake
end_state side room (unfinished s) = holding room side (length s)
end_state side room (broken_off n p) = intake_ended (intake_start side room) n p

unfoldable pub end_held : StreamEnd → List ℕ
end_held (unfinished s) = s
end_held (broken_off n p) = []

-- a conversation has come to what the reading of all bytes comes to: the messages in order, all of the state, and the bytes held in the room
pub record ComesTo (side room : ℕ) (c : Conversation) (x : Stream) : Type 0 where
  pub messages_are : c.given ≡ x.messages
  pub state_is : c.intake ≡ end_state side room x.end
  pub held_are : take c.intake.held c.room ≡ end_held x.end

-- states and rooms to which a start, calls and resets lead (R10.10)
pub data Reached (side room : ℕ) : Intake → List ℕ → Type 0 where
  starts : (l : List ℕ) → length l ≡ room → Reached side room (intake_start side room) l
  takes : (i : Intake) (l : List ℕ) → Reached side room i l → (src : List ℕ) → Reached side room (take_of i src l).answer.intake (take_of i src l).room
  resets : (i : Intake) (l : List ℕ) → Reached side room i l → Reached side room (intake_reset i) l
