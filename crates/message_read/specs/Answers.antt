-- How the code's own `Message` shows protocol's outcome of reading a message: read it only for the contract of `message_read::read` and of
-- what it calls.
use Rattle.std.specs.Prelude.{◌≡◌, ℕ, List, length, Result, Ok, Err}
use Rattle.std.proofs.lemmas.List.Edits.{sets}
use Rattle.forms.specs.declared.fault.Refusal.{Refusal}
use Rattle.message_read.specs.declared.Message.{Message}
use Rattle.protocol.specs.Messages.{MessageRead, unread, read, message_list}

-- number and place of a refusal; bytes used and number of words
unfoldable pub answer_of : MessageRead → Result Message Refusal
answer_of (unread n p) = Err (record { fault = n; place = p })
answer_of (read at ws) = Ok (record { used = at; words = length ws })

-- an accepted message's words, stored from the start of a room as far as it goes
unfoldable pub Stored : MessageRead → List ℕ → List ℕ → Type 0
Stored (unread n p) l l' = Unit {0}
Stored (read at ws) l l' = l' ≡ sets l 0 ws

-- the answer but for the list's room, and the words of an accepted message
pub record Checks (o : MessageRead) (r : Result Message Refusal) (l l' : List ℕ) : Type 0 where
  pub answer : r ≡ answer_of o
  pub words : Stored o l l'

-- the outcome settles the answer and the list (R1.1, R1.2)
pub record Gives (o : MessageRead) (r : Result Message Refusal) (l l' : List ℕ) : Type 0 where
  pub answer : r ≡ answer_of o
  pub list : l' ≡ message_list o l

-- the message was accepted
pub record Accepted (o : MessageRead) : Type 0 where
  pub used : ℕ
  pub words : List ℕ
  pub is : o ≡ read used words
