-- How words cross to the C host, and the calls on bytes (R9).
use Rattle.std.specs.Prelude.{◌≡◌, ℕ, ◌*◌, ◌/◌, ◌%◌, Bool, false, List, [], ◌∷◌, ◌++◌, leb, eqb, length, drop}
use Rattle.std.proofs.Math.Option.{Option, none, some}
use Rattle.protocol.specs.Constants.{MOST_WORDS, ROOM, UNKNOWN_TYPE, BAD_FIELD, BAD_PLAN, NO_VALUE, NO_ENTRY}
use Rattle.protocol.specs.Numbers.{pick, be, bytes_be}
use Rattle.protocol.specs.Answers.{Outcome, refused, accepted, Put, refused_put, put_out, output_after}
use Rattle.protocol.specs.Messages.{Layout, layout_of, MessageRead, unread, read, message_call, message_written}
use Rattle.protocol.specs.Lists.{words}
use Rattle.protocol.specs.Values.{ValueOutcome}
use Rattle.protocol.specs.Plans.{plan_formed}
use Rattle.protocol.specs.Compiling.{compile_by}
use Rattle.protocol.specs.Descriptors.{bare_form}
use Rattle.protocol.specs.Running.{checked, run_of}
use Rattle.protocol.specs.Finding.{Found, unfound, found, find_of, Numbered, unnumbered, numbered, of_found}
use Rattle.protocol.specs.Building.{write_of}
use Rattle.forms.specs.declared.Answer.{Answer}
use Rattle.forms.specs.declared.Number.{Number}

-- ---- words as bytes (R9.3)

-- the words of a run of bytes, as many as are whole
unfoldable pub words_in : List ℕ → List ℕ
words_in [] = []
words_in (a ∷ []) = []
words_in (a ∷ b ∷ []) = []
words_in (a ∷ b ∷ c ∷ []) = []
words_in (a ∷ b ∷ c ∷ d ∷ s) = be (a ∷ b ∷ c ∷ d ∷ []) ∷ words_in s

-- the bytes of a run of words
unfoldable pub bytes_out : List ℕ → List ℕ
bytes_out [] = []
bytes_out (w ∷ ws) = bytes_be 4 w ++ bytes_out ws

-- R9.4: a run of n bytes is whole words, and not too many
unfoldable pub crosses : ℕ → Bool
crosses n = pick (eqb (n % 4) 0) (leb n ROOM) false

-- R9.6: the room for words in n bytes
unfoldable pub word_room : ℕ → ℕ
word_room n = pick (leb n ROOM) (n / 4) MOST_WORDS

-- R1.2: words that are put out from the start of a room of bytes, and then what the room held
abbrev pub words_over : List ℕ → List ℕ → List ℕ
words_over ws l = bytes_out ws ++ drop (4 * length ws) l

-- ---- what a call returns (R9.8)

abbrev pub refusal : ℕ → ℕ → Answer
refusal n p = record { number = n; place = p; first = 0; second = 0 }

abbrev pub success : ℕ → ℕ → Answer
success a b = record { number = 0; place = 0; first = a; second = b }

-- ---- reading a message

-- the bytes used and the words written
unfoldable pub read_answer : MessageRead → Answer
read_answer (unread n p) = refusal n p
read_answer (read u ws) = success u (length ws)

unfoldable pub read_list : MessageRead → List ℕ → List ℕ
read_list (unread n p) l = l
read_list (read u ws) l = words_over ws l

-- what the call settles: the answer, and every byte of the list's room
pub record ReadsMessage (side : ℕ) (src : List ℕ) (r : Answer) (l l' : List ℕ) : Type 0 where
  pub answer : r ≡ read_answer (message_call side src (word_room (length l)))
  pub list : l' ≡ read_list (message_call side src (word_room (length l))) l

-- ---- writing a message

-- R9.5: a list that does not cross is refused in its turn
unfoldable pub uncrossed_list : Option Layout → Put
uncrossed_list none = refused_put UNKNOWN_TYPE
uncrossed_list (some l) = refused_put BAD_FIELD

unfoldable pub written_from : ℕ → ℕ → List ℕ → List ℕ → ℕ → Put
written_from side t list src room =
    pick (crosses (length list)) (message_written side t (words_in list) src room) (uncrossed_list (layout_of side t))

-- of either writer: the bytes written
unfoldable pub put_answer : Put → Answer
put_answer (refused_put n) = refusal n 0
put_answer (put_out b) = success (length b) 0

-- what a writer settles: the answer, and every byte of the output's room
pub record SettlesPut (o : Put) (r : Answer) (out out' : List ℕ) : Type 0 where
  pub answer : r ≡ put_answer o
  pub output : out' ≡ output_after o out

abbrev pub WritesMessage : ℕ → ℕ → List ℕ → List ℕ → Answer → List ℕ → List ℕ → Type 0
WritesMessage side t list src r out out' = SettlesPut (written_from side t list src (length out)) r out out'

-- ---- compiling a descriptor's plan

-- the words written
unfoldable pub compile_answer : Outcome (List ℕ) → Answer
compile_answer (refused n p) = refusal n p
compile_answer (accepted ws) = success (length ws) 0

unfoldable pub compile_room : Outcome (List ℕ) → List ℕ → List ℕ
compile_room (refused n p) l = l
compile_room (accepted ws) l = words_over ws l

-- what an outcome settles: the answer, and every byte of the plan's room
pub record SettlesPlan (o : Outcome (List ℕ)) (r : Answer) (l l' : List ℕ) : Type 0 where
  pub answer : r ≡ compile_answer o
  pub plan : l' ≡ compile_room o l

abbrev pub CompilesPlan : List ℕ → List ℕ → Answer → List ℕ → List ℕ → Type 0
CompilesPlan d root r l l' = SettlesPlan (compile_by bare_form d root (word_room (length l))) r l l'

-- ---- running a plan over a value

-- the words written
unfoldable pub run_answer : ValueOutcome → Answer
run_answer (refused n p) = refusal n p
run_answer (accepted f) = success (length (words f)) 0

unfoldable pub run_list : ValueOutcome → List ℕ → List ℕ
run_list (refused n p) l = l
run_list (accepted f) l = words_over (words f) l

-- R9.5: a plan that does not cross comes first
unfoldable pub run_from : List ℕ → List ℕ → ℕ → ValueOutcome
run_from plan value room = pick (crosses (length plan)) (run_of (words_in plan) value room) (refused BAD_PLAN 0)

-- what an outcome settles: the answer, and every byte of the list's room
pub record SettlesRun (o : ValueOutcome) (r : Answer) (l l' : List ℕ) : Type 0 where
  pub answer : r ≡ run_answer o
  pub list : l' ≡ run_list o l

abbrev pub RunsValue : List ℕ → List ℕ → Answer → List ℕ → List ℕ → Type 0
RunsValue plan value r l l' = SettlesRun (run_from plan value (word_room (length l))) r l l'

-- ---- finding

-- R9.5: a path that does not cross comes after the value's own faults
unfoldable pub no_path : ValueOutcome → Found
no_path (refused n p) = unfound n p
no_path (accepted f) = unfound NO_ENTRY 0

unfoldable pub find_from : List ℕ → List ℕ → List ℕ → Found
find_from plan value path =
    pick (crosses (length plan))
    (pick (crosses (length path)) (find_of (words_in plan) value (words_in path)) (no_path (checked (words_in plan) value)))
    (unfound BAD_PLAN 0)

-- the part's start and length
unfoldable pub find_answer : Found → Answer
find_answer (unfound n p) = refusal n p
find_answer (found k a b) = success a (length b)

-- the number of what was found
unfoldable pub number_from : List ℕ → List ℕ → List ℕ → Numbered
number_from plan value path = of_found (words_in plan) (find_from plan value path)

-- the format, and the bits
unfoldable pub number_answer : Numbered → Number
number_answer (unnumbered n p) = record { number = n; place = p; format = 0; bits = 0 }
number_answer (numbered f b) = record { number = 0; place = 0; format = f; bits = b }

-- ---- writing a value

-- R9.5: a list that does not cross is refused in its turn
unfoldable pub uncrossed_supply : List ℕ → Put
uncrossed_supply plan = pick (plan_formed plan) (refused_put NO_VALUE) (refused_put BAD_PLAN)

unfoldable pub write_from : List ℕ → List ℕ → List ℕ → ℕ → Put
write_from plan list src room =
    pick
    (crosses (length plan))
    (pick (crosses (length list)) (write_of (words_in plan) (words_in list) src room) (uncrossed_supply (words_in plan)))
    (refused_put BAD_PLAN)

-- what the call settles; the output's room counts in bytes and has no limit (R9.7)
abbrev pub WritesValue : List ℕ → List ℕ → List ℕ → Answer → List ℕ → List ℕ → Type 0
WritesValue plan list src r out out' = SettlesPut (write_from plan list src (length out)) r out out'
