-- What this library promises, on one page, in the order of the rules, R1 to R10. It must be believed together with crates/protocol, whose
-- definitions it cites. Of other crates it cites two contracts of inner calls: find_number/specs/Number (`Gives`), and run_compiled/specs/Follows
-- with run_plan/specs/Run. Each promise is a type with a name, and proofs/Theorems proves it.
use Rattle.std.specs.Prelude.{◌≡◌, true, false, List, [], ◌++◌, map, ◌⊎◌, ◌↔◌, ℕ, ◌+◌, ◌-◌, ◌*◌, ◌/◌, ◌%◌, ◌^◌, ◌<◌, ◌≤◌, length, get_or, take, drop, Result}
use Rattle.std.specs.Float.{Format}
use Rattle.std.specs.Float.Ieee.{ones, hid, top, of_bits, to_bits}
use Rattle.find_number.specs.Number.{Gives}
use Rattle.find_number.specs.declared.Number.{Number}
use Rattle.forms.specs.declared.fault.Refusal.{Refusal}
use Rattle.run_compiled.specs.Follows.{Follows}
use Rattle.run_compiled.specs.contracts.compile_and_run as compile_and_run_contract
use Rattle.run_compiled.proofs.compile_and_run.Symbol as compile_and_run_code
use Rattle.forms.specs.declared.Answer.{Answer}
use Rattle.forms.specs.declared.Intake.{Intake}
use Rattle.forms.specs.declared.Delivery.{Delivery}
use Rattle.c_panel.specs.contracts.rembulfose_read_message as read_message_contract
use Rattle.c_panel.proofs.rembulfose_read_message.Symbol as read_message_code
use Rattle.c_panel.specs.contracts.rembulfose_intake_start as intake_start_contract
use Rattle.c_panel.proofs.rembulfose_intake_start.Symbol as intake_start_code
use Rattle.c_panel.specs.contracts.rembulfose_intake_reset as intake_reset_contract
use Rattle.c_panel.proofs.rembulfose_intake_reset.Symbol as intake_reset_code
use Rattle.c_panel.specs.contracts.rembulfose_intake_take as intake_take_contract
use Rattle.c_panel.proofs.rembulfose_intake_take.Symbol as intake_take_code
use Rattle.c_panel.specs.contracts.rembulfose_write_message as write_message_contract
use Rattle.c_panel.proofs.rembulfose_write_message.Symbol as write_message_code
use Rattle.c_panel.specs.contracts.rembulfose_compile as compile_contract
use Rattle.c_panel.proofs.rembulfose_compile.Symbol as compile_code
use Rattle.c_panel.specs.contracts.rembulfose_run as run_contract
use Rattle.c_panel.proofs.rembulfose_run.Symbol as run_code
use Rattle.c_panel.specs.contracts.rembulfose_find as find_contract
use Rattle.c_panel.proofs.rembulfose_find.Symbol as find_code
use Rattle.c_panel.specs.contracts.rembulfose_find_number as find_number_contract
use Rattle.c_panel.proofs.rembulfose_find_number.Symbol as find_number_code
use Rattle.c_panel.specs.contracts.rembulfose_write_value as write_value_contract
use Rattle.c_panel.proofs.rembulfose_write_value.Symbol as write_value_code
use Rattle.protocol.specs.Constants.{MESSAGE_HEAD, MOST_VALUE, VALUE_SIZE, PLAN_ROOM, LIST_ROOM, OUTPUT_ROOM, BAD_PLAN, NO_VALUE}
use Rattle.protocol.specs.Constants.{FORMAT_LOCAL_TIME, KIND_LEAF}
use Rattle.protocol.specs.Numbers.{be, bytes_be}
use Rattle.protocol.specs.Scalars.{scalar}
use Rattle.protocol.specs.Answers.{refused, accepted, refused_put, put_out, output_roomed}
use Rattle.protocol.specs.Messages.{read, message_call, contents}
use Rattle.protocol.specs.Descriptors.{Block, bare_form, DescribedType, no_type, block_type, describe}
use Rattle.protocol.specs.Lists.{Forest, words, Entries}
use Rattle.protocol.specs.Plans.{plan_formed}
use Rattle.protocol.specs.Compiling.{whole_plan, compile_by}
use Rattle.protocol.specs.Running.{value_by, checked, run_of}
use Rattle.protocol.specs.OffDescriptor.{rules_by}
use Rattle.protocol.specs.Finding.{unfound, found, find_of, lines_in, lead, found_on, Numbered, extended}
use Rattle.protocol.specs.Supplies.{HasSupply, zeroed}
use Rattle.protocol.specs.Building.{write_of}
use Rattle.protocol.specs.Crossing.{words_in, crosses, word_room, refusal, success, ReadsMessage, WritesMessage, CompilesPlan}
use Rattle.protocol.specs.Crossing.{run_from, SettlesRun, RunsValue, find_from, find_answer, number_from, number_answer, write_from, WritesValue}
use Rattle.protocol.specs.Intake.{stream_of, intake_start, intake_reset, refused_delivery, taken_delivery, TakesDelivery, hand_all, conversation, all_bytes}
use Rattle.protocol.specs.Intake.{ComesTo, Reached}
use Rattle.theorems.specs.Terms.{Bytes, Words, Keeps, WholeMessage, TypedDescriptor, RunNumber, PathEntry, IndexesApart, NoneHas}
use Rattle.theorems.specs.Terms.{KeepsBehind, IntakeNumber, Lacks, SameEnd, Does}
use Rattle.theorems.specs.Cases.{Case, cases}

-- ---- R1: refusals and success

-- Each C call that has a room writes no more of it than it answers, and leaves it as it was where it refuses (R1.1, R1.2, R9.6, R9.7). Of an intake's
-- room, which is its own, only what is behind the bytes held or the message given is left as it was, and a refusal may have changed it (R10.7).
abbrev pub RoomsKept : Type 0
RoomsKept =
    ((side : ℕ) (s : List ℕ) (r : Answer) (l l' : List ℕ) → ReadsMessage side s r l l' → Keeps r (4 * r.second) l l')
    × ((side t : ℕ) (list src : List ℕ) (r : Answer) (l l' : List ℕ) → WritesMessage side t list src r l l' → Keeps r r.first l l')
    × ((d root : List ℕ) (r : Answer) (l l' : List ℕ) → CompilesPlan d root r l l' → Keeps r (4 * r.first) l l')
    × ((plan s : List ℕ) (r : Answer) (l l' : List ℕ) → RunsValue plan s r l l' → Keeps r (4 * r.first) l l')
    × ((plan list src : List ℕ) (r : Answer) (l l' : List ℕ) → WritesValue plan list src r l l' → Keeps r r.first l l')
    × ((i : Intake) (src : List ℕ) (r : Delivery) (l l' : List ℕ) → TakesDelivery i src r l l' → KeepsBehind r l l')

-- ---- R2: messages

-- A message is accepted exactly when it is whole and its list has room (R1.6, R2.2 to R2.13).
abbrev pub MessageAccepted : Type 0
MessageAccepted =
    (side : ℕ) (s : List ℕ) (room u : ℕ) (ws : List ℕ) → (message_call side s room ≡ read u ws) ↔ (WholeMessage side s u ws × (length ws ≤ room))

-- What the C call read, the C call writes again from its list and any source that begins with the message: the same bytes (R2.13, R2.14).
abbrev pub ReadThenWritten : Type 0
ReadThenWritten =
    (side : ℕ) (s : List ℕ) → Bytes s → (r : Answer) (l l' : List ℕ) → ReadsMessage side s r l l' → r.number ≡ 0
    → (src : List ℕ) → take r.first src ≡ take r.first s
    → (q : Answer) (out out' : List ℕ) → WritesMessage side (get_or s 0 0) (take (4 * r.second) l') src q out out' → r.first ≤ length out
    → (q ≡ success r.first 0) × (out' ≡ take r.first s ++ drop r.first out)

-- What the C call wrote, the C call reads, whatever comes after it: where its list has room it is used whole, of the type asked for, with the
-- same contents (R2.14); in less room it is 31, and nothing else is wrong (R1.6).
abbrev pub WrittenThenRead : Type 0
WrittenThenRead =
    (side t : ℕ) (list src : List ℕ) (r : Answer) (out out' : List ℕ) → WritesMessage side t list src r out out' → r.number ≡ 0
    → (s : List ℕ) → take r.first s ≡ take r.first out' → (q : Answer) (l l' : List ℕ) → ReadsMessage side s q l l'
    → (length list / 4 ≤ word_room (length l)
    → (q ≡ success r.first (length list / 4)) × (get_or s 0 0 ≡ t) × (contents s (words_in (take (4 * q.second) l')) ≡ contents src (words_in list)))
    × (word_room (length l) < length list / 4 → (q ≡ refusal LIST_ROOM 0) × (l' ≡ l))

-- ---- R3: descriptors

-- A descriptor is accepted exactly when its size, root id and blocks are so; or, as "no type", with no bytes and an id of zero (R3.1 to R3.17).
abbrev pub DescriptorAccepted : Type 0
DescriptorAccepted =
    ((d root : List ℕ) (bs : List Block) (i : ℕ) → (describe bare_form d root ≡ accepted (block_type bs i)) ↔ TypedDescriptor d root bs i)
    × ((d root : List ℕ) → (describe bare_form d root ≡ accepted no_type) ↔ ((d ≡ []) × (length root ≡ 16) × (be root ≡ 0)))

-- Else it is refused with a number from 10 to 18, at a place in it or at its end (R1.3, R1.12).
abbrev pub DescriptorNumbers : Type 0
DescriptorNumbers = (d root : List ℕ) (n p : ℕ) → describe bare_form d root ≡ refused n p → (10 ≤ n) × (n ≤ 18) × (p ≤ length d)

-- ---- R4: plans, and the rules read off a descriptor

-- A plan is given exactly when the descriptor is accepted and its whole plan fits the room; 30 exactly when it does not fit; what is not accepted
-- has its own number and place (R1.8, R4.1, R4.6 to R4.9).
abbrev pub PlanGiven : Type 0
PlanGiven =
    (d root : List ℕ) (room : ℕ)
    → ((ws : List ℕ)
    → (compile_by bare_form d root room ≡ accepted ws)
    ↔ ((t : DescribedType) × (describe bare_form d root ≡ accepted t) × (ws ≡ whole_plan t) × (length ws ≤ room)))
    × ((compile_by bare_form d root room ≡ refused PLAN_ROOM 0)
    ↔ ((t : DescribedType) × (describe bare_form d root ≡ accepted t) × (room < length (whole_plan t))))
    × ((n p : ℕ) → describe bare_form d root ≡ refused n p → compile_by bare_form d root room ≡ refused n p)

-- The plan of an accepted descriptor is made of words and well formed, so no run of it is 33 (R4.4, R4.7).
abbrev pub NeverUnformed : Type 0
NeverUnformed =
    (d root : List ℕ) (t : DescribedType) → describe bare_form d root ≡ accepted t
    → Words (whole_plan t)
    × (plan_formed (whole_plan t) ≡ true)
    × ((s : List ℕ) (room q : ℕ) → run_of (whole_plan t) s room ≡ refused BAD_PLAN q → ⊥)

-- Demand 3, R4.14: a run of an accepted descriptor's plan is what the rules read off the descriptor give, for every value and room; and a
-- descriptor that is refused the rules refuse with the same number and place (R4.10 to R4.13).
abbrev pub DemandThree : Type 0
DemandThree =
    (d root : List ℕ)
    → ((t : DescribedType) → describe bare_form d root ≡ accepted t
    → (s : List ℕ) (room : ℕ) → run_of (whole_plan t) s room ≡ rules_by bare_form d root s room)
    × ((n p : ℕ) → describe bare_form d root ≡ refused n p → (s : List ℕ) (room : ℕ) → rules_by bare_form d root s room ≡ refused n p)

-- Demand 3 on bytes: what the C call compiled runs so, in every room, and the C call that runs it answers so and is never 33 (R4.14, R9.3).
abbrev pub DemandThreeBytes : Type 0
DemandThreeBytes =
    (d root : List ℕ) (r : Answer) (p p' : List ℕ) → CompilesPlan d root r p p' → r.number ≡ 0 → (s : List ℕ)
    → ((room : ℕ) → run_from (take (4 * r.first) p') s room ≡ rules_by bare_form d root s room)
    × ((q : Answer) (l l' : List ℕ) → RunsValue (take (4 * r.first) p') s q l l'
    → SettlesRun (rules_by bare_form d root s (word_room (length l))) q l l' × (q.number ≡ BAD_PLAN → ⊥))

-- The rules refuse with the descriptor's own number and place, or with a run's (R4.13).
abbrev pub RulesNumbers : Type 0
RulesNumbers =
    (d root s : List ℕ) (room n q : ℕ) → rules_by bare_form d root s room ≡ refused n q
    → (describe bare_form d root ≡ refused n q) ⊎ RunNumber (length s) n q

-- ---- R5, R6: values and their lists

-- A value is accepted exactly when the plan is well formed, the value is not too large, obeys the rules (R5.2 to R5.17), and its list has room (R1.9).
abbrev pub ValueAccepted : Type 0
ValueAccepted =
    (p s : List ℕ) (room : ℕ) (f : Forest)
    → (run_of p s room ≡ accepted f) ↔ ((plan_formed p ≡ true) × (length s ≤ MOST_VALUE) × (value_by p s ≡ accepted f) × (length (words f) ≤ room))

-- A local_time is the number of microseconds of a time of day in eight bytes; later numbers and negative ones, in two's complement, and other
-- sizes are none (R5.15).
abbrev pub TimesOfDay : Type 0
TimesOfDay =
    ((n : ℕ) → n < 24 * 3600 * 1000000 → scalar FORMAT_LOCAL_TIME (bytes_be 8 n) ≡ true)
    × ((n : ℕ) → 24 * 3600 * 1000000 ≤ n → n < 2 ^ 63 → scalar FORMAT_LOCAL_TIME (bytes_be 8 n) ≡ false)
    × ((n : ℕ) → 0 < n → n ≤ 2 ^ 63 → scalar FORMAT_LOCAL_TIME (bytes_be 8 (2 ^ 64 - n)) ≡ false)
    × ((v : List ℕ) → (length v ≡ 8 → ⊥) → scalar FORMAT_LOCAL_TIME v ≡ false)

-- 33 exactly when the plan is not well formed (R4.4); 28 exactly when it is and the value is too large (R5.1); 31 exactly when the value is
-- accepted and its list has more words than the room (R6.9). By a well-formed plan any other number is one of 20 to 27 (R1.3).
abbrev pub RunExact : Type 0
RunExact =
    (p : List ℕ) → Words p → (s : List ℕ) (room : ℕ)
    → ((run_of p s room ≡ refused BAD_PLAN 0) ↔ (plan_formed p ≡ false))
    × ((run_of p s room ≡ refused VALUE_SIZE 0) ↔ ((plan_formed p ≡ true) × (MOST_VALUE < length s)))
    × ((run_of p s room ≡ refused LIST_ROOM 0) ↔ ((f : Forest) × (checked p s ≡ accepted f) × (room < length (words f))))
    × ((n q : ℕ) → plan_formed p ≡ true → run_of p s room ≡ refused n q → RunNumber (length s) n q)

-- A list is whole entries of five words, at most 1 + L/4 of a value of L bytes; so is the list that the C call gives (R6.1, R6.10).
abbrev pub FewEntries : Type 0
FewEntries =
    ((p s : List ℕ) (room : ℕ) (f : Forest) → run_of p s room ≡ accepted f → Entries (length s) (length (words f)))
    × ((plan s : List ℕ) (r : Answer) (l l' : List ℕ) → RunsValue plan s r l l' → Entries (length s) r.first)

-- ---- R7: finding

-- The value is checked first; then the whole answer is read off the words of the run's list: 35, 36, or the entry's node and bytes (R7.1 to R7.6).
abbrev pub FoundOnList : Type 0
FoundOnList =
    (p s path : List ℕ)
    → ((n q : ℕ) → checked p s ≡ refused n q → find_of p s path ≡ unfound n q)
    × ((f : Forest) → checked p s ≡ accepted f → find_of p s path ≡ found_on s (lead path (lines_in (words f))))

-- The part found has the node, start and length of the path's entry, and is the value's own bytes there (R7.3).
abbrev pub FoundIsEntry : Type 0
FoundIsEntry =
    (p s path : List ℕ) (f : Forest) → Words p → checked p s ≡ accepted f → (k a : ℕ) (b : List ℕ) → find_of p s path ≡ found k a b
    → PathEntry (words f) path k a (length b) × (a + length b ≤ length s) × (b ≡ take (length b) (drop a s))

-- Whatever is found at a scalar's node is a value of its format, wherever it stands in the value: so no local_time that is found lies outside of a
-- day (R5.15, R7.1).
abbrev pub FoundPermitted : Type 0
FoundPermitted =
    (p s path : List ℕ) → Words p → (k a : ℕ) (b : List ℕ) → find_of p s path ≡ found k a b → get_or p k 0 ≡ KIND_LEAF → scalar (get_or p (k + 1) 0) b ≡ true

-- So in the list of an accepted value a path names one entry alone (R7.2).
abbrev pub OneEntry : Type 0
OneEntry = (p s : List ℕ) (f : Forest) → Words p → checked p s ≡ accepted f → IndexesApart f

-- The contract of an element's number leaves one answer (R7.8 to R7.11).
abbrev pub OneNumber : Type 0
OneNumber = (x : Numbered) (r r' : Result Number Refusal) → Gives x r → Gives x r' → r ≡ r'

-- A float that is no NaN keeps every bit (R7.10). A NaN is carried as its bits.
abbrev pub FloatKept : Type 0
FloatKept = (f : Format) (n : ℕ) → n % top f ≤ ones f * hid f → n < 2 * top f → to_bits f (of_bits f n) ≡ n

-- An integer of w bytes keeps its sign in 8 (R7.9): h is half of what w bytes hold.
abbrev pub SignKept : Type 0
SignKept = (w n h : ℕ) → 256 ^ w ≡ 2 * h → (n < h → n ≡ extended w n) × (h ≤ n → n + (256 ^ 8 - 256 ^ w) ≡ extended w n)

-- ---- R8: supplies

-- What is written is accepted, has the supply, its reserved fields are zero, and it is bytes (R8.3 to R8.5).
abbrev pub SupplySound : Type 0
SupplySound =
    (p ws src : List ℕ) (room : ℕ) (b : List ℕ) → Words ws → write_of p ws src room ≡ put_out b
    → HasSupply p b ws src × (zeroed p b ≡ b) × (Bytes src → Bytes b)

-- Where an accepted value has the supply, that value is written, its reserved fields zero, or the room is too small (R8.4, R8.12).
abbrev pub SupplyComplete : Type 0
SupplyComplete = (p s ws src : List ℕ) (room : ℕ) → Bytes s → HasSupply p s ws src → write_of p ws src room ≡ output_roomed room (put_out (zeroed p s))

-- Accepted values with one supply differ in reserved fields only (R8.13).
abbrev pub SupplyUnique : Type 0
SupplyUnique = (p s s' ws src : List ℕ) → Bytes s → Bytes s' → HasSupply p s ws src → HasSupply p s' ws src → zeroed p s ≡ zeroed p s'

-- 33 exactly when the plan is not well formed; 34 exactly when it is and no accepted value has the supply; 32 exactly when one has it and is
-- longer than the room (R1.10, R8.6, R8.12).
abbrev pub SupplyExact : Type 0
SupplyExact =
    (p ws src : List ℕ) (room : ℕ) → Words ws → Bytes src
    → ((write_of p ws src room ≡ refused_put BAD_PLAN) ↔ (plan_formed p ≡ false))
    × ((write_of p ws src room ≡ refused_put NO_VALUE) ↔ ((plan_formed p ≡ true) × NoneHas p ws src))
    × ((write_of p ws src room ≡ refused_put OUTPUT_ROOM) ↔ ((s : List ℕ) × Bytes s × HasSupply p s ws src × (room < length s)))

-- From C 34 exactly when the plan crosses and is well formed, and the list does not cross or no accepted value has the supply (R9.4, R9.5).
abbrev pub SupplyExactFromC : Type 0
SupplyExactFromC =
    (plan list src : List ℕ) (room : ℕ) → Bytes list → Bytes src
    → (write_from plan list src room ≡ refused_put NO_VALUE)
    ↔ ((crosses (length plan) ≡ true) × ((plan_formed (words_in plan) ≡ true) × ((crosses (length list) ≡ false) ⊎ NoneHas (words_in plan) (words_in list) src)))

-- An accepted value, listed and written again from its own list and bytes, is itself with its reserved fields zero, as long as before (R8.13).
abbrev pub RoundTrip : Type 0
RoundTrip =
    (p s : List ℕ) (room : ℕ) (f : Forest) → Bytes s → checked p s ≡ accepted f
    → (write_of p (words f) s room ≡ output_roomed room (put_out (zeroed p s)))
    × (length (zeroed p s) ≡ length s)
    × (length s ≤ room → write_of p (words f) s room ≡ put_out (zeroed p s))

-- ---- R9: the calls

-- Each C call's answer, and every byte of its room, is what its definition computes from the bytes that were lent, and an intake's state (R9.1 to
-- R9.8). The room's bytes are l before the call, and l' after it.
pub record EveryCall : Type 2 where
  pub read_message_does : Does read_message_contract.ended read_message_code.code read_message_code.name
      (λ κs (side, (s, (l, _))) r (_, (_, (l', _))). ReadsMessage side s.now r l.now l'.now)
  pub intake_start_does : Does intake_start_contract.ended intake_start_code.code intake_start_code.name (λ κs (side, (room, _)) r _. r ≡ intake_start side room)
  pub intake_reset_does : Does intake_reset_contract.ended intake_reset_code.code intake_reset_code.name (λ κs (i, _) r _. r ≡ intake_reset i)
  pub intake_take_does : Does intake_take_contract.ended intake_take_code.code intake_take_code.name
      (λ κs (i, (src, (l, _))) r (_, (_, (l', _))). TakesDelivery i src.now r l.now l'.now)
  pub write_message_does : Does write_message_contract.ended write_message_code.code write_message_code.name
      (λ κs (side, (t, (list, (src, (l, _))))) r (_, (_, (_, (_, (l', _))))). WritesMessage side t list.now src.now r l.now l'.now)
  pub compile_does : Does compile_contract.ended compile_code.code compile_code.name
      (λ κs (d, (root, (l, _))) r (_, (_, (l', _))). CompilesPlan d.now root.now r l.now l'.now)
  pub run_does : Does run_contract.ended run_code.code run_code.name (λ κs (p, (s, (l, _))) r (_, (_, (l', _))). RunsValue p.now s.now r l.now l'.now)
  pub find_does : Does find_contract.ended find_code.code find_code.name (λ κs (p, (s, (path, _))) r _. r ≡ find_answer (find_from p.now s.now path.now))
  pub find_number_does : Does find_number_contract.ended find_number_code.code find_number_code.name
      (λ κs (p, (s, (path, _))) r _. r ≡ number_answer (number_from p.now s.now path.now))
  pub write_value_does : Does write_value_contract.ended write_value_code.code write_value_code.name
      (λ κs (p, (list, (src, (l, _)))) r (_, (_, (_, (l', _)))). WritesValue p.now list.now src.now r l.now l'.now)

-- Demand 3 as one function, on words: it compiles, and then runs the plan alone (R4.14); what it lists has few entries (R6.10).
abbrev pub CompileAndRun : Type 2
CompileAndRun =
    Does compile_and_run_contract.ended compile_and_run_code.code compile_and_run_code.name
    (λ κs (d, (root, (p, (s, (l, _))))) r (_, (_, (p', (_, (l', _))))). Follows d.now root.now s.now r p.now p'.now l.now l'.now)

-- ---- R10: the intake

-- However the bytes of a side are cut into deliveries, empty ones too, from a start with no reset the messages, the refusal, all of the state and the
-- bytes held are those of reading all bytes message after message; so two cuts of the same bytes end alike, whatever the rooms held (R10.8).
abbrev pub CutsAgree : Type 0
CutsAgree =
    ((side : ℕ) (l : List ℕ) (ds : List (List ℕ)) → ComesTo side (length l) (hand_all (conversation side l) ds) (stream_of side (length l) (all_bytes ds)))
    × ((side : ℕ) (l l' : List ℕ) (ds ds' : List (List ℕ)) → length l ≡ length l' → all_bytes ds ≡ all_bytes ds'
    → SameEnd (hand_all (conversation side l) ds) (hand_all (conversation side l') ds'))

-- After a refusal every call gives it again and changes neither state nor room (R10.5). A room of another length is 32, in every state, takes nothing
-- and changes nothing (R10.6). After a start, calls and resets a reset gives what the start gave (R10.2).
abbrev pub IntakeEnds : Type 0
IntakeEnds =
    ((i : Intake) (src : List ℕ) (r : Delivery) (l l' : List ℕ) → TakesDelivery i src r l l' → length l ≡ i.room → (r.number ≡ 0 → ⊥)
    → (src' : List ℕ) (q : Delivery) (l'' : List ℕ) → TakesDelivery r.intake src' q l' l'' → (q ≡ r) × (l'' ≡ l'))
    × ((i : Intake) (src : List ℕ) (r : Delivery) (l l' : List ℕ) → TakesDelivery i src r l l' → (length l ≡ i.room → ⊥)
    → (r ≡ refused_delivery i OUTPUT_ROOM 0) × (l' ≡ l))
    × ((side room : ℕ) (i : Intake) (l : List ℕ) → Reached side room i l → intake_reset i ≡ intake_start side room)

-- From a start on a call answers with the bytes held in the room and what is lacking to them, or with a refusal 2 to 6 or 32, and never with 1; the
-- state that it returns has the same number and place (R10.4, R10.5).
abbrev pub IntakeAnswers : Type 0
IntakeAnswers =
    (side room : ℕ) (i : Intake) (l : List ℕ) → Reached side room i l → (src : List ℕ) (r : Delivery) (l' : List ℕ) → TakesDelivery i src r l l'
    → (length (take r.intake.held l') ≡ r.intake.held)
    × (r.intake.number ≡ r.number)
    × (r.intake.place ≡ r.place)
    × (r.number ≡ 0 → Lacks (take r.intake.held l') r.lacks)
    × ((r.number ≡ 0 → ⊥) → IntakeNumber r.number)

-- What the intake gives is a whole message for its side, which the reader accepts in a list that has room; and a whole message at the front of some
-- bytes is what an intake that starts with them gives, if its room is as large (R10.9).
abbrev pub IntakeReads : Type 0
IntakeReads =
    ((i : Intake) (src : List ℕ) (r : Delivery) (l l' : List ℕ) → TakesDelivery i src r l l' → (r.size ≡ 0 → ⊥)
    → (ws : List ℕ) × WholeMessage i.side (take r.size l') r.size ws)
    × ((side : ℕ) (src : List ℕ) (u : ℕ) (ws : List ℕ) → WholeMessage side src u ws
    → (r : Delivery) (l l' : List ℕ) → TakesDelivery (intake_start side (length l)) src r l l' → u ≤ length l
    → (r ≡ taken_delivery (intake_start side (length l)) u u MESSAGE_HEAD) × (take u l' ≡ take u src))

-- ---- the eleven cases

-- What is done in each case gives what the table says (specs/Cases; R9.12).
abbrev pub EdgeCases : Type 0
EdgeCases = map (λ (c : Case). c.done) cases ≡ map (λ (c : Case). c.gives) cases
