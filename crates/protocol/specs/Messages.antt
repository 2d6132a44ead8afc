-- Messages (R2): their layouts, what reading one gives, and what writing one puts out.
use Rattle.std.specs.Prelude.{ℕ, zero, suc, ◌+◌, ◌-◌, Bool, true, false, List, [], ◌∷◌, ◌++◌, leb, ltb, eqb, length, take, drop, get_or, Result, Ok, Err}
use Rattle.std.proofs.Math.Option.{Option, none, some}
use Rattle.protocol.specs.Constants.{MOST_LENGTH, MESSAGE_HEAD, NOT_WHOLE, BAD_LENGTH, UNKNOWN_TYPE, FIELD_PAST_END, BYTES_LEFT, BAD_FIELD}
use Rattle.protocol.specs.Constants.{LIST_ROOM, OUTPUT_ROOM, CLIENT, SERVER, CARDINALITY_NONE, CARDINALITY_AT_MOST_ONE}
use Rattle.protocol.specs.Constants.{CARDINALITY_ONE, CARDINALITY_MANY, CARDINALITY_AT_LEAST_ONE}
use Rattle.protocol.specs.Numbers.{pick, be, bytes_be, one_of}
use Rattle.protocol.specs.Text.{well_formed}
use Rattle.protocol.specs.Answers.{over, Put, refused_put, put_out}
use Rattle.forms.specs.declared.Span.{Span}

-- ---- layouts

-- R2.5: a number of so many bytes, which is one of the values listed (any, where none is listed); or a length of four bytes and so many bytes
pub data Field : Type 0 where
  number : ℕ → List ℕ → Field
  text : Field
  bytes : Field

-- fields in order; R2.7: a run is a count of two bytes and so many items, each in the layout named first
pub data Layout : Type 0 where
  done : Layout
  one : Field → Layout → Layout
  run : Layout → Layout → Layout

abbrev pub u16 : Field
u16 = number 2 []

abbrev pub u32 : Field
u32 = number 4 []

abbrev pub u64 : Field
u64 = number 8 []

abbrev pub uuid : Field
uuid = number 16 []

-- a number of one byte, which is one of the codes
abbrev pub byte : List ℕ → Field
byte codes = number 1 codes

-- R2.10
abbrev pub cardinalities : List ℕ
cardinalities =
    CARDINALITY_NONE
    ∷ CARDINALITY_AT_MOST_ONE
    ∷ CARDINALITY_ONE
    ∷ CARDINALITY_MANY
    ∷ CARDINALITY_AT_LEAST_ONE
    ∷ []

unfoldable pub is_cardinality : ℕ → Bool
is_cardinality c = one_of c cardinalities

-- R2.7
abbrev pub annotation_item : Layout
annotation_item = one text (one text done)

abbrev pub attribute_item : Layout
attribute_item = one u16 (one bytes done)

abbrev pub extension_item : Layout
extension_item = one text (run annotation_item done)

-- a type byte and its layout
pub record Message : Type 0 where
  pub kind : ℕ
  pub layout : Layout

abbrev pub ◌is◌ : ℕ → Layout → Message
t is l = record { kind = t; layout = l }

infix 10 ◌is◌
-- R2.8: E, L, Z, C, T, s, D and S
unfoldable pub server : List Message
server =
    (0x45 is one (byte (0x78 ∷ 0xc8 ∷ 0xff ∷ [])) (one u32 (one text (run attribute_item done))))
    ∷ (0x4c is one (byte (0x14 ∷ 0x28 ∷ 0x3c ∷ 0x50 ∷ [])) (one u32 (one text (run annotation_item done))))
    ∷ (0x5a is run annotation_item (one (byte (0x49 ∷ 0x54 ∷ 0x45 ∷ [])) done))
    ∷ (0x43 is run annotation_item (one u64 (one text (one uuid (one bytes done)))))
    ∷ (0x54 is run annotation_item (one u64 (one (byte cardinalities) (one uuid (one bytes (one uuid (one bytes done)))))))
    ∷ (0x73 is one uuid (one bytes done))
    ∷ (0x44 is one (number 2 (1 ∷ [])) (one bytes done))
    ∷ (0x53 is one bytes (one bytes done))
    ∷ []

-- R2.9: S and V
unfoldable pub client : List Message
client = (0x53 is done) ∷ (0x56 is one u16 (one u16 (run annotation_item (run extension_item done)))) ∷ []

-- the layout of a type byte, if the list has it
unfoldable pub layout_in : ℕ → List Message → Option Layout
layout_in t [] = none
layout_in t (x ∷ xs) = pick (eqb t x.kind) (some x.layout) (layout_in t xs)

-- R2.4: another side knows no type
unfoldable pub layout_of : ℕ → ℕ → Option Layout
layout_of side t = pick (eqb side SERVER) (layout_in t server) (pick (eqb side CLIENT) (layout_in t client) none)

-- R2.5, R2.10: v is permitted by a number's values
unfoldable pub permits : List ℕ → ℕ → Bool
permits [] v = true
permits (x ∷ xs) v = one_of v (x ∷ xs)

-- ---- reading a field of the message m at `at`: where its content is, or the number of a refusal, not whole or not permitted

abbrev pub span : ℕ → ℕ → Span
span start len = record { start = start; len = len }

-- R2.5: a length of four bytes, where the field starts, and then the content
unfoldable pub lengthened : List ℕ → ℕ → Result Span ℕ
lengthened m at =
    pick (leb (at + 4) (length m))
    (pick (leb (at + 4 + be (take 4 (drop at m))) (length m)) (Ok (span (at + 4) (be (take 4 (drop at m))))) (Err FIELD_PAST_END))
    (Err FIELD_PAST_END)

-- R2.6
unfoldable pub textual : List ℕ → Result Span ℕ → Result Span ℕ
textual m (Err n) = Err n
textual m (Ok c) = pick (well_formed (take c.len (drop c.start m))) (Ok c) (Err BAD_FIELD)

unfoldable pub field_at : Field → List ℕ → ℕ → Result Span ℕ
field_at (number n vs) m at =
    pick (leb (at + n) (length m)) (pick (permits vs (be (take n (drop at m)))) (Ok (span at n)) (Err BAD_FIELD)) (Err FIELD_PAST_END)
field_at text m at = textual m (lengthened m at)
field_at bytes m at = lengthened m at

-- ---- reading fields one after the other

-- a refusal's number and place; or where the next field starts, and the list (R2.13): two words a field, start and length of its content
pub data MessageRead : Type 0 where
  unread : ℕ → ℕ → MessageRead
  read : ℕ → List ℕ → MessageRead

unfoldable pub read_before : List ℕ → MessageRead → MessageRead
read_before ws (unread n p) = unread n p
read_before ws (read at vs) = read at (ws ++ vs)

unfoldable pub then_read : MessageRead → (ℕ → MessageRead) → MessageRead
then_read (unread n p) f = unread n p
then_read (read at ws) f = read_before ws (f at)

-- R2.11: the place is the field's start
unfoldable pub field_outcome : ℕ → Result Span ℕ → MessageRead
field_outcome at (Err n) = unread n at
field_outcome at (Ok c) = read (c.start + c.len) (c.start ∷ c.len ∷ [])

unfoldable pub times_read : ℕ → (ℕ → MessageRead) → ℕ → MessageRead
times_read zero f at = read at []
times_read (suc n) f at = then_read (f at) (times_read n f)

-- R2.7: the count of a run is a field too
unfoldable pub fields_read : Layout → List ℕ → ℕ → MessageRead
fields_read done m at = read at []
fields_read (one f rest) m at = then_read (field_outcome at (field_at f m at)) (fields_read rest m)
fields_read (run items rest) m at =
    then_read (then_read (field_outcome at (field_at u16 m at)) (times_read (be (take 2 (drop at m))) (fields_read items m))) (fields_read rest m)

-- ---- reading a message

-- R2.12: the place is the first byte left over
unfoldable pub message_end : List ℕ → MessageRead → MessageRead
message_end m (unread n p) = unread n p
message_end m (read at ws) = pick (ltb at (length m)) (unread BYTES_LEFT at) (read at ws)

-- R2.4; the body starts after the type byte and the length
unfoldable pub body_read : Option Layout → List ℕ → MessageRead
body_read none m = unread UNKNOWN_TYPE 0
body_read (some l) m = message_end m (fields_read l m 5)

-- how much of a message some bytes hold (R2.3): of its head so many are lacking; its length field is not permitted; of a message of the size named
-- first so many are lacking; or all of a message of that size
pub data MessageHead : Type 0 where
  head_short : ℕ → MessageHead
  bad_length : MessageHead
  body_short : ℕ → ℕ → MessageHead
  body_whole : ℕ → MessageHead

-- The head of the message at the start of s, before its type and body are looked at (R2.2, R2.3): five bytes, the length field, all bytes.
unfoldable pub message_head : List ℕ → MessageHead
message_head s =
    pick (ltb (length s) MESSAGE_HEAD) (head_short (MESSAGE_HEAD - length s))
    (pick (ltb (be (take 4 (drop 1 s))) 4) bad_length
    (pick (ltb MOST_LENGTH (be (take 4 (drop 1 s)))) bad_length
    (pick (ltb (length s) (be (take 4 (drop 1 s)) + 1))
    (body_short (be (take 4 (drop 1 s)) + 1) (be (take 4 (drop 1 s)) + 1 - length s))
    (body_whole (be (take 4 (drop 1 s)) + 1)))))

-- R1.6: 1, 2, 1, and then the body
unfoldable pub message_by : ℕ → List ℕ → MessageHead → MessageRead
message_by side s (head_short k) = unread NOT_WHOLE 0
message_by side s bad_length = unread BAD_LENGTH 0
message_by side s (body_short n k) = unread NOT_WHOLE 0
message_by side s (body_whole n) = body_read (layout_of side (get_or s 0 0)) (take n s)

-- The message at the start of s: what comes after it is not looked at.
unfoldable pub message_of : ℕ → List ℕ → MessageRead
message_of side s = message_by side s (message_head s)

-- R1.6: the list's room comes last
unfoldable pub message_roomed : ℕ → MessageRead → MessageRead
message_roomed room (unread n p) = unread n p
message_roomed room (read at ws) = pick (ltb room (length ws)) (unread LIST_ROOM 0) (read at ws)

-- the call, for a list of `room` words
unfoldable pub message_call : ℕ → List ℕ → ℕ → MessageRead
message_call side s room = message_roomed room (message_of side s)

unfoldable pub message_words : MessageRead → List ℕ
message_words (unread n p) = []
message_words (read at ws) = ws

-- R1.1, R1.2: what the list then holds
unfoldable pub message_list : MessageRead → List ℕ → List ℕ
message_list (unread n p) l = l
message_list (read at ws) l = over ws l

-- R2.13: the fields' bytes in the order of a list, from its pairs of start and length
unfoldable pub contents : List ℕ → List ℕ → List (List ℕ)
contents m [] = []
contents m (s ∷ []) = []
contents m (s ∷ n ∷ ws) = take n (drop s m) ∷ contents m ws

-- ---- writing a field

-- the bytes c are permitted as a field's content (R2.5, R2.6, R2.10)
unfoldable pub fitting : Field → List ℕ → Bool
fitting (number w vs) c = pick (eqb (length c) w) (permits vs (be c)) false
fitting text c = well_formed c
fitting bytes c = true

-- a field with the content c, as it stands in the message
unfoldable pub field_bytes : Field → List ℕ → List ℕ
field_bytes (number w vs) c = c
field_bytes text c = bytes_be 4 (length c) ++ c
field_bytes bytes c = bytes_be 4 (length c) ++ c

-- a writing so far: at fault, or the bytes put out and the words left
pub data Written : Type 0 where
  unwritten : Written
  wrote : List ℕ → List ℕ → Written

-- R2.15: a field from the next pair of start and length, which must lie inside the source
unfoldable pub next_field : Field → List ℕ → List ℕ → Written
next_field f src [] = unwritten
next_field f src (s ∷ []) = unwritten
next_field f src (s ∷ n ∷ ws) =
    pick (leb (s + n) (length src))
    (pick (fitting f (take n (drop s src))) (wrote (field_bytes f (take n (drop s src))) ws) unwritten)
    unwritten

-- ---- writing fields one after the other

unfoldable pub put_before : List ℕ → Written → Written
put_before b unwritten = unwritten
put_before b (wrote c ws) = wrote (b ++ c) ws

-- and then, from the bytes put out last and the words left
unfoldable pub joined : Written → (List ℕ → List ℕ → Written) → Written
joined unwritten f = unwritten
joined (wrote b ws) f = put_before b (f b ws)

unfoldable pub times_written : ℕ → (List ℕ → Written) → List ℕ → Written
times_written zero f ws = wrote [] ws
times_written (suc n) f ws = joined (f ws) (λ b. times_written n f)

-- R2.14, R2.15: the count of a run is in the source bytes of its own pair
unfoldable pub fields_written : Layout → List ℕ → List ℕ → Written
fields_written done src ws = wrote [] ws
fields_written (one f rest) src ws = joined (next_field f src ws) (λ b. fields_written rest src)
fields_written (run items rest) src ws =
    joined (joined (next_field u16 src ws) (λ b. times_written (be b) (fields_written items src))) (λ b. fields_written rest src)

-- ---- writing a message

-- R1.7: no word may be left; then the length's limit (R2.16), and the output's room
unfoldable pub message_whole : ℕ → ℕ → Written → Put
message_whole t room unwritten = refused_put BAD_FIELD
message_whole t room (wrote b (w ∷ ws)) = refused_put BAD_FIELD
message_whole t room (wrote b []) =
    pick (ltb MOST_LENGTH (length b + 4)) (refused_put BAD_LENGTH)
    (pick (ltb room (length b + 5)) (refused_put OUTPUT_ROOM) (put_out (t ∷ bytes_be 4 (length b + 4) ++ b)))

unfoldable pub body_written : Option Layout → ℕ → List ℕ → List ℕ → ℕ → Put
body_written none t ws src room = refused_put UNKNOWN_TYPE
body_written (some l) t ws src room = message_whole t room (fields_written l src ws)

-- R2.14: the call, for a side, a type byte, a list, source bytes, and `room` bytes of output
unfoldable pub message_written : ℕ → ℕ → List ℕ → List ℕ → ℕ → Put
message_written side t ws src room = body_written (layout_of side t) t ws src room
