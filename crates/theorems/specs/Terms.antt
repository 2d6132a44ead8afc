-- The terms in which specs/Theorems states its promises. They must be believed together with crates/protocol.
use Rattle.std.specs.Prelude.{◌≡◌, List, ◌⊎◌, ℕ, ◌+◌, ◌*◌, ◌^◌, ◌<◌, ◌≤◌, length, get_or, take, drop}
use Rattle.std.proofs.Math.Option.{some}
use seplogic.Ra.Ura.{Ura}
use base.Logic.{emp}
use prog.Model.{Model}
use prog.Wired.{Code, Wired}
use mir.Syntax.{Callee}
use types.Logic.{Logic}
use contract.Monad.{fact}
use contract.Lifetimes.{Lfts}
use contract.Running.{Running}
use denote.Triple.Entry.{Args, Res}
use denote.Triple.Spec.{Meets}
use denote.Triple.Clauses.{Ended, AtExit, closing}
use Rattle.forms.specs.declared.Answer.{Answer}
use Rattle.forms.specs.declared.Delivery.{Delivery}
use Rattle.protocol.specs.Constants.{MOST_LENGTH, MESSAGE_HEAD, MOST_DESCRIPTOR, VALUE_SIZE, LIST_ROOM, OUTPUT_ROOM, ENTRY_WORDS}
use Rattle.protocol.specs.Numbers.{be}
use Rattle.protocol.specs.Answers.{accepted}
use Rattle.protocol.specs.Messages.{Layout, layout_of, read, fields_read}
use Rattle.protocol.specs.Descriptors.{Block, bare_form, all_blocks, root_in}
use Rattle.protocol.specs.Lists.{Forest, empty, tree}
use Rattle.protocol.specs.Finding.{nowhere, sibling, lines_in, lead}
use Rattle.protocol.specs.Supplies.{HasSupply}
use Rattle.protocol.specs.Crossing.{refusal}
use Rattle.protocol.specs.Intake.{Conversation}

-- what is lent as bytes, and what is lent as words (R9.2, R9.9)
abbrev pub Bytes : List ℕ → Type 0
Bytes s = (i : ℕ) → get_or s i 0 < 256

abbrev pub Words : List ℕ → Type 0
Words ws = (j : ℕ) → get_or ws j 0 < 2 ^ 32

-- n bytes of a room are written and none beyond them; a refusal has number and place, all else zero, and leaves the room as it was (R1.1, R1.2)
pub record Keeps (r : Answer) (n : ℕ) (l l' : List ℕ) : Type 0 where
  pub on_refusal : (r.number ≡ 0 → ⊥) → (r ≡ refusal r.number r.place) × (l' ≡ l)
  pub inside : n ≤ length l
  pub beyond : drop n l' ≡ drop n l

-- an intake's room stays as long as it was; where nothing is refused, what is behind the bytes held or the message given is as it was (R10.7)
pub record KeepsBehind (r : Delivery) (l l' : List ℕ) : Type 0 where
  pub long : length l' ≡ length l
  pub behind : r.number ≡ 0 → drop (r.intake.held + r.size) l' ≡ drop (r.intake.held + r.size) l

-- u bytes at the start of s: a length field in its limits, a type known for that side, and fields that end where the message does (R2.2 to R2.13)
pub record WholeMessage (side : ℕ) (s : List ℕ) (u : ℕ) (ws : List ℕ) : Type 0 where
  pub used : u ≡ be (take 4 (drop 1 s)) + 1
  pub low : 4 ≤ be (take 4 (drop 1 s))
  pub high : be (take 4 (drop 1 s)) ≤ MOST_LENGTH
  pub inside : u ≤ length s
  pub layout : Layout
  pub known_type : layout_of side (get_or s 0 0) ≡ some layout
  pub fields_are : fields_read layout (take u s) 5 ≡ read u ws

-- not too many bytes (R3.14), a root id of 16 bytes that is not zero, every block accepted (R3.1 to R3.16), and the block with the root id, which
-- has values, is the one with index i (R3.17)
pub record TypedDescriptor (d root : List ℕ) (bs : List Block) (i : ℕ) : Type 0 where
  pub size : length d ≤ MOST_DESCRIPTOR
  pub id_size : length root ≡ 16
  pub id_some : be root ≡ 0 → ⊥
  pub blocks_are : all_blocks bare_form d ≡ accepted bs
  pub root_is : root_in (be root) bs ≡ some i

-- number and place of a run over L bytes by a well-formed plan: 28 or 31 at 0, or a fault of the value at a place in it (R1.3, R1.9, R1.12)
abbrev pub RunNumber : ℕ → ℕ → ℕ → Type 0
RunNumber L n q = ((n ≡ VALUE_SIZE) × (q ≡ 0)) ⊎ ((((20 ≤ n) × (n ≤ 27)) × (q ≤ L)) ⊎ ((n ≡ LIST_ROOM) × (q ≡ 0)))

-- an entry of the list ws that a path leads to, by its number: its node k, start a and length n (R6.1, R7.2)
pub record PathEntry (ws path : List ℕ) (k a n : ℕ) : Type 0 where
  pub entry : ℕ
  pub reached : lead path (lines_in ws) ≡ drop entry (lines_in ws)
  pub inside : ENTRY_WORDS * entry + 4 < length ws
  pub node_is : get_or ws (ENTRY_WORDS * entry) 0 ≡ k
  pub start_is : get_or ws (ENTRY_WORDS * entry + 2) 0 ≡ a
  pub size_is : get_or ws (ENTRY_WORDS * entry + 3) 0 ≡ n

-- no two entries side by side have one index, at any depth (R7.2)
abbrev pub IndexesApart : Forest → Type 0
IndexesApart empty = Unit {0}
IndexesApart (tree e below next) = (sibling e.index next ≡ nowhere) × IndexesApart below × IndexesApart next

-- no accepted value has the supply (R8.6)
abbrev pub NoneHas : (p ws src : List ℕ) → Type 0
NoneHas p ws src = (s : List ℕ) → Bytes s → HasSupply p s ws src → ⊥

-- a refusal that ends an intake (R10.3)
abbrev pub IntakeNumber : ℕ → Type 0
IntakeNumber n = ((2 ≤ n) × (n ≤ 6)) ⊎ (n ≡ OUTPUT_ROOM)

-- k bytes are lacking to those held, and at least one: of a head while they are fewer, and then of the message (R10.4)
pub record Lacks (held : List ℕ) (k : ℕ) : Type 0 where
  pub some : 0 < k
  pub of_head : length held < MESSAGE_HEAD → length held + k ≡ MESSAGE_HEAD
  pub of_message : MESSAGE_HEAD ≤ length held → length held + k ≡ be (take 4 (drop 1 held)) + 1

-- two conversations give the same messages, and end in the same state with the same bytes held (R10.8)
pub record SameEnd (c c' : Conversation) : Type 0 where
  pub messages_same : c.given ≡ c'.given
  pub state_same : c.intake ≡ c'.intake
  pub held_same : take c.intake.held c.room ≡ take c'.intake.held c'.room

-- A function, called with any arguments: nothing is asked of them but what their types own. It ends, and `does` holds of the arguments, the
-- result and the arguments at exit: the logic's own triple, with an empty `requires` (R1.13, R9.12). `code` is the function's code with that of all
-- it calls, and a call is what it is in any program that has this code.
abbrev pub Does : (T : Ended) → Code → Callee
    → ((κs : Lfts T.signature.lifetimes) → Args T.signature κs → Res T.signature κs → AtExit T κs → Type 0) → Type 2
Does T code name does =
    (M : Type 1) (𝓤 : Ura M) (𝓛 : Logic 𝓤) (𝓜 : Model 𝓤 𝓛.H) (𝓡 : Running 𝓤 𝓛.H 𝓜) → Wired 𝓡.env code
    → Meets 𝓛 T.signature (𝓡.run (𝓡.env name))
    (closing 𝓛 T (λ κs a. record { ghost = Unit {0}; requires = λ _. emp 𝓤; ensures = λ _ r e. fact 𝓤 (does κs a r e) }))
