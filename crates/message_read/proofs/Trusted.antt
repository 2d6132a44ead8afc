-- A reading that judges no content gives the same list as one that judged and accepted.
use mathlib.Core.Path.{◌≡◌, refl}
use mathlib.Core.Bool.{Bool, true, false}
use mathlib.Core.List.{List}
use Prim.Native.Nat.{ℕ, zero, suc, ◌+◌}
use lib.Dec.{leb}
use lib.ListN.{length, take, drop}
use Rattle.message_layout.specs.Judged.{judged, unjudged}
use Rattle.forms.specs.declared.Span.{Span}
use Rattle.std.specs.Prelude.{Result, Ok, Err}
use Rattle.protocol.specs.Numbers.{pick, be}
use Rattle.protocol.specs.Text.{well_formed}
use Rattle.protocol.specs.Messages.{Field, number, text, bytes, Layout, done, one, run, u16, permits, span, lengthened, textual, field_at}
use Rattle.protocol.specs.Messages.{MessageRead, unread, read, read_before, then_read, field_outcome, times_read, fields_read}

-- what the first reads, the second reads too
abbrev pub Keeps : MessageRead → MessageRead → Type 0
Keeps (unread n p) o = Unit {0}
Keeps (read q ws) o = o ≡ read q ws

keeps_same : (o : MessageRead) → Keeps o o
keeps_same (unread n p) = tt
keeps_same (read q ws) = refl

keeps_prefixed : (ws : List ℕ) (o o' : MessageRead) → Keeps o o' → Keeps (read_before ws o) (read_before ws o')
unfolding read_before
keeps_prefixed ws (unread n p) o' k = tt
keeps_prefixed ws (read q us) o' k = rw k

keeps_then : (o o' : MessageRead) (f f' : ℕ → MessageRead) → Keeps o o' → ((q : ℕ) → Keeps (f q) (f' q)) → Keeps (then_read o f) (then_read o' f')
unfolding then_read
keeps_then (unread n p) o' f f' k r = tt
keeps_then (read q ws) o' f f' k r = rw k (keeps_prefixed ws (f q) (f' q) (r q))

keeps_times : (f f' : ℕ → MessageRead) → ((q : ℕ) → Keeps (f q) (f' q)) → (n q : ℕ) → Keeps (times_read n f q) (times_read n f' q)
unfolding times_read
keeps_times f f' r zero q = refl
keeps_times f f' r (suc n) q = keeps_then (f q) (f' q) (times_read n f) (times_read n f') (r q) (keeps_times f f' r n)

module _ (m : List ℕ) (at : ℕ) where
  keeps_number : (w : ℕ) (a b : Bool) → Keeps (field_outcome at (pick a (pick b (Ok (span at w)) (Err 6)) (Err 4))) (field_outcome at (pick a (pick true (Ok (span at w)) (Err 6)) (Err 4)))
  unfolding field_outcome pick
  keeps_number w false b = tt
  keeps_number w true false = tt
  keeps_number w true true = refl

  keeps_text : (f : Result Span ℕ) → Keeps (field_outcome at (textual m f)) (field_outcome at f)
  unfolding field_outcome textual pick
  keeps_text (Err n) = tt
  keeps_text (Ok c) = either (well_formed (take c.len (drop c.start m)))
    where
      either : (b : Bool) → Keeps (field_outcome at (pick b (Ok c) (Err 6))) (field_outcome at (Ok c))
      either true = refl
      either false = tt

  keeps_field : (f : Field) → Keeps (field_outcome at (field_at f m at)) (field_outcome at (field_at (judged false f) m at))
  unfolding field_at judged permits
  keeps_field (number w vs) = keeps_number w (leb (at + w) (length m)) (permits vs (be (take w (drop at m))))
  keeps_field text = keeps_text (lengthened m at)
  keeps_field bytes = keeps_same (field_outcome at (lengthened m at))

pub keeps_fields : (l : Layout) (m : List ℕ) (at : ℕ) → Keeps (fields_read l m at) (fields_read (unjudged l) m at)
unfolding fields_read unjudged
keeps_fields done m at = refl
keeps_fields (one f rest) m at = keeps_then _ _ _ _ (keeps_field m at f) (keeps_fields rest m)
keeps_fields (run items rest) m at =
    keeps_then _ _ _ _
    (keeps_then _ _ _ _ (keeps_same (field_outcome at (field_at u16 m at))) (keeps_times (fields_read items m) (fields_read (unjudged items) m) (keeps_fields items m) (be (take 2 (drop at m)))))
    (keeps_fields rest m)

pub unjudged_reads : (l : Layout) (m : List ℕ) (at q : ℕ) (ws : List ℕ) → fields_read l m at ≡ read q ws → fields_read (unjudged l) m at ≡ read q ws
unjudged_reads l m at q ws e = rw e at (keeps_fields l m at)
