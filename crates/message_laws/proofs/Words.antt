-- What every reading keeps to: a refusal has a number, and a list's words are pairs that lie in the message.
use mathlib.Core.Path.{◌≡◌, refl, sym, ◌∙◌}
use mathlib.Core.List.{List, [], ◌∷◌, ◌++◌}
use Prim.Native.Nat.{ℕ, zero, suc, ◌+◌, ◌<◌, ◌≤◌}
use native.Mathlib.Omega.{arith}
use lib.Dec.{lit<, lit≤, ltb}
use lib.ListN.{length, get_or, take, drop}
use lib.Seq.{length-take-le}
use Rattle.wire.proofs.Picks.{pick_case}
use Rattle.forms.specs.declared.Span.{Span}
use Rattle.std.specs.Prelude.{Result, Ok, Err}
use Rattle.message_read.proofs.Whole.{roomy}
use Rattle.message_laws.proofs.Covers.{Covers}
use Rattle.message_laws.proofs.RoundTrip.{LiesAt, lies_field}
use Rattle.message_laws.proofs.Again.{made, used}
use Rattle.protocol.specs.Numbers.{be}
use Rattle.protocol.specs.Messages.{Field, Layout, done, one, run, u16, layout_of, field_at, MessageRead, unread, read, read_before, then_read}
use Rattle.protocol.specs.Messages.{field_outcome, times_read, fields_read, message_end, body_read, MessageHead, head_short}
use Rattle.protocol.specs.Messages.{bad_length, body_short, body_whole, message_head, message_by, message_of, message_roomed, message_call, contents}
use mathlib.Core.Option.{Option, some, none}

-- ---- pairs of start and length, which lie in n bytes

abbrev pub Pairs : ℕ → List ℕ → Type 0
Pairs n [] = Unit {0}
Pairs n (s ∷ []) = ⊥
Pairs n (s ∷ k ∷ ws) = (s + k ≤ n) × Pairs n ws

pairs_append : (n : ℕ) (xs ys : List ℕ) → Pairs n xs → Pairs n ys → Pairs n (xs ++ ys)
pairs_append n [] ys h g = g
pairs_append n (s ∷ []) ys h g = absurd h
pairs_append n (s ∷ k ∷ xs) ys h g = (h.0, pairs_append n xs ys h.1 g)

pub pairs_words : (n : ℕ) (ws : List ℕ) → Pairs n ws → (j : ℕ) → get_or ws j 0 ≤ n
pairs_words n [] h j = omega arith
pairs_words n (s ∷ []) h j = absurd h
pairs_words n (s ∷ k ∷ ws) h zero = omega (arith, h.0)
pairs_words n (s ∷ k ∷ ws) h (suc zero) = omega (arith, h.0)
pairs_words n (s ∷ k ∷ ws) h (suc (suc j)) = pairs_words n ws h.1 j

-- they name the same bytes of all that begins with these
pub pairs_contents : (s m : List ℕ) → Covers s m → (ws : List ℕ) → Pairs (length m) ws → contents s ws ≡ contents m ws
unfolding contents
pairs_contents s m c [] h = refl
pairs_contents s m c (p ∷ []) h = refl
pairs_contents s m c (p ∷ k ∷ ws) h = rw (c.part p k h.0, pairs_contents s m c ws h.1)

-- ---- the outcome of fields

-- a refusal's number is 4 or 6; the words of what is read are pairs in n bytes
abbrev pub Sound : ℕ → MessageRead → Type 0
Sound n (unread k p) = (4 ≤ k) × (k ≤ 6)
Sound n (read q ws) = Pairs n ws

module _ (n : ℕ) where
  sound_prefixed : (ws : List ℕ) (o : MessageRead) → Pairs n ws → Sound n o → Sound n (read_before ws o)
  unfolding read_before
  sound_prefixed ws (unread k p) h g = g
  sound_prefixed ws (read q vs) h g = pairs_append n ws vs h g

  sound_then : (o : MessageRead) (f : ℕ → MessageRead) → Sound n o → ((q : ℕ) → Sound n (f q)) → Sound n (then_read o f)
  unfolding then_read
  sound_then (unread k p) f h g = h
  sound_then (read q ws) f h g = sound_prefixed ws (f q) h (g q)

  sound_times : (f : ℕ → MessageRead) → ((p : ℕ) → Sound n (f p)) → (k p : ℕ) → Sound n (times_read k f p)
  unfolding times_read
  sound_times f h zero p = tt
  sound_times f h (suc k) p = sound_then (f p) (times_read k f) (h p) (sound_times f h k)

module _ (m : List ℕ) where
  sound_found : (f : Field) (p : ℕ) (o : Result Span ℕ) → LiesAt f m p o → Sound (length m) (field_outcome p o)
  unfolding field_outcome
  sound_found f p (Err n) l = l
  sound_found f p (Ok c) l = (l.inside, tt)

  sound_field : (f : Field) (p : ℕ) → Sound (length m) (field_outcome p (field_at f m p))
  sound_field f p = sound_found f p (field_at f m p) (lies_field m p f)

  pub sound_fields : (x : Layout) (p : ℕ) → Sound (length m) (fields_read x m p)
  unfolding fields_read
  sound_fields done p = tt
  sound_fields (one f rest) p = sound_then (length m) _ (fields_read rest m) (sound_field f p) (sound_fields rest)
  sound_fields (run items rest) p =
      sound_then (length m) _ (fields_read rest m)
      (sound_then (length m) _ (times_read (be (take 2 (drop p m))) (fields_read items m)) (sound_field u16 p)
      (sound_times (length m) (fields_read items m) (sound_fields items) (be (take 2 (drop p m)))))
      (sound_fields rest)

-- ---- a message

-- what was read lies in the bytes, is short, and its words are pairs in it, for which the list has room
pub record Bounded (s : List ℕ) (room u : ℕ) (ws : List ℕ) : Type 0 where
  pub inside : u ≤ length s
  pub short : u ≤ 65536
  pub pairs : Pairs u ws
  pub listed : length ws ≤ room

pub bounded : (side : ℕ) (s : List ℕ) (room u : ℕ) (ws : List ℕ) → message_call side s room ≡ read u ws → Bounded s room u ws
unfolding message_call
bounded side s room u ws e =
    let n = be (take 4 (drop 1 s)) in
    let w = made side s room u ws e in
    let k : u ≡ n + 1 = used side s room u ws e in
    let m : length (take (n + 1) s) ≡ u = length-take-le (n + 1) s w.fits ∙ sym k in
    record {
      inside = omega (arith, w.fits);
      short = omega (arith, w.high);
      pairs = rw (w.body.outcome, m) at (sound_fields (take (n + 1) s) w.layout 5);
      listed = (roomy (message_of side s) room u ws e).1;
    }

-- a body's refusal is one of 3 to 6
abbrev pub Judged : MessageRead → Type 0
Judged (unread n p) = (3 ≤ n) × (n ≤ 6)
Judged (read u ws) = Unit {0}

judged_end : (m : List ℕ) (n : ℕ) (o : MessageRead) → Sound n o → Judged (message_end m o)
unfolding message_end
judged_end m n (unread k p) h = (omega arith, h.1)
judged_end m n (read q ws) h = pick_case Judged (ltb q (length m)) (unread 5 q) (read q ws) (λ _. (lit≤ tt, lit≤ tt)) (λ _. tt)

pub judged_body : (k : (Option Layout)) (m : List ℕ) → Judged (body_read k m)
unfolding body_read
judged_body none m = (lit≤ tt, lit≤ tt)
judged_body (some l) m = judged_end m (length m) (fields_read l m 5) (sound_fields m l 5)

-- a refusal's number is not 0
abbrev pub Numbered : MessageRead → Type 0
Numbered (unread n p) = 0 < n
Numbered (read u ws) = Unit {0}

numbered_judged : (o : MessageRead) → Judged o → Numbered o
numbered_judged (unread n p) h = omega arith
numbered_judged (read u ws) h = tt

numbered_head : (side : ℕ) (s : List ℕ) (h : MessageHead) → Numbered (message_by side s h)
unfolding message_by
numbered_head side s (head_short k) = lit< tt
numbered_head side s bad_length = lit< tt
numbered_head side s (body_short n k) = lit< tt
numbered_head side s (body_whole n) =
    let k = layout_of side (get_or s 0 0) in numbered_judged (body_read k (take n s)) (judged_body k (take n s))

numbered_room : (room : ℕ) (o : MessageRead) → Numbered o → Numbered (message_roomed room o)
unfolding message_roomed
numbered_room room (unread n p) h = h
numbered_room room (read u ws) h = pick_case Numbered (ltb room (length ws)) (unread 31 0) (read u ws) (λ _. lit< tt) (λ _. tt)

pub numbered : (side : ℕ) (s : List ℕ) (room : ℕ) → Numbered (message_call side s room)
unfolding message_call message_of
numbered side s room = numbered_room room (message_of side s) (numbered_head side s (message_head s))
