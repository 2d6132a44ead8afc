-- R2.14 as the C host meets it, on the answers of the two message calls and on bytes: what is read and written again is the same
-- message, and what is written is read, with the same contents.
use mathlib.Core.Path.{◌≡◌, refl, ap, sym, ◌∙◌}
use mathlib.Core.Bool.{true}
use mathlib.Core.List.{List, [], ◌∷◌, ◌++◌}
use Prim.Native.Nat.{ℕ, ◌+◌, ◌*◌, ◌/◌, ◌<◌, ◌≤◌}
use native.Mathlib.Omega.{arith}
use lib.Dec.{lit<, ltb}
use lib.ListN.{length, get_or, take, drop}
use lib.Seq.{length-take-le, take_at}
use borrow.Author.Tests.{lt-ltb}
use Rattle.wire.proofs.Picks.{pick_case, pick_yes}
use Rattle.message_read.proofs.Whole.{roomy}
use Rattle.forms.specs.declared.Answer.{Answer}
use Rattle.c_words.proofs.Words.{length_in, length_out, words_back, room_most, crosses_words}
use Rattle.message_laws.proofs.Again.{again}
use Rattle.message_laws.proofs.Words.{pairs_words, bounded, Numbered, numbered}
use Rattle.message_laws.proofs.Accepted.{refuse, ReadBack, accepted_back}
use Rattle.protocol.specs.Numbers.{pick}
use mathlib.Core.Option.{Option, some, none}
use Rattle.protocol.specs.Messages.{Layout, layout_of, MessageRead, unread, read, message_of, message_roomed, message_call, Written, unwritten}
use Rattle.protocol.specs.Messages.{wrote, fields_written, message_whole, body_written, message_written, contents}
use Rattle.protocol.specs.Answers.{Put, refused_put, put_out, output_after}
use Rattle.protocol.specs.Crossing.{words_in, bytes_out, crosses, word_room, refusal, success, read_answer, read_list, ReadsMessage, uncrossed_list, written_from, put_answer, WritesMessage}

-- ---- a reading call that accepted

read_outcome : (o : MessageRead) (r : Answer) → Numbered o → r ≡ read_answer o → r.number ≡ 0 → (ws : List ℕ) × (o ≡ read r.first ws) × (r.second ≡ length ws)
unfolding read_answer
read_outcome (unread n p) r h e z = let q : n ≡ 0 = sym (ap (λ (a : Answer). a.number) e) ∙ z in absurd (omega arith)
read_outcome (read u ws) r h e z =
    (ws, ap (λ (k : ℕ). read k ws) (sym (ap (λ (a : Answer). a.first) e)), ap (λ (a : Answer). a.second) e)

-- the words that it read, which its list's bytes cross back to
record Listed (side : ℕ) (s : List ℕ) (r : Answer) (l l' : List ℕ) : Type 0 where
  words : List ℕ
  is : message_call side s (word_room (length l)) ≡ read r.first words
  crossed : crosses (length (take (4 * r.second) l')) ≡ true
  back : words_in (take (4 * r.second) l') ≡ words

listed : (side : ℕ) (s : List ℕ) (r : Answer) (l l' : List ℕ) → ReadsMessage side s r l l' → r.number ≡ 0 → Listed side s r l l'
unfolding read_list
listed side s r l l' c z =
    let room = word_room (length l) in
    let (ws, e, n) = read_outcome (message_call side s room) r (numbered side s room) c.answer z in
    let b = bounded side s room r.first ws e in
    let after : l' ≡ bytes_out ws ++ drop (4 * length ws) l = c.list ∙ ap (λ (o : MessageRead). read_list o l) e in
    let bytes : take (4 * r.second) l' ≡ bytes_out ws =
    ap (λ (k : ℕ). take (4 * k) l') n
    ∙ ap (take (4 * length ws)) after
    ∙ take_at (bytes_out ws) (drop (4 * length ws) l) (4 * length ws) (length_out ws) in
    record {
      words = ws;
      is = e;
      crossed = rw (bytes, length_out ws) (crosses_words (length ws) (omega (arith, b.listed, (room_most (length l)).0)));
      back = ap words_in bytes ∙ words_back ws (λ j. omega (arith, pairs_words r.first ws b.pairs j, b.short));
    }

-- ---- a writing call that succeeded

-- a refusal's number is not 0
abbrev NumberedPut : Put → Type 0
NumberedPut (refused_put n) = 0 < n
NumberedPut (put_out b) = Unit {0}

numbered_whole : (t room : ℕ) (w : Written) → NumberedPut (message_whole t room w)
unfolding message_whole
numbered_whole t room unwritten = lit< tt
numbered_whole t room (wrote b (w ∷ ws)) = lit< tt
numbered_whole t room (wrote b []) =
    pick_case NumberedPut (ltb 65535 (length b + 4)) (refused_put 2) _ (λ _. lit< tt)
    (λ _. pick_case NumberedPut (ltb room (length b + 5)) (refused_put 32) (put_out _) (λ _. lit< tt) (λ _. tt))

numbered_body : (k : (Option Layout)) (t : ℕ) (ws src : List ℕ) (room : ℕ) → NumberedPut (body_written k t ws src room)
unfolding body_written
numbered_body none t ws src room = lit< tt
numbered_body (some l) t ws src room = numbered_whole t room (fields_written l src ws)

numbered_uncrossed : (k : (Option Layout)) → NumberedPut (uncrossed_list k)
unfolding uncrossed_list
numbered_uncrossed none = lit< tt
numbered_uncrossed (some l) = lit< tt

-- a list that does not cross puts nothing out
uncrossed_put : {A : Type 0} (k : (Option Layout)) (b : List ℕ) → uncrossed_list k ≡ put_out b → A
unfolding uncrossed_list
uncrossed_put none b = refuse 3 b
uncrossed_put (some l) b = refuse 6 b

put_outcome : (p : Put) (r : Answer) → NumberedPut p → r ≡ put_answer p → r.number ≡ 0 → (b : List ℕ) × (p ≡ put_out b) × (r.first ≡ length b)
unfolding put_answer
put_outcome (refused_put n) r h e z = let q : n ≡ 0 = sym (ap (λ (a : Answer). a.number) e) ∙ z in absurd (omega arith)
put_outcome (put_out b) r h e z = (b, refl, ap (λ (a : Answer). a.first) e)

-- the bytes that it put out, from the words of its list
record Sent (side t : ℕ) (list src : List ℕ) (r : Answer) (out out' : List ℕ) : Type 0 where
  bytes : List ℕ
  is : message_written side t (words_in list) src (length out) ≡ put_out bytes
  size : r.first ≡ length bytes
  start : take r.first out' ≡ bytes

sent : (side t : ℕ) (list src : List ℕ) (r : Answer) (out out' : List ℕ) → WritesMessage side t list src r out out' → r.number ≡ 0 → Sent side t list src r out out'
unfolding written_from message_written output_after
sent side t list src r out out' c z =
    let k = layout_of side t in
    let w = message_written side t (words_in list) src (length out) in
    let numbers : NumberedPut (written_from side t list src (length out)) =
    pick_case NumberedPut (crosses (length list)) w (uncrossed_list k) (λ _. numbered_body k t (words_in list) src (length out)) (λ _. numbered_uncrossed k) in
    let (b, e, n) = put_outcome (written_from side t list src (length out)) r numbers c.answer z in
    record {
      bytes = b;
      is = pick_case (λ (p : Put). p ≡ put_out b → w ≡ put_out b) (crosses (length list)) w (uncrossed_list k) (λ _ f. f) (λ _. uncrossed_put k b) e;
      size = n;
      start =
          ap (λ (k : ℕ). take k out') n
          ∙ ap (take (length b)) (c.output ∙ ap (λ (p : Put). output_after p out) e)
          ∙ take_at b (drop (length b) out) (length b) refl;
    }

-- ---- the theorems

-- What the reading call accepts, written by the writing call from the list that was given, into a room that is large enough, is the same
-- message, and the rest of the room keeps its contents. The source is any that begins with the message.
pub read_then_written : (side : ℕ) (s : List ℕ) → ((i : ℕ) → get_or s i 0 < 256)
    → (r : Answer) (l l' : List ℕ) → ReadsMessage side s r l l' → r.number ≡ 0
    → (src : List ℕ) → take r.first src ≡ take r.first s
    → (q : Answer) (out out' : List ℕ) → WritesMessage side (get_or s 0 0) (take (4 * r.second) l') src q out out' → r.first ≤ length out
    → (q ≡ success r.first 0) × (out' ≡ take r.first s ++ drop r.first out)
unfolding written_from put_answer output_after
read_then_written side s b r l l' c z src f q out out' w h =
    let u = r.first in
    let d = listed side s r l l' c z in
    let p : written_from side (get_or s 0 0) (take (4 * r.second) l') src (length out) ≡ put_out (take u s) =
    pick_yes _ _ _ d.crossed
    ∙ ap (λ (ws : List ℕ). message_written side (get_or s 0 0) ws src (length out)) d.back
    ∙ again side s (word_room (length l)) u d.words b d.is src f (length out) h in
    let n : length (take u s) ≡ u = length-take-le u s (bounded side s (word_room (length l)) u d.words d.is).inside in (
      w.answer ∙ ap put_answer p ∙ ap (λ (k : ℕ). success k 0) n,
      w.output ∙ ap (λ (x : Put). output_after x out) p ∙ ap (λ (k : ℕ). take u s ++ drop k out) n,
    )

-- So from the whole buffer that it was read in, with what comes after the message there.
pub read_then_written_whole : (side : ℕ) (s : List ℕ) → ((i : ℕ) → get_or s i 0 < 256)
    → (r : Answer) (l l' : List ℕ) → ReadsMessage side s r l l' → r.number ≡ 0
    → (q : Answer) (out out' : List ℕ) → WritesMessage side (get_or s 0 0) (take (4 * r.second) l') s q out out' → r.first ≤ length out
    → (q ≡ success r.first 0) × (out' ≡ take r.first s ++ drop r.first out)
read_then_written_whole side s b r l l' c z = read_then_written side s b r l l' c z s refl

-- what was put out is read, with any bytes after it
put_back : (side t : ℕ) (list src : List ℕ) (r : Answer) (out out' : List ℕ) → WritesMessage side t list src r out out' → r.number ≡ 0
    → (s : List ℕ) → take r.first s ≡ take r.first out' → (room : ℕ) → length list / 4 ≤ room → ReadBack side t (words_in list) src r.first s room
put_back side t list src r out out' c z s f room h =
    let w = sent side t list src r out out' c z in
    let g : take (length w.bytes) s ≡ w.bytes = ap (λ (k : ℕ). take k s) (sym w.size) ∙ f ∙ w.start in
    rw w.size (accepted_back side t (words_in list) src (length out) w.bytes w.is s g room (omega (arith, length_in list)))

-- What the writing call puts out, with any bytes after it, the reading call accepts where its list has room for as many words as the list
-- written from: it uses the message whole, the type byte is the one asked for, and the list that it gives names the same contents in order.
pub written_then_read : (side t : ℕ) (list src : List ℕ) (r : Answer) (out out' : List ℕ) → WritesMessage side t list src r out out' → r.number ≡ 0
    → (s : List ℕ) → take r.first s ≡ take r.first out'
    → (q : Answer) (l l' : List ℕ) → ReadsMessage side s q l l' → length list / 4 ≤ word_room (length l)
    → (q ≡ success r.first (length list / 4)) × (get_or s 0 0 ≡ t) × (contents s (words_in (take (4 * q.second) l')) ≡ contents src (words_in list))
unfolding read_answer
written_then_read side t list src r out out' c z s f q l l' d h =
    let a = put_back side t list src r out out' c z s f (word_room (length l)) h in
    let e : q ≡ success r.first (length a.words) = d.answer ∙ ap read_answer a.is in
    let x = listed side s q l l' d (ap (λ (k : Answer). k.number) e) in
    let same : x.words ≡ a.words = cc (x.is, a.is) in
    (e ∙ ap (success r.first) (a.length_is ∙ length_in list), a.kind_is, ap (contents s) (x.back ∙ same) ∙ a.contents_are)

-- Where the list has room for fewer words, it is 31, and nothing else is wrong.
pub written_then_full : (side t : ℕ) (list src : List ℕ) (r : Answer) (out out' : List ℕ) → WritesMessage side t list src r out out' → r.number ≡ 0
    → (s : List ℕ) → take r.first s ≡ take r.first out'
    → (q : Answer) (l l' : List ℕ) → ReadsMessage side s q l l' → word_room (length l) < length list / 4 → (q ≡ refusal 31 0) × (l' ≡ l)
unfolding message_call message_roomed read_answer read_list pick
written_then_full side t list src r out out' c z s f q l l' d h =
    let a = put_back side t list src r out out' c z s f (length list / 4) (omega arith) in
    let m = (roomy (message_of side s) (length list / 4) r.first a.words a.is).0 in
    let k : word_room (length l) < length a.words = omega (arith, a.length_is, length_in list) in
    let o : message_call side s (word_room (length l)) ≡ unread 31 0 = rw (m, lt-ltb _ _ k) in
    (d.answer ∙ ap read_answer o, d.list ∙ ap (λ (x : MessageRead). read_list x l) o)
