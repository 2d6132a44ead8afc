-- A message that was read and is written again has the same bytes.
use mathlib.Core.Path.{◌≡◌, ap, sym, ◌∙◌}
use mathlib.Core.List.{List, [], ◌∷◌, ◌++◌, append-nil}
use Prim.Native.Nat.{ℕ, zero, suc, ◌+◌, ◌-◌, ◌<◌, ◌≤◌}
use native.Mathlib.Omega.{arith}
use native.Mathlib.Numerals.{add-one}
use lib.Dec.{lit<}
use lib.ListN.{length, get_or, take, drop, length-take, length-drop}
use lib.Seq.{length-take-le, drop-cons}
use borrow.Author.Tests.{le-ltb}
use Rattle.wire.proofs.Numbers.{bytes_be_lem}
use Rattle.message_read.proofs.Whole.{Whole, whole, roomy}
use Rattle.message_laws.proofs.Covers.{part_take, Covers, covers_itself, covers}
use Rattle.message_laws.proofs.RoundTrip.{Bytes, Trip, span, span_join, round_trip}
use Rattle.protocol.specs.Numbers.{pick, be, bytes_be}
use Rattle.protocol.specs.Messages.{read, message_of, message_call, wrote, fields_written, message_whole as put, body_written, message_written}
use Rattle.protocol.specs.Answers.{put_out}

-- the first n of bytes are bytes
bytes_take : (n : ℕ) (s : List ℕ) → Bytes s → Bytes (take n s)
bytes_take zero s b i = lit< tt
bytes_take (suc n) [] b i = lit< tt
bytes_take (suc n) (x ∷ s) b zero = b 0
bytes_take (suc n) (x ∷ s) b (suc i) = bytes_take n s (λ j. b (suc j)) i

-- the bytes of a message: its type, its length and its body
parts : (s : List ℕ) (n : ℕ) → Bytes s → 4 ≤ n → n + 1 ≤ length s → n ≡ be (take 4 (drop 1 s)) → get_or s 0 0 ∷ bytes_be 4 n ++ span s 5 (n + 1) ≡ take (n + 1) s
parts s n b h k e =
    let head : bytes_be 4 n ≡ span s 1 5 = ap (bytes_be 4) e ∙ bytes_be_lem s 1 4 b (omega arith) in
    let size : n + 1 - 1 ≡ n = omega arith in
    rw (head, span_join s 1 5 (n + 1) (omega arith) (omega arith), size, add-one) (ap (take (suc n)) (sym (drop-cons s 0 0 (omega arith))))

-- a body that is short enough, and has room, is put out
put_whole : (t room n : ℕ) (b : List ℕ) → length b + 4 ≡ n → n ≤ 65535 → n + 1 ≤ room → put t room (wrote b []) ≡ put_out (t ∷ bytes_be 4 n ++ b)
unfolding put pick
put_whole t room n b e h k =
    let r : length b + 5 ≤ room = omega arith in
    rw (e, le-ltb 65535 n h, le-ltb room (length b + 5) r)

-- the length field n, the bytes used u and the words of an accepted message
module _ (side : ℕ) (s : List ℕ) (n u : ℕ) (ws : List ℕ) (w : Whole side s n u ws) where
  trip : (src : List ℕ) → Covers src (take (n + 1) s) → Trip (take (n + 1) s) 5 (read u ws) (fields_written w.layout src)
  trip src c = rw w.body.outcome at (round_trip (take (n + 1) s) src c w.layout 5 (simp length-take (omega arith)))

  used_from : u ≡ n + 1
  used_from = omega (arith, (trip (take (n + 1) s) (covers_itself (take (n + 1) s))).1, length-take (n + 1) s)

  again_from : Bytes s → (src : List ℕ) → take u src ≡ take u s → (room : ℕ) → u ≤ room → message_written side (get_or s 0 0) ws src room ≡ put_out (take u s)
  unfolding message_written body_written
  again_from b src e room r =
      let m : length (take (n + 1) s) ≡ n + 1 = length-take-le (n + 1) s w.fits in
      let c = covers src (take (n + 1) s) (ap (λ (k : ℕ). take k src) m ∙ rw used_from at e) in
      let same : fields_written w.layout src ws ≡ wrote (span s 5 (n + 1)) [] =
      rw (append-nil, used_from, part_take s (n + 1) 5 (n + 1 - 5) (omega arith)) at ((trip src c).2 (bytes_take (n + 1) s b) []) in
      let long : length (span s 5 (n + 1)) + 4 ≡ n = simp (length-take, length-drop) (omega arith) in
      rw (used_from, w.kind, same, put_whole (get_or s 0 0) room n (span s 5 (n + 1)) long w.high (omega (arith, used_from)))
      (ap put_out (parts s n b w.low w.fits w.size))

-- what the call read is a whole message
pub made : (side : ℕ) (s : List ℕ) (room u : ℕ) (ws : List ℕ) → message_call side s room ≡ read u ws → Whole side s (be (take 4 (drop 1 s))) u ws
unfolding message_call
made side s room u ws e = whole side s u ws (roomy (message_of side s) room u ws e).0

-- The reader uses the type byte and as many bytes as the length field says.
pub used : (side : ℕ) (s : List ℕ) (room u : ℕ) (ws : List ℕ) → message_call side s room ≡ read u ws → u ≡ be (take 4 (drop 1 s)) + 1
used side s room u ws e = used_from side s _ u ws (made side s room u ws e)

-- What the reader accepts, written again from its list into a room that is large enough, is the same message. The source is any
-- that begins with the message: all of s, or the message alone.
pub again : (side : ℕ) (s : List ℕ) (room u : ℕ) (ws : List ℕ) → ((i : ℕ) → get_or s i 0 < 256) → message_call side s room ≡ read u ws
    → (src : List ℕ) → take u src ≡ take u s → (room' : ℕ) → u ≤ room' → message_written side (get_or s 0 0) ws src room' ≡ put_out (take u s)
again side s room u ws b e = again_from side s _ u ws (made side s room u ws e) b
