-- What the writer puts out, the reader accepts, with the fields' bytes in order, and whatever comes after it.
use mathlib.Core.Path.{◌≡◌, refl, ap, sym, ◌∙◌}
use mathlib.Core.List.{List, [], ◌∷◌, ◌++◌, append-nil}
use Prim.Native.Nat.{ℕ, ◌+◌, ◌^◌, ◌<◌, ◌≤◌}
use native.Mathlib.Omega.{arith}
use lib.Dec.{ltb}
use lib.ListN.{length, get_or, take, drop, length-append}
use lib.Seq.{get_or-take, take_at, drop_at}
use borrow.Author.Tests.{ltb-false, le-ltb}
use Rattle.wire.proofs.Numbers.{be_bytes, length_bytes}
use Rattle.wire.proofs.Picks.{pick_case}
use Rattle.message_read.proofs.Whole.{Whole}
use Rattle.message_laws.proofs.Covers.{covers}
use Rattle.message_laws.proofs.Words.{pairs_contents, bounded}
use Rattle.message_laws.proofs.ReadBack.{Stands, Same, Reads, read_back}
use Rattle.protocol.specs.Numbers.{pick, bytes_be}
use Rattle.protocol.specs.Messages.{Layout, layout_of, read, fields_read, message_end, body_read, message_head, message_by, message_of}
use Rattle.protocol.specs.Messages.{message_roomed, message_call}
use Rattle.protocol.specs.Messages.{Written, unwritten, wrote, fields_written, message_whole, body_written, message_written, contents}
use mathlib.Core.Option.{Option, some, none}
use Rattle.protocol.specs.Answers.{Put, refused_put, put_out}

-- ---- what was put out

-- a type byte, the length, and the body's bytes
abbrev message_of_lem : ℕ → List ℕ → List ℕ
message_of_lem t c = t ∷ bytes_be 4 (length c + 4) ++ c

-- the body of the message b that was put out
record Sent (t : ℕ) (w : Written) (b : List ℕ) : Type 0 where
  bytes : List ℕ
  outcome : w ≡ wrote bytes []
  short : length bytes + 4 ≤ 65535
  is : message_of_lem t bytes ≡ b

-- a refusal puts nothing out
pub refuse : {A : Type 0} (n : ℕ) (b : List ℕ) → refused_put n ≡ put_out b → A
refuse n b e = let z : ◌≡◌ {A = ℕ} 0 1 = cc in absurd (omega arith)

sent : (t room : ℕ) (w : Written) (b : List ℕ) → message_whole t room w ≡ put_out b → Sent t w b
unfolding message_whole
sent t room unwritten b = refuse 6 b
sent t room (wrote c (w ∷ ws)) b = refuse 6 b
sent t room (wrote c []) b =
    let P : Put → Type 0 = λ x. x ≡ put_out b → Sent t (wrote c []) b in
    pick_case P (ltb 65535 (length c + 4)) (refused_put 2) _ (λ _. refuse 2 b)
    (λ l. pick_case P (ltb room (length c + 5)) (refused_put 32) (put_out (message_of_lem t c)) (λ _. refuse 32 b)
    (λ _ e. record { bytes = c; outcome = refl; short = ltb-false 65535 (length c + 4) l; is = cc }))

known_sent : (k : (Option Layout)) (t : ℕ) (ws src : List ℕ) (room : ℕ) (b : List ℕ) → body_written k t ws src room ≡ put_out b → (l : Layout) × (k ≡ some l) × Sent t (fields_written l src ws) b
unfolding body_written
known_sent none t ws src room b e = refuse 3 b e
known_sent (some l) t ws src room b e = (l, refl, sent t room (fields_written l src ws) b e)

-- ---- what is accepted

-- a whole message is read, where its list has room: the other way round from what message_read/proofs/Whole proves
pub is_read : (side : ℕ) (s : List ℕ) (n u : ℕ) (ws : List ℕ) → Whole side s n u ws → (room : ℕ) → length ws ≤ room → message_call side s room ≡ read u ws
unfolding message_call message_roomed message_of message_by message_head body_read message_end pick
is_read side s n u ws w room h =
    rw (
      ← w.size,
      le-ltb (length s) 5 w.long,
      le-ltb n 4 w.low,
      le-ltb 65535 n w.high,
      le-ltb (length s) (n + 1) w.fits,
      w.kind,
      w.body.outcome,
      le-ltb u (length (take (n + 1) s)) w.body.end,
      le-ltb room (length ws) h,
    )

-- the message of a body c is whole, once its fields are read
module _ (t : ℕ) (c : List ℕ) where
  long : 5 + length c ≡ length (message_of_lem t c)
  long = simp (length-append, length_bytes) (omega arith)

  stands : Stands (message_of_lem t c) 5 c
  stands =
      record {
        inside = omega (arith, long);
        rest = [];
        is = drop_at (bytes_be 4 (length c + 4)) c 4 (length_bytes 4 (length c + 4)) ∙ sym (append-nil c);
      }

  module _ (s : List ℕ) (b : take (length (message_of_lem t c)) s ≡ message_of_lem t c) where
    -- its type byte is the one asked for
    kind_of_lem : get_or s 0 0 ≡ t
    kind_of_lem = sym (get_or-take (length (message_of_lem t c)) s 0 0 (omega (arith, long))) ∙ ap (λ (x : List ℕ). get_or x 0 0) b

    accepted : (side : ℕ) (l : Layout) (us : List ℕ) → length c + 4 ≤ 65535 → layout_of side t ≡ some l → fields_read l (message_of_lem t c) 5 ≡ read (5 + length c) us
        → Whole side s (length c + 4) (length (message_of_lem t c)) us
    accepted side l us h k e =
        let v = covers s (message_of_lem t c) b in
        let four : take 4 (drop 1 s) ≡ bytes_be 4 (length c + 4) =
        v.part 1 4 (omega (arith, long)) ∙ take_at (bytes_be 4 (length c + 4)) c 4 (length_bytes 4 (length c + 4)) in
        let all : take (length c + 4 + 1) s ≡ message_of_lem t c =
        ap (λ (k : ℕ). take k s) (let q : length c + 4 + 1 ≡ length (message_of_lem t c) = omega (arith, long) in q) ∙ b in
        record {
          size = rw four (sym (be_bytes 4 (length c + 4) (omega arith)));
          long = omega (arith, long, v.long);
          low = omega arith;
          high = h;
          fits = omega (arith, long, v.long);
          layout = l;
          kind = ap (layout_of side) kind_of_lem ∙ k;
          body = rw all (record { outcome = e ∙ ap (λ (n : ℕ). read n us) long; end = omega arith });
        }

-- s is read up to u, its type byte is t, and its list names the bytes that the list ws names in src
pub record ReadBack (side t : ℕ) (ws src : List ℕ) (u : ℕ) (s : List ℕ) (room : ℕ) : Type 0 where
  pub words : List ℕ
  pub is : message_call side s room ≡ read u words
  pub kind_is : get_or s 0 0 ≡ t
  pub contents_are : contents s words ≡ contents src ws
  pub length_is : length words ≡ length ws

-- What the writer puts out is read, with any bytes after it, and used whole; the type byte is the one asked for, and the list names the
-- bytes that the writer's list named in the source.
pub accepted_back : (side t : ℕ) (ws src : List ℕ) (room : ℕ) (b : List ℕ) → message_written side t ws src room ≡ put_out b
    → (s : List ℕ) → take (length b) s ≡ b → (room' : ℕ) → length ws ≤ room' → ReadBack side t ws src (length b) s room'
unfolding message_written contents
accepted_back side t ws src room b e s f room' h =
    let (l, k, d) = known_sent (layout_of side t) t ws src room b e in
    let c = d.bytes in
    let m = message_of_lem t c in
    let small : length m < 256 ^ 4 = omega (arith, long t c, d.short) in
    let x : Reads m src (fields_read l m 5) (5 + length c) ws [] = (rw d.outcome at (read_back m small src l 5 ws)) (stands t c) in
    let same : Same m x.words src ws = rw (append-nil x.words) at (x.carry [] (record { contents_are = refl; length_is = refl })) in
    let g : take (length m) s ≡ m = rw (← d.is) at f in
    let w = accepted t c s g side l x.words d.short k x.is in
    let r : message_call side s room' ≡ read (length m) x.words = is_read side s (length c + 4) (length m) x.words w room' (omega (arith, same.length_is)) in
    rw (← d.is) (record {
      words = x.words;
      is = r;
      kind_is = kind_of_lem t c s g;
      contents_are = pairs_contents s m (covers s m g) x.words (bounded side s room' (length m) x.words r).pairs ∙ same.contents_are;
      length_is = same.length_is;
    })
