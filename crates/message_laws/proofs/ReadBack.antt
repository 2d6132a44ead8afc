-- What is written in any layout is read back, with the same contents, wherever it stands in a message.
use mathlib.Core.Path.{◌≡◌, refl, ap, ◌∙◌}
use mathlib.Core.Bool.{true}
use mathlib.Core.List.{List, [], ◌∷◌, ◌++◌, append_assoc}
use Prim.Native.Nat.{ℕ, zero, suc, ◌+◌, ◌-◌, ◌^◌, ◌<◌, ◌≤◌}
use native.Mathlib.Omega.{arith}
use native.Mathlib.Nat.{add-zero, add_assoc}
use lib.Dec.{leb, eqb}
use lib.ListN.{length, take, drop, length-append, length-drop}
use lib.Seq.{drop-drop, take-append_seam, drop-append_seam}
use borrow.Author.Tests.{eqb-true, le-leb}
use Rattle.wire.proofs.Numbers.{be_bytes, length_bytes}
use Rattle.wire.proofs.Picks.{both, pick_case}
use Rattle.std.specs.Prelude.{Ok}
use Rattle.message_laws.proofs.RoundTrip.{count_next}
use Rattle.protocol.specs.Numbers.{pick, be, bytes_be}
use Rattle.protocol.specs.Messages.{Field, number, text, bytes, Layout, done, one, run, u16, permits, span, lengthened, textual, field_at}
use Rattle.protocol.specs.Messages.{MessageRead, read, read_before, then_read, field_outcome, times_read, fields_read, Written, unwritten, wrote}
use Rattle.protocol.specs.Messages.{fitting, field_bytes, next_field, put_before, joined, times_written, fields_written, contents}

-- ---- bytes at a position

-- b stands in m at p
pub record Stands (m : List ℕ) (p : ℕ) (b : List ℕ) : Type 0 where
  pub inside : p ≤ length m
  pub rest : List ℕ
  pub is : drop p m ≡ b ++ rest

module _ {m : List ℕ} {p : ℕ} {b : List ℕ} (s : Stands m p b) where
  end : p + length b ≤ length m
  end = let l : length m - p ≡ length b + length s.rest = simp (length-drop, length-append) at (ap length s.is) in omega arith

  taken : take (length b) (drop p m) ≡ b
  taken = rw s.is (take-append_seam b s.rest)

module _ {m : List ℕ} {p : ℕ} (b c : List ℕ) (s : Stands m p (b ++ c)) where
  front : Stands m p b
  front = record { inside = s.inside; rest = c ++ s.rest; is = rw append_assoc at s.is }

  back : Stands m (p + length b) c
  back = record { inside = end front; rest = s.rest; is = rw (← drop-drop, s.is, append_assoc) (drop-append_seam b (c ++ s.rest)) }

-- ---- what is read back

-- the words us name the same parts of m as the words ws of src
pub record Same (m us src ws : List ℕ) : Type 0 where
  pub contents_are : contents m us ≡ contents src ws
  pub length_is : length us ≡ length ws

-- an outcome up to q whose words are those of ws up to vs
pub record Reads (m src : List ℕ) (o : MessageRead) (q : ℕ) (ws vs : List ℕ) : Type 0 where
  pub words : List ℕ
  pub is : o ≡ read q words
  pub carry : (us : List ℕ) → Same m us src vs → Same m (words ++ us) src ws

-- what was written from ws, standing at p, is what the outcome reads
abbrev pub Back : List ℕ → List ℕ → ℕ → MessageRead → List ℕ → Written → Type 0
Back m src p o ws unwritten = Unit {0}
Back m src p o ws (wrote b vs) = Stands m p b → Reads m src o (p + length b) ws vs

module _ (m src : List ℕ) (p : ℕ) (o : MessageRead) (f : ℕ → MessageRead) (ws : List ℕ) where
  back_after : (b vs : List ℕ) (x : Written) → Back m src p o ws (wrote b vs)
      → (Stands m p b → Reads m src o (p + length b) ws vs → Back m src (p + length b) (f (p + length b)) vs x) → Back m src p (then_read o f) ws (put_before b x)
  unfolding then_read read_before put_before
  back_after b vs unwritten t u = tt
  back_after b vs (wrote c us) t u = λ s.
      let x = t (front b c s) in
      let y = u (front b c s) x (back b c s) in
      record {
        words = x.words ++ y.words;
        is = rw (x.is, y.is, length-append, add_assoc);
        carry = λ ks k. rw append_assoc (x.carry (y.words ++ ks) (y.carry ks k));
      }

  back_then : (w : Written) (g : List ℕ → List ℕ → Written) → Back m src p o ws w
      → ((b vs : List ℕ) → Stands m p b → Reads m src o (p + length b) ws vs → Back m src (p + length b) (f (p + length b)) vs (g b vs)) → Back m src p (then_read o f) ws (joined w g)
  unfolding joined
  back_then unwritten g t u = tt
  back_then (wrote b vs) g t u = back_after b vs (g b vs) t (u b vs)

-- nothing written, nothing read
back_none : (m src : List ℕ) (p : ℕ) (ws : List ℕ) → Back m src p (read p []) ws (wrote [] ws)
back_none m src p ws = λ s. record { words = []; is = rw add-zero; carry = λ us k. k }

back_times : (m src : List ℕ) (f : ℕ → MessageRead) (g : List ℕ → Written) → ((p : ℕ) (ws : List ℕ) → Back m src p (f p) ws (g ws))
    → (n p : ℕ) (ws : List ℕ) → Back m src p (times_read n f p) ws (times_written n g ws)
unfolding times_read times_written
back_times m src f g t zero p ws = back_none m src p ws
back_times m src f g t (suc n) p ws = back_then m src p (f p) (times_read n f) ws (g ws) (λ b. times_written n g) (t p ws) (λ b vs s x. back_times m src f g t n (p + length b) vs)

-- ---- a field

-- the content c is found as the last of the bytes up to q
record Holds (f : Field) (m : List ℕ) (p q : ℕ) (c : List ℕ) : Type 0 where
  start : ℕ
  found : field_at f m p ≡ Ok (span start (length c))
  ends : start + length c ≡ q
  same : take (length c) (drop start m) ≡ c

module _ (m : List ℕ) (small : length m < 256 ^ 4) (p : ℕ) (c : List ℕ) where
  holds_number : (w : ℕ) (vs : List ℕ) → fitting (number w vs) c ≡ true → Stands m p c → Holds (number w vs) m p (p + length c) c
  unfolding field_at fitting pick
  holds_number w vs e s =
      let t = both (eqb (length c) w) (permits vs (be c)) e in
      record {
        start = p;
        found = rw (← (eqb-true (length c) w t.0), le-leb (p + length c) (length m) (end s), taken s, t.1);
        ends = refl;
        same = taken s;
      }

  holds_bytes : Stands m p (bytes_be 4 (length c) ++ c) → Holds bytes m p (p + length (bytes_be 4 (length c) ++ c)) c
  unfolding field_at lengthened pick
  holds_bytes s =
      let n = length c in
      let four : length (bytes_be 4 n) ≡ 4 = length_bytes 4 n in
      let head : take 4 (drop p m) ≡ bytes_be 4 n = rw four at (taken (front (bytes_be 4 n) c s)) in
      let tail : Stands m (p + 4) c = rw four at (back (bytes_be 4 n) c s) in
      let size : be (take 4 (drop p m)) ≡ n = ap be head ∙ be_bytes 4 n (omega (arith, end tail)) in
      let low : p + 4 ≤ length m = omega (arith, end tail) in
      record {
        start = p + 4;
        found = rw (size, le-leb (p + 4) (length m) low, le-leb (p + 4 + n) (length m) (end tail));
        ends = rw (length-append, four) (add_assoc p 4 n);
        same = taken tail;
      }

  holds_field : (f : Field) → fitting f c ≡ true → Stands m p (field_bytes f c) → Holds f m p (p + length (field_bytes f c)) c
  unfolding field_at fitting field_bytes textual pick
  holds_field (number w vs) e s = holds_number w vs e s
  holds_field text e s =
      let h = holds_bytes s in
      record { start = h.start; found = rw (h.found, h.same, e); ends = h.ends; same = h.same }
  holds_field bytes e s = holds_bytes s

module _ (m : List ℕ) (small : length m < 256 ^ 4) (src : List ℕ) where
  back_field : (f : Field) (p : ℕ) (ws : List ℕ) → Back m src p (field_outcome p (field_at f m p)) ws (next_field f src ws)
  unfolding next_field field_outcome contents
  back_field f p [] = tt
  back_field f p (s ∷ []) = tt
  back_field f p (s ∷ n ∷ ws) =
      let c = take n (drop s src) in
      let P = Back m src p (field_outcome p (field_at f m p)) (s ∷ n ∷ ws) in
      pick_case P (leb (s + n) (length src)) _ unwritten
      (λ _. pick_case P (fitting f c) (wrote (field_bytes f c) ws) unwritten
      (λ e st.
      let h = holds_field m small p c f e st in
      record {
        words = h.start ∷ length c ∷ [];
        is = rw (h.found, h.ends);
        carry = λ us k. record { contents_are = rw (h.same, k.contents_are); length_is = rw k.length_is };
      })
      (λ _. tt))
      (λ _. tt)

  back_run : (f : ℕ → MessageRead) (g : List ℕ → Written) → ((p : ℕ) (ws : List ℕ) → Back m src p (f p) ws (g ws)) → (p : ℕ) (ws : List ℕ)
      → Back m src p (then_read (field_outcome p (field_at u16 m p)) (times_read (be (take 2 (drop p m))) f)) ws (joined (next_field u16 src ws) (λ b. times_written (be b) g))
  back_run f g t p ws =
      back_then m src p _ (times_read (be (take 2 (drop p m))) f) ws (next_field u16 src ws) (λ b. times_written (be b) g) (back_field u16 p ws)
      (λ b vs s x.
      let two : length b ≡ 2 = omega (arith, count_next m p (p + length b) x.words x.is) in
      rw (rw two at (taken s)) (back_times m src f g t (be b) (p + length b) vs))

  -- ---- every layout

  pub read_back : (l : Layout) (p : ℕ) (ws : List ℕ) → Back m src p (fields_read l m p) ws (fields_written l src ws)
  unfolding fields_read fields_written
  read_back done p ws = back_none m src p ws
  read_back (one f rest) p ws =
      back_then m src p _ (fields_read rest m) ws _ (λ b. fields_written rest src) (back_field f p ws) (λ b vs s x. read_back rest (p + length b) vs)
  read_back (run items rest) p ws =
      back_then m src p _ (fields_read rest m) ws _ (λ b. fields_written rest src)
      (back_run (fields_read items m) (fields_written items src) (read_back items) p ws)
      (λ b vs s x. read_back rest (p + length b) vs)
