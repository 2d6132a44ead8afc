-- The laws of words that cross as bytes.
use mathlib.Core.Path.{◌≡◌, refl, ap, ap₂, sym, ◌∙◌}
use mathlib.Core.List.{List, [], ◌∷◌, ◌++◌, append-nil, append_assoc}
use Prim.Native.Nat.{ℕ, suc, ◌+◌, ◌*◌, ◌-◌, ◌/◌, ◌%◌, ◌^◌, ◌<◌, ◌≤◌}
use mathlib.Core.Bool.{Bool, true, false}
use native.Mathlib.Omega.{arith}
use native.Mathlib.Numerals.{add-one}
use lib.Dec.{leb, ltb, eqb}
use lib.ListN.{length, take, drop, get_or, set, length-take, length-drop, length-append, drop_of_length-le}
use lib.Seq.{sets, sets-eq, length-sets, drop-cons, drop-drop, take_all, take_at, drop_at}
use borrow.Author.Tests.{eq-eqb, le-leb, leb-true, leb-false, lt-ltb, le-ltb, ltb-false}
use borrow.Rule.Slice.PartMut.{put_mid}
use Rattle.wire.proofs.Numbers.{be_bytes, length_bytes}
use Rattle.wire.proofs.Picks.{pick_case, pick_yes, both}
use Rattle.wire.proofs.Stores.{sets_append}
use Rattle.c_words.specs.Answers.{WordsOut}
use Rattle.forms.specs.declared.Answer.{Answer}
use Rattle.protocol.specs.Numbers.{pick, be, bytes_be}
use Rattle.protocol.specs.Crossing.{words_in, bytes_out, crosses, word_room, refusal, success}

-- ---- words in

pub words_next : (s : List ℕ) → 4 ≤ length s → words_in s ≡ be (take 4 s) ∷ words_in (drop 4 s)
unfolding words_in
words_next [] h = absurd (omega arith)
words_next (a ∷ []) h = absurd (omega arith)
words_next (a ∷ b ∷ []) h = absurd (omega arith)
words_next (a ∷ b ∷ c ∷ []) h = absurd (omega arith)
words_next (a ∷ b ∷ c ∷ d ∷ s) h = refl

words_none : (s : List ℕ) → length s < 4 → words_in s ≡ []
unfolding words_in
words_none [] h = refl
words_none (a ∷ []) h = refl
words_none (a ∷ b ∷ []) h = refl
words_none (a ∷ b ∷ c ∷ []) h = refl
words_none (a ∷ b ∷ c ∷ d ∷ s) h = absurd (omega arith)

module _ (bytes words : List ℕ) (i : ℕ) where
  pub take_next : (v : ℕ) → 4 * i + 4 ≤ length bytes → v ≡ be (take 4 (drop (4 * i) bytes))
      → sets words i (words_in (drop (4 * i) bytes)) ≡ sets (set words i v) (i + 1) (words_in (drop (4 * (i + 1)) bytes))
  take_next v h e =
      let l : 4 ≤ length (drop (4 * i) bytes) = simp length-drop (omega arith) in
      let k : 4 * i + 4 ≡ 4 * (i + 1) = omega arith in
      rw (words_next (drop (4 * i) bytes) l, ← e, drop-drop, k, add-one)

  pub take_done : length bytes / 4 ≤ i → sets words i (words_in (drop (4 * i) bytes)) ≡ words
  take_done h = rw (words_none (drop (4 * i) bytes) (simp length-drop (omega arith)))

pub length_in : (s : List ℕ) → length (words_in s) ≡ length s / 4
unfolding words_in
length_in [] = refl
length_in (a ∷ []) = refl
length_in (a ∷ b ∷ []) = refl
length_in (a ∷ b ∷ c ∷ []) = refl
length_in (a ∷ b ∷ c ∷ d ∷ s) = omega (arith, length_in s)

-- ---- the words of two runs, one run after the other

-- few words together are in the short room
pub few_fit : (n m : ℕ) (b : Bool) → b ≡ leb (n + m) 4096 → b ≡ true → n + m ≤ 4096
few_fit n m b e t = leb-true (n + m) 4096 (sym e ∙ t)

-- what is stored into all of a list from its n-th element on is stored into the list
part_stored : (l vs : List ℕ) (n k : ℕ) → n + k ≡ length l → length vs ≤ k → put_mid n k l (sets (take k (drop n l)) 0 vs) ≡ sets l n vs
part_stored l vs n k e h =
    let d : length (drop n l) ≡ k = simp length-drop (omega arith) in
    let t : take k (drop n l) ≡ drop n l = take_all k (drop n l) (omega arith) in
    let q : length (drop n l) ≤ k = omega arith in
    let z : drop k (drop n l) ≡ [] = drop_of_length-le (drop n l) q in
    let o : n + (0 + length vs) ≡ n + length vs = omega arith in
    rw (t, z, append-nil, sets-eq vs (drop n l) 0 (omega arith), drop-drop, o, sets-eq vs l n (omega arith)) (simp append_assoc)

module _ (first second words : List ℕ) (h : length first + length second ≤ 4 * length words) where
  pub both_taken : (w : List ℕ) → w ≡ sets words 0 (words_in first) → (part : List ℕ)
      → part ≡ sets (take (length w - length first / 4) (drop (length first / 4) w)) 0 (words_in second)
      → put_mid (length first / 4) (length w - length first / 4) w part ≡ sets words 0 (words_in first ++ words_in second)
  both_taken w e part f =
      let l : length w ≡ length words = ap length e ∙ length-sets words 0 (words_in first) in
      let n : length first / 4 ≡ 0 + length (words_in first) = omega (arith, length_in first) in
      ap (put_mid (length first / 4) (length w - length first / 4) w) f
      ∙ part_stored w (words_in second) (length first / 4) (length w - length first / 4) (omega arith) (omega (arith, length_in second))
      ∙ rw (e, n) (sets_append words 0 (words_in first) (words_in second))

  -- the two runs' words are found again
  module _ (words' : List ℕ) (e : words' ≡ sets words 0 (words_in first ++ words_in second)) where
    a : List ℕ
    a = words_in first

    b : List ℕ
    b = words_in second

    rest : List ℕ
    rest = drop (0 + length (a ++ b)) words

    stored : words' ≡ a ++ (b ++ rest)
    unfolding a b rest
    stored = e ∙ sets-eq (a ++ b) words 0 (simp length-append (omega (arith, length_in first, length_in second))) ∙ append_assoc a b rest

    pub first_taken : take (length first / 4) words' ≡ words_in first
    unfolding a
    first_taken = rw stored (take_at a (b ++ rest) (length first / 4) (length_in first))

    pub second_taken : (k : ℕ) → k ≡ length second / 4 → take k (drop (length first / 4) words') ≡ words_in second
    unfolding a b
    second_taken k q =
        rw (stored, drop_at a (b ++ rest) (length first / 4) (length_in first)) (take_at b rest k (length_in second ∙ sym q))

-- ---- words out

pub length_out : (ws : List ℕ) → length (bytes_out ws) ≡ 4 * length ws
unfolding bytes_out
length_out [] = refl
length_out (w ∷ ws) = omega (arith, length-append (bytes_be 4 w) (bytes_out ws), length_bytes 4 w, length_out ws)

-- words cross and come back
pub words_back : (ws : List ℕ) → ((j : ℕ) → get_or ws j 0 < 2 ^ 32) → words_in (bytes_out ws) ≡ ws
unfolding words_in bytes_out
words_back [] h = refl
words_back (w ∷ ws) h =
    let n : length (bytes_be 4 w) ≡ 4 = length_bytes 4 w in
    let l : 4 ≤ length (bytes_be 4 w ++ bytes_out ws) = omega (arith, length-append (bytes_be 4 w) (bytes_out ws)) in
    words_next (bytes_be 4 w ++ bytes_out ws) l
    ∙ ap₂ (λ (a b : List ℕ). be a ∷ words_in b) (take_at (bytes_be 4 w) (bytes_out ws) 4 n) (drop_at (bytes_be 4 w) (bytes_out ws) 4 n)
    ∙ ap₂ (λ (a : ℕ) (b : List ℕ). a ∷ b) (be_bytes 4 w (h 0)) (words_back ws (λ j. h (suc j)))

module _ (words out : List ℕ) (i : ℕ) where
  pub put_next : i < length words → (out' : List ℕ) → out' ≡ sets out (4 * i) (bytes_be 4 (get_or words i 0))
      → sets out (4 * i) (bytes_out (drop i words)) ≡ sets out' (4 * (i + 1)) (bytes_out (drop (i + 1) words))
  unfolding bytes_out
  put_next h out' e =
      let k : 4 * i + length (bytes_be 4 (get_or words i 0)) ≡ 4 * (i + 1) = omega (arith, length_bytes 4 (get_or words i 0)) in
      rw (drop-cons words i 0)
      (sym (sets_append out (4 * i) (bytes_be 4 (get_or words i 0)) (bytes_out (drop (suc i) words)))
      ∙ rw (k, ← e, add-one))

  pub put_done : length words ≤ i → sets out (4 * i) (bytes_out (drop i words)) ≡ out
  unfolding bytes_out
  put_done h = rw (drop_of_length-le words h)

-- ---- how much crosses

-- the room for words is at most 8,192, and its bytes are there
pub room_most : (n : ℕ) → (word_room n ≤ 8192) × (4 * word_room n ≤ n)
unfolding word_room
room_most n = pick_case (λ k. (k ≤ 8192) × (4 * k ≤ n)) (leb n 32768) (n / 4) 8192 (λ e. (omega (arith, leb-true n 32768 e), omega arith)) (λ e. (omega arith, omega (arith, leb-false n 32768 e)))

-- what crosses is at most 8,192 words
pub crosses_most : (n : ℕ) → crosses n ≡ true → n ≤ 32768
unfolding crosses
crosses_most n e = leb-true n 32768 (both (eqb (n % 4) 0) (leb n 32768) e).1

-- and up to 8,192 words cross
pub crosses_words : (n : ℕ) → n ≤ 8192 → crosses (4 * n) ≡ true
unfolding crosses
crosses_words n h =
    let m : 4 * n % 4 ≡ 0 = omega arith in
    pick_yes _ _ _ (eq-eqb _ _ m) ∙ le-leb (4 * n) 32768 (omega arith)

-- the words that were filled in are the words
pub filled_words : (words words' ws : List ℕ) (n : ℕ) → words' ≡ sets words 0 ws → n ≡ length ws → n ≤ length words → take n words' ≡ ws
filled_words words words' ws n e f h =
    ap (take n) (e ∙ sets-eq ws words 0 (omega arith)) ∙ take_at ws (drop (0 + length ws) words) n (sym f)

-- ---- words that go out if there is room for them

-- the bytes of words for which there is room, and what is past them
pub words_put : (ws l : List ℕ) (n : ℕ) → n ≡ length ws → n ≤ word_room (length l) → sets l 0 (bytes_out ws) ≡ bytes_out ws ++ drop (4 * n) l
words_put ws l n e h =
    let b : 0 + length (bytes_out ws) ≤ length l = omega (arith, (room_most (length l)).1, length_out ws) in
    let d : 0 + length (bytes_out ws) ≡ 4 * n = omega (arith, length_out ws) in
    sets-eq (bytes_out ws) l 0 b ∙ ap (λ (k : ℕ). bytes_out ws ++ drop k l) d

module _ (no n : ℕ) (k l : List ℕ) where
  pub out_full : word_room (length l) < n → WordsOut no n (take n k) (refusal no 0) l l
  unfolding pick
  out_full h = record { answer = rw (lt-ltb _ _ h); bytes = rw (lt-ltb _ _ h) }

  pub out_put : n ≤ word_room (length l) → n ≤ length k → (l' : List ℕ) → l' ≡ sets l 0 (bytes_out (take n k)) → WordsOut no n (take n k) (success n 0) l l'
  unfolding pick
  out_put h f l' x =
      let e : n ≡ length (take n k) = simp length-take (omega arith) in
      record { answer = rw (le-ltb _ _ h); bytes = rw (le-ltb _ _ h) (x ∙ words_put (take n k) l n e h) }

-- What the words that were filled in settle by going out: the answer, and every byte, of an outcome that is `full` where there is no
-- room for them, and else `put`.
module _ {O : Type 0} (answer : O → Answer) (after : O → List ℕ) (full put : O) (no n : ℕ) (k k' ws l : List ℕ) (r : Answer) (l' : List ℕ) where
  pub out_settled : refusal no 0 ≡ answer full → l ≡ after full → success (length ws) 0 ≡ answer put → bytes_out ws ++ drop (4 * length ws) l ≡ after put
      → k' ≡ sets k 0 ws → n ≡ length ws → (n ≤ word_room (length l) → n ≤ length k) → WordsOut no n (take n k') r l l'
      → (r ≡ answer (pick (ltb (word_room (length l)) (length ws)) full put)) × (l' ≡ after (pick (ltb (word_room (length l)) (length ws)) full put))
  unfolding pick
  out_settled a b a' b' s e h g = rw (← e) (go (ltb (word_room (length l)) n) refl g.answer g.bytes)
    where
      go : (t : Bool) → ltb (word_room (length l)) n ≡ t → r ≡ pick t (refusal no 0) (success n 0) → l' ≡ pick t l (bytes_out (take n k') ++ drop (4 * n) l)
          → (r ≡ answer (pick t full put)) × (l' ≡ after (pick t full put))
      go true q x y = (x ∙ a, y ∙ b)
      go false q x y = (rw e at x ∙ a', rw (filled_words k k' ws n s e (h (ltb-false _ _ q)), e) at y ∙ b')
