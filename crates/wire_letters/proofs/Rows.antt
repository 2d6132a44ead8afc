-- The laws of well-formed UTF-8 that come to those of wire/proofs/Sequences: bytes in ranges, letters of one row of the table, and plain bytes.
use mathlib.Core.Path.{◌≡◌, refl, ap, sym, ◌∙◌}
use mathlib.Core.Logic.{◌⊎◌, inl, inr, ⊎_elim}
use mathlib.Core.Bool.{Bool, true, false}
use mathlib.Core.List.{List, [], ◌∷◌}
use Prim.Native.Nat.{ℕ, zero, suc, ◌+◌, ◌-◌, ◌<◌, ◌≤◌, zero-le}
use native.Mathlib.Omega.{arith}
use native.Mathlib.Nat.{zero-add, add-zero, add_assoc, le_refl, not-suc-le-zero}
use native.Mathlib.Numerals.{add-one}
use native.Mathlib.Decide.{dec_lt}
use lib.Dec.{leb, eqb}
use lib.ListN.{length, drop, get_or, length-drop}
use lib.Seq.{drop-cons, drop-drop}
use borrow.Author.Tests.{leb-true, le-leb, lt-leb, eqb-true}
use Rattle.wire.specs.Scan.{follower, followers, ahead, follow}
use Rattle.wire_letters.specs.Scan.{row_going, row_run, row_end, firsts, row_of, letters_run, letters_end}
use Rattle.wire.proofs.Picks.{pick_yes, pick_no, pick_case, both, clash}
use Rattle.wire.proofs.Tables.{each, each_at}
use Rattle.wire.proofs.Sequences.{same, plain_goes, ended}
use Rattle.wire_letters.proofs.PlainRuns.{step_run, step_inside}
use Rattle.protocol.specs.Numbers.{pick}
use Rattle.protocol.specs.Text.{Range, ◌to◌, within, Row, utf8_table, following, goes_on, well_formed}
use Rattle.wire_letters.specs.Step.{plain_end}

-- ---- a first byte: what the table says is computed at each byte

same_is : (qs rs : List Range) → same qs rs ≡ true → qs ≡ rs
same_is [] [] t = refl
same_is [] (r ∷ rs) t = clash t
same_is (q ∷ qs) [] t = clash t
same_is (q ∷ qs) (r ∷ rs) t =
    let a = both (pick (eqb q.low r.low) (eqb q.high r.high) false) (same qs rs) t in
    let b = both (eqb q.low r.low) (eqb q.high r.high) a.0 in
    let l : q.low ≡ r.low = eqb-true q.low r.low b.0 in
    let h : q.high ≡ r.high = eqb-true q.high r.high b.1 in
    let e = same_is qs rs a.1 in
    let f = ends q.low r.low q.high r.high l h in
    cc
  where
    ends : (a b c d : ℕ) → a ≡ b → c ≡ d → a to c ≡ b to d
    ends a b c d e f = cc

-- two lists of ranges are the same at any of the n bytes from l, where that is so, by computation, at each of them
pub rows_same : (f g : ℕ → List Range) (l n : ℕ) → each (λ b. same (f b) (g b)) l n ≡ true → (b : ℕ) → l ≤ b → b < l + n → f b ≡ g b
rows_same f g l n t b p q = same_is (f b) (g b) (each_at (λ b. same (f b) (g b)) l n t b p q)

-- ---- bytes in ranges, in their order

ahead_followers : (n : ℕ) → followers n ≡ ahead n follower
unfolding followers ahead
ahead_followers zero = refl
ahead_followers (suc n) = refl

length_followers : (n : ℕ) → length (followers n) ≡ n
unfolding followers
length_followers zero = refl
length_followers (suc n) = ap suc (length_followers n)

pub length_ahead : (n : ℕ) (r : Range) → length (ahead n r) ≡ n
unfolding ahead
length_ahead zero r = refl
length_ahead (suc n) r = ap suc (length_followers n)

pub follow_next : (s : List ℕ) (j : ℕ) (r : Range) (rs : List Range) → j < length s → follow (r ∷ rs) (drop j s) ≡ pick (within r (get_or s j 0)) (follow rs (drop (j + 1) s)) false
unfolding follow
follow_next s j r rs h = rw (add-one, drop-cons s j 0)

pub ahead_none : (n : ℕ) (r : Range) (l : List ℕ) → n ≡ 0 → follow (ahead n r) l ≡ true
unfolding ahead follow
ahead_none n r l e = rw e

-- what is left of a letter, k bytes after its first: n bytes, the first of them in r
module _ (s : List ℕ) (i k n : ℕ) (r : Range) (p : 0 < n) (h : i + k < length s) where
  ahead-next : (m : ℕ) → n ≡ suc m → follow (ahead n r) (drop (i + k) s) ≡ pick (within r (get_or s (i + k) 0)) (follow (ahead (n - 1) follower) (drop (i + (k + 1)) s)) false
  unfolding ahead
  ahead-next m e =
      let f : n - 1 ≡ m = omega arith in
      rw (f, e, ← ahead_followers m, ← add_assoc i k 1) (follow_next s (i + k) r (followers m) h)

  pub ahead_yes : within r (get_or s (i + k) 0) ≡ true → follow (ahead n r) (drop (i + k) s) ≡ follow (ahead (n - 1) follower) (drop (i + (k + 1)) s)
  ahead_yes w =
      ahead-next (n - 1) (omega arith) ∙ pick_yes (within r (get_or s (i + k) 0)) (follow (ahead (n - 1) follower) (drop (i + (k + 1)) s)) false w

  pub ahead_no : within r (get_or s (i + k) 0) ≡ false → follow (ahead n r) (drop (i + k) s) ≡ false
  ahead_no w =
      ahead-next (n - 1) (omega arith) ∙ pick_no (within r (get_or s (i + k) 0)) (follow (ahead (n - 1) follower) (drop (i + (k + 1)) s)) false w

  -- the last byte
  pub ahead_last : n ≡ 1 → follow (ahead n r) (drop (i + k) s) ≡ within r (get_or s (i + k) 0)
  ahead_last e = go (within r (get_or s (i + k) 0)) ahead_yes ahead_no
    where
      go : (t : Bool) → (t ≡ true → follow (ahead n r) (drop (i + k) s) ≡ follow (ahead (n - 1) follower) (drop (i + (k + 1)) s)) → (t ≡ false → follow (ahead n r) (drop (i + k) s) ≡ false) → follow (ahead n r) (drop (i + k) s) ≡ t
      go true f g = f refl ∙ ahead_none (n - 1) follower (drop (i + (k + 1)) s) (omega arith)
      go false f g = g refl

-- too few bytes
pub follow_short : (rs : List Range) (l : List ℕ) → length l < length rs → follow rs l ≡ false
unfolding follow pick
follow_short [] l h = absurd (not-suc-le-zero h)
follow_short (r ∷ rs) [] h = refl
follow_short (r ∷ rs) (b ∷ l) h = pick_case (λ (t : Bool). t ≡ false) (within r b) (follow rs l) false (λ _. follow_short rs l (omega arith)) (λ _. refl)

pub follow_goes : (rs : List Range) (l : List ℕ) → goes_on rs l ≡ pick (follow rs l) (goes_on [] (drop (length rs) l)) false
unfolding goes_on follow pick
follow_goes [] l = refl
follow_goes (r ∷ rs) [] = refl
follow_goes (r ∷ rs) (b ∷ l) = go (within r b) (follow_goes rs l)
  where
    go : (t : Bool) → goes_on rs l ≡ pick (follow rs l) (goes_on [] (drop (length rs) l)) false → pick t (goes_on rs l) false ≡ pick (pick t (follow rs l) false) (goes_on [] (drop (length rs) l)) false
    go true e = e
    go false e = refl

follow_inside : (rs : List Range) (l : List ℕ) → follow rs l ≡ true → length rs ≤ length l
unfolding follow
follow_inside [] l e = zero-le
follow_inside (r ∷ rs) [] e = clash e
follow_inside (r ∷ rs) (b ∷ l) e = let h = follow_inside rs l (both (within r b) (follow rs l) e).1 in omega arith

-- a range that no byte is in
follow_none : (l : List ℕ) → follow ((1 to 0) ∷ []) l ≡ false
unfolding follow within pick
follow_none [] = refl
follow_none (b ∷ l) =
    elim (dec_lt 0 b) [
      | yes p ↦ rw (le-leb 1 b p, lt-leb b 0 p)
      | no p ↦ rw (lt-leb 1 b (omega arith))
    ]

-- ---- letters of one row

module _ (rs : List Range) where
  going_inside : (k : ℕ) (l : List ℕ) → row_going rs k l ≤ length l
  unfolding row_going
  going_inside k [] = zero-le
  going_inside zero (b ∷ l) = pick_case (λ (n : ℕ). n ≤ suc (length l)) (follow rs (b ∷ l)) (suc (row_going rs (length rs - 1) l)) 0 (λ _. let h = going_inside (length rs - 1) l in omega arith) (λ _. zero-le)
  going_inside (suc k) (b ∷ l) = let h = going_inside k l in omega arith

  going_on : (k : ℕ) (l : List ℕ) → k ≤ length l → row_going rs k l ≡ k + row_run rs (drop k l)
  unfolding row_going
  going_on zero l h = sym (zero-add (row_run rs l))
  going_on (suc k) [] h = absurd (not-suc-le-zero h)
  going_on (suc k) (b ∷ l) h = let e = going_on k l (omega arith) in omega arith

  run-stop : (l : List ℕ) → follow rs l ≡ false → row_run rs l ≡ 0
  unfolding row_going
  run-stop [] e = refl
  run-stop (b ∷ l) e = pick_no (follow rs (b ∷ l)) (suc (row_going rs (length rs - 1) l)) 0 e

run_next : (r : Range) (rs : List Range) (l : List ℕ) → follow (r ∷ rs) l ≡ true → row_run (r ∷ rs) l ≡ suc (length rs) + row_run (r ∷ rs) (drop (suc (length rs)) l)
unfolding row_going follow
run_next r rs [] e = clash e
run_next r rs (b ∷ l) e =
    let h : length rs ≤ length l = omega (arith, follow_inside (r ∷ rs) (b ∷ l) e) in
    let n : length (r ∷ rs) - 1 ≡ length rs = omega arith in
    let g = going_on (r ∷ rs) (length rs) l h in
    pick_yes (follow (r ∷ rs) (b ∷ l)) (suc (row_going (r ∷ rs) (length (r ∷ rs) - 1) l)) 0 e ∙ rw n (omega arith)

-- as a loop has them
module _ (s : List ℕ) (i : ℕ) (r : Range) (rs : List Range) where
  pub row_next : (n : ℕ) → length rs ≡ n → follow (r ∷ rs) (drop i s) ≡ true → row_end (r ∷ rs) s i ≡ row_end (r ∷ rs) s (i + (n + 1))
  row_next n q e =
      let k : suc (length rs) ≡ n + 1 = omega arith in
      let g : row_run (r ∷ rs) (drop i s) ≡ n + 1 + row_run (r ∷ rs) (drop (i + (n + 1)) s) = run_next r rs (drop i s) e ∙ rw (k, drop-drop) in
      omega arith

  pub row_stop : follow (r ∷ rs) (drop i s) ≡ false → row_end (r ∷ rs) s i ≡ i
  row_stop e = rw (run-stop (r ∷ rs) (drop i s) e) (add-zero i)

  -- too few bytes are left for one
  pub row_short : (n : ℕ) → length rs ≡ n → length s - i ≤ n → row_end (r ∷ rs) s i ≡ i
  row_short n q h = row_stop (follow_short (r ∷ rs) (drop i s) (rw (length-drop i s) (omega arith)))

-- ---- the row of a first byte, by the table

first_has : (rows : List Row) (b : ℕ) → within (firsts rows b) b ≡ true
unfolding firsts within
first_has [] b = pick_yes (leb b b) (leb b b) false (le-leb b b (le_refl b)) ∙ le-leb b b (le_refl b)
first_has (r ∷ rows) b = pick_case (λ (f : Range). within f b ≡ true) (within r.first b) r.first (firsts rows b) (λ e. e) (λ _. first_has rows b)

-- each first byte of a row has what follows in that row, which is computed at each of them
sound : List Row → Bool
sound [] = true
sound (r ∷ rows) = pick (each (λ c. same r.rest (following utf8_table c)) r.first.low (suc r.first.high - r.first.low)) (sound rows) false

within_ends : (r : Range) (c : ℕ) → within r c ≡ true → (r.low ≤ c) × (c ≤ r.high)
unfolding within
within_ends r c e =
    let t = both (leb r.low c) (leb c r.high) e in
    (leb-true r.low c t.0, leb-true c r.high t.1)

shared : (rows : List Row) → sound rows ≡ true → (b c : ℕ) → within (firsts rows b) c ≡ true → (following utf8_table c ≡ following rows b) ⊎ (c ≡ b)
unfolding firsts following sound pick
shared [] t b c e = let p = within_ends (b to b) c e in inr (omega arith)
shared (r ∷ rows) t b c e =
    let n = suc r.first.high - r.first.low in
    let u = both (each (λ c. same r.rest (following utf8_table c)) r.first.low n) (sound rows) t in
    go (within r.first b) (λ f. let p = within_ends r.first c f in sym (rows_same (λ _. r.rest) (following utf8_table) r.first.low n u.0 c p.0 (omega arith))) (shared rows u.1 b c) e
  where
    go :
        (w : Bool)
        → (within r.first c ≡ true → following utf8_table c ≡ r.rest)
        → (within (firsts rows b) c ≡ true → (following utf8_table c ≡ following rows b) ⊎ (c ≡ b))
        → within (pick w r.first (firsts rows b)) c ≡ true
        → (following utf8_table c ≡ pick w r.rest (following rows b)) ⊎ (c ≡ b)
    go true f g e = inl (f e)
    go false f g e = g e

row_shared : (b c : ℕ) → within (firsts utf8_table b) c ≡ true → following utf8_table c ≡ following utf8_table b
unfolding sound utf8_table following within pick
row_shared b c e = ⊎_elim (λ q. q) (λ q. ap (following utf8_table) q) (shared utf8_table refl b c e)

-- ---- what letters, or none, say of the text from i on

letter_goes : (b : ℕ) (l : List ℕ) → follow (row_of b) l ≡ true → goes_on [] l ≡ goes_on [] (drop (suc (length (following utf8_table b))) l)
unfolding goes_on follow
letter_goes b [] e = clash e
letter_goes b (c ∷ l) e =
    let t = both (within (firsts utf8_table b) c) (follow (following utf8_table b) l) e in
    ap (λ (rs : List Range). goes_on rs l) (row_shared b c t.0)
    ∙ follow_goes (following utf8_table b) l
    ∙ pick_yes (follow (following utf8_table b) l) (goes_on [] (drop (length (following utf8_table b)) l)) false t.1

row_goes : (b n : ℕ) (l : List ℕ) → length l ≤ n → goes_on [] l ≡ goes_on [] (drop (row_run (row_of b) l) l)
unfolding row_going
row_goes b zero [] h = refl
row_goes b zero (c ∷ l) h = absurd (not-suc-le-zero h)
row_goes b (suc n) l h =
    let k = suc (length (following utf8_table b)) in
    go (follow (row_of b) l) (row_goes b n (drop k l) (rw (length-drop k l) (omega arith))) refl
  where
    go :
        (t : Bool)
        → (let m = drop (suc (length (following utf8_table b))) l in goes_on [] m ≡ goes_on [] (drop (row_run (row_of b) m) m))
        → follow (row_of b) l ≡ t
        → goes_on [] l ≡ goes_on [] (drop (row_run (row_of b) l) l)
    go true f e = letter_goes b l e ∙ f ∙ rw (drop-drop, ← run_next (firsts utf8_table b) (following utf8_table b) l e)
    go false f e = rw (run-stop (row_of b) l e)

letters_go : (l : List ℕ) → goes_on [] l ≡ goes_on [] (drop (letters_run l) l)
unfolding letters_run
letters_go [] = refl
letters_go (b ∷ l) = row_goes b (length (b ∷ l)) (b ∷ l) (le_refl (length (b ∷ l)))

no_letter : (l : List ℕ) → 0 < length l → letters_run l ≡ 0 → goes_on [] l ≡ false
unfolding letters_run goes_on follow
no_letter [] h e = absurd (not-suc-le-zero h)
no_letter (b ∷ l) h e = go (follow (row_of b) (b ∷ l)) refl
  where
    go : (t : Bool) → follow (row_of b) (b ∷ l) ≡ t → goes_on (following utf8_table b) l ≡ false
    go true f = let n = run_next (firsts utf8_table b) (following utf8_table b) (b ∷ l) f in absurd (omega arith)
    go false f =
        follow_goes (following utf8_table b) l
        ∙ pick_no (follow (following utf8_table b) l) (goes_on [] (drop (length (following utf8_table b)) l)) false
        (sym (pick_yes (within (firsts utf8_table b) b) (follow (following utf8_table b) l) false (first_has utf8_table b)) ∙ f)

letters_length : (l : List ℕ) → letters_run l ≤ length l
unfolding letters_run
letters_length [] = zero-le
letters_length (b ∷ l) = going_inside (row_of b) 0 (b ∷ l)

module _ (s : List ℕ) (i : ℕ) where
  -- by the row of the first byte
  pub letters_row : (rs : List Range) → i < length s → row_of (get_or s i 0) ≡ rs → letters_end s i ≡ row_end rs s i
  unfolding letters_run
  letters_row rs h e = rw (drop-cons s i 0, e)

  -- a row that all m first bytes from l have, which is computed at each of them
  pub letters_are :
      (l m : ℕ) (rs : List Range)
      → each (λ b. same (row_of b) rs) l m ≡ true
      → i < length s
      → l ≤ get_or s i 0
      → get_or s i 0 < l + m
      → (e : ℕ) → e ≡ row_end rs s i → e ≡ letters_end s i
  letters_are l m rs t h f g e p = p ∙ sym (letters_row rs h (rows_same row_of (λ _. rs) l m t (get_or s i 0) f g))

  -- no row has it
  no_row : i < length s → following utf8_table (get_or s i 0) ≡ (1 to 0) ∷ [] → letters_end s i ≡ i
  unfolding pick
  no_row h e =
      letters_row (firsts utf8_table (get_or s i 0) ∷ ((1 to 0) ∷ [])) h (rw e)
      ∙ row_stop s i (firsts utf8_table (get_or s i 0)) ((1 to 0) ∷ [])
      (follow_next s i (firsts utf8_table (get_or s i 0)) ((1 to 0) ∷ []) h ∙ pick_case (λ (t : Bool). t ≡ false) (within (firsts utf8_table (get_or s i 0)) (get_or s i 0)) (follow ((1 to 0) ∷ []) (drop (i + 1) s)) false (λ _. follow_none (drop (i + 1) s)) (λ _. refl))

  pub letters_stray : (l m : ℕ) → each (λ b. same (following utf8_table b) ((1 to 0) ∷ [])) l m ≡ true → i < length s → l ≤ get_or s i 0 → get_or s i 0 < l + m → i ≡ letters_end s i
  letters_stray l m t h f g = sym (no_row h (rows_same (following utf8_table) (λ _. (1 to 0) ∷ []) l m t (get_or s i 0) f g))

  pub letters_inside : i ≤ length s → letters_end s i ≤ length s
  letters_inside h = let p = letters_length (drop i s) in omega (arith, length-drop i s)

-- ---- plain bytes are letters

plain_first : (b : ℕ) → b < 0x80 → following utf8_table b ≡ []
unfolding following utf8_table within pick
plain_first b h = rows_same (following utf8_table) (λ _. []) 0 0x80 refl b (omega arith) (omega arith)

-- the step (L5) leaves what is well-formed where that was left before
pub step_keeps : (s : List ℕ) (i : ℕ) → well_formed (drop i s) ≡ well_formed (drop (plain_end s i) s)
unfolding well_formed
step_keeps s i = plain_goes s i ∙ rw (← step_run s i)

-- ---- what is left of a text at i: the whole is well-formed where that is

abbrev pub Left : List ℕ → ℕ → Type 0
Left s i = (i ≤ length s) × (well_formed s ≡ goes_on [] (drop i s))

pub left_all : (s : List ℕ) → Left s 0
unfolding well_formed
left_all s = (zero-le, refl)

module _ (s : List ℕ) (i : ℕ) (l : Left s i) where
  -- past letters of one row, of which there may be none
  pub left_letters : (e : ℕ) → e ≡ letters_end s i → Left s e
  left_letters e q =
      (omega (arith, letters_inside s i l.0), l.1 ∙ letters_go (drop i s) ∙ rw (drop-drop, ← q))

  pub left_none : i < length s → letters_end s i ≡ i → false ≡ well_formed s
  left_none h e = sym (l.1 ∙ no_letter (drop i s) (rw (length-drop i s) (omega arith)) (omega arith))

  -- past plain bytes: by the step (L5), and one of them
  pub left_step : (e : ℕ) → e ≡ plain_end s i → Left s e
  left_step e q =
      (omega (arith, step_inside s i l.0), l.1 ∙ plain_goes s i ∙ rw (← step_run s i, ← q))

  pub left_plain : i < length s → get_or s i 0 < 0x80 → Left s (i + 1)
  unfolding goes_on
  left_plain h p =
      (omega arith, l.1 ∙ ap (goes_on []) (drop-cons s i 0 h) ∙ ap (λ (rs : List Range). goes_on rs (drop (suc i) s)) (plain_first (get_or s i 0) p) ∙ rw add-one)

  pub left_end : length s ≤ i → true ≡ well_formed s
  left_end h = sym (l.1 ∙ ended s i h)
