-- The laws of well-formed UTF-8: a first byte by the table, a sequence a byte at a time, and runs of plain bytes.
use mathlib.Core.Path.{◌≡◌, refl, ap, ap₂, sym, ◌∙◌}
use Rattle.std.specs.Prelude.{Some, None}
use mathlib.Core.Bool.{Bool, true, false}
use mathlib.Core.List.{List, [], ◌∷◌}
use Prim.Native.Nat.{ℕ, zero, suc, ◌+◌, ◌*◌, ◌/◌, ◌-◌, ◌<◌, ◌≤◌, min, zero-le}
use native.Mathlib.Omega.{arith}
use native.Mathlib.Nat.{zero-add, add-zero, add-suc, suc-add, add_assoc, zero-mul, add-mul, le_refl, not-suc-le-zero, div-eq_of_lt, div-mul-le_self, add-div_left}
use native.Mathlib.Numerals.{add-one, sub-one}
use native.Mathlib.Decide.{dec_lt}
use lib.Dec.{leb, ltb, eqb}
use lib.ListN.{length, drop, get_or, length-drop, drop_of_length-le}
use lib.Seq.{drop-cons, drop-drop}
use borrow.Author.Tests.{leb-true, leb-false, le-leb, lt-leb, lt-ltb, le-ltb, ltb-true, eqb-true}
use Rattle.wire.specs.Scan.{follower, followers, ahead, second, Begins, follow, sequence_size, plain_end, blocks_end, plain_run}
use Rattle.wire.proofs.Picks.{pick_yes, pick_no, pick_case, both, clash}
use Rattle.wire.proofs.Tables.{each, each_at}
use Rattle.protocol.specs.Numbers.{pick}
use Rattle.protocol.specs.Text.{Range, ◌to◌, within, utf8_table, following, goes_on, well_formed}

-- ---- a first byte: what the table says is computed at each byte

abbrev pub same : List Range → List Range → Bool
same [] [] = true
same [] (r ∷ rs) = false
same (q ∷ qs) [] = false
same (q ∷ qs) (r ∷ rs) = pick (pick (eqb q.low r.low) (eqb q.high r.high) false) (same qs rs) false

same_is : (qs rs : List Range) → same qs rs ≡ true → qs ≡ rs
same_is [] [] t = refl
same_is [] (r ∷ rs) t = clash t
same_is (q ∷ qs) [] t = clash t
same_is (q ∷ qs) (r ∷ rs) t =
    let a = both (pick (eqb q.low r.low) (eqb q.high r.high) false) (same qs rs) t in
    let b = both (eqb q.low r.low) (eqb q.high r.high) a.0 in
    let l : q.low ≡ r.low = eqb-true q.low r.low b.0 in
    let h : q.high ≡ r.high = eqb-true q.high r.high b.1 in
    let e = same_is qs rs a.1 in
    let f = ends q.low r.low q.high r.high l h in
    cc
  where
    ends : (a b c d : ℕ) → a ≡ b → c ≡ d → a to c ≡ b to d
    ends a b c d e f = cc

-- what is said to follow a first byte is the table's at any of the n bytes from l, where that is so, by computation, at each of them
pub row_is : (f : ℕ → List Range) (l n : ℕ) → each (λ b. same (f b) (following utf8_table b)) l n ≡ true → (b : ℕ) → l ≤ b → b < l + n → f b ≡ following utf8_table b
row_is f l n t b p q = same_is (f b) (following utf8_table b) (each_at (λ b. same (f b) (following utf8_table b)) l n t b p q)

-- ---- a sequence, a byte at a time

-- the first k bytes at i begin a sequence of which n are yet to come, the first of them in r
pub record Going (s : List ℕ) (i k n : ℕ) (r : Range) : Type 0 where
  pub is : sequence_size (drop i s) ≡ pick (follow (ahead n r) (drop (i + k) s)) (Some (k + n)) None

ahead_followers : (n : ℕ) → followers n ≡ ahead n follower
unfolding followers ahead
ahead_followers zero = refl
ahead_followers (suc n) = refl

length_followers : (n : ℕ) → length (followers n) ≡ n
unfolding followers
length_followers zero = refl
length_followers (suc n) = ap suc (length_followers n)

length_ahead : (n : ℕ) (r : Range) → length (ahead n r) ≡ n
unfolding ahead
length_ahead zero r = refl
length_ahead (suc n) r = ap suc (length_followers n)

-- a next byte
next : (s : List ℕ) (j : ℕ) (r : Range) (n : ℕ) → 0 < n → j < length s → follow (ahead n r) (drop j s) ≡ pick (within r (get_or s j 0)) (follow (ahead (n - 1) follower) (drop (j + 1) s)) false
unfolding follow ahead
next s j r zero p h = absurd (not-suc-le-zero p)
next s j r (suc n) p h = rw (add-one, sub-one, drop-cons s j 0, ahead_followers n)

-- too few bytes
short : (rs : List Range) (l : List ℕ) → length l < length rs → follow rs l ≡ false
unfolding follow pick
short [] l h = absurd (not-suc-le-zero h)
short (r ∷ rs) [] h = refl
short (r ∷ rs) (b ∷ l) h = pick_case (λ (t : Bool). t ≡ false) (within r b) (follow rs l) false (λ _. short rs l (omega arith)) (λ _. refl)

module _ (s : List ℕ) (i : ℕ) where
  pub begun : (n : ℕ) (r : Range) → i < length s → ahead n r ≡ following utf8_table (get_or s i 0) → Going s i 1 n r
  unfolding sequence_size
  begun n r h e =
      let l : suc (length (ahead n r)) ≡ 1 + n = ap suc (length_ahead n r) ∙ omega arith in
      record { is = rw (add-one, drop-cons s i 0, ← e, l) }

  module _ (k n : ℕ) (r : Range) (g : Going s i k n r) where
    pub passed : 0 < n → i + k < length s → within r (get_or s (i + k) 0) ≡ true → Going s i (k + 1) (n - 1) follower
    passed p h w =
        let e : k + n ≡ k + 1 + (n - 1) = omega arith in
        let f : follow (ahead n r) (drop (i + k) s) ≡ follow (ahead (n - 1) follower) (drop (i + (k + 1)) s) =
        next s (i + k) r n p h ∙ pick_yes (within r (get_or s (i + k) 0)) (follow (ahead (n - 1) follower) (drop (i + k + 1) s)) false w ∙ rw add_assoc
        in
        record { is = g.is ∙ ap₂ (λ (t : Bool) (m : ℕ). pick t (Some m) None) f e }

    none : follow (ahead n r) (drop (i + k) s) ≡ false → None ≡ sequence_size (drop i s)
    none f = sym (g.is ∙ pick_no (follow (ahead n r) (drop (i + k) s)) (Some (k + n)) None f)

    pub broken : 0 < n → i + k < length s → within r (get_or s (i + k) 0) ≡ false → None ≡ sequence_size (drop i s)
    broken p h w =
        none (next s (i + k) r n p h ∙ pick_no (within r (get_or s (i + k) 0)) (follow (ahead (n - 1) follower) (drop (i + k + 1) s)) false w)

    pub cut : i + k ≤ length s → length s < i + k + n → None ≡ sequence_size (drop i s)
    cut p h = none (short (ahead n r) (drop (i + k) s) (simp (length-drop, length_ahead) (omega arith)))

    pub whole : n ≡ 0 → Some k ≡ sequence_size (drop i s)
    unfolding ahead follow pick
    whole e = sym (g.is ∙ rw e (ap Some (add-zero k)))

-- the first byte at i is one of the m bytes from l
module _ (s : List ℕ) (i l m : ℕ) where
  -- n bytes follow it, which is computed at each of them
  pub begins : (n : ℕ) → each (λ b. same (ahead n (second b)) (following utf8_table b)) l m ≡ true → i < length s → 0 < n → n < 4 → l ≤ get_or s i 0 → get_or s i 0 < l + m → Begins s i n
  begins n t h p q f g =
      record { inside = h; some = p; few = q; row = row_is (λ b. ahead n (second b)) l m t (get_or s i 0) f g }

  -- no row has it: then a range that no byte is in is to follow
  pub stray : each (λ b. same ((1 to 0) ∷ []) (following utf8_table b)) l m ≡ true → i < length s → l ≤ get_or s i 0 → get_or s i 0 < l + m → None ≡ sequence_size (drop i s)
  unfolding ahead followers within
  stray t h f g =
      let b = get_or s (i + 1) 0 in
      let o = begun s i 1 (1 to 0) h (row_is (λ _. (1 to 0) ∷ []) l m t (get_or s i 0) f g) in
      elim (dec_lt (i + 1) (length s)) [
        | yes p ↦ broken s i 1 1 (1 to 0) o (omega arith) p (pick_case (λ (t : Bool). t ≡ false) (leb 1 b) (leb b 0) false (λ q. lt-leb b 0 (leb-true 1 b q)) (λ _. refl))
        | no p ↦ cut s i 1 1 (1 to 0) o (omega arith) (omega arith)
      ]

-- ---- what a sequence, or none, says of the text from i on

follow_goes : (rs : List Range) (l : List ℕ) → goes_on rs l ≡ pick (follow rs l) (goes_on [] (drop (length rs) l)) false
unfolding goes_on follow pick
follow_goes [] l = refl
follow_goes (r ∷ rs) [] = refl
follow_goes (r ∷ rs) (b ∷ l) = go (within r b) (follow_goes rs l)
  where
    go : (t : Bool) → goes_on rs l ≡ pick (follow rs l) (goes_on [] (drop (length rs) l)) false → pick t (goes_on rs l) false ≡ pick (pick t (follow rs l) false) (goes_on [] (drop (length rs) l)) false
    go true e = e
    go false e = refl

follow_inside : (rs : List Range) (l : List ℕ) → follow rs l ≡ true → length rs ≤ length l
unfolding follow
follow_inside [] l e = zero-le
follow_inside (r ∷ rs) [] e = clash e
follow_inside (r ∷ rs) (b ∷ l) e = let h = follow_inside rs l (both (within r b) (follow rs l) e).1 in omega arith

-- n bytes at i are a sequence: the text goes on after them
pub record Sequence (s : List ℕ) (i n : ℕ) : Type 0 where
  pub some : 0 < n
  pub inside : i + n ≤ length s
  pub on : goes_on [] (drop i s) ≡ goes_on [] (drop (i + n) s)

size_some : (l : List ℕ) (n : ℕ) → Some n ≡ sequence_size l → (0 < n) × (n ≤ length l) × (goes_on [] l ≡ goes_on [] (drop n l))
unfolding sequence_size goes_on pick
size_some [] n e = cc
size_some (b ∷ l) n e = go (follow (following utf8_table b) l) refl e
  where
    go : (t : Bool) → follow (following utf8_table b) l ≡ t → Some n ≡ pick t (Some (suc (length (following utf8_table b)))) None
        → (0 < n) × (n ≤ suc (length l)) × (goes_on (following utf8_table b) l ≡ goes_on [] (drop n (b ∷ l)))
    go true f p =
        let q : n ≡ suc (length (following utf8_table b)) = cc in
        let h = follow_inside (following utf8_table b) l f in
        rw q (omega arith, omega arith, follow_goes (following utf8_table b) l ∙ rw f)
    go false f p = cc

size_none : (l : List ℕ) → 0 < length l → None ≡ sequence_size l → goes_on [] l ≡ false
unfolding sequence_size goes_on pick
size_none [] h e = absurd (not-suc-le-zero h)
size_none (b ∷ l) h e = go (follow (following utf8_table b) l) refl e
  where
    go : (t : Bool) → follow (following utf8_table b) l ≡ t → None ≡ pick t (Some (suc (length (following utf8_table b)))) None → goes_on (following utf8_table b) l ≡ false
    go true f p = cc
    go false f p = follow_goes (following utf8_table b) l ∙ rw f

module _ (s : List ℕ) (i : ℕ) where
  pub sequence_is : (n : ℕ) → Some n ≡ sequence_size (drop i s) → i < length s → Sequence s i n
  sequence_is n e h =
      let p = size_some (drop i s) n e in
      record { some = p.0; inside = omega (arith, p.1, length-drop i s); on = p.2 ∙ rw drop-drop }

  pub sequence_none : i < length s → None ≡ sequence_size (drop i s) → goes_on [] (drop i s) ≡ false
  sequence_none h e = size_none (drop i s) (omega (arith, length-drop i s)) e

pub ended : (s : List ℕ) (i : ℕ) → length s ≤ i → goes_on [] (drop i s) ≡ true
unfolding goes_on
ended s i h = rw (drop_of_length-le s h)

-- ---- runs of plain bytes

-- the bytes from i to r are plain
pub record Plain (s : List ℕ) (i r : ℕ) : Type 0 where
  pub onward : i ≤ r
  pub inside : r ≤ length s
  pub same : plain_end s i ≡ plain_end s r

module _ (s : List ℕ) (i : ℕ) where
  pub plain_next : i < length s → get_or s i 0 < 0x80 → plain_end s i ≡ plain_end s (i + 1)
  unfolding plain_run pick
  plain_next h p = rw (add-one, drop-cons s i 0, lt-ltb (get_or s i 0) 0x80 p) (rw (add-suc, suc-add))

  pub plain_stop : i < length s → 0x80 ≤ get_or s i 0 → plain_end s i ≡ i
  unfolding plain_run pick
  plain_stop h p = rw (drop-cons s i 0, le-ltb (get_or s i 0) 0x80 p) (add-zero i)

  pub plain_over : length s ≤ i → plain_end s i ≡ i
  unfolding plain_run
  plain_over h = rw (drop_of_length-le s h) (add-zero i)

plain_length : (l : List ℕ) → plain_run l ≤ length l
unfolding plain_run
plain_length [] = omega arith
plain_length (b ∷ l) = pick_case (λ (n : ℕ). n ≤ suc (length l)) (ltb b 0x80) (suc (plain_run l)) 0 (λ _. let h = plain_length l in omega arith) (λ _. omega arith)

plain_first : (b : ℕ) → b < 0x80 → following utf8_table b ≡ []
unfolding following utf8_table within pick
plain_first b h = sym (row_is (λ _. []) 0 0x80 refl b (omega arith) (omega arith))

-- plain bytes are sequences
plain_go : (l : List ℕ) → goes_on [] l ≡ goes_on [] (drop (plain_run l) l)
unfolding plain_run goes_on pick
plain_go [] = refl
plain_go (b ∷ l) =
    pick_case (λ (n : ℕ). goes_on (following utf8_table b) l ≡ goes_on [] (drop n (b ∷ l))) (ltb b 0x80) (suc (plain_run l)) 0
    (λ e. ap (λ (r : List Range). goes_on r l) (plain_first b (ltb-true b 0x80 e)) ∙ plain_go l)
    (λ _. refl)

module _ (s : List ℕ) (i : ℕ) where
  pub plain_inside : i ≤ length s → plain_end s i ≤ length s
  plain_inside h = let p = plain_length (drop i s) in omega (arith, length-drop i s)

  pub plain_goes : goes_on [] (drop i s) ≡ goes_on [] (drop (plain_end s i) s)
  plain_goes = plain_go (drop i s) ∙ rw drop-drop

-- ---- blocks of plain bytes

-- the plain bytes past the first n of them
run_past : (l : List ℕ) (n : ℕ) → n ≤ plain_run l → plain_run l ≡ n + plain_run (drop n l)
unfolding plain_run
run_past l zero h = sym (zero-add (plain_run l))
run_past [] (suc n) h = absurd (not-suc-le-zero h)
run_past (b ∷ l) (suc n) h =
    pick_case (λ (m : ℕ). suc n ≤ m → m ≡ suc n + plain_run (drop n l)) (ltb b 0x80) (suc (plain_run l)) 0
    (λ _ g. let e = run_past l n (omega arith) in omega arith)
    (λ _ g. absurd (not-suc-le-zero g))
    h

module _ (s : List ℕ) (i : ℕ) where
  pub plain_past : (n : ℕ) → n ≤ plain_run (drop i s) → plain_end s i ≡ plain_end s (i + n)
  plain_past n h =
      let e : plain_run (drop i s) ≡ n + plain_run (drop (i + n) s) = run_past (drop i s) n h ∙ rw drop-drop in
      omega arith

  -- the plain bytes up to an end
  pub prefix_plain : (end r : ℕ) → i ≤ end → end ≤ length s → r ≡ min end (plain_end s i) → Plain s i r
  prefix_plain end r h l e =
      let k : i + (r - i) ≡ r = omega arith in
      record { onward = omega arith; inside = omega arith; same = plain_past (r - i) (omega arith) ∙ ap (plain_end s) k }

  -- what a byte says of whether k + 1 bytes are plain, with g the greater of it and of h, which tells that of the k bytes before it
  pub plain_more :
      (k h g : ℕ)
      → i + k < length s
      → ltb h 0x80 ≡ leb k (plain_run (drop i s))
      → h ≤ g
      → get_or s (i + k) 0 ≤ g
      → (h < 0x80 → get_or s (i + k) 0 < 0x80 → g < 0x80)
      → ltb g 0x80 ≡ leb (k + 1) (plain_run (drop i s))
  plain_more k h g l e p q f =
      elim (dec_lt g 0x80) [
        | yes w ↦
            let a : k ≤ plain_run (drop i s) = leb-true k (plain_run (drop i s)) (sym e ∙ lt-ltb h 0x80 (omega arith)) in
            let o = plain_past k a in
            let m = plain_next s (i + k) l (omega arith) in
            lt-ltb g 0x80 w ∙ sym (le-leb (k + 1) (plain_run (drop i s)) (omega arith))
        | no w ↦ le-ltb g 0x80 (omega arith) ∙ sym (lt-leb (k + 1) (plain_run (drop i s)) (ends (dec_lt h 0x80) w))
      ]
    where
      ends : Dec (h < 0x80) → (g < 0x80 → ⊥) → plain_run (drop i s) < k + 1
      ends (yes v) w =
          let a : k ≤ plain_run (drop i s) = leb-true k (plain_run (drop i s)) (sym e ∙ lt-ltb h 0x80 v) in
          let o = plain_past k a in
          let b : 0x80 ≤ get_or s (i + k) 0 = elim (dec_lt (get_or s (i + k) 0) 0x80) [ yes t ↦ absurd (w (f v t)) | no t ↦ omega arith ] in
          let m = plain_stop s (i + k) l b in
          omega arith
      ends (no v) w =
          let a : plain_run (drop i s) < k = leb-false k (plain_run (drop i s)) (sym e ∙ le-ltb h 0x80 (omega arith)) in
          omega arith

  module _ (n : ℕ) (p : 0 < n) where
    -- a block that is plain, and one that is not, or has not n bytes
    pub blocks_next : n ≤ plain_run (drop i s) → blocks_end s n i ≡ blocks_end s n (i + n)
    blocks_next h =
        let m = plain_run (drop (i + n) s) in
        let e : plain_run (drop i s) ≡ n + m = omega (arith, plain_past n h) in
        rw (e, add-div_left m p, add-mul) (omega arith)

    pub blocks_stop : plain_run (drop i s) < n → blocks_end s n i ≡ i
    blocks_stop h = rw (div-eq_of_lt h, zero-mul) (add-zero i)

    pub blocks_plain : i ≤ length s → (r : ℕ) → r ≡ blocks_end s n i → Plain s i r
    blocks_plain h r e =
        let l : plain_run (drop i s) / n * n ≤ plain_run (drop i s) = div-mul-le_self (plain_run (drop i s)) n in
        rw e
        (record {
          onward = omega arith;
          inside = omega (arith, plain_inside s i h);
          same = plain_past (plain_run (drop i s) / n * n) l;
        })

-- text that is all plain
pub plain_well : (s : List ℕ) → plain_run s ≡ length s → well_formed s ≡ true
unfolding well_formed
plain_well s e = plain_go s ∙ rw e (ended s (length s) (le_refl (length s)))
