-- The heads that are written, of a container and of its elements, are read
-- back as what they were written from, and their reserved fields are zero.
use mathlib.Core.Path.{◌≡◌, refl, ap, sym, ◌∙◌}
use mathlib.Core.Option.{some}
use mathlib.Core.Logic.{⊎_elim}
use mathlib.Core.Bool.{Bool, true, false}
use mathlib.Core.List.{List, [], ◌∷◌, ◌++◌, append_assoc}
use Prim.Native.Nat.{ℕ, zero, suc, ◌+◌, ◌-◌, ◌^◌, ◌<◌, ◌≤◌}
use native.Mathlib.Omega.{arith}
use native.Mathlib.Nat.{add-zero, add-sub_cancel_left}
use lib.Dec.{ltb, lit<, lit≤}
use lib.ListN.{length, take, drop, get_or, length-append, length-drop}
use lib.Seq.{get_or-drop, drop-drop, drop-append-le, take_at, take-append_seam, drop-append_seam}
use borrow.Author.Tests.{ltb-true, eqb-true, lt-leb, le-ltb, eq-eqb, ne_eqb, not-true}
use Rattle.std.specs.Prelude.{Result, Ok, Err, IfOk}
use Rattle.std.proofs.lemmas.Result.{IfOk-at_ok}
use Rattle.wire.proofs.Numbers.{be_bytes, length_bytes}
use Rattle.wire.proofs.Picks.{clash, pick_yes, pick_no, pick_case, pick_split}
use Rattle.forms.specs.declared.Opening.{Opening}
use Rattle.forms.specs.declared.Head.{Head}
use Rattle.forms.specs.declared.Head.TheVariants.{Present, Absent}
use Rattle.value_heads.proofs.Cases.{sparse_known}
use Rattle.value_parts.specs.Walk.{IsRow}
use Rattle.protocol.specs.Numbers.{pick, be, be_from, bytes_be}
use Rattle.protocol.specs.Heads.{word, negative, opening, set_opening, count_opening, sparse_opening, range_flags, bounds, range_opening, element_in}
use Rattle.protocol.specs.Heads.{optional, plain_head, object_head, envelope_head, sparse_index, requires, sparse_head, dimension}
use Rattle.protocol.specs.Constants.{ABSENT}
use Rattle.protocol.specs.Nodes.{Node, leaf, enum, row, arrays, tuple, object, sparse, range, ref_at}
use Rattle.protocol.specs.Values.{row_head, opening_of}
use Rattle.protocol.specs.Supplies.{zeros, Claim, SameFlags, SameBytes, zero_opening, zero_head, between}
use Rattle.protocol.specs.Building.{no_front, front, set_bytes, bounds_front, range_front, count_front, front_of, head_bytes, may_lack}

-- ---- bytes from a position on

-- the bytes of s from `at` on are b
pub record Tail (s : List ℕ) (at : ℕ) (b : List ℕ) : Type 0 where
  pub inside : at ≤ length s
  pub is : drop at s ≡ b

module _ {s : List ℕ} {at : ℕ} where
  pub tail_length : (b : List ℕ) → Tail s at b → at + length b ≡ length s
  tail_length b w = let e : length s - at ≡ length b = rw length-drop at (ap length w.is) in omega (arith, w.inside)

  pub tail_next : (x y : List ℕ) → Tail s at (x ++ y) → Tail s (at + length x) y
  tail_next x y w =
      record {
        inside = omega (arith, tail_length (x ++ y) w, length-append x y);
        is = rw (← drop-drop, w.is) (drop-append_seam x y);
      }

  pub tail_take : (x y : List ℕ) → Tail s at (x ++ y) → take (length x) (drop at s) ≡ x
  tail_take x y w = rw w.is (take-append_seam x y)

  pub tail_between : (x y : List ℕ) → Tail s at (x ++ y) → between s at (at + length x) ≡ x
  unfolding between
  tail_between x y w = rw add-sub_cancel_left (tail_take x y w)

  pub tail_first : (x : ℕ) (y : List ℕ) → Tail s at (x ∷ y) → get_or s at 0 ≡ x
  tail_first x y w = rw add-zero at (sym (get_or-drop at s 0 0) ∙ ap (λ (l : List ℕ). get_or l 0 0) w.is)

  -- a number that was written is read back
  pub word_is : (n : ℕ) (y : List ℕ) → n < 2 ^ 32 → Tail s at (bytes_be 4 n ++ y) → word s at ≡ n
  unfolding word
  word_is n y small w = rw (w.is, take_at (bytes_be 4 n) y 4 (length_bytes 4 n)) (be_bytes 4 n small)

  pub word_next : (n : ℕ) (y : List ℕ) → Tail s at (bytes_be 4 n ++ y) → Tail s (at + 4) y
  word_next n y w = rw (length_bytes 4 n) at (tail_next (bytes_be 4 n) y w)

-- bytes of s, which stands in t
pub tail_within : {t : List ℕ} {base : ℕ} {s : List ℕ} {at : ℕ} (more b y : List ℕ) → Tail t base (s ++ more) → Tail s at (b ++ y)
    → Tail t (base + at) (b ++ (y ++ more))
tail_within {s = s} {at = at} more b y u w =
    let i : at ≤ length s = w.inside in
    record {
      inside = omega (arith, tail_length (s ++ more) u, length-append s more);
      is = rw (← drop-drop, u.is, drop-append-le, w.is) (append_assoc b y more);
    }

-- ---- the head of an element

module _ (s : List ℕ) (i at n : ℕ) (more : List ℕ) where
  sized_back : (start : ℕ) → n < 2 ^ 31 → start + n ≤ length s → element_in s i start n ≡ Ok (Present i start n)
  unfolding element_in negative
  sized_back start small fit = pick_no _ _ _ (lt-leb (2 ^ 31) n small) ∙ pick_no _ _ _ (le-ltb (length s - start) n (omega arith))

  plain_back : (gap : ℕ) (z : List ℕ) → length z ≡ gap → n < 2 ^ 31 → n ≤ length more → Tail s at (z ++ (bytes_be 4 n ++ more))
      → plain_head s gap i at ≡ Ok (Present i (at + gap + 4) n)
  unfolding plain_head
  plain_back gap z e small fit w =
      let w1 : Tail s (at + gap) (bytes_be 4 n ++ more) = rw e at (tail_next z (bytes_be 4 n ++ more) w) in
      let l = tail_length more (word_next n more w1) in
      let q : word s (at + gap) ≡ n = word_is n more (omega arith) w1 in
      pick_no _ _ _ (le-ltb (length s - at) (gap + 4) (omega arith)) ∙ rw q (sized_back (at + gap + 4) small (omega arith))

  optional_back : (required : Bool) → n < 2 ^ 31 → n ≤ length more → Tail s (at + 4) (bytes_be 4 n ++ more)
      → optional s required i (at + 8) (word s (at + 4)) ≡ Ok (Present i (at + 8) n)
  unfolding optional
  optional_back required small fit w =
      let l = tail_length more (word_next n more w) in
      let q : word s (at + 4) ≡ n = word_is n more (omega arith) w in
      rw q (pick_no _ _ _ (ne_eqb n ABSENT (λ e. omega arith)) ∙ sized_back (at + 8) small (omega arith))

  envelope_back : 12 + n < 2 ^ 31 → n ≤ length more → Tail s at (bytes_be 4 (12 + n) ++ (bytes_be 4 1 ++ (zeros 4 ++ (bytes_be 4 n ++ more))))
      → envelope_head s i at ≡ Ok (Present i (at + 16) n)
  unfolding envelope_head negative
  envelope_back small fit w =
      let w1 = word_next (12 + n) _ w in
      let w2 = tail_next (zeros 4) (bytes_be 4 n ++ more) (word_next 1 _ w1) in
      let l = tail_length more (word_next n more w2) in
      let a : word s at ≡ 12 + n = word_is (12 + n) _ (omega arith) w in
      let b : word s (at + 4) ≡ 1 = word_is 1 _ (lit< tt) w1 in
      let p : at + 4 + 4 + 4 ≡ at + 12 = omega arith in
      let c : word s (at + 12) ≡ n = rw p at (word_is n more (omega arith) w2) in
      pick_no _ _ _ (le-ltb (length s - at) 16 (omega arith))
      ∙ pick_yes _ _ _ (eq-eqb _ _ b)
      ∙ rw (a, c)
      (pick_no _ _ _ (lt-leb (2 ^ 31) n (omega arith))
      ∙ pick_no _ _ _ (lt-leb (2 ^ 31) (12 + n) small)
      ∙ pick_yes _ _ _ (eq-eqb (12 + n) (12 + n) refl)
      ∙ sized_back (at + 16) (omega arith) (omega arith))

-- an element that is not there
gone_back : (s : List ℕ) (i at : ℕ) (more : List ℕ) (required : Bool) → required ≡ false → Tail s (at + 4) (bytes_be 4 ABSENT ++ more)
    → optional s required i (at + 8) (word s (at + 4)) ≡ Ok (Absent i (at + 8))
unfolding optional
gone_back s i at more required free w =
    let q : word s (at + 4) ≡ ABSENT = word_is ABSENT more (lit< tt) w in
    rw (q, free) (pick_yes _ _ _ (eq-eqb ABSENT ABSENT refl) ∙ pick_no _ _ _ refl)

-- the head, and where the element's data starts
placed : (h : Result Head ℕ) (i a b n : ℕ) → h ≡ Ok (Present i a n) → a ≡ b → h ≡ Ok (Present i b n)
placed h i a b n e p = cc

left : (h : Result Head ℕ) (i a b : ℕ) → h ≡ Ok (Absent i a) → a ≡ b → h ≡ Ok (Absent i b)
left h i a b e p = cc

-- a present element, by its container
module _ (s : List ℕ) (i at n : ℕ) (more : List ℕ) (small : 12 + n < 2 ^ 31) (fit : n ≤ length more) where
  plain_row : (z : List ℕ) → Tail s at (z ++ (bytes_be 4 n ++ more)) → plain_head s (length z) i at ≡ Ok (Present i (at + length (z ++ bytes_be 4 n)) n)
  plain_row z w =
      placed _ i _ _ n (plain_back s i at n more (length z) z refl (omega arith) fit w) (omega (arith, length-append z (bytes_be 4 n), length_bytes 4 n))

  pub row_present : (v : Node) → IsRow v → Tail s at (head_bytes v i n ++ more) → row_head v s i at ≡ Ok (Present i (at + length (head_bytes v i n)) n)
  unfolding IsRow row_head head_bytes object_head
  row_present (leaf f) x w = absurd x
  row_present enum x w = absurd x
  row_present (row r) x w = plain_row [] w
  row_present (arrays r) x w =
      placed _ i _ _ n (envelope_back s i at n more small fit (simp append_assoc at w))
      (simp (length-append, length_bytes) (omega arith))
  row_present (tuple refs) x w = plain_row (zeros 4) w
  row_present (object refs cards) x w =
      let w1 : Tail s (at + 4) (bytes_be 4 n ++ more) = tail_next (zeros 4) (bytes_be 4 n ++ more) w in
      let l = tail_length more (word_next n more w1) in
      placed _ i _ _ n
      (pick_no _ _ _ (le-ltb (length s - at) 8 (omega arith)) ∙ optional_back s i at n more (requires (get_or cards i 0)) (omega arith) fit w1)
      (omega (arith, length_bytes 4 n))
  row_present (sparse refs cards) x w = absurd x
  row_present (range r) x w = plain_row [] w

-- an absent one
module _ (s : List ℕ) (i at : ℕ) (more : List ℕ) where
  pub row_absent : (v : Node) → IsRow v → may_lack v i ≡ true → Tail s at (head_bytes v i ABSENT ++ more) → row_head v s i at ≡ Ok (Absent i (at + length (head_bytes v i ABSENT)))
  unfolding IsRow row_head head_bytes may_lack object_head
  row_absent (leaf f) x may w = absurd x
  row_absent enum x may w = absurd x
  row_absent (row r) x may w = clash may
  row_absent (arrays r) x may w = clash may
  row_absent (tuple refs) x may w = clash may
  row_absent (object refs cards) x may w =
      let w1 : Tail s (at + 4) (bytes_be 4 ABSENT ++ more) = tail_next (zeros 4) (bytes_be 4 ABSENT ++ more) w in
      let l = tail_length more (word_next ABSENT more w1) in
      left _ i _ _
      (pick_no _ _ _ (le-ltb (length s - at) 8 (omega arith))
      ∙ gone_back s i at more (requires (get_or cards i 0)) (not-true _ may) w1)
      (omega (arith, length_bytes 4 ABSENT))
  row_absent (sparse refs cards) x may w = absurd x
  row_absent (range r) x may w = clash may

-- a sparse object's, whose index is known and new
module _ (s cards : List ℕ) (marks : List Bool) (i at n : ℕ) (more : List ℕ) (small : i < 2 ^ 32) (known : ltb i (length cards) ≡ true)
    (new : get_or marks i false ≡ false) (w : Tail s at ((bytes_be 4 i ++ bytes_be 4 n) ++ more)) where
  after_index : Tail s (at + 4) (bytes_be 4 n ++ more)
  after_index = word_next i (bytes_be 4 n ++ more) (rw append_assoc at w)

  sparse_read : sparse_head s cards marks at ≡ optional s (requires (get_or cards i 0)) i (at + 8) (word s (at + 4))
  unfolding sparse_index
  sparse_read =
      let l = tail_length more (word_next n more after_index) in
      let q : word s at ≡ i = word_is i (bytes_be 4 n ++ more) small (rw append_assoc at w) in
      sparse_known s cards marks at i
      (pick_no _ _ _ (le-ltb (length s - at) 8 (omega arith))
      ∙ rw q (pick_no _ _ _ (lt-leb (length cards) i (ltb-true _ _ known)) ∙ pick_no _ _ _ new))

  head_eight : at + 8 ≡ at + length (bytes_be 4 i ++ bytes_be 4 n)
  head_eight = omega (arith, length-append (bytes_be 4 i) (bytes_be 4 n), length_bytes 4 i, length_bytes 4 n)

  pub sparse_present : n < 2 ^ 31 → n ≤ length more → sparse_head s cards marks at ≡ Ok (Present i (at + length (bytes_be 4 i ++ bytes_be 4 n)) n)
  sparse_present few fit =
      placed _ i _ _ n (sparse_read ∙ optional_back s i at n more (requires (get_or cards i 0)) few fit after_index) head_eight

  pub sparse_absent : n ≡ ABSENT → requires (get_or cards i 0) ≡ false → sparse_head s cards marks at ≡ Ok (Absent i (at + length (bytes_be 4 i ++ bytes_be 4 n)))
  sparse_absent e free =
      left _ i _ _ (sparse_read ∙ gone_back s i at more (requires (get_or cards i 0)) free (rw e at after_index)) head_eight

-- its reserved fields are zero
pub head_zero : (v : Node) (i n : ℕ) → zero_head v (head_bytes v i n) ≡ head_bytes v i n
unfolding zero_head head_bytes bytes_be
head_zero (leaf f) i n = refl
head_zero enum i n = refl
head_zero (row r) i n = refl
head_zero (arrays r) i n = refl
head_zero (tuple refs) i n = refl
head_zero (object refs cards) i n = refl
head_zero (sparse refs cards) i n = refl
head_zero (range r) i n = refl

-- it takes four bytes or more
pub head_length : (v : Node) (i n r : ℕ) → ref_at v i ≡ some r → 4 ≤ length (head_bytes v i n)
unfolding ref_at head_bytes bytes_be
head_length (leaf f) i n r e = let z : ◌≡◌ {A = ℕ} 0 1 = cc in absurd (omega arith)
head_length enum i n r e = let z : ◌≡◌ {A = ℕ} 0 1 = cc in absurd (omega arith)
head_length (row k) i n r e = lit≤ tt
head_length (arrays k) i n r e = lit≤ tt
head_length (tuple refs) i n r e = lit≤ tt
head_length (object refs cards) i n r e = lit≤ tt
head_length (sparse refs cards) i n r e = lit≤ tt
head_length (range k) i n r e = lit≤ tt

-- ---- the head of a container

module _ (n : ℕ) (more : List ℕ) where
  first_word : n < 2 ^ 32 → word (bytes_be 4 n ++ more) 0 ≡ n
  first_word small = word_is n more small (record { inside = omega arith; is = refl })

  first_four : 4 ≤ length (bytes_be 4 n ++ more)
  first_four = omega (arith, length-append (bytes_be 4 n) more, length_bytes 4 n)

  count_back : n < 2 ^ 32 → count_opening n (bytes_be 4 n ++ more) ≡ Ok (opening n 0 (length (bytes_be 4 n)))
  unfolding count_opening
  count_back small =
      rw (length_bytes 4 n)
      (pick_no _ _ _ (le-ltb (length (bytes_be 4 n ++ more)) 4 first_four) ∙ pick_yes _ _ _ (eq-eqb _ _ (first_word small)))

  sparse_back : n < 2 ^ 31 → sparse_opening (bytes_be 4 n ++ more) ≡ Ok (opening n 0 (length (bytes_be 4 n)))
  unfolding sparse_opening negative
  sparse_back small =
      rw (length_bytes 4 n)
      (pick_no _ _ _ (le-ltb (length (bytes_be 4 n ++ more)) 4 first_four)
      ∙ rw (first_word (omega arith)) (pick_no _ _ _ (lt-leb (2 ^ 31) n small)))

-- a set's or an array's with elements
some_back : (s : List ℕ) (n : ℕ) (more : List ℕ) → 0 < n → n < 2 ^ 31 → Tail s 0 (bytes_be 4 1 ++ (zeros 8 ++ (bytes_be 4 n ++ (bytes_be 4 1 ++ more))))
    → set_opening s ≡ Ok (opening n 0 20)
unfolding set_opening negative dimension
some_back s n more many small w =
    let w1 : Tail s 12 (bytes_be 4 n ++ (bytes_be 4 1 ++ more)) = tail_next (zeros 8) (bytes_be 4 n ++ (bytes_be 4 1 ++ more)) (word_next 1 _ w) in
    let w2 : Tail s 16 (bytes_be 4 1 ++ more) = word_next n (bytes_be 4 1 ++ more) w1 in
    let l : 20 + length more ≡ length s = tail_length more (word_next 1 more w2) in
    let a : word s 0 ≡ 1 = word_is 1 _ (lit< tt) w in
    let b : word s 12 ≡ n = word_is n (bytes_be 4 1 ++ more) (omega arith) w1 in
    let c : word s 16 ≡ 1 = word_is 1 more (lit< tt) w2 in
    pick_no _ _ _ (le-ltb (length s) 4 (omega arith))
    ∙ rw (a, b, c)
    (pick_no _ _ _ refl
    ∙ pick_no _ _ _ (le-ltb (length s) 12 (omega arith))
    ∙ pick_no _ _ _ refl
    ∙ pick_no _ _ _ (le-ltb (length s) 16 (omega arith))
    ∙ pick_no _ _ _ (ne_eqb n 0 (λ e. omega arith))
    ∙ pick_no _ _ _ (lt-leb (2 ^ 31) n small)
    ∙ pick_no _ _ _ (le-ltb (length s) 20 (omega arith))
    ∙ pick_yes _ _ _ refl)

none_back : (more : List ℕ) → set_opening (zeros 12 ++ more) ≡ Ok (opening 0 0 12)
unfolding set_opening word be be_from dimension
none_back more =
    pick_no _ _ _ (le-ltb (length (zeros 12 ++ more)) 4 (omega arith))
    ∙ pick_no _ _ _ refl
    ∙ pick_no _ _ _ (le-ltb (length (zeros 12 ++ more)) 12 (omega arith))
    ∙ pick_yes _ _ _ refl

abbrev some_bytes : ℕ → List ℕ
some_bytes n = bytes_be 4 1 ++ (zeros 8 ++ (bytes_be 4 n ++ bytes_be 4 1))

set_back : (n : ℕ) (more : List ℕ) → n < 2 ^ 31 → set_opening (set_bytes n ++ more) ≡ Ok (opening n 0 (length (set_bytes n)))
unfolding set_bytes pick
set_back zero more small = none_back more
set_back (suc m) more small =
    let n = suc m in
    let l : length (some_bytes n) ≡ 20 = simp (length-append, length_bytes) in
    rw (ne_eqb n 0 (λ e. omega arith), l)
    (some_back (some_bytes n ++ more) n more (omega arith) small (record { inside = omega arith; is = simp append_assoc }))

set_zero : (n : ℕ) → take 4 (set_bytes n) ++ (zeros 8 ++ drop 12 (set_bytes n)) ≡ set_bytes n
unfolding set_bytes pick bytes_be
set_zero zero = refl
set_zero (suc m) = rw (ne_eqb (suc m) 0 (λ e. omega arith))

-- a range's
range_back : (f : ℕ) (more : List ℕ) → range_flags f ≡ true → range_opening (f ∷ more) ≡ bounds f
unfolding range_opening
range_back f more e = pick_no _ _ _ (le-ltb (suc (length more)) 1 (omega arith)) ∙ pick_yes _ _ _ e

bounds_start : (f : ℕ) (o : Opening) → bounds f ≡ Ok o → o.at ≡ 1
unfolding bounds
bounds_start f o e =
    let P : Result Opening ℕ → Type 0 = λ r. IfOk r (λ x. x.at ≡ 1) in
    IfOk-at_ok (λ (x : Opening). x.at ≡ 1) e
    (pick_case P _ _ _ (λ _. refl)
    (λ _. pick_case P _ _ _ (λ _. pick_case P _ _ _ (λ _. refl) (λ _. refl)) (λ _. pick_case P _ _ _ (λ _. refl) (λ _. refl))))

-- ---- a container's head by its node

-- the head o of a container whose entry is c: read back, without reserved fields, and as the supply says
pub record Opens (v : Node) (src : List ℕ) (c : Claim) (o : List ℕ) (first : ℕ) : Type 0 where
  pub opening : c.count < 2 ^ 31 → (d : List ℕ) → opening_of v (o ++ d) ≡ Ok (opening c.count first (length o))
  pub zero_is : zero_opening v o ≡ o
  pub same : (t : List ℕ) (base n : ℕ) (d : List ℕ) → Tail t base (o ++ d) → SameBytes t src v base n c.start c.size

module _ (src : List ℕ) (c : Claim) (o : List ℕ) (first : ℕ) where
  not_faulty : {A : Type 0} → no_front ≡ front o first → A
  not_faulty e = let z : ◌≡◌ {A = ℕ} 0 1 = cc in absurd (omega arith)

  count_front_lem : (n : ℕ) → count_front n c ≡ front o first → (c.count ≡ n) × (bytes_be 4 n ≡ o) × (0 ≡ first)
  unfolding count_front
  count_front_lem n e =
      ⊎_elim (λ p. let h = p.1 in (eqb-true _ _ p.0, cc, cc)) (λ p. not_faulty p.1) (pick_split _ _ _ _ e)

  count_opening_lem : (n : ℕ) → count_front n c ≡ front o first → c.count < 2 ^ 31 → (d : List ℕ) → count_opening n (o ++ d) ≡ Ok (opening c.count first (length o))
  count_opening_lem n e few d =
      let p = count_front_lem n e in
      rw (p.0, ← p.1, ← p.2) (count_back n d (omega (arith, p.0)))

  set_front : front (set_bytes c.count) 0 ≡ front o first → (set_bytes c.count ≡ o) × (0 ≡ first)
  set_front e = (cc, cc)

  set_opening_lem : front (set_bytes c.count) 0 ≡ front o first → c.count < 2 ^ 31 → (d : List ℕ) → set_opening (o ++ d) ≡ Ok (opening c.count first (length o))
  set_opening_lem e few d = let p = set_front e in rw (← p.0, ← p.1) (set_back c.count d few)

  set_is_zero : front (set_bytes c.count) 0 ≡ front o first → take 4 o ++ (zeros 8 ++ drop 12 o) ≡ o
  set_is_zero e = rw (← (set_front e).0) (set_zero c.count)

  -- a range's flags, in the source
  record Flags : Type 0 where
    flag : ℕ
    start : c.start < length src
    is : get_or src c.start 0 ≡ flag
    bytes : flag ∷ [] ≡ o
    opening : (d : List ℕ) → range_opening (flag ∷ d) ≡ Ok (opening c.count first 1)

  range_flags_lem : range_front src c ≡ front o first → Flags
  unfolding range_front bounds_front
  range_flags_lem e =
      ⊎_elim
      (λ p. ⊎_elim (λ q. go (ltb-true _ _ p.0) q.0 (bounds flags) refl q.1) (λ q. not_faulty q.1) (pick_split _ _ _ _ p.1))
      (λ p. not_faulty p.1)
      (pick_split _ _ _ _ e)
    where
      flags : ℕ
      flags = get_or src c.start 0

      go : c.start < length src → range_flags flags ≡ true → (b : Result Opening ℕ) → bounds flags ≡ b → bounds_front flags c.count b ≡ front o first → Flags
      go l good (Err m) is e = not_faulty e
      go l good (Ok o) is e =
          ⊎_elim
          (λ p.
          let h = p.1 in
          let n : c.count ≡ o.count = eqb-true _ _ p.0 in
          let a : o.first ≡ first = cc in
          let one : o.at ≡ 1 = bounds_start flags o is in
          record { flag = flags; start = l; is = refl; bytes = cc; opening = λ d. range_back flags d good ∙ is ∙ rw (n, ← a, ← one) })
          (λ p. not_faulty p.1)
          (pick_split _ _ _ _ e)

  pub opens : (v : Node) → front_of v src c ≡ front o first → Opens v src c o first
  unfolding front_of opening_of zero_opening SameBytes SameFlags
  opens (leaf f) e = not_faulty e
  opens enum e = not_faulty e
  opens (row r) e = record { opening = set_opening_lem e; zero_is = set_is_zero e; same = λ _ _ _ _ _. tt }
  opens (arrays r) e = record { opening = set_opening_lem e; zero_is = set_is_zero e; same = λ _ _ _ _ _. tt }
  opens (tuple refs) e = record { opening = count_opening_lem (length refs) e; zero_is = refl; same = λ _ _ _ _ _. tt }
  opens (object refs cards) e = record { opening = count_opening_lem (length refs) e; zero_is = refl; same = λ _ _ _ _ _. tt }
  opens (sparse refs cards) e =
      let p : bytes_be 4 c.count ≡ o = cc in
      let q : 0 ≡ first = cc in
      record { opening = λ few d. rw (← p, ← q) (sparse_back c.count d few); zero_is = refl; same = λ _ _ _ _ _. tt }
  opens (range r) e =
      let f = range_flags_lem e in
      record {
        opening = λ few d. rw (← f.bytes) (f.opening d);
        zero_is = refl;
        same = λ t base n d w. (f.start, tail_first f.flag d (rw (← f.bytes) at w) ∙ sym f.is);
      }
