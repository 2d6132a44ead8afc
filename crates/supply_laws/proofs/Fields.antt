-- The bytes of heads: what is made of a head that was read is that head with its reserved fields zero.
use mathlib.Core.Path.{◌≡◌, refl, ap, sym, ◌∙◌}
use mathlib.Core.Bool.{Bool, true, false}
use mathlib.Core.List.{List, [], ◌∷◌, ◌++◌, append_assoc}
use Prim.Native.Nat.{ℕ, zero, suc, ◌+◌, ◌-◌, ◌^◌, ◌≤◌, ◌<◌}
use native.Mathlib.Omega.{arith}
use native.Mathlib.Decide.{dec_lt}
use native.Mathlib.Nat.{add-zero, suc-add, zero-add}
use lib.Dec.{lit<}
use lib.ListN.{length, take, drop, get_or, length-append, length-take, length-drop, get_or-append, get_or-eq_default, set as store}
use lib.Seq.{take-add, drop-drop, take-take, take-nil, length-take-le, take-suc, get_or-take, get_or-drop}
use borrow.Author.Tests.{eqb-true, eqb-false, ltb-false, lt-ltb, eq-eqb, ne_eqb}
use Rattle.std.specs.Prelude.{Result, Ok, Err}
use Rattle.wire.proofs.Numbers.{bytes_be_lem, length_bytes}
use Rattle.wire.proofs.Picks.{pick_case}
use Rattle.forms.specs.declared.Opening.{Opening}
use Rattle.forms.specs.declared.Head.{Head}
use Rattle.forms.specs.declared.Head.TheVariants.{Present, Absent}
use Rattle.value_heads.proofs.Cases.{sized_cases, plain_cases, index_cases}
use Rattle.value_laws.proofs.Parts.{Stands}
use Rattle.protocol.specs.Numbers.{pick, bytes_be}
use Rattle.protocol.specs.Heads.{word, set_opening, count_opening, sparse_opening, range_flags, bounds, range_opening, optional, plain_head}
use Rattle.protocol.specs.Heads.{object_head, envelope_head, requires, sparse_rest, sparse_head, index_of, dimension}
use Rattle.protocol.specs.Constants.{ABSENT}
use Rattle.protocol.specs.Nodes.{Node, leaf, enum, row, arrays, tuple, object, sparse, range}
use Rattle.protocol.specs.Values.{Form, row_head, row_form, sparse_form, opening_of}
use Rattle.protocol.specs.Supplies.{zeros, Claim, SameFlags, SameBytes, zero_opening, zero_head, between}
use Rattle.protocol.specs.Building.{front, set_bytes, bounds_front, range_front, count_front, front_of, head_bytes, Order, row_order, sparse_order, may_lack}

-- every element is a byte
abbrev pub Bytes : List ℕ → Type 0
Bytes s = (i : ℕ) → get_or s i 0 < 256

-- ---- parts of bytes

-- a part of bytes is bytes
pub bytes_part : (s : List ℕ) → Bytes s → (start n : ℕ) → Bytes (take n (drop start s))
bytes_part s b start n i =
    elim (dec_lt i n) [
      | yes l ↦ rw (get_or-take, get_or-drop) (b (start + i))
      | no l ↦
          let h : length (take n (drop start s)) ≤ i = simp length-take (omega arith) in
          rw (get_or-eq_default (take n (drop start s)) 0 h) (lit< tt)
    ]

-- ---- where a value stands

module _ (t : List ℕ) (base : ℕ) (s : List ℕ) (st : Stands t base s) where
  pub stands_first : 1 ≤ length s → get_or t base 0 ≡ get_or s 0 0
  stands_first h =
      let e : get_or (drop base t) 0 0 ≡ get_or t base 0 = rw add-zero at (get_or-drop base t 0 0) in
      sym e ∙ rw st.is (get_or-append s st.rest 0 0 h)

-- ---- words

-- what is after n of the first n + m
drop_take : (n m : ℕ) (l : List ℕ) → drop n (take (n + m) l) ≡ take m (drop n l)
drop_take zero m l = rw zero-add
drop_take (suc n) m [] = rw suc-add (sym (take-nil m))
drop_take (suc n) m (x ∷ l) = rw suc-add (drop_take n m l)

between_is : (s : List ℕ) (at n start : ℕ) → start ≡ at + n → between s at start ≡ take n (drop at s)
unfolding between
between_is s at n start e = let d : start - at ≡ n = omega arith in rw d

module _ (s : List ℕ) (b : Bytes s) where
  -- the four bytes of a number are those that it was read from
  word_bytes : (at n : ℕ) → at + 4 ≤ length s → word s at ≡ n → bytes_be 4 n ≡ take 4 (drop at s)
  unfolding word
  word_bytes at n h e = ap (bytes_be 4) (sym e) ∙ bytes_be_lem s at 4 b h

  two_words : (at m n : ℕ) → at + 8 ≤ length s → word s at ≡ m → word s (at + 4) ≡ n → bytes_be 4 m ++ bytes_be 4 n ≡ take 8 (drop at s)
  two_words at m n h d e =
      rw (word_bytes at m (omega arith) d, word_bytes (at + 4) n (omega arith) e) (sym (take-add 4 4 (drop at s) ∙ rw drop-drop))

-- ---- the head of an element

-- the head of an element of n bytes with the index i, which was read from `at` up to `start`
pub record HeadOf (v : Node) (s : List ℕ) (at i start n : ℕ) : Type 0 where
  pub whole : at + length (head_bytes v i n) ≡ start
  pub same : head_bytes v i n ≡ zero_head v (between s at start)

module _ (s : List ℕ) (b : Bytes s) (at n : ℕ) where
  -- a length
  plain_bytes : at + 4 ≤ length s → word s at ≡ n → bytes_be 4 n ≡ between s at (at + 4)
  plain_bytes h e = word_bytes s b at n h e ∙ sym (between_is s at 4 (at + 4) refl)

  -- four reserved bytes and a length
  gap_bytes : at + 8 ≤ length s → word s (at + 4) ≡ n → zeros 4 ++ bytes_be 4 n ≡ zeros 4 ++ drop 4 (between s at (at + 8))
  gap_bytes h e =
      rw (between_is s at 8 (at + 8) refl, drop_take 4 4 (drop at s), drop-drop) (ap (λ (l : List ℕ). zeros 4 ++ l) (word_bytes s b (at + 4) n (omega arith) e))

  -- an index and a length
  index_bytes : (i : ℕ) → at + 8 ≤ length s → word s at ≡ i → word s (at + 4) ≡ n → bytes_be 4 i ++ bytes_be 4 n ≡ between s at (at + 8)
  index_bytes i h d e = two_words s b at i n h d e ∙ sym (between_is s at 8 (at + 8) refl)

  -- an envelope's length, 1, four reserved bytes and a length
  envelope_bytes : at + 16 ≤ length s → word s at ≡ 12 + n → word s (at + 4) ≡ 1 → word s (at + 12) ≡ n
      → bytes_be 4 (12 + n) ++ (bytes_be 4 1 ++ (zeros 4 ++ bytes_be 4 n)) ≡ take 8 (between s at (at + 16)) ++ (zeros 4 ++ drop 12 (between s at (at + 16)))
  envelope_bytes h d one e =
      rw (
        between_is s at 16 (at + 16) refl,
        take-take 8 16 (drop at s) (omega arith),
        drop_take 12 4 (drop at s),
        drop-drop,
        ← (two_words s b at (12 + n) 1 (omega arith) d one),
        ← (word_bytes s b (at + 12) n (omega arith) e),
        append_assoc,
      )

-- ---- a head that was read: its element is admitted, and what is made of it is the head with its reserved fields zero

pub record Element {S : Type 0} (order : Order S) (v : Node) (s : List ℕ) (st : S) (at : ℕ) (st' : S) (i start n : ℕ) : Type 0 where
  pub admits : order.admits st i ≡ true
  pub after : order.after st i ≡ st'
  pub head : HeadOf v s at i start n

module _ {S : Type 0} (form : Form S) (order : Order S) (v : Node) (s : List ℕ) (st : S) (at : ℕ) where
  abbrev pub Again : Result Head ℕ → Type 0
  Again (Err n) = Unit {0}
  Again (Ok (Absent i start)) = (may_lack v i ≡ true) × (start ≤ length s) × Element order v s st at (form.next st (Ok (Absent i start))) i start ABSENT
  Again (Ok (Present i start n)) = (start + n ≤ length s) × Element order v s st at (form.next st (Ok (Present i start n))) i start n

-- an element that may be absent: the case law of value_heads/proofs/Cases, with the length
optional_all : (P : Result Head ℕ → Type 0) → ((m : ℕ) → P (Err m)) → (s : List ℕ) (required : Bool) (i start size : ℕ)
    → (required ≡ false → size ≡ ABSENT → P (Ok (Absent i start))) → (size < 2 ^ 31 → size ≤ length s - start → P (Ok (Present i start size))) → P (optional s required i start size)
unfolding optional
optional_all P bad s required i start size none good =
    pick_case P _ _ _ (λ g. pick_case P _ _ _ (λ _. bad 27) (λ r. none r (eqb-true _ _ g))) (λ _. sized_cases P bad s i start size good)

-- one after the other
module _ (s : List ℕ) (b : Bytes s) (i at : ℕ) where
  in_row : (v : Node) (start n : ℕ) → HeadOf v s at i start n → Element row_order v s i at (i + 1) i start n
  in_row v start n h = record { admits = eq-eqb i i refl; after = refl; head = h }

  -- a length alone, before the element
  plain_head_lem : (v : Node) → ((n : ℕ) → head_bytes v i n ≡ bytes_be 4 n) → ((h : List ℕ) → zero_head v h ≡ h) → Again (row_form v s) row_order v s i at (plain_head s 0 i at)
  plain_head_lem v p q =
      plain_cases (Again (row_form v s) row_order v s i at) (λ _. tt) s 0 i at
      (λ whole low fit.
      let n = word s (at + 0) in
      let e : word s at ≡ n = rw add-zero in
      let start : at + 0 + 4 ≡ at + 4 = omega arith in (
        omega arith,
        in_row v (at + 0 + 4) n
            (rw start (record { whole = rw (p n, length_bytes); same = rw (p n, q (between s at (at + 4))) (plain_bytes s b at n (omega arith) e) })),
      ))

  -- reserved bytes and a length
  gap_head : (v : Node) → ((n : ℕ) → head_bytes v i n ≡ zeros 4 ++ bytes_be 4 n) → ((h : List ℕ) → zero_head v h ≡ zeros 4 ++ drop 4 h)
      → (n : ℕ) → at + 8 ≤ length s → word s (at + 4) ≡ n → Element row_order v s i at (i + 1) i (at + 8) n
  gap_head v p q n h e =
      in_row v (at + 8) n
      (record {
        whole = rw (p n, length-append, length_bytes);
        same = rw (p n, q (between s at (at + 8))) (gap_bytes s b at n h e);
      })

  -- an envelope
  envelope_head_lem : (r n : ℕ) → at + 16 ≤ length s → word s at ≡ 12 + n → word s (at + 4) ≡ 1 → word s (at + 12) ≡ n
      → Element row_order (arrays r) s i at (i + 1) i (at + 16) n
  unfolding head_bytes zero_head
  envelope_head_lem r n h d one e =
      in_row (arrays r) (at + 16) n
      (record { whole = simp (length-append, length_bytes); same = envelope_bytes s b at n h d one e })

  pub row_again : (v : Node) → Again (row_form v s) row_order v s i at (row_head v s i at)
  unfolding row_head head_bytes zero_head may_lack object_head envelope_head
  row_again (leaf f) = tt
  row_again enum = tt
  row_again (row r) = plain_head_lem (row r) (λ _. refl) (λ _. refl)
  row_again (arrays r) =
      let P = Again (row_form (arrays r) s) row_order (arrays r) s i at in
      pick_case P _ _ _ (λ _. tt)
      (λ whole. pick_case P _ _ _
      (λ one. pick_case P _ _ _ (λ _. tt)
      (λ _. pick_case P _ _ _ (λ _. tt)
      (λ _. pick_case P _ _ _
      (λ e. sized_cases P (λ _. tt) s i (at + 16) (word s (at + 12))
      (λ low fit.
      let h : 16 ≤ length s - at = ltb-false _ _ whole in
      (omega arith, envelope_head_lem r _ (omega arith) (eqb-true _ _ e) (eqb-true _ _ one) refl)))
      (λ _. tt))))
      (λ _. tt))
  row_again (tuple refs) =
      plain_cases (Again (row_form (tuple refs) s) row_order (tuple refs) s i at) (λ _. tt) s 4 i at
      (λ whole low fit.
      let start : at + 4 + 4 ≡ at + 8 = omega arith in
      (omega arith, rw start (gap_head (tuple refs) (λ _. refl) (λ _. refl) _ (omega arith) refl)))
  row_again (object refs cards) =
      let P = Again (row_form (object refs cards) s) row_order (object refs cards) s i at in
      pick_case P _ _ _ (λ _. tt)
      (λ whole.
      let h : 8 ≤ length s - at = ltb-false _ _ whole in
      let element = gap_head (object refs cards) (λ _. refl) (λ _. refl) in
      optional_all P (λ _. tt) s (requires (get_or cards i 0)) i (at + 8) (word s (at + 4))
      (λ r g. (rw r, omega arith, element ABSENT (omega arith) g))
      (λ low fit. (omega arith, element (word s (at + 4)) (omega arith) refl)))
  row_again (sparse refs cards) = tt
  row_again (range r) = plain_head_lem (range r) (λ _. refl) (λ _. refl)

-- any that the shape has, each once
pub sparse_again : (s : List ℕ) (b : Bytes s) (refs cards : List ℕ) (marks : List Bool) (at : ℕ)
    → Again (sparse_form cards s) (sparse_order cards) (sparse refs cards) s marks at (sparse_head s cards marks at)
unfolding head_bytes zero_head may_lack sparse_head sparse_rest index_of pick
sparse_again s b refs cards marks at =
    let v = sparse refs cards in
    let P = Again (sparse_form cards s) (sparse_order cards) v s marks at in
    let i = word s at in
    index_cases (λ x. P (sparse_rest s cards at x)) s (length cards) marks at (λ _. tt)
    (λ whole few new.
    let element : (n : ℕ) → word s (at + 4) ≡ n → Element (sparse_order cards) v s marks at (store marks i true) i (at + 8) n =
    λ n e.
    record {
      admits = rw (lt-ltb i (length cards) few, new);
      after = refl;
      head = record { whole = simp (length-append, length_bytes); same = index_bytes s b at n i (omega arith) refl e };
    }
    in
    optional_all P (λ _. tt) s (requires (get_or cards i 0)) i (at + 8) (word s (at + 4))
    (λ r g. (rw r, omega arith, element ABSENT g))
    (λ low fit. (omega arith, element (word s (at + 4)) refl)))

-- ---- a container's own head

-- what is made of a head that leads to `at`, and says that n elements follow from `first` on
pub record Opens (v : Node) (t src : List ℕ) (base : ℕ) (s : List ℕ) (n first at : ℕ) : Type 0 where
  pub inside : at ≤ length s
  pub whole : length (zero_opening v (take at s)) ≡ at
  pub front : (d : Claim) → n ≡ d.count → SameBytes t src v base (length s) d.start d.size → front_of v src d ≡ front (zero_opening v (take at s)) first

abbrev pub Opened : Node → (t src : List ℕ) → ℕ → List ℕ → Result Opening ℕ → Type 0
Opened v t src base s (Err m) = Unit {0}
Opened v t src base s (Ok o) = Opens v t src base s o.count o.first o.at

-- a range's bounds stand after its flags
abbrev AtOne : Result Opening ℕ → Type 0
AtOne (Err m) = Unit {0}
AtOne (Ok o) = o.at ≡ 1

bounds_one : (fl : ℕ) → AtOne (bounds fl)
unfolding bounds
bounds_one fl =
    pick_case AtOne _ _ _ (λ _. refl)
    (λ _. pick_case AtOne _ _ _ (λ _. pick_case AtOne _ _ _ (λ _. refl) (λ _. refl)) (λ _. pick_case AtOne _ _ _ (λ _. refl) (λ _. refl)))

module _ (s : List ℕ) (b : Bytes s) where
  -- of no elements, with reserved fields zero
  none_bytes : 12 ≤ length s → word s 0 ≡ 0 → set_bytes 0 ≡ take 4 (take 12 s) ++ (zeros 8 ++ drop 12 (take 12 s))
  unfolding set_bytes bytes_be pick
  none_bytes h e =
      rw (take-take 4 12 s (omega arith), drop_take 12 0 s, ← (word_bytes s b 0 0 (omega arith) e))

  -- of some
  some_bytes : (n : ℕ) → (n ≡ 0 → ⊥) → 20 ≤ length s → word s 0 ≡ 1 → word s 12 ≡ n → word s 16 ≡ 1
      → set_bytes n ≡ take 4 (take 20 s) ++ (zeros 8 ++ drop 12 (take 20 s))
  unfolding set_bytes pick
  some_bytes n many h one e last =
      rw (ne_eqb n 0 many, take-take 4 20 s (omega arith), drop_take 12 8 s, ← (word_bytes s b 0 1 (omega arith) one), ← (two_words s b 12 n 1 (omega arith) e last))

  module _ (t src : List ℕ) (base : ℕ) where
    -- a set, an array or a set of arrays
    module _ (v : Node) (p : (h : List ℕ) → zero_opening v h ≡ take 4 h ++ (zeros 8 ++ drop 12 h)) (q : (d : Claim) → front_of v src d ≡ front (set_bytes d.count) 0) where
      set_bytes_lem : (n at : ℕ) → 12 ≤ at → at ≤ length s → set_bytes n ≡ take 4 (take at s) ++ (zeros 8 ++ drop 12 (take at s)) → Opens v t src base s n 0 at
      set_bytes_lem n at low h z =
          record {
            inside = h;
            whole = rw (p (take at s)) (simp (length-append, length-take, length-drop) (omega arith));
            front = λ d c _. rw (q d, ← c, p (take at s), z);
          }

      set_opens : Opened v t src base s (set_opening s)
      unfolding set_opening dimension
      set_opens =
          let P = Opened v t src base s in
          pick_case P _ _ _ (λ _. tt)
          (λ _. pick_case P _ _ _ (λ _. tt)
          (λ few. pick_case P _ _ _ (λ _. tt)
          (λ h. pick_case P _ _ _ (λ none. let k : 12 ≤ length s = ltb-false _ _ h in set_bytes_lem 0 12 (omega arith) k (none_bytes k (eqb-true _ _ none)))
          (λ some. pick_case P _ _ _ (λ _. tt)
          (λ _. pick_case P _ _ _ (λ _. tt)
          (λ many. pick_case P _ _ _ (λ _. tt)
          (λ _. pick_case P _ _ _ (λ _. tt)
          (λ h. pick_case P _ _ _
          (λ last.
          let k : 20 ≤ length s = ltb-false _ _ h in
          let one = is_one (word s 0) (ltb-false _ _ few) (eqb-false _ _ some) in
          set_bytes_lem (word s 12) 20 (omega arith) k (some_bytes (word s 12) (eqb-false _ _ many) k one refl (eqb-true _ _ last)))
          (λ _. tt)))))))))
        where
          is_one : (n : ℕ) → n ≤ 1 → (n ≡ 0 → ⊥) → n ≡ 1
          is_one n h k = omega arith

    -- a count, as it is in the value
    count_bytes : (v : Node) → ((h : List ℕ) → zero_opening v h ≡ h) → (n : ℕ) → 4 ≤ length s → word s 0 ≡ n
        → ((d : Claim) → n ≡ d.count → front_of v src d ≡ front (bytes_be 4 n) 0) → Opens v t src base s n 0 4
    count_bytes v p n h e q =
        record {
          inside = h;
          whole = rw (p (take 4 s)) (length-take-le 4 s h);
          front = λ d c _. rw (q d c, p (take 4 s), word_bytes s b 0 n h e);
        }

    count_opens : (v : Node) → ((h : List ℕ) → zero_opening v h ≡ h) → (n : ℕ) → ((d : Claim) → front_of v src d ≡ count_front n d) → Opened v t src base s (count_opening n s)
    unfolding count_opening count_front pick
    count_opens v p n q =
        let P = Opened v t src base s in
        pick_case P _ _ _ (λ _. tt)
        (λ h. pick_case P _ _ _ (λ e. count_bytes v p n (ltb-false _ _ h) (eqb-true _ _ e) (λ d c. rw (q d, ← c, eq-eqb n n refl))) (λ _. tt))

    -- the flags of a range
    range_bytes : (r : ℕ) → 1 ≤ length s → get_or t base 0 ≡ get_or s 0 0 → range_flags (get_or s 0 0) ≡ true
        → (o : Result Opening ℕ) → bounds (get_or s 0 0) ≡ o → Opened (range r) t src base s o
    unfolding zero_opening front_of range_front bounds_front SameBytes SameFlags pick
    range_bytes r h top good (Err m) e = tt
    range_bytes r h top good (Ok o) e =
        let fl = get_or s 0 0 in
        let one : o.at ≡ 1 = rw e at (bounds_one fl) in
        let own : take 1 s ≡ fl ∷ [] = take-suc s 0 0 h in
        rw one
        (record {
          inside = h;
          whole = length-take-le 1 s h;
          front = λ d c f. let x : get_or src d.start 0 ≡ fl = sym f.1 ∙ top in rw (lt-ltb d.start (length src) f.0, x, good, e, ← c, eq-eqb o.count o.count refl, own);
        })

    pub opened : Stands t base s → (v : Node) → Opened v t src base s (opening_of v s)
    unfolding opening_of zero_opening front_of sparse_opening range_opening
    opened st (leaf f) = tt
    opened st enum = tt
    opened st (row r) = set_opens (row r) (λ _. refl) (λ _. refl)
    opened st (arrays r) = set_opens (arrays r) (λ _. refl) (λ _. refl)
    opened st (tuple refs) = count_opens (tuple refs) (λ _. refl) (length refs) (λ _. refl)
    opened st (object refs cards) = count_opens (object refs cards) (λ _. refl) (length refs) (λ _. refl)
    opened st (sparse refs cards) =
        let P = Opened (sparse refs cards) t src base s in
        pick_case P _ _ _ (λ _. tt)
        (λ h. pick_case P _ _ _ (λ _. tt) (λ _. count_bytes (sparse refs cards) (λ _. refl) (word s 0) (ltb-false _ _ h) refl (λ d c. rw c)))
    opened st (range r) =
        let P = Opened (range r) t src base s in
        pick_case P _ _ _ (λ _. tt)
        (λ h. pick_case P _ _ _ (λ good. let k : 1 ≤ length s = ltb-false _ _ h in range_bytes r k (stands_first t base s st k) good _ refl) (λ _. tt))
