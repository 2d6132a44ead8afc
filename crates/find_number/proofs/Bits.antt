-- The laws of an element's bits.
use mathlib.Core.Path.{◌≡◌, refl, ap, sym, ◌∙◌}
use mathlib.Core.Bool.{Bool, true, false, not, cond}
use mathlib.Core.List.{List, [], ◌∷◌}
use mathlib.Core.Logic.{inl, inr, ⊎_elim}
use Prim.Native.Nat.{ℕ, zero, suc, ◌+◌, ◌-◌, ◌*◌, ◌^◌, ◌%◌, ◌<◌, ◌≤◌}
use native.Mathlib.Omega.{arith}
use lib.Dec.{T, eqb, ltb}
use lib.ListN.{length, take, drop, get_or}
use lib.Seq.{take_all}
use lib.Ieee.{Format, binary32, binary64, ones, hid, top, of_bits, to_bits, nan_bits}
use lib.Ieee.Bits.{of_bits-fits, to_bits-of_bits, nan_bits_is, nan_bits_above}
use borrow.Author.Tests.{le-ltb, lt-ltb, eqb-true, ltb-true, ltb-false, ne_eqb}
use Rattle.std.specs.Prelude.{Result, Ok, Err}
use mir.Syntax.{w16, w32, w64}
use mir.Val.{to_z, of_z}
use Rattle.forms.specs.declared.fault.Refusal.{Refusal}
use Rattle.plan_nodes.proofs.Looks.{look_leaf}
use Rattle.wire.proofs.Picks.{clash, pick_yes, pick_no, pick_case, pick_split, both}
use Rattle.find_number.specs.Number.{Width, shown, Plain, Proper, Gives}
use Rattle.find_number.specs.declared.Number.{Number}
use Rattle.find_number.specs.declared.Number.TheVariants.{Integer, Truth, Single, Double}
use Rattle.protocol.specs.Numbers.{pick, be, be_from}
use Rattle.protocol.specs.Nodes.{Node}
use Rattle.protocol.specs.Plans.{look}
use Rattle.protocol.specs.Scalars.{of_size, boolean, scalar, format_rule, formats, rule_of}
use Rattle.protocol.specs.Finding.{Numbered, unnumbered, numbered, integral, plain_bits, extended, of_format, of_node}

-- ---- floats, of either format

module _ (f : Format) (n : ℕ) (plain : n % top f ≤ ones f * hid f) where
  no_nan : nan_bits f n ≡ false
  no_nan = nan_bits_above f n ∙ le-ltb (ones f * hid f) (n % top f) plain

  pub pattern_plain : T (not (nan_bits f n))
  pattern_plain = rw no_nan tt

  pub float_plain : Plain f (of_bits f n)
  float_plain = (of_bits-fits f n, rw (← nan_bits_is f n, no_nan) tt)

  pub float_bits : n < 2 * top f → to_bits f (of_bits f n) ≡ n
  float_bits h = to_bits-of_bits f n h float_plain.1

-- a pattern above the infinity's is a NaN's
pub pattern_nan : (f : Format) (n : ℕ) → ones f * hid f < n % top f → T (nan_bits f n)
pattern_nan f n above = rw (nan_bits_above f n, lt-ltb (ones f * hid f) (n % top f) above) tt

pub gives_single : (n : ℕ) → n % 2147483648 ≤ 2139095040 → n < 2 ^ 32 → Gives (numbered 6 n) (Ok (Single (of_bits binary32 n)))
unfolding shown Proper
gives_single n p h = record { is = ap (numbered 6) (float_bits binary32 n p (omega arith)); proper = float_plain binary32 n p }

pub gives_double : (n : ℕ) → n % 9223372036854775808 ≤ 9218868437227405312 → n < 2 ^ 64 → Gives (numbered 7 n) (Ok (Double (of_bits binary64 n)))
unfolding shown Proper
gives_double n p h = record { is = ap (numbered 7) (float_bits binary64 n p (omega arith)); proper = float_plain binary64 n p }

-- ---- integers, of any width: h is half of what w bytes hold

module _ (w n h : ℕ) (e : 256 ^ w ≡ 2 * h) where
  pub extend_low : n < h → n ≡ extended w n
  unfolding extended
  extend_low l = sym (pick_yes _ _ _ (lt-ltb (2 * n) (256 ^ w) (rw e (omega arith))))

  pub extend_high : h ≤ n → n + (256 ^ 8 - 256 ^ w) ≡ extended w n
  unfolding extended
  extend_high l = sym (pick_no _ _ _ (le-ltb (2 * n) (256 ^ w) (rw e (omega arith))))

  -- the sign, by whether it is set
  extend_by : (z : ℕ) → (n < h → z ≡ n) → (h ≤ n → z ≡ n + (256 ^ 8 - 256 ^ w)) → z ≡ extended w n
  extend_by z low high = go (ltb n h) refl
    where
      go : (b : Bool) → ltb n h ≡ b → z ≡ extended w n
      go true t = let l = ltb-true n h t in low l ∙ extend_low l
      go false t = let l = ltb-false n h t in high l ∙ extend_high l

pub extend_two : (n : ℕ) → n < 2 ^ 16 → of_z w64 (to_z w16 n) ≡ extended 2 n
extend_two n l =
    extend_by 2 n 32768 refl _
    (λ (x : n < 32768). rw (lt-ltb n 32768 x))
    (λ (x : 32768 ≤ n). rw (le-ltb n 32768 x) (omega arith))

pub extend_four : (n : ℕ) → n < 2 ^ 32 → of_z w64 (to_z w32 n) ≡ extended 4 n
extend_four n l =
    extend_by 4 n 2147483648 refl _
    (λ (x : n < 2147483648). rw (lt-ltb n 2147483648 x))
    (λ (x : 2147483648 ≤ n). rw (le-ltb n 2147483648 x) (omega arith))

-- 8 bytes are their own
pub extend_whole : (n : ℕ) → n ≡ extended 8 n
unfolding extended
extend_whole n = pick_case (λ (x : ℕ). n ≡ x) (ltb (2 * n) (256 ^ 8)) n (n + (256 ^ 8 - 256 ^ 8)) (λ _. refl) (λ _. omega arith)

-- the third of three widths
pub last_width : (w : ℕ) → Width w → (w ≡ 2 → ⊥) → (w ≡ 4 → ⊥) → w ≡ 8
unfolding Width
last_width w d a b = ⊎_elim (λ (x : w ≡ 2). absurd (a x)) (λ y. ⊎_elim (λ (x : w ≡ 4). absurd (b x)) (λ (x : w ≡ 8). x) y) d

-- ---- a scalar's bytes, by its format

size_is : (n : ℕ) (b : List ℕ) → of_size n b ≡ true → length b ≡ n
unfolding of_size
size_is n b e = eqb-true (length b) n e

module _ (f : ℕ) (b : List ℕ) (good : scalar f b ≡ true) where
  pub integer_width : integral f ≡ true → Width (length b)
  unfolding integral Width scalar format_rule formats rule_of
  integer_width i =
      ⊎_elim
      (λ (x : (eqb f 3 ≡ true) × (true ≡ true)). inl (size_is 2 b (rw (eqb-true f 3 x.0) at good)))
      (λ (y : (eqb f 3 ≡ false) × (pick (eqb f 4) true (pick (eqb f 5) true (eqb f 19)) ≡ true)).
      ⊎_elim
      (λ (x : (eqb f 4 ≡ true) × (true ≡ true)). inr (inl (size_is 4 b (rw (eqb-true f 4 x.0) at good))))
      (λ (z : (eqb f 4 ≡ false) × (pick (eqb f 5) true (eqb f 19) ≡ true)).
      ⊎_elim
      (λ (x : (eqb f 5 ≡ true) × (true ≡ true)). inr (inr (size_is 8 b (rw (eqb-true f 5 x.0) at good))))
      (λ (x : (eqb f 5 ≡ false) × (eqb f 19 ≡ true)). inr (inr (size_is 8 b (rw (eqb-true f 19 x.1) at good))))
      (pick_split (eqb f 5) true (eqb f 19) true z.1))
      (pick_split (eqb f 4) true (pick (eqb f 5) true (eqb f 19)) true y.1))
      (pick_split (eqb f 3) true (pick (eqb f 4) true (pick (eqb f 5) true (eqb f 19))) true i)

  pub single_size : f ≡ 6 → length b ≡ 4
  unfolding scalar format_rule formats rule_of
  single_size e = size_is 4 b (rw e at good)

  pub double_size : f ≡ 7 → length b ≡ 8
  unfolding scalar format_rule formats rule_of
  double_size e = size_is 8 b (rw e at good)

  truth : f ≡ 9 → (of_size 1 b ≡ true) × (ltb (be b) 2 ≡ true)
  unfolding scalar format_rule formats rule_of boolean
  truth e = both (of_size 1 b) (ltb (be b) 2) (rw e at good)

  pub truth_size : f ≡ 9 → length b ≡ 1
  truth_size e = size_is 1 b (truth e).0

  pub truth_low : f ≡ 9 → be b < 2
  truth_low e = ltb-true (be b) 2 (truth e).1

-- ---- what is answered

abbrev no_number : Refusal
no_number = record { fault = 37; place = 0 }

-- the whole of some bytes
whole_be : (n : ℕ) (b : List ℕ) → length b ≡ n → be (take n (drop 0 b)) ≡ be b
whole_be n b e = ap be (take_all n b (omega (arith, e)))

-- a byte alone
one_be : (b : List ℕ) → length b ≡ 1 → be b ≡ get_or b 0 0
unfolding be be_from
one_be [] e = absurd (omega arith)
one_be (x ∷ []) e = omega arith
one_be (x ∷ y ∷ b) e = absurd (omega arith)

zero_or_one : (n : ℕ) → n < 2 → cond (eqb n 1) 1 0 ≡ n
zero_or_one zero l = refl
zero_or_one (suc zero) l = refl
zero_or_one (suc (suc n)) l = absurd (omega arith)

module _ (f : ℕ) (b : List ℕ) where
  pub gives_integer : integral f ≡ true → (m n : ℕ) → m ≡ be (take (length b) (drop 0 b)) → n ≡ extended (length b) m → Gives (of_format f b) (Ok (Integer f n))
  unfolding of_format shown Proper
  gives_integer i m n em en = record { is = rw (i, en, em, whole_be (length b) b refl) (sym (pick_yes _ _ _ refl)); proper = i }

  -- a float's bits are all of its bytes
  pub gives_bits : (h n m : ℕ) (r : Number) → Gives (numbered h m) (Ok r) → m ≡ be (take n (drop 0 b)) → length b ≡ n
      → f ≡ h → integral h ≡ false → plain_bits h ≡ true → Gives (of_format f b) (Ok r)
  unfolding of_format pick
  gives_bits h n m r g em e x i q = rw (x, i, q, ← whole_be n b e, ← em) g

  pub gives_truth : f ≡ 9 → length b ≡ 1 → be b < 2 → Gives (of_format f b) (Ok (Truth (eqb (get_or b 0 0) 1)))
  unfolding of_format integral plain_bits pick shown Proper
  gives_truth x e l =
      let o = one_be b e in
      record { is = rw (x, o) (ap (numbered 9) (zero_or_one (get_or b 0 0) (rw o at l))); proper = tt }

  pub gives_none : integral f ≡ false → (f ≡ 6 → ⊥) → (f ≡ 7 → ⊥) → (f ≡ 9 → ⊥) → Gives (of_format f b) (Err no_number)
  unfolding of_format plain_bits pick shown Proper
  gives_none i x y z = record { is = rw (i, ne_eqb f 6 x, ne_eqb f 7 y, ne_eqb f 9 z); proper = tt }

-- ---- of a node that was found

module _ (p : List ℕ) (k : ℕ) (b : List ℕ) where
  pub gives_leaf : get_or p k 0 ≡ 1 → (f : ℕ) → f ≡ get_or p (k + 1) 0 → (r : Result Number Refusal) → Gives (of_format f b) r → Gives (of_node (look p k) b) r
  unfolding of_node
  gives_leaf e f ef r g = rw (look_leaf p k e, ← ef) g

  -- a node of any other kind has no number
  pub gives_other : (get_or p k 0 ≡ 1 → ⊥) → Gives (of_node (look p k) b) (Err no_number)
  unfolding look of_node shown Proper
  gives_other n =
      let P : Node → Type 0 = λ v. Gives (of_node v b) (Err no_number) in
      rw (ne_eqb (get_or p k 0) 1 n)
      (pick_case P false _ _ (λ e. clash e)
      (λ _. pick_case P _ _ _ (λ _. none_of _ refl)
      (λ _. pick_case P _ _ _ (λ _. none_of _ refl)
      (λ _. pick_case P _ _ _ (λ _. none_of _ refl)
      (λ _. pick_case P _ _ _ (λ _. none_of _ refl)
      (λ _. pick_case P _ _ _ (λ _. none_of _ refl)
      (λ _. pick_case P _ _ _ (λ _. none_of _ refl) (λ _. none_of _ refl))))))))
    where
      none_of : (x : Numbered) → unnumbered 37 0 ≡ x → Gives x (Err no_number)
      none_of x e = record { is = e; proper = tt }

-- an integer has at most eight bytes
pub width_few : (w : ℕ) → Width w → w ≤ 8
unfolding Width
width_few w d =
    ⊎_elim (λ (x : w ≡ 2). omega arith) (λ y. ⊎_elim (λ (x : w ≡ 4). omega arith) (λ (x : w ≡ 8). omega arith) y) d
