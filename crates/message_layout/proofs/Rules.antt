-- The laws of a number's permitted values, and of the table of codes' rules.
use mathlib.Core.Path.{◌≡◌, refl, sym, ◌∙◌}
use mathlib.Core.Bool.{Bool, true, false}
use Rattle.std.specs.List.{list_any}
use Rattle.std.specs.Prelude.{◌||◌}
use mathlib.Core.List.{List, [], ◌∷◌}
use Prim.Native.Nat.{ℕ, suc, ◌+◌, ◌-◌, ◌<◌, ◌≤◌}
use native.Mathlib.Omega.{arith}
use lib.Dec.{eqb, leb, ltb}
use lib.ListN.{length, get_or}
use lib.Seq.{drop-cons}
use borrow.Author.Tests.{leb-true, lt-ltb, ltb-true}
use Rattle.wire.proofs.Tables.{each_below, where_below}
use Rattle.message_layout.specs.Tables.{values, allowed_of, field_of, values_of, width_of, widths, firsts, WidthOf, PartOf}
use Rattle.protocol.specs.Numbers.{pick, one_of, any}
use Rattle.protocol.specs.Messages.{number, text, bytes, permits}

-- ---- the values from a position to another

pub none : (to : ℕ) → allowed_of to to ≡ []
unfolding allowed_of
none to = let e : to - to ≡ 0 = omega arith in rw e

pub permits_some : (i to : ℕ) → i < to → to ≤ 16 → (v : ℕ) → permits (allowed_of i to) v ≡ one_of v (allowed_of i to)
unfolding permits allowed_of values
permits_some i to h k v =
    let n : to - i ≡ suc (to - suc i) = omega arith in
    let g : i < length values = omega arith in
    rw (n, drop-cons values i 0)

-- std's test and protocol's
any_is : (f : ℕ → Bool) (xs : List ℕ) → list_any f xs ≡ any f xs
unfolding any pick
any_is f [] = refl
any_is f (x ∷ xs) = rw (any_is f xs) (case (f x))
  where
    case : (b : Bool) → (b || any f xs) ≡ pick b true (any f xs)
    case true = refl
    case false = refl

-- ---- the field of a code

pub text_code : (c : ℕ) → c ≡ 1 → field_of c ≡ text
unfolding field_of pick
text_code c e = rw e

pub bytes_code : (c : ℕ) → c ≡ 2 → field_of c ≡ bytes
unfolding field_of pick
bytes_code c e = rw e

pub number_code : (c : ℕ) → 2 < c → field_of c ≡ number (width_of c) (values_of c)
unfolding field_of pick
number_code c h = rw (lt-ltb 2 c h)

-- ---- the facts of every code, which antt computes

pub width_sound : (c r : ℕ) → c < 12 → r ≡ width_of c → WidthOf c r
unfolding width_of widths pick
width_sound c r h e =
    record {
      width = e;
      wide = rw e (leb-true _ _ (each_below (λ k. leb (width_of k) 16) 12 refl c h));
      some = λ g. rw e (ltb-true 0 (width_of c) (where_below (λ k. ltb 2 k) (λ k. ltb 0 (width_of k)) 12 refl c h (lt-ltb 2 c g)));
    }

pub part_sound : (c : ℕ) → c < 12 → PartOf c (get_or firsts c 0) (get_or firsts (c + 1) 0)
unfolding firsts width_of widths pick
part_sound c h =
    record {
      from_is = refl;
      to_is = refl;
      ordered = leb-true _ _ (each_below (λ k. leb (get_or firsts k 0) (get_or firsts (k + 1) 0)) 12 refl c h);
      end = leb-true _ _ (each_below (λ k. leb (get_or firsts (k + 1) 0) 16) 12 refl c h);
      narrow = λ g. leb-true _ _ (where_below (λ k. ltb (get_or firsts k 0) (get_or firsts (k + 1) 0)) (λ k. leb (width_of k) 7) 12 refl c h (lt-ltb _ _ g));
    }

-- the part of a code's row
module _ (c row from to : ℕ) (h : c < 12) (e : row ≡ c) (f : from ≡ get_or firsts row 0) (t : to ≡ get_or firsts (row + 1) 0) where
  pub part_is : PartOf c from to
  part_is = rw (f, t, e) (part_sound c h)

  -- a code with no values permits each
  pub values_none : from ≡ to → (v : ℕ) → true ≡ permits (values_of c) v
  unfolding permits values_of
  values_none g v = rw (← part_is.from_is, ← part_is.to_is, g, none to)

  -- a code with values permits those
  pub values_some : (from ≡ to → ⊥) → (v : ℕ) (b : Bool) → b ≡ list_any (eqb v) (allowed_of from to) → b ≡ permits (values_of c) v
  unfolding values_of
  values_some n v b q =
      q ∙ any_is (eqb v) (allowed_of from to)
      ∙ sym (rw (← part_is.from_is, ← part_is.to_is) (permits_some from to (omega (arith, part_is.ordered)) part_is.end v))
