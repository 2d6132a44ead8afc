-- The laws of stores one after the other, as far as there is room.
use mathlib.Core.Path.{◌≡◌, refl, ap, sym, ◌∙◌}
use mathlib.Core.List.{List, [], ◌∷◌, ◌++◌, append_assoc}
use Prim.Native.Nat.{ℕ, suc, ◌+◌, ◌-◌, ◌<◌, ◌≤◌, min}
use native.Mathlib.Omega.{arith}
use native.Mathlib.Nat.{add-zero, add-suc, suc-add}
use native.Mathlib.Numerals.{add-one}
use native.Mathlib.Decide.{dec_lt}
use lib.ListN.{length, take, drop, get_or, set, length-set, take-append-drop, drop_of_length-le}
use lib.Seq.{sets, sets-eq, length-sets, set_out, take-suc, length-take-le, drop-drop}
use borrow.Rule.Slice.PartMut.{put_mid}

-- two runs of stores, the second where the first ends, are one
pub sets_append : (l : List ℕ) (k : ℕ) (ws vs : List ℕ) → sets (sets l k ws) (k + length ws) vs ≡ sets l k (ws ++ vs)
sets_append l k [] vs = rw add-zero
sets_append l k (w ∷ ws) vs = rw (add-suc, ← suc-add k) (sets_append (set l k w) (suc k) ws vs)

-- nothing is stored past the end
pub sets_out : (l : List ℕ) (i : ℕ) (vs : List ℕ) → length l ≤ i → sets l i vs ≡ l
sets_out l i [] h = refl
sets_out l i (v ∷ vs) h = sets_out (set l i v) (suc i) vs (simp length-set (omega arith)) ∙ set_out l i v h

-- a copy, byte by byte
module _ (out part : List ℕ) (at : ℕ) where
  pub copy_more : (k : ℕ) → k < length part → set (sets out at (take k part)) (at + k) (get_or part k 0) ≡ sets out at (take (k + 1) part)
  copy_more k h =
      let e : length (take k part) ≡ k = length-take-le k part (omega arith) in
      rw (add-one, take-suc part k 0)
      (ap (λ (j : ℕ). set (sets out at (take k part)) (at + j) (get_or part k 0)) (sym e)
      ∙ sets_append out at (take k part) (get_or part k 0 ∷ []))

  -- it is whole once the part or the room is at its end
  pub copy_end : (k : ℕ) → k ≡ min (length part) (length out - at) → sets out at (take k part) ≡ sets out at part
  copy_end k h =
      let e : length (take k part) ≡ k = length-take-le k part (omega arith) in
      sym (ap (sets out at) (sym (take-append-drop k part))
      ∙ sym (sets_append out at (take k part) (drop k part))
      ∙ elim (dec_lt k (length part)) [
        | yes l ↦ sets_out (sets out at (take k part)) (at + length (take k part)) (drop k part) (rw (length-sets, e) (omega arith))
        | no l ↦ let all : length part ≤ k = omega arith in rw (drop_of_length-le part all)
      ])

-- k bytes in the place of the k bytes at n
pub part_stored : (l vs : List ℕ) (n k : ℕ) → length vs ≡ k → n + k ≤ length l → put_mid n k l vs ≡ sets l n vs
part_stored l vs n k e h = sym (sets-eq vs l n (omega arith) ∙ rw (e, ← drop-drop, append_assoc))
