-- A part of some bytes, at a position in them.
use mathlib.Core.Path.{◌≡◌, sym}
use mathlib.Core.List.{List, [], ◌++◌, append_assoc, append-nil}
use Prim.Native.Nat.{ℕ, ◌+◌, ◌≤◌}
use native.Mathlib.Omega.{arith}
use lib.ListN.{length, take, drop, take-append-drop}
use lib.Seq.{take-append_seam, drop-append-le, drop-drop}

-- s stands in t at a position
pub record Stands (t : List ℕ) (base : ℕ) (s : List ℕ) : Type 0 where
  pub rest : List ℕ
  pub is : drop base t ≡ s ++ rest

-- the whole stands in itself
pub stands_self : (t : List ℕ) → Stands t 0 t
stands_self t = record { rest = []; is = sym (append-nil t) }

module _ (t : List ℕ) (base : ℕ) (s : List ℕ) (st : Stands t base s) where
  pub stands_whole : take (length s) (drop base t) ≡ s
  stands_whole = rw st.is (take-append_seam s st.rest)

  -- a part of it
  pub stands_part : (start n : ℕ) → start + n ≤ length s → Stands t (base + start) (take n (drop start s))
  stands_part start n h =
      record {
        rest = drop n (drop start s) ++ st.rest;
        is = rw (← drop-drop, st.is, drop-append-le start s st.rest (omega arith), ← append_assoc, take-append-drop);
      }
