-- The laws of stores that come before others in the output and after them in time.
use mathlib.Core.Path.{◌≡◌, refl, ap, sym, ◌∙◌}
use mathlib.Core.List.{List, [], ◌∷◌, ◌++◌, append-nil, append_assoc}
use Prim.Native.Nat.{ℕ, suc, ◌+◌, ◌/◌, ◌%◌, ◌<◌}
use native.Mathlib.Omega.{arith}
use native.Mathlib.Nat.{add-zero, div-div-eq-div-mul}
use lib.ListN.{length, set, drop, length-append, drop_of_length-le}
use lib.Seq.{sets, set_comm, sets-eq}
use Rattle.wire.proofs.Numbers.{length_bytes}
use Rattle.wire.proofs.Stores.{sets_append}
use Rattle.protocol.specs.Numbers.{bytes_be}

-- a store before a run of stores may as well come first
set_first : (l : List ℕ) (i v j : ℕ) (vs : List ℕ) → i < j → set (sets l j vs) i v ≡ sets (set l i v) j vs
set_first l i v j [] h = refl
set_first l i v j (w ∷ ws) h =
    set_first (set l j w) i v (suc j) ws (omega arith)
    ∙ ap (λ (k : List ℕ). sets k (suc j) ws) (set_comm l j i w v (λ e. omega arith))

-- what is put before stores that are already there
pub sets_before : (l : List ℕ) (k : ℕ) (hs bs : List ℕ) → sets (sets l (k + length hs) bs) k hs ≡ sets l k (hs ++ bs)
sets_before l k [] bs = rw add-zero
sets_before l k (h ∷ hs) bs =
    let e : k + suc (length hs) ≡ suc k + length hs = omega arith in
    ap (λ (x : List ℕ). sets x (suc k) hs) (set_first l k h (k + suc (length hs)) bs (omega arith) ∙ ap (λ (n : ℕ). sets (set l k h) n bs) e)
    ∙ sets_before (set l k h) (suc k) hs bs

-- one run of stores after the other
pub put_after : (n : ℕ) (l l' l'' : List ℕ) (at : ℕ) (fs bs : List ℕ) → length fs ≡ n → l' ≡ sets l at fs → l'' ≡ sets l' (at + n) bs → l'' ≡ sets l at (fs ++ bs)
put_after n l l' l'' at fs bs e f g =
    g ∙ ap (λ (k : List ℕ). sets k (at + n) bs) f ∙ ap (λ (k : ℕ). sets (sets l at fs) (at + k) bs) (sym e) ∙ sets_append l at fs bs

-- stores that fill a list
pub sets_all : (l vs : List ℕ) → length l ≡ length vs → sets l 0 vs ≡ vs
sets_all l vs e =
    let d : drop (0 + length vs) l ≡ [] = drop_of_length-le l {i = 0 + length vs} (omega arith) in
    sets-eq vs l 0 (omega arith) ∙ ap (λ (k : List ℕ). vs ++ k) d ∙ append-nil vs

-- a number of four bytes, or two, and what comes after
pub put_four : (l l' l'' : List ℕ) (at a : ℕ) (bs : List ℕ) → l' ≡ sets l at (bytes_be 4 a) → l'' ≡ sets l' (at + 4) bs → l'' ≡ sets l at (bytes_be 4 a ++ bs)
put_four l l' l'' at a bs = put_after 4 l l' l'' at (bytes_be 4 a) bs (length_bytes 4 a)

pub put_eight : (l l' l'' : List ℕ) (at a b : ℕ) (bs : List ℕ) → l' ≡ sets l at (bytes_be 4 a ++ bytes_be 4 b) → l'' ≡ sets l' (at + 8) bs
    → l'' ≡ sets l at (bytes_be 4 a ++ (bytes_be 4 b ++ bs))
put_eight l l' l'' at a b bs f g =
    put_after 8 l l' l'' at (bytes_be 4 a ++ bytes_be 4 b) bs (omega (arith, length-append (bytes_be 4 a) (bytes_be 4 b), length_bytes 4 a, length_bytes 4 b)) f g
    ∙ ap (sets l at) (append_assoc (bytes_be 4 a) (bytes_be 4 b) bs)

-- the four bytes of a number, as std has them
pub four_bytes : (v : ℕ) → v / 16777216 % 256 ∷ v / 65536 % 256 ∷ v / 256 % 256 ∷ v % 256 ∷ [] ≡ bytes_be 4 v
unfolding bytes_be
four_bytes v = simp div-div-eq-div-mul
