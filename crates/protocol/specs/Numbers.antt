-- Numbers on the wire (R2.1), and the few functions on lists that the definitions share.
use Rattle.std.specs.Prelude.{ℕ, zero, suc, ◌+◌, ◌*◌, ◌/◌, ◌%◌, Bool, true, false, List, [], ◌∷◌, ◌++◌, leb, eqb}

-- a choice by a test: the first where it passes, and else the second
unfoldable pub pick : {A : Type 0} → Bool → A → A → A
pick true a b = a
pick false a b = b

-- the number a, followed by the bytes of the list
unfoldable pub be_from : ℕ → List ℕ → ℕ
be_from a [] = a
be_from a (x ∷ xs) = be_from (a * 256 + x) xs

-- R2.1: the number that a list of bytes is, the first byte the highest
unfoldable pub be : List ℕ → ℕ
be xs = be_from 0 xs

-- the last n bytes of a number, the highest first
unfoldable pub bytes_be : ℕ → ℕ → List ℕ
bytes_be zero v = []
bytes_be (suc n) v = bytes_be n (v / 256) ++ (v % 256 ∷ [])

-- ---- lists

-- one of a list passes a test
unfoldable pub any : {A : Type 0} → (A → Bool) → List A → Bool
any f [] = false
any f (x ∷ xs) = pick (f x) true (any f xs)

-- v is one of the list
abbrev pub one_of : ℕ → List ℕ → Bool
one_of v xs = any (eqb v) xs

-- two runs of bytes are the same
unfoldable pub same_bytes : List ℕ → List ℕ → Bool
same_bytes [] [] = true
same_bytes [] (y ∷ ys) = false
same_bytes (x ∷ xs) [] = false
same_bytes (x ∷ xs) (y ∷ ys) = pick (eqb x y) (same_bytes xs ys) false

-- the n values of a function from 0 on
unfoldable pub up_to : (ℕ → ℕ) → ℕ → List ℕ
up_to f zero = []
up_to f (suc n) = up_to f n ++ (f n ∷ [])

-- the larger of two numbers
unfoldable pub at_least : ℕ → ℕ → ℕ
at_least a b = pick (leb a b) b a
