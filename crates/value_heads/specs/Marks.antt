-- Nobody has to believe these definitions: they are the marks of a sparse object's indexes (R5.10) as the code sets them, those of a stretch of
-- elements one after the other.
use Rattle.std.specs.Prelude.{ℕ, zero, suc, ◌+◌, Bool, true, false, List, [], ◌∷◌, leb, length, get_or, Result, Ok, Err, set}
use Rattle.forms.specs.declared.Head.{Head}
use Rattle.forms.specs.declared.Head.TheVariants.{Present, Absent}
use Rattle.protocol.specs.Numbers.{pick}
use Rattle.protocol.specs.Heads.{word, optional, sparse_index}

-- the marks with those of some indexes
unfoldable pub marked : List Bool → List ℕ → List Bool
marked marks [] = marks
marked marks (i ∷ is) = marked (set marks i true) is

-- whether one of the indexes is marked, or stands among them twice
unfoldable pub repeats : List Bool → List ℕ → Bool
repeats marks [] = false
repeats marks (i ∷ is) = pick (get_or marks i false) true (repeats (set marks i true) is)

-- ---- the indexes of a stretch of elements

-- what comes after an element: the rest from where it ends, if it is there
unfoldable pub after_head : (ℕ → List ℕ) → Result Head ℕ → List ℕ
after_head rest (Ok (Present i start size)) = rest (start + size)
after_head rest (Ok (Absent i start)) = []
after_head rest (Err n) = []

unfoldable pub from_index : (ℕ → List ℕ) → List ℕ → ℕ → Result ℕ ℕ → List ℕ
from_index rest s at (Err n) = []
from_index rest s at (Ok i) = i ∷ after_head rest (optional s false i (at + 8) (word s (at + 4)))

-- of n elements in a sparse object's bytes that are there, one after the other from a position on
unfoldable pub indexes_in : List ℕ → ℕ → ℕ → List ℕ
indexes_in s zero at = []
indexes_in s (suc n) at = from_index (indexes_in s n) s at (sparse_index s 512 [] at)

-- of n entries of a list, whose index words stand `step` apart from a position on
unfoldable pub indexes_apart : List ℕ → ℕ → ℕ → ℕ → List ℕ
indexes_apart l step zero at = []
indexes_apart l step (suc n) at = pick (leb (length l) at) [] (get_or l at 0 ∷ indexes_apart l step n (at + step))
