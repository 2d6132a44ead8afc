-- Nobody has to believe these definitions: they say what the code keeps in runs of numbers, the earlier blocks and the elements of a block, three
-- words each.
use Rattle.std.specs.Prelude.{ℕ, zero, suc, ◌+◌, ◌*◌, ◌≤◌, ◌<◌, List, [], ◌∷◌, ◌++◌, length, get_or}
use Rattle.descriptor_fields.specs.Fields.{Known, Element}

-- the first n values of a function
unfoldable pub tab : {A : Type 0} → (ℕ → A) → ℕ → List A
tab g zero = []
tab g (suc n) = tab g n ++ (g n ∷ [])

-- what is known of the i-th block; its tag stands in the descriptor
unfoldable pub known_at : List ℕ → List ℕ → ℕ → Known
known_at d a i =
    record { start = get_or a (3 * i) 0; tag = get_or d (get_or a (3 * i) 0) 0; height = get_or a (3 * i + 1) 0; node = get_or a (3 * i + 2) 0 }

abbrev pub known_of : List ℕ → List ℕ → ℕ → List Known
known_of d a n = tab (known_at d a) n

unfoldable pub element_at : List ℕ → ℕ → Element
element_at a i = record { name = get_or a (3 * i) 0; ref = get_or a (3 * i + 1) 0; card = get_or a (3 * i + 2) 0 }

abbrev pub elements_of : List ℕ → ℕ → List Element
elements_of a n = tab (element_at a) n

-- the words of n blocks: each was read with its id, and is of a height that obeys
pub record Told (d a : List ℕ) (n : ℕ) : Type 0 where
  pub room : 3 * n ≤ length a
  pub few : n ≤ 1024
  pub short : length d ≤ 65535
  pub inside : (i : ℕ) → i < n → get_or a (3 * i) 0 + 17 ≤ length d
  pub low : (i : ℕ) → i < n → get_or a (3 * i + 1) 0 ≤ 32

-- room for the elements of a block
pub record Roomy (a : List ℕ) (n : ℕ) : Type 0 where
  pub room : 1536 ≤ length a
  pub few : n ≤ 512
