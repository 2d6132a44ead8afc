-- Nobody has to believe these definitions: they are the state of the code's check of a plan, the starts and the heights of the nodes read so
-- far, as two lists of numbers.
use Rattle.std.specs.Prelude.{◌≡◌, ◌≢◌, ℕ, zero, suc, ◌+◌, ◌*◌, ◌<◌, Bool, true, List, [], ◌∷◌, ◌++◌, eqb, length, get_or, Option, Some, None}
use Rattle.protocol.specs.Numbers.{pick}
use Rattle.protocol.specs.Plans.{PlanNode, refer_all, all_cardinalities, pair_card}

-- what is known of the i-th node (R4.4, R4.5): its kind stands in the plan
unfoldable pub known_at : List ℕ → List ℕ → List ℕ → ℕ → PlanNode
known_at p starts heights i = record { start = get_or starts i 0; kind = get_or p (get_or starts i 0) 0; height = get_or heights i 0 }

-- the first n of them
unfoldable pub known_of : List ℕ → List ℕ → List ℕ → ℕ → List PlanNode
known_of p starts heights zero = []
known_of p starts heights (suc n) = known_of p starts heights n ++ (known_at p starts heights n ∷ [])

-- all of them
abbrev pub known : List ℕ → List ℕ → List ℕ → List PlanNode
known p starts heights = known_of p starts heights (length starts)

-- a list rises
pub record Rising (starts : List ℕ) : Type 0 where
  pub order : (i j : ℕ) → i < j → j < length starts → get_or starts i 0 < get_or starts j 0

-- the starts that were read rise and are positions of the plan, and each has a height
pub record Scanned (p starts heights : List ℕ) : Type 0 where
  pub rising : Rising starts
  pub tall : length heights ≡ length starts
  pub inside : (i : ℕ) → i < length starts → get_or starts i 0 < length p

-- what a search finds: the index of r, or that it is none of the list
abbrev pub Among : List ℕ → ℕ → Option ℕ → Type 0
Among starts r None = (j : ℕ) → j < length starts → get_or starts j 0 ≢ r
Among starts r (Some i) = (i < length starts) × (get_or starts i 0 ≡ r)

-- a height as the code answers it: none in place of 0, which is no height
unfoldable pub height_option : ℕ → Option ℕ
height_option zero = None
height_option (suc h) = Some (suc h)

-- the k-th reference of a node whose elements have so many words each
unfoldable pub element_ref : ℕ → List ℕ → ℕ → ℕ → ℕ
element_ref step p at k = get_or p (at + 2 + step * k) 0

-- the cardinalities of elements of two words are of the five; elements of one word have none
unfoldable pub cards_fit : ℕ → List ℕ → ℕ → ℕ → Bool
cards_fit step p at n = pick (eqb step 2) (all_cardinalities (pair_card p at) n) true

-- the height of a node with elements of so many words each; 0 where it is not well formed
unfoldable pub elements_height : ℕ → List ℕ → ℕ → List PlanNode → ℕ → ℕ → ℕ
elements_height step p at seen kind n = pick (cards_fit step p at n) (refer_all seen kind (element_ref step p at) n) 0
