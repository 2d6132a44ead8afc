-- Nobody has to believe these definitions: they are the words of a block's node as the code puts them out.
use Rattle.std.specs.Prelude.{◌≡◌, ℕ, ◌+◌, List, [], ◌∷◌, map, eqb, length, get_or}
use Rattle.std.proofs.lemmas.List.Edits.{sets}
use Rattle.descriptor_fields.specs.Fields.{Known, no_block, Element}
use Rattle.descriptor_blocks.specs.Descriptor.{refs, cards, node_at}
use Rattle.protocol.specs.Numbers.{pick}
use Rattle.protocol.specs.Compiling.{ref_cards}

-- words put out from a place on, as far as the list has room, and the place after them
pub record Puts (ws : List ℕ) (to r : ℕ) (l l' : List ℕ) : Type 0 where
  pub end : r ≡ to + length ws
  pub words : l' ≡ sets l to ws

-- a set, an array or a range: its kind, and its reference
unfoldable pub single_kind : List Known → ℕ → ℕ → ℕ
single_kind known tag r =
    pick (eqb tag 9) 7 (pick (eqb tag 0) (pick (eqb (get_or known r no_block).tag 6) 3 2) 2)

unfoldable pub single_words : List Known → ℕ → ℕ → List ℕ
single_words known tag r = single_kind known tag r ∷ node_at known r ∷ []

-- an object or a tuple: its kind, the number of its elements, and their references, of an object with their cardinalities
unfoldable pub many_kind : ℕ → ℕ
many_kind tag = pick (eqb tag 1) 5 (pick (eqb tag 8) 6 4)

unfoldable pub many_words : List Known → ℕ → List Element → List ℕ
many_words known tag es =
    many_kind tag ∷ length es
    ∷ pick (eqb (many_kind tag) 4) (map (node_at known) (refs es)) (ref_cards (map (node_at known) (refs es)) (cards es))
