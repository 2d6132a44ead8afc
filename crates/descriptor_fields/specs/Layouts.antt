-- Nobody has to believe these definitions: they are what the code says to itself of the fields of each block. A field's kind is a number
-- with a name; its size and its rule are in Fields. That they give what protocol's give is proved (descriptor_agree).
use Rattle.std.specs.Prelude.{ℕ, Bool, true, false, List, [], ◌∷◌, ◌++◌, leb, ltb, eqb, take}
use Rattle.descriptor_fields.specs.declared.kinds.BlockFields.{BlockFields}
use Rattle.protocol.specs.Numbers.{pick}

-- ---- the kinds of fields

-- the block's own id: 16 bytes
abbrev pub ID : ℕ
ID = 1

-- text
abbrev pub TEXT : ℕ
TEXT = 2

-- the name of an element of an input shape or a named tuple: text that no other element's name is
abbrev pub NAME : ℕ
NAME = 3

-- numbers of one byte: truth values, and one that says whether a shape is free
abbrev pub BOOL : ℕ
BOOL = 4

abbrev pub FREE : ℕ
FREE = 5

abbrev pub OPERATION : ℕ
OPERATION = 6

abbrev pub CARDINALITY : ℕ
CARDINALITY = 7

-- numbers of four bytes
abbrev pub SHAPE_FLAGS : ℕ
SHAPE_FLAGS = 8

abbrev pub INPUT_FLAGS : ℕ
INPUT_FLAGS = 9

abbrev pub BOUND : ℕ
BOUND = 10

-- numbers of two bytes, as are all that follow: how many dimensions an array has
abbrev pub DIMENSIONS : ℕ
DIMENSIONS = 11

-- how many items follow: ancestors; or elements, components or members
abbrev pub ANCESTORS : ℕ
ANCESTORS = 12

abbrev pub COUNT : ℕ
COUNT = 13

-- references: to an ancestor, to any earlier block, and to an object type
abbrev pub ANCESTOR : ℕ
ANCESTOR = 14

abbrev pub ANY : ℕ
ANY = 15

abbrev pub OBJECT : ℕ
OBJECT = 16

-- element references: of tuples and shapes, of sets, of arrays, of ranges
abbrev pub ELEMENT : ℕ
ELEMENT = 17

abbrev pub SET_ELEMENT : ℕ
SET_ELEMENT = 18

abbrev pub ARRAY_ELEMENT : ℕ
ARRAY_ELEMENT = 19

abbrev pub RANGE_ELEMENT : ℕ
RANGE_ELEMENT = 20

-- ---- the fields of a block

-- Fields, and then a run of items if a count was among them; and once more. A block has no run within a run.
pub record Layout : Type 0 where
  pub head : List ℕ
  pub first : List ℕ
  pub more : List ℕ
  pub last : List ℕ

-- a block with a name and ancestors, and what comes after them
abbrev pub typed : List ℕ → List ℕ → Layout
typed more last = record { head = ID ∷ TEXT ∷ BOOL ∷ ANCESTORS ∷ []; first = ANCESTOR ∷ []; more = more; last = last }

-- fields, and a run of items
abbrev pub simple : List ℕ → List ℕ → Layout
simple head first = record { head = head; first = first; more = []; last = [] }

-- the fields of each block, by its tag (R3.3)
unfoldable pub layout : ℕ → Layout
layout tag =
    -- set
    pick (eqb tag 0) (simple (ID ∷ SET_ELEMENT ∷ []) [])
    -- output shape
    (pick (eqb tag 1) (simple (ID ∷ FREE ∷ OBJECT ∷ COUNT ∷ []) (SHAPE_FLAGS ∷ CARDINALITY ∷ TEXT ∷ ELEMENT ∷ OBJECT ∷ []))
    -- tuple
    (pick (eqb tag 4) (typed (COUNT ∷ []) (ELEMENT ∷ []))
    -- named tuple
    (pick (eqb tag 5) (typed (COUNT ∷ []) (NAME ∷ ELEMENT ∷ []))
    -- array
    (pick (eqb tag 6) (typed (ARRAY_ELEMENT ∷ DIMENSIONS ∷ BOUND ∷ []) [])
    -- enumeration
    (pick (eqb tag 7) (typed (COUNT ∷ []) (TEXT ∷ []))
    -- input shape
    (pick (eqb tag 8) (simple (ID ∷ COUNT ∷ []) (INPUT_FLAGS ∷ CARDINALITY ∷ NAME ∷ ELEMENT ∷ []))
    -- range
    (pick (eqb tag 9) (typed (RANGE_ELEMENT ∷ []) [])
    -- object type
    (pick (eqb tag 10) (simple (ID ∷ TEXT ∷ BOOL ∷ []) [])
    -- compound type
    (pick (eqb tag 11) (simple (ID ∷ TEXT ∷ BOOL ∷ OPERATION ∷ COUNT ∷ []) (OBJECT ∷ []))
    -- record
    (pick (eqb tag 13) (simple (ID ∷ COUNT ∷ []) (TEXT ∷ ANY ∷ []))
    -- annotation
    (pick (eqb tag 127) (simple (ANY ∷ TEXT ∷ TEXT ∷ []) [])
    -- scalar
    (typed [] []))))))))))))

-- the known tags (R3.2)
unfoldable pub known_tag : ℕ → Bool
known_tag tag =
    pick (leb tag 1) true (pick (ltb tag 3) false (pick (leb tag 11) true (pick (eqb tag 13) true (eqb tag 127))))

-- an annotation has no index (R3.4)
unfoldable pub indexed : ℕ → Bool
indexed tag = pick (eqb tag 127) false true

-- blocks with values (R3.2)
unfoldable pub valued : ℕ → Bool
valued tag = pick (eqb tag 10) false (pick (eqb tag 11) false (pick (eqb tag 13) false true))

-- object and compound types
unfoldable pub object_type : ℕ → Bool
object_type tag = pick (eqb tag 10) true (eqb tag 11)

-- the kinds of fields that the code's run of numbers names, up to the first 0
unfoldable pub up_to_end : List ℕ → List ℕ
up_to_end [] = []
up_to_end (c ∷ cs) = pick (eqb c 0) [] (c ∷ up_to_end cs)

-- the layout that the code's four runs of numbers name
abbrev pub spelled : BlockFields → Layout
spelled b = record { head = up_to_end b.head; first = up_to_end b.first; more = up_to_end b.more; last = up_to_end b.last }

-- and the other way round: kinds of fields as the code's run of six numbers, with 0 after them, and a layout as its four runs
unfoldable pub padded : List ℕ → List ℕ
padded cs = take 6 (cs ++ 0 ∷ 0 ∷ 0 ∷ 0 ∷ 0 ∷ 0 ∷ [])

abbrev pub encoded : Layout → BlockFields
encoded l = record { head = padded l.head; first = padded l.first; more = padded l.more; last = padded l.last }

-- the runs of a block with a name and ancestors, and of one with fields and a run of items
abbrev pub typed_runs : List ℕ → List ℕ → BlockFields
typed_runs more last = record { head = padded (typed [] []).head; first = padded (typed [] []).first; more = more; last = last }

abbrev pub simple_runs : List ℕ → List ℕ → BlockFields
simple_runs head first = record { head = head; first = first; more = padded []; last = padded [] }
