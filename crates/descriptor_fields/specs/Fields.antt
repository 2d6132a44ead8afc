-- Nobody has to believe these definitions: they are what the code says to itself of one field of a block, its size, its rule and what is
-- kept of it, by places in the descriptor d; that they give what protocol's give is proved (descriptor_agree).
use Rattle.std.specs.Prelude.{ℕ, suc, ◌+◌, ◌-◌, Bool, true, false, List, [], ◌∷◌, ◌++◌, leb, ltb, eqb, length, take, drop, get_or}
use Rattle.std.specs.Prelude.{Result, Ok, Err, Option, Some, None, is_some, is_none}
use Rattle.std.specs.Option.{option_map}
use Rattle.descriptor_fields.specs.Layouts.{ID, NAME, FREE, OPERATION, CARDINALITY, SHAPE_FLAGS, INPUT_FLAGS, BOUND, DIMENSIONS}
use Rattle.descriptor_fields.specs.Layouts.{ANCESTORS, COUNT, ANCESTOR, ANY, OBJECT, ELEMENT, SET_ELEMENT, ARRAY_ELEMENT, valued}
use Rattle.descriptor_fields.specs.Layouts.{object_type}
use Rattle.descriptor_fields.specs.declared.Draft.{Draft}
use Rattle.protocol.specs.Numbers.{pick, be, any, same_bytes, at_least}
use Rattle.protocol.specs.Text.{well_formed}
use Rattle.protocol.specs.Messages.{is_cardinality}

-- what the rules ask of an earlier block: where its tag stands, its tag, its height, and the word of the plan at which its node starts
pub record Known : Type 0 where
  pub start : ℕ
  pub tag : ℕ
  pub height : ℕ
  pub node : ℕ

-- an element of the block: where its name's text starts, the block that it refers to, and its cardinality
pub record Element : Type 0 where
  pub name : ℕ
  pub ref : ℕ
  pub card : ℕ

-- ---- ids, texts and numbers

-- an id as the number of its 16 bytes
unfoldable pub id_at : List ℕ → ℕ → ℕ
id_at d at = be (take 16 (drop at d))

-- the format that an id stands for (R3.15)
unfoldable pub format_of : ℕ → Option ℕ
format_of i = pick (ltb i 0x100) None (pick (ltb i 0x113) (Some (i - 0x100)) (pick (eqb i 0x130) (Some 19) None))

-- the content of a text, after its length
unfoldable pub text_at : List ℕ → ℕ → List ℕ
text_at d at = take (be (take 4 (drop at d))) (drop (at + 4) d)

unfoldable pub width_of : ℕ → ℕ
width_of c = pick (leb c CARDINALITY) 1 (pick (leb c BOUND) 4 2)

-- the number that a field is
unfoldable pub number_at : List ℕ → ℕ → ℕ → ℕ
number_at d c at = be (take (width_of c) (drop at d))

-- the bytes of a field, at least those that say how many there are
unfoldable pub extent : List ℕ → ℕ → ℕ → ℕ
extent d c at =
    pick (eqb c ID) 16 (pick (leb c NAME) (pick (leb (at + 4) (length d)) (4 + be (take 4 (drop at d))) 4) (width_of c))

-- a format as a word: 20 is none
abbrev pub format_number : Option ℕ → ℕ
format_number None = 20
format_number (Some f) = f

-- ---- the rules: nothing more to say, or the number of a refusal

abbrev pub Verdict : Type 0
Verdict = Result (Unit {0}) ℕ

abbrev pub fine : Verdict
fine = Ok tt

-- an earlier block has the id (R3.7)
unfoldable pub taken : List ℕ → List Known → ℕ → Bool
taken d known i = any (λ k. eqb (id_at d (k.start + 1)) i) known

-- the index of the first earlier block with an id
unfoldable pub index_in : List ℕ → List Known → ℕ → Option ℕ
index_in d [] i = None
index_in d (k ∷ ks) i = pick (eqb (id_at d (k.start + 1)) i) (Some 0) (option_map suc (index_in d ks i))

unfoldable pub id_fault : List ℕ → List Known → ℕ → Verdict
id_fault d known i = pick (eqb i 0) (Err 15) (pick (taken d known i) (Err 15) fine)

-- an element before has the name (R3.8)
unfoldable pub named : List ℕ → List Element → ℕ → Bool
named d es at = any (λ e. same_bytes (text_at d e.name) (text_at d at)) es

unfoldable pub text_fault : List ℕ → List Element → ℕ → ℕ → Verdict
text_fault d es c at = pick (well_formed (text_at d at)) (pick (eqb c NAME) (pick (named d es at) (Err 16) fine) fine) (Err 12)

-- the contents that a number may have (R3.6)
unfoldable pub permits : ℕ → ℕ → Bool
permits c v =
    pick (leb c FREE) (leb v 1)
    (pick (eqb c OPERATION) (pick (eqb v 1) true (eqb v 2))
    (pick (eqb c CARDINALITY) (is_cardinality v)
    (pick (eqb c SHAPE_FLAGS) (ltb v 8)
    (pick (eqb c INPUT_FLAGS) (eqb v 0)
    (pick (eqb c BOUND) (eqb v 0xffffffff) (eqb v 1))))))

unfoldable pub number_fault : ℕ → ℕ → Verdict
number_fault c v = pick (permits c v) fine (Err 12)

-- a scalar whose format is yet to come, from its last ancestor (R3.16)
unfoldable pub formatless : ℕ → Draft → Bool
formatless tag x = pick (eqb tag 3) (is_none x.format) false

-- more items than a block may have are 17 (R3.9); a scalar that needs an ancestor and has none is 12 (R3.16)
unfoldable pub count_fault : ℕ → ℕ → Draft → ℕ → Verdict
count_fault tag c x v =
    pick (ltb 512 v) (Err 17) (pick (eqb c ANCESTORS) (pick (eqb v 0) (pick (formatless tag x) (Err 12) fine) fine) fine)

-- the ancestor that the format comes from
unfoldable pub decides : ℕ → Draft → Bool
decides tag x = pick (formatless tag x) (eqb x.left 1) false

-- the format of a scalar by its own id
unfoldable pub format_by : List ℕ → Known → Option ℕ
format_by d k = pick (eqb k.tag 3) (format_of (id_at d (k.start + 1))) None

-- the blocks that a reference may name (R3.11)
unfoldable pub fits : List ℕ → ℕ → ℕ → Draft → Known → Bool
fits d tag c x k =
    pick (eqb c ANCESTOR) (pick (decides tag x) (is_some (format_by d k)) true)
    (pick (eqb c ANY) true
    (pick (eqb c OBJECT) (object_type k.tag)
    (pick (eqb c ELEMENT) (valued k.tag)
    (pick (eqb c SET_ELEMENT) (pick (eqb k.tag 0) false (valued k.tag))
    (pick (eqb c ARRAY_ELEMENT) (pick (eqb k.tag 0) false (pick (eqb k.tag 6) false (valued k.tag))) (eqb k.tag 3))))))

-- 14 for a block that may not stand there (R3.11), and then 17 for one that is too high (R3.13)
unfoldable pub kind_fault : List ℕ → ℕ → ℕ → Draft → Known → Verdict
kind_fault d tag c x k = pick (fits d tag c x k) (pick (leb ELEMENT c) (pick (leb 32 k.height) (Err 17) fine) fine) (Err 14)

abbrev pub no_block : Known
no_block = record { start = 0; tag = 0; height = 0; node = 0 }

-- 13 where there is no such block (R3.10); object types of a free shape are not looked at (R3.12)
unfoldable pub ref_fault : List ℕ → List Known → ℕ → ℕ → Draft → ℕ → Verdict
ref_fault d known tag c x v =
    pick (pick (eqb c OBJECT) (eqb x.free 1) false) fine
    (pick (ltb v (length known)) (kind_fault d tag c x (get_or known v no_block)) (Err 13))

unfoldable pub fault : List ℕ → List Known → ℕ → ℕ → Draft → List Element → Verdict
fault d known tag c x es =
    pick (eqb c ID) (id_fault d known (id_at d x.at))
    (pick (leb c NAME) (text_fault d es c x.at)
    (pick (leb c DIMENSIONS) (number_fault c (number_at d c x.at))
    (pick (leb c COUNT) (count_fault tag c x (number_at d c x.at)) (ref_fault d known tag c x (number_at d c x.at)))))

-- ---- what is kept

-- the format, after the id or the ancestor that decides it
unfoldable pub format_after : List ℕ → List Known → ℕ → ℕ → Draft → Option ℕ
format_after d known tag c x =
    pick (eqb c ID) (format_of (id_at d x.at))
    (pick (eqb c ANCESTOR) (pick (decides tag x) (format_by d (get_or known (number_at d c x.at) no_block)) x.format) x.format)

-- the height, after an element's reference (R3.13)
unfoldable pub height_after : List ℕ → List Known → ℕ → Draft → ℕ
height_after d known c x =
    pick (leb ELEMENT c) (at_least x.height ((get_or known (number_at d c x.at) no_block).height + 1)) x.height

unfoldable pub kept : List ℕ → List Known → ℕ → ℕ → Draft → Draft
kept d known tag c x =
    record {
      at = x.at + extent d c x.at;
      left = pick (eqb c ANCESTORS) (number_at d c x.at) (pick (eqb c COUNT) (number_at d c x.at) x.left);
      free = pick (eqb c FREE) (number_at d c x.at) x.free;
      format = format_after d known tag c x;
      height = height_after d known c x;
      card = pick (eqb c CARDINALITY) (number_at d c x.at) x.card;
      name = pick (eqb c NAME) x.at x.name;
      count = pick (leb ELEMENT c) (x.count + 1) x.count;
    }

-- the elements, with one more after an element reference
unfoldable pub grown : List ℕ → ℕ → Draft → List Element → List Element
grown d c x es =
    pick (leb ELEMENT c) (es ++ (record { name = x.name; ref = number_at d c x.at; card = x.card } ∷ [])) es
