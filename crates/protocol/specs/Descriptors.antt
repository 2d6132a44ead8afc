-- Descriptors (R3): what their blocks say, how a block is read from its own bytes, and which descriptors are accepted. How a block's bytes are
-- found, and which place a refusal names, is said near the end, so that another form of descriptor needs no more than another `BlockForm`.
use Rattle.std.specs.Prelude.{ℕ, zero, suc, ◌+◌, ◌-◌, Bool, true, not, List, [], ◌∷◌, ◌++◌, map, leb, ltb, eqb, length, take, drop, get_or}
use Rattle.std.proofs.Math.Option
use Rattle.std.proofs.Math.Option.{Option, none, some}
use Rattle.std.proofs.Math.ListN.{get_elem?}
use Rattle.protocol.specs.Constants.{BAD_CONTENT, BAD_ID, BAD_REFERENCE, DESCRIPTOR_END, DESCRIPTOR_SIZE, FORMAT_MEMORY, MOST_BLOCKS}
use Rattle.protocol.specs.Constants.{MOST_DESCRIPTOR, MOST_HEIGHT, MOST_ITEMS, NAME_TWICE, NO_ROOT, TAG_ANNOTATION, TAG_ARRAY}
use Rattle.protocol.specs.Constants.{TAG_COMPOUND_TYPE, TAG_ENUMERATION, TAG_INPUT_SHAPE, TAG_NAMED_TUPLE, TAG_OBJECT_TYPE}
use Rattle.protocol.specs.Constants.{TAG_OUTPUT_SHAPE, TAG_RANGE, TAG_RECORD, TAG_SCALAR, TAG_SET, TAG_TUPLE, UNBOUNDED, UNKNOWN_TAG}
use Rattle.protocol.specs.Constants.{WRONG_KIND}
use Rattle.protocol.specs.Numbers.{pick, be, any, same_bytes, at_least}
use Rattle.protocol.specs.Text.{well_formed}
use Rattle.protocol.specs.Answers.{Outcome, refused, accepted}
use Rattle.protocol.specs.Messages.{is_cardinality}

-- ---- what a block says (R3.3)

abbrev pub Text : Type 0
Text = List ℕ

pub record OutputElement : Type 0 where
  pub flags : ℕ
  pub cardinal : ℕ
  pub name : Text
  pub type : ℕ
  pub source : ℕ

-- its flags are zero
pub record InputElement : Type 0 where
  pub cardinal : ℕ
  pub name : Text
  pub type : ℕ

pub record NamedElement : Type 0 where
  pub name : Text
  pub type : ℕ

-- name, schema_defined and ancestors; object and compound types have no ancestors
pub record Schema : Type 0 where
  pub name : Text
  pub defined : ℕ
  pub ancestors : List ℕ

abbrev pub rootless : Text → ℕ → Schema
rootless name defined = record { name = name; defined = defined; ancestors = [] }

-- a block after its id; a type is the index of a block
pub data BlockKind : Type 0 where
  set_of : (type : ℕ) → BlockKind
  output_shape : (free type : ℕ) → List OutputElement → BlockKind
  scalar_of : Schema → (format : ℕ) → BlockKind
  tuple_of : Schema → (types : List ℕ) → BlockKind
  named_tuple : Schema → List NamedElement → BlockKind
  array_of : Schema → (type : ℕ) → BlockKind
  enum_of : Schema → (members : List Text) → BlockKind
  input_shape : List InputElement → BlockKind
  range_of : Schema → (type : ℕ) → BlockKind
  object_type : Schema → BlockKind
  compound_type : Schema → (operation : ℕ) → (components : List ℕ) → BlockKind
  sql_record : List NamedElement → BlockKind

pub record Block : Type 0 where
  pub tag : ℕ
  pub id : ℕ
  pub kind : BlockKind
  pub height : ℕ

-- the types of its elements, in order
unfoldable pub types : BlockKind → List ℕ
types (set_of t) = t ∷ []
types (output_shape free t es) = map (λ (e : OutputElement). e.type) es
types (scalar_of s f) = []
types (tuple_of s ts) = ts
types (named_tuple s es) = map (λ (e : NamedElement). e.type) es
types (array_of s t) = t ∷ []
types (enum_of s ms) = []
types (input_shape es) = map (λ (e : InputElement). e.type) es
types (range_of s t) = t ∷ []
types (object_type s) = []
types (compound_type s o cs) = []
types (sql_record es) = []

-- how high the values of a block can be nested: over its elements by one, and at least 1 (R3.13)
unfoldable pub height_at : List Block → ℕ → ℕ
height_at bs t = get_or (map (λ (b : Block). b.height) bs) t 0

unfoldable pub height_over : List Block → ℕ → List ℕ → ℕ
height_over bs h [] = h
height_over bs h (t ∷ ts) = height_over bs (at_least h (height_at bs t + 1)) ts

-- Which blocks a reference may name: any with values; object and compound types; and what a set, an array and a range can hold (R3.11).
unfoldable pub has_values : Block → Bool
has_values b = not (any (eqb b.tag) (TAG_OBJECT_TYPE ∷ TAG_COMPOUND_TYPE ∷ TAG_RECORD ∷ []))

unfoldable pub of_objects : Block → Bool
of_objects b = any (eqb b.tag) (TAG_OBJECT_TYPE ∷ TAG_COMPOUND_TYPE ∷ [])

unfoldable pub set_element : Block → Bool
set_element b = not (any (eqb b.tag) (TAG_SET ∷ TAG_OBJECT_TYPE ∷ TAG_COMPOUND_TYPE ∷ TAG_RECORD ∷ []))

unfoldable pub array_element : Block → Bool
array_element b = not (any (eqb b.tag) (TAG_SET ∷ TAG_ARRAY ∷ TAG_OBJECT_TYPE ∷ TAG_COMPOUND_TYPE ∷ TAG_RECORD ∷ []))

unfoldable pub range_element : Block → Bool
range_element b = eqb b.tag TAG_SCALAR

-- The format that an id stands for: the nineteen from uuid on are in one row, memory stands apart (R3.15).
unfoldable pub format_by_id : ℕ → Option ℕ
format_by_id i = pick (ltb i 0x100) none (pick (ltb i 0x113) (some (i - 0x100)) (pick (eqb i 0x130) (some FORMAT_MEMORY) none))

-- ---- reading

-- the number of a refusal; or what was read, and the bytes that are left
pub data Parsed (A : Type 0) : Type 0 where
  unparsed : ℕ → Parsed A
  parsed : A → List ℕ → Parsed A

abbrev pub Reader : Type 0 → Type 0
Reader A = List ℕ → Parsed A

unfoldable pub parse_then : {A B : Type 0} → Parsed A → (A → Reader B) → Parsed B
parse_then (unparsed n) f = unparsed n
parse_then (parsed a s) f = f a s

abbrev pub ◌>>=◌ : {A B : Type 0} → Reader A → (A → Reader B) → Reader B
◌>>=◌ p f = λ s. parse_then (p s) f

abbrev pub give : {A : Type 0} → A → Reader A
give a = λ s. parsed a s

abbrev pub refuse : {A : Type 0} → ℕ → Reader A
refuse n = λ s. unparsed n

-- so many bytes, or 10: a field must be there whole before its rule is asked (R3.5)
unfoldable pub some_bytes : ℕ → Reader (List ℕ)
some_bytes n s = pick (leb n (length s)) (parsed (take n s) (drop n s)) (unparsed DESCRIPTOR_END)

-- a field that passes a rule, or a refusal
unfoldable pub passing : {A : Type 0} → ℕ → (A → Bool) → Reader A → Reader A
passing n rule field = do a ← field; pick (rule a) (give a) (refuse n)

-- ---- fields that look at no other; what their rule does not let through is 12 (R3.6)

unfoldable pub number_field : ℕ → Reader ℕ
number_field width = do s ← some_bytes width; give (be s)

unfoldable pub text_field : Reader Text
text_field = passing BAD_CONTENT well_formed do n ← number_field 4; some_bytes n

unfoldable pub bool_field : Reader ℕ
bool_field = passing BAD_CONTENT (λ v. leb v 1) (number_field 1)

unfoldable pub operation : Reader ℕ
operation = passing BAD_CONTENT (λ v. any (eqb v) (1 ∷ 2 ∷ [])) (number_field 1)

unfoldable pub cardinal_of : Reader ℕ
cardinal_of = passing BAD_CONTENT is_cardinality (number_field 1)

-- an output element has three flags, an input element none
unfoldable pub output_flags : Reader ℕ
output_flags = passing BAD_CONTENT (λ v. ltb v 8) (number_field 4)

unfoldable pub input_flags : Reader ℕ
input_flags = passing BAD_CONTENT (λ v. eqb v 0) (number_field 4)

-- arrays have one dimension, without a bound
unfoldable pub dimensions : Reader ℕ
dimensions = passing BAD_CONTENT (λ v. eqb v 1) (number_field 2)

unfoldable pub unbound : Reader ℕ
unbound = passing BAD_CONTENT (λ v. eqb v UNBOUNDED) (number_field 4)

-- how many items follow: more than 512 are 17, before any is read (R3.9)
unfoldable pub item_count : Reader ℕ
item_count = passing DESCRIPTOR_SIZE (λ n. leb n MOST_ITEMS) (number_field 2)

-- n items, each of which may look at those before it
unfoldable pub item_run : {A : Type 0} → (List A → Reader A) → ℕ → List A → Reader (List A)
item_run item zero before = give before
item_run item (suc n) before = do a ← item before; item_run item n (before ++ (a ∷ []))

-- a count, and as many items
unfoldable pub counted : {A : Type 0} → (List A → Reader A) → Reader (List A)
counted item = do n ← item_count; item_run item n []

-- a name that no element before has, or 16 (R3.8)
unfoldable pub new_name : List Text → Reader Text
new_name others = passing NAME_TWICE (λ t. not (any (λ o. same_bytes o t) others)) text_field

-- ---- fields that look at the blocks before theirs

module _ (earlier : List Block) where
  -- an id that is new and not zero, or 15 (R3.7)
  unfoldable pub new_id : Reader ℕ
  new_id = passing BAD_ID (λ i. not (any (eqb i) (0 ∷ map (λ (b : Block). b.id) earlier))) (number_field 16)

  -- the index of an earlier block, or 13 (R3.10); of one that fits, or 14 (R3.11)
  unfoldable pub refers_to : (Block → Bool) → ℕ → Option Block → Reader ℕ
  refers_to fits t none = refuse BAD_REFERENCE
  refers_to fits t (some b) = pick (fits b) (give t) (refuse WRONG_KIND)

  unfoldable pub reference : (Block → Bool) → Reader ℕ
  reference fits = do t ← number_field 2; refers_to fits t (get_elem? earlier t)

  unfoldable pub any_block : Reader ℕ
  any_block = reference (λ b. true)

  -- the references of an output shape to object types, which nobody looks at where it is free (R3.12)
  unfoldable pub object_reference : ℕ → Reader ℕ
  object_reference free = pick (eqb free 1) (number_field 2) (reference of_objects)

  -- the type of an element; over one of height 32 the block would be too high: 17, after 14 (R3.13)
  unfoldable pub element : (Block → Bool) → Reader ℕ
  element fits = passing DESCRIPTOR_SIZE (λ t. ltb (height_at earlier t) MOST_HEIGHT) (reference fits)

  -- ---- the blocks, each with its fields in their order (R3.3)

  unfoldable pub output_element : ℕ → Reader OutputElement
  output_element free = do
    flags ← output_flags
    cardinal ← cardinal_of
    name ← text_field
    type ← element has_values
    source ← object_reference free
    give (record { flags = flags; cardinal = cardinal; name = name; type = type; source = source })

  -- name, schema_defined, and for some ancestors
  unfoldable pub schema : Reader Schema
  schema = do name ← text_field; defined ← bool_field; ancestors ← counted (λ _. any_block); give (record { name = name; defined = defined; ancestors = ancestors })

  -- A scalar without a format of its own takes its last ancestor's: one must be there (12), and be a scalar with a format of its own
  -- (14). R3.16.
  unfoldable pub format_given : Option ℕ → Reader ℕ
  format_given none = refuse WRONG_KIND
  format_given (some f) = give f

  unfoldable pub format_from : Option Block → Reader ℕ
  format_from none = refuse BAD_REFERENCE
  format_from (some b) = format_given (pick (eqb b.tag TAG_SCALAR) (format_by_id b.id) none)

  unfoldable pub scalar_with : Option ℕ → ℕ → Text → ℕ → Reader BlockKind
  scalar_with (some f) n name defined = do
    ancestors ← item_run (λ _. any_block) n []
    give (scalar_of (record { name = name; defined = defined; ancestors = ancestors }) f)
  scalar_with none zero name defined = refuse BAD_CONTENT
  scalar_with none (suc n) name defined = do
    ancestors ← item_run (λ _. any_block) n []
    last ← any_block
    f ← format_from (get_elem? earlier last)
    give (scalar_of (record { name = name; defined = defined; ancestors = ancestors ++ (last ∷ []) }) f)

  unfoldable pub tuple_element : List NamedElement → Reader NamedElement
  tuple_element others = do name ← new_name (map (λ (e : NamedElement). e.name) others); type ← element has_values; give (record { name = name; type = type })

  unfoldable pub input_element : List InputElement → Reader InputElement
  input_element others = do
    _ ← input_flags
    cardinal ← cardinal_of
    name ← new_name (map (λ (e : InputElement). e.name) others)
    type ← element has_values
    give (record { cardinal = cardinal; name = name; type = type })

  unfoldable pub record_element : Reader NamedElement
  record_element = do name ← text_field; type ← any_block; give (record { name = name; type = type })

  -- an annotation is read like the others, and leaves no block (R3.4)
  unfoldable pub annotation_block : Reader (Option Block)
  annotation_block = do _ ← any_block; _ ← text_field; _ ← text_field; give none

  -- the fields after tag and id; the last are those of tag 13
  unfoldable pub fields_of : ℕ → ℕ → Reader BlockKind
  fields_of tag id =
      pick (eqb tag TAG_SET) (do type ← element set_element; give (set_of type))
      (pick (eqb tag TAG_OUTPUT_SHAPE) (do free ← bool_field; type ← object_reference free; es ← counted (λ _. output_element free); give (output_shape free type es))
      (pick (eqb tag TAG_SCALAR) (do name ← text_field; defined ← bool_field; n ← item_count; scalar_with (format_by_id id) n name defined)
      (pick (eqb tag TAG_TUPLE) (do s ← schema; types ← counted (λ _. element has_values); give (tuple_of s types))
      (pick (eqb tag TAG_NAMED_TUPLE) (do s ← schema; es ← counted tuple_element; give (named_tuple s es))
      (pick (eqb tag TAG_ARRAY) (do s ← schema; type ← element array_element; _ ← dimensions; _ ← unbound; give (array_of s type))
      (pick (eqb tag TAG_ENUMERATION) (do s ← schema; members ← counted (λ _. text_field); give (enum_of s members))
      (pick (eqb tag TAG_INPUT_SHAPE) (do es ← counted input_element; give (input_shape es))
      (pick (eqb tag TAG_RANGE) (do s ← schema; type ← element range_element; give (range_of s type))
      (pick (eqb tag TAG_OBJECT_TYPE) (do name ← text_field; defined ← bool_field; give (object_type (rootless name defined)))
      (pick (eqb tag TAG_COMPOUND_TYPE) (do name ← text_field; defined ← bool_field; op ← operation; cs ← counted (λ _. reference of_objects); give (compound_type (rootless name defined) op cs))
      (do es ← counted (λ _. record_element); give (sql_record es))))))))))))

  unfoldable pub indexed_block : ℕ → Reader (Option Block)
  indexed_block tag = do
    id ← new_id
    kind ← fields_of tag id
    give (some (record { tag = tag; id = id; kind = kind; height = height_over earlier 1 (types kind) }))

  -- an unknown tag is 11 (R3.2), and then one block too many 17 (R3.14)
  unfoldable pub tagged : ℕ → Reader (Option Block)
  tagged tag =
      pick (eqb tag TAG_ANNOTATION) annotation_block
      (pick (not (any (eqb tag)
      (TAG_SET ∷ TAG_OUTPUT_SHAPE ∷ TAG_SCALAR ∷ TAG_TUPLE ∷ TAG_NAMED_TUPLE ∷ TAG_ARRAY ∷ TAG_ENUMERATION ∷ TAG_INPUT_SHAPE ∷ TAG_RANGE ∷ TAG_OBJECT_TYPE ∷ TAG_COMPOUND_TYPE ∷ TAG_RECORD ∷ [])))
      (refuse UNKNOWN_TAG)
      (pick (leb MOST_BLOCKS (length earlier)) (refuse DESCRIPTOR_SIZE) (indexed_block tag)))

  -- a block in its bare form: tag and fields
  unfoldable pub block : Reader (Option Block)
  block [] = unparsed DESCRIPTOR_END
  block (tag ∷ s) = tagged tag s

-- ---- the blocks of a descriptor

-- how a block is read after those before it
abbrev pub BlockForm : Type 0
BlockForm = List Block → Reader (Option Block)

-- blocks that stand one after another, with nothing between them
abbrev pub bare_form : BlockForm
bare_form = block

unfoldable pub with_block : List Block → Option Block → List Block
with_block bs none = bs
with_block bs (some b) = bs ++ (b ∷ [])

-- what comes after a block, or its refusal, with the place of the block
unfoldable pub after_block : ℕ → List Block → Parsed (Option Block) → (List ℕ → List Block → Outcome (List Block)) → Outcome (List Block)
after_block place bs (unparsed n) rest = refused n place
after_block place bs (parsed b s) rest = rest s (with_block bs b)

module _ (form : BlockForm) (d : List ℕ) where
  -- A refusal's place is the block's first byte. Each block has one, so that the steps, one more than there are bytes, never run out.
  unfoldable pub read_blocks : ℕ → List ℕ → List Block → Outcome (List Block)
  read_blocks zero s bs = refused DESCRIPTOR_END (length d - length s)
  read_blocks (suc n) [] bs = accepted bs
  read_blocks (suc n) (x ∷ s) bs = after_block (length d - length (x ∷ s)) bs (form bs (x ∷ s)) (read_blocks n)

  unfoldable pub all_blocks : Outcome (List Block)
  all_blocks = read_blocks (suc (length d)) d []

-- ---- a whole descriptor (R3.17)

-- what an accepted descriptor describes: no type; or blocks, and the index of the root's
pub data DescribedType : Type 0 where
  no_type : DescribedType
  block_type : List Block → (root : ℕ) → DescribedType

-- the index of the block with an id, if it has values
unfoldable pub root_in : ℕ → List Block → Option ℕ
root_in i [] = none
root_in i (b ∷ bs) = pick (eqb b.id i) (pick (has_values b) (some 0) none) (Option.map suc (root_in i bs))

-- 18 if there is none, at the descriptor's end
unfoldable pub rooted_at : ℕ → List Block → Option ℕ → Outcome DescribedType
rooted_at size bs none = refused NO_ROOT size
rooted_at size bs (some k) = accepted (block_type bs k)

unfoldable pub rooted_blocks : ℕ → ℕ → Outcome (List Block) → Outcome DescribedType
rooted_blocks size i (refused n p) = refused n p
rooted_blocks size i (accepted bs) = rooted_at size bs (root_in i bs)

-- First the size (17, R3.14), then the root's id (18), then the blocks. An id of zero goes with no bytes, and names no type.
unfoldable pub describe : BlockForm → List ℕ → List ℕ → Outcome DescribedType
describe form d root =
    pick (ltb MOST_DESCRIPTOR (length d)) (refused DESCRIPTOR_SIZE 0)
    (pick (not (eqb (length root) 16)) (refused NO_ROOT (length d))
    (pick (not (eqb (be root) 0)) (rooted_blocks (length d) (be root) (all_blocks form d))
    (pick (eqb (length d) 0) (accepted no_type) (refused NO_ROOT (length d)))))
