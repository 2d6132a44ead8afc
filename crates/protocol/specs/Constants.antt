-- Numbers that have a name: the same names are in the header and, for the code, in the crate `constants`.
use Rattle.std.specs.Prelude.{ℕ, ◌-◌, ◌^◌}

-- ---- Largest sizes (R1.4)

-- a message's length field
abbrev pub MOST_LENGTH : ℕ
MOST_LENGTH = 65535

-- a message's head: its type byte and its length field (R2.2)
abbrev pub MESSAGE_HEAD : ℕ
MESSAGE_HEAD = 5

-- the bytes of a descriptor
abbrev pub MOST_DESCRIPTOR : ℕ
MOST_DESCRIPTOR = 65535

-- the bytes of a value
abbrev pub MOST_VALUE : ℕ
MOST_VALUE = 65535

-- the blocks of a descriptor that have an index, and the nodes of a plan
abbrev pub MOST_BLOCKS : ℕ
MOST_BLOCKS = 1024

-- the items of one count in a block, and the elements of a node
abbrev pub MOST_ITEMS : ℕ
MOST_ITEMS = 512

-- the height of a block or a node
abbrev pub MOST_HEIGHT : ℕ
MOST_HEIGHT = 32

-- the words of a run that crosses to C
abbrev pub MOST_WORDS : ℕ
MOST_WORDS = 8192

-- the same in bytes
abbrev pub ROOM : ℕ
ROOM = 32768

-- ---- Refusal numbers (R1.3)

-- the message is not whole yet
abbrev pub NOT_WHOLE : ℕ
NOT_WHOLE = 1

-- a length field that no message has
abbrev pub BAD_LENGTH : ℕ
BAD_LENGTH = 2

-- a type byte that the side does not know
abbrev pub UNKNOWN_TYPE : ℕ
UNKNOWN_TYPE = 3

-- a field goes on past the message's end
abbrev pub FIELD_PAST_END : ℕ
FIELD_PAST_END = 4

-- bytes of the message after its last field
abbrev pub BYTES_LEFT : ℕ
BYTES_LEFT = 5

-- a field's content
abbrev pub BAD_FIELD : ℕ
BAD_FIELD = 6

-- the descriptor ends before the field does
abbrev pub DESCRIPTOR_END : ℕ
DESCRIPTOR_END = 10

-- a tag that no block has
abbrev pub UNKNOWN_TAG : ℕ
UNKNOWN_TAG = 11

-- a field's content
abbrev pub BAD_CONTENT : ℕ
BAD_CONTENT = 12

-- a reference that no earlier block has as its index
abbrev pub BAD_REFERENCE : ℕ
BAD_REFERENCE = 13

-- a reference to a block that may not stand there
abbrev pub WRONG_KIND : ℕ
WRONG_KIND = 14

-- an id of zero, or one that an earlier block has
abbrev pub BAD_ID : ℕ
BAD_ID = 15

-- a name that an earlier element has
abbrev pub NAME_TWICE : ℕ
NAME_TWICE = 16

-- more than a descriptor may have
abbrev pub DESCRIPTOR_SIZE : ℕ
DESCRIPTOR_SIZE = 17

-- no root, or one without values
abbrev pub NO_ROOT : ℕ
NO_ROOT = 18

-- a container ends before a head or an element does
abbrev pub CONTAINER_END : ℕ
CONTAINER_END = 20

-- bytes after the last element of a container
abbrev pub VALUE_LEFT : ℕ
VALUE_LEFT = 21

-- a field of a head
abbrev pub BAD_HEAD : ℕ
BAD_HEAD = 22

-- a length that no element here has
abbrev pub BAD_SIZE : ℕ
BAD_SIZE = 23

-- the content of a scalar or an enumeration
abbrev pub BAD_SCALAR : ℕ
BAD_SCALAR = 24

-- an index that the shape does not have
abbrev pub INDEX_OUTSIDE : ℕ
INDEX_OUTSIDE = 25

-- an index that was given before
abbrev pub INDEX_TWICE : ℕ
INDEX_TWICE = 26

-- a required element that is not there
abbrev pub REQUIRED : ℕ
REQUIRED = 27

-- a value of too many bytes
abbrev pub VALUE_SIZE : ℕ
VALUE_SIZE = 28

-- too little room for the plan
abbrev pub PLAN_ROOM : ℕ
PLAN_ROOM = 30

-- too little room for the list
abbrev pub LIST_ROOM : ℕ
LIST_ROOM = 31

-- too little room for the output
abbrev pub OUTPUT_ROOM : ℕ
OUTPUT_ROOM = 32

-- a plan that is not well formed
abbrev pub BAD_PLAN : ℕ
BAD_PLAN = 33

-- a supply that no accepted value has
abbrev pub NO_VALUE : ℕ
NO_VALUE = 34

-- a path that leads to no entry
abbrev pub NO_ENTRY : ℕ
NO_ENTRY = 35

-- a path that leads to an absent element
abbrev pub ABSENT_ELEMENT : ℕ
ABSENT_ELEMENT = 36

-- an element that is not one number
abbrev pub NO_NUMBER : ℕ
NO_NUMBER = 37

-- ---- Sides (R2.4)

-- of a message that the client sends
abbrev pub CLIENT : ℕ
CLIENT = 0

-- of one that the server sends
abbrev pub SERVER : ℕ
SERVER = 1

-- ---- Cardinalities (R2.10)

-- none
abbrev pub CARDINALITY_NONE : ℕ
CARDINALITY_NONE = 0x6e

-- at most one
abbrev pub CARDINALITY_AT_MOST_ONE : ℕ
CARDINALITY_AT_MOST_ONE = 0x6f

-- one
abbrev pub CARDINALITY_ONE : ℕ
CARDINALITY_ONE = 0x41

-- many
abbrev pub CARDINALITY_MANY : ℕ
CARDINALITY_MANY = 0x6d

-- at least one
abbrev pub CARDINALITY_AT_LEAST_ONE : ℕ
CARDINALITY_AT_LEAST_ONE = 0x4d

-- ---- Tags of blocks (R3.2)

abbrev pub TAG_SET : ℕ
TAG_SET = 0

abbrev pub TAG_OUTPUT_SHAPE : ℕ
TAG_OUTPUT_SHAPE = 1

abbrev pub TAG_SCALAR : ℕ
TAG_SCALAR = 3

abbrev pub TAG_TUPLE : ℕ
TAG_TUPLE = 4

abbrev pub TAG_NAMED_TUPLE : ℕ
TAG_NAMED_TUPLE = 5

abbrev pub TAG_ARRAY : ℕ
TAG_ARRAY = 6

abbrev pub TAG_ENUMERATION : ℕ
TAG_ENUMERATION = 7

abbrev pub TAG_INPUT_SHAPE : ℕ
TAG_INPUT_SHAPE = 8

abbrev pub TAG_RANGE : ℕ
TAG_RANGE = 9

abbrev pub TAG_OBJECT_TYPE : ℕ
TAG_OBJECT_TYPE = 10

abbrev pub TAG_COMPOUND_TYPE : ℕ
TAG_COMPOUND_TYPE = 11

abbrev pub TAG_RECORD : ℕ
TAG_RECORD = 13

abbrev pub TAG_ANNOTATION : ℕ
TAG_ANNOTATION = 127

-- the bound of an array that has none, -1 (R3.6)
abbrev pub UNBOUNDED : ℕ
UNBOUNDED = 0xffffffff

-- ---- Formats of scalars (R3.15)

abbrev pub FORMAT_UUID : ℕ
FORMAT_UUID = 0

abbrev pub FORMAT_STR : ℕ
FORMAT_STR = 1

abbrev pub FORMAT_BYTES : ℕ
FORMAT_BYTES = 2

abbrev pub FORMAT_INT16 : ℕ
FORMAT_INT16 = 3

abbrev pub FORMAT_INT32 : ℕ
FORMAT_INT32 = 4

abbrev pub FORMAT_INT64 : ℕ
FORMAT_INT64 = 5

abbrev pub FORMAT_FLOAT32 : ℕ
FORMAT_FLOAT32 = 6

abbrev pub FORMAT_FLOAT64 : ℕ
FORMAT_FLOAT64 = 7

abbrev pub FORMAT_DECIMAL : ℕ
FORMAT_DECIMAL = 8

abbrev pub FORMAT_BOOL : ℕ
FORMAT_BOOL = 9

abbrev pub FORMAT_DATETIME : ℕ
FORMAT_DATETIME = 10

abbrev pub FORMAT_LOCAL_DATETIME : ℕ
FORMAT_LOCAL_DATETIME = 11

abbrev pub FORMAT_LOCAL_DATE : ℕ
FORMAT_LOCAL_DATE = 12

abbrev pub FORMAT_LOCAL_TIME : ℕ
FORMAT_LOCAL_TIME = 13

abbrev pub FORMAT_DURATION : ℕ
FORMAT_DURATION = 14

abbrev pub FORMAT_JSON : ℕ
FORMAT_JSON = 15

abbrev pub FORMAT_BIGINT : ℕ
FORMAT_BIGINT = 16

abbrev pub FORMAT_RELATIVE_DURATION : ℕ
FORMAT_RELATIVE_DURATION = 17

abbrev pub FORMAT_DATE_DURATION : ℕ
FORMAT_DATE_DURATION = 18

abbrev pub FORMAT_MEMORY : ℕ
FORMAT_MEMORY = 19

-- how many there are
abbrev pub FORMATS : ℕ
FORMATS = 20

-- the last microsecond of a day (R5.15)
abbrev pub MOST_LOCAL_TIME : ℕ
MOST_LOCAL_TIME = 86399999999

-- ---- Kinds of nodes (R4.2)

abbrev pub KIND_LEAF : ℕ
KIND_LEAF = 1

abbrev pub KIND_SET_OR_ARRAY : ℕ
KIND_SET_OR_ARRAY = 2

abbrev pub KIND_SET_OF_ARRAYS : ℕ
KIND_SET_OF_ARRAYS = 3

abbrev pub KIND_TUPLE : ℕ
KIND_TUPLE = 4

abbrev pub KIND_OUTPUT_OBJECT : ℕ
KIND_OUTPUT_OBJECT = 5

abbrev pub KIND_INPUT_OBJECT : ℕ
KIND_INPUT_OBJECT = 6

abbrev pub KIND_RANGE : ℕ
KIND_RANGE = 7

abbrev pub KIND_ENUMERATION : ℕ
KIND_ENUMERATION = 8

-- ---- Lists (R6.1, R6.5)

-- the words of an entry
abbrev pub ENTRY_WORDS : ℕ
ENTRY_WORDS = 5

-- the length word of an element that is absent: -1
abbrev pub ABSENT : ℕ
ABSENT = 2 ^ 32 - 1
