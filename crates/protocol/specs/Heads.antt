-- The heads of containers and of their elements (R5.3 to R5.13), read in a container's own bytes s. A refusal's place is the container's, and
-- is given by who asks.
use Rattle.std.specs.Prelude.{ℕ, zero, suc, ◌+◌, ◌-◌, ◌^◌, ◌/◌, ◌%◌, Bool, true, false, not, List, leb, ltb, eqb, length, take, drop, get_or, Result, Ok, Err}
use Rattle.protocol.specs.Constants.{CONTAINER_END, BAD_HEAD, BAD_SIZE, INDEX_OUTSIDE, INDEX_TWICE, REQUIRED, CARDINALITY_ONE, CARDINALITY_AT_LEAST_ONE, ABSENT}
use Rattle.protocol.specs.Numbers.{pick, be}
use Rattle.forms.specs.declared.Opening.{Opening}
use Rattle.forms.specs.declared.Head.{Head}
use Rattle.forms.specs.declared.Head.TheVariants.{Present, Absent}

-- the number in the four bytes at a position
unfoldable pub word : List ℕ → ℕ → ℕ
word s at = be (take 4 (drop at s))

-- a number of 32 bits that is negative, as a signed one
unfoldable pub negative : ℕ → Bool
negative n = leb (2 ^ 31) n

-- ---- a container's own head: how many elements follow, the index of the first, and where it stands

abbrev pub opening : ℕ → ℕ → ℕ → Opening
opening n first at = record { count = n; first = first; at = at }

-- R5.4: the size of the one dimension, and its lower bound
unfoldable pub dimension : List ℕ → Result Opening ℕ
dimension s =
    pick (ltb (length s) 16) (Err CONTAINER_END)
    (pick (eqb (word s 12) 0) (Err BAD_HEAD)
    (pick (negative (word s 12)) (Err BAD_HEAD)
    (pick (ltb (length s) 20) (Err CONTAINER_END) (pick (eqb (word s 16) 1) (Ok (opening (word s 12) 0 20)) (Err BAD_HEAD)))))

-- R5.4: a set or an array, field by field: dimensions, eight reserved bytes, and the dimension where there is one
unfoldable pub set_opening : List ℕ → Result Opening ℕ
set_opening s =
    pick (ltb (length s) 4) (Err CONTAINER_END)
    (pick (ltb 1 (word s 0)) (Err BAD_HEAD)
    (pick (ltb (length s) 12) (Err CONTAINER_END) (pick (eqb (word s 0) 0) (Ok (opening 0 0 12)) (dimension s))))

-- R5.7, R5.8: a tuple or an output object has as many elements as its node
unfoldable pub count_opening : ℕ → List ℕ → Result Opening ℕ
count_opening n s =
    pick (ltb (length s) 4) (Err CONTAINER_END) (pick (eqb (word s 0) n) (Ok (opening n 0 4)) (Err BAD_HEAD))

-- R5.9
unfoldable pub sparse_opening : List ℕ → Result Opening ℕ
sparse_opening s =
    pick (ltb (length s) 4) (Err CONTAINER_END) (pick (negative (word s 0)) (Err BAD_HEAD) (Ok (opening (word s 0) 0 4)))

-- a bit of a range's flags
unfoldable pub flag : ℕ → ℕ → Bool
flag bit f = eqb (f / bit % 2) 1

-- R5.12: 01 is empty, 02 and 04 include the lower and the upper bound, 08 and 10 (hex) leave them out
unfoldable pub range_flags : ℕ → Bool
range_flags f =
    pick (eqb f 0x01) true
    (pick (flag 0x01 f) false
    (pick (leb 0x20 f) false
    (pick (pick (flag 0x02 f) (flag 0x08 f) false) false (not (pick (flag 0x04 f) (flag 0x10 f) false)))))

-- R5.13: the bounds that are there are the elements, the lower with index 0 and the upper with 1
unfoldable pub bounds : ℕ → Result Opening ℕ
bounds f =
    pick (eqb f 0x01) (Ok (opening 0 0 1))
    (pick (flag 0x08 f) (pick (flag 0x10 f) (Ok (opening 0 0 1)) (Ok (opening 1 1 1))) (pick (flag 0x10 f) (Ok (opening 1 0 1)) (Ok (opening 2 0 1))))

unfoldable pub range_opening : List ℕ → Result Opening ℕ
range_opening s =
    pick (ltb (length s) 1) (Err CONTAINER_END) (pick (range_flags (get_or s 0 0)) (bounds (get_or s 0 0)) (Err BAD_HEAD))

-- ---- an element's head at a position

-- R5.3: the data of an element, of `size` bytes from `start` on: the length is not negative, and the container holds the data
unfoldable pub element_in : List ℕ → ℕ → ℕ → ℕ → Result Head ℕ
element_in s i start size =
    pick (negative size) (Err BAD_SIZE) (pick (ltb (length s - start) size) (Err CONTAINER_END) (Ok (Present i start size)))

-- R5.11: an element that may be absent, unless it is required
unfoldable pub optional : List ℕ → Bool → ℕ → ℕ → ℕ → Result Head ℕ
optional s required i start size =
    pick (eqb size ABSENT) (pick required (Err REQUIRED) (Ok (Absent i start))) (element_in s i start size)

-- R5.5, R5.7, R5.13: a set's, an array's or a range's, with no reserved bytes before the length, or a tuple's, with four
unfoldable pub plain_head : List ℕ → ℕ → ℕ → ℕ → Result Head ℕ
plain_head s gap i at =
    pick (ltb (length s - at) (gap + 4)) (Err CONTAINER_END) (element_in s i (at + gap + 4) (word s (at + gap)))

-- R5.8: four reserved bytes, and the length
unfoldable pub object_head : List ℕ → Bool → ℕ → ℕ → Result Head ℕ
object_head s required i at =
    pick (ltb (length s - at) 8) (Err CONTAINER_END) (optional s required i (at + 8) (word s (at + 4)))

-- R5.6: an array in a set: the envelope's length, a 1, four reserved bytes, and the array's length, 12 less than the envelope's
unfoldable pub envelope_head : List ℕ → ℕ → ℕ → Result Head ℕ
envelope_head s i at =
    pick (ltb (length s - at) 16) (Err CONTAINER_END)
    (pick (eqb (word s (at + 4)) 1)
    (pick (negative (word s (at + 12))) (Err BAD_SIZE)
    (pick (negative (word s at)) (Err BAD_HEAD)
    (pick (eqb (word s at) (12 + word s (at + 12))) (element_in s i (at + 16) (word s (at + 12))) (Err BAD_HEAD))))
    (Err BAD_HEAD))

-- ---- a sparse object's elements (R5.9, R5.10)

-- the index on the wire, of n, with those marked that were given
unfoldable pub sparse_index : List ℕ → ℕ → List Bool → ℕ → Result ℕ ℕ
sparse_index s n marks at =
    pick (ltb (length s - at) 8) (Err CONTAINER_END)
    (pick (leb n (word s at)) (Err INDEX_OUTSIDE) (pick (get_or marks (word s at) false) (Err INDEX_TWICE) (Ok (word s at))))

-- R5.11
unfoldable pub requires : ℕ → Bool
requires card = pick (eqb card CARDINALITY_ONE) true (eqb card CARDINALITY_AT_LEAST_ONE)

unfoldable pub sparse_rest : List ℕ → List ℕ → ℕ → Result ℕ ℕ → Result Head ℕ
sparse_rest s cards at (Err n) = Err n
sparse_rest s cards at (Ok i) = optional s (requires (get_or cards i 0)) i (at + 8) (word s (at + 4))

unfoldable pub sparse_head : List ℕ → List ℕ → List Bool → ℕ → Result Head ℕ
sparse_head s cards marks at = sparse_rest s cards at (sparse_index s (length cards) marks at)

-- R5.14: one of the first n indexes is required and was not given
unfoldable pub lacking : List ℕ → List Bool → ℕ → Bool
lacking cards marks zero = false
lacking cards marks (suc n) = pick (lacking cards marks n) true (pick (requires (get_or cards n 0)) (not (get_or marks n false)) false)

-- ---- parts of a head

-- where the next element's head stands
unfoldable pub end_of : Result Head ℕ → ℕ
end_of (Ok (Present i at size)) = at + size
end_of (Ok (Absent i at)) = at
end_of (Err n) = 0

unfoldable pub index_of : Result Head ℕ → ℕ
index_of (Ok (Present i at size)) = i
index_of (Ok (Absent i at)) = i
index_of (Err n) = 0
