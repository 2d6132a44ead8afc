-- What is made of a source that is bytes is bytes: each part of it is a number's
-- bytes, zeros, or bytes of the source. By induction over the building.
use mathlib.Core.Path.{◌≡◌}
use mathlib.Core.Bool.{Bool}
use mathlib.Core.List.{List, [], ◌∷◌, ◌++◌}
use mathlib.Core.Option.{Option, none, some}
use Prim.Native.Nat.{ℕ, zero, suc, ◌+◌, ◌<◌}
use lib.Dec.{lit<}
use lib.ListN.{length, get_or}
use Rattle.std.specs.Prelude.{Result, Ok, Err}
use Rattle.wire.proofs.Numbers.{bytes_append, bytes_below}
use Rattle.wire.proofs.Picks.{pick_case}
use Rattle.forms.specs.declared.Opening.{Opening}
use Rattle.supply_laws.proofs.Fields.{Bytes, bytes_part}
use Rattle.protocol.specs.Numbers.{bytes_be}
use Rattle.protocol.specs.Constants.{ABSENT}
use Rattle.protocol.specs.Heads.{bounds}
use Rattle.protocol.specs.Nodes.{Node, leaf, enum, row, arrays, tuple, object, sparse, range, ref_at}
use Rattle.protocol.specs.Values.{no_marks}
use Rattle.protocol.specs.Supplies.{zeros, Claim, Next, short, next, next_of}
use Rattle.protocol.specs.Building.{Made, wrong, made, made_before, then_made, Builder, Front, no_front, front, set_bytes, bounds_front}
use Rattle.protocol.specs.Building.{range_front, count_front, front_of, head_bytes, Order, row_order, sparse_order, absent_made, headed, part_made}
use Rattle.protocol.specs.Building.{member_made, state_after, elements_made, leaf_made, row_made, sparse_made, node_made, entry_made, build}
use Rattle.protocol.specs.Building.{build_of, made_by, supplied_by}
use Rattle.protocol.specs.Answers.{Put, refused_put, put_out}

-- ---- heads

zeros_bytes : (n : ℕ) → Bytes (zeros n)
zeros_bytes zero i = lit< tt
zeros_bytes (suc n) zero = lit< tt
zeros_bytes (suc n) (suc i) = zeros_bytes n i

-- one number after the other
two_bytes : (a b : ℕ) → Bytes (bytes_be 4 a ++ bytes_be 4 b)
two_bytes a b = bytes_append (bytes_be 4 a) (bytes_be 4 b) (bytes_below 4 a) (bytes_below 4 b)

gap_bytes : (n : ℕ) (x : List ℕ) → Bytes x → Bytes (zeros n ++ x)
gap_bytes n x h = bytes_append (zeros n) x (zeros_bytes n) h

head_bytes_lem : (v : Node) (i n : ℕ) → Bytes (head_bytes v i n)
unfolding head_bytes
head_bytes_lem (leaf f) i n = λ j. lit< tt
head_bytes_lem enum i n = λ j. lit< tt
head_bytes_lem (row r) i n = bytes_below 4 n
head_bytes_lem (arrays r) i n =
    bytes_append (bytes_be 4 (12 + n)) _ (bytes_below 4 (12 + n))
    (bytes_append (bytes_be 4 1) _ (bytes_below 4 1) (gap_bytes 4 (bytes_be 4 n) (bytes_below 4 n)))
head_bytes_lem (tuple refs) i n = gap_bytes 4 (bytes_be 4 n) (bytes_below 4 n)
head_bytes_lem (object refs cards) i n = gap_bytes 4 (bytes_be 4 n) (bytes_below 4 n)
head_bytes_lem (sparse refs cards) i n = two_bytes i n
head_bytes_lem (range r) i n = bytes_below 4 n

abbrev FrontBytes : Front → Type 0
FrontBytes no_front = Unit {0}
FrontBytes (front b first) = Bytes b

set_bytes_lem : (n : ℕ) → Bytes (set_bytes n)
unfolding set_bytes
set_bytes_lem n =
    pick_case Bytes _ _ _ (λ _. zeros_bytes 12)
    (λ _. bytes_append (bytes_be 4 1) _ (bytes_below 4 1) (gap_bytes 8 (bytes_be 4 n ++ bytes_be 4 1) (two_bytes n 1)))

count_bytes : (n : ℕ) (c : Claim) → FrontBytes (count_front n c)
unfolding count_front
count_bytes n c = pick_case FrontBytes _ _ _ (λ _. bytes_below 4 n) (λ _. tt)

module _ (flags n : ℕ) (small : flags < 256) where
  flag_bytes : Bytes (flags ∷ [])
  flag_bytes zero = small
  flag_bytes (suc i) = lit< tt

  bounds_bytes : (o : Result Opening ℕ) → FrontBytes (bounds_front flags n o)
  unfolding bounds_front
  bounds_bytes (Err m) = tt
  bounds_bytes (Ok o) = pick_case FrontBytes _ _ _ (λ _. flag_bytes) (λ _. tt)

-- ---- values

abbrev MadeBytes : Made → Type 0
MadeBytes wrong = Unit {0}
MadeBytes (made b ws) = Bytes b

before_bytes : (b : List ℕ) (m : Made) → Bytes b → MadeBytes m → MadeBytes (made_before b m)
unfolding made_before
before_bytes b wrong h g = tt
before_bytes b (made c ws) h g = bytes_append b c h g

then_bytes : (m : Made) (f : List ℕ → Made) → MadeBytes m → ((ws : List ℕ) → MadeBytes (f ws)) → MadeBytes (then_made m f)
unfolding then_made
then_bytes wrong f h g = tt
then_bytes (made b ws) f h g = before_bytes b (f ws) h (g ws)

headed_bytes : (v : Node) (i : ℕ) (m : Made) → MadeBytes m → MadeBytes (headed v i m)
unfolding headed
headed_bytes v i wrong h = tt
headed_bytes v i (made b ws) h = bytes_append (head_bytes v i (length b)) b (head_bytes_lem v i (length b)) h

absent_bytes : (v : Node) (r : ℕ) (c : Claim) (ws : List ℕ) → MadeBytes (absent_made v r c ws)
unfolding absent_made
absent_bytes v r c ws =
    pick_case MadeBytes _ _ _
    (λ _. pick_case MadeBytes _ _ _ (λ _. pick_case MadeBytes _ _ _ (λ _. head_bytes_lem v c.index ABSENT) (λ _. tt)) (λ _. tt))
    (λ _. tt)

module _ (rule : Builder) (inner : (k i : ℕ) (ws : List ℕ) → MadeBytes (rule k i ws)) (v : Node) where
  part_bytes : (o : Option ℕ) (c : Claim) (rest ws : List ℕ) → MadeBytes (part_made rule v o c rest ws)
  unfolding part_made
  part_bytes none c rest ws = tt
  part_bytes (some r) c rest ws =
      pick_case MadeBytes _ _ _ (λ _. absent_bytes v r c rest) (λ _. headed_bytes v c.index _ (inner r c.index ws))

  module _ {S : Type 0} (order : Order S) where
    member_bytes : (st : S) (ws : List ℕ) (x : Next) → MadeBytes (member_made order rule v st ws x)
    unfolding member_made
    member_bytes st ws short = tt
    member_bytes st ws (next c rest) = pick_case MadeBytes _ _ _ (λ _. part_bytes (ref_at v c.index) c rest ws) (λ _. tt)

    elements_bytes : (n : ℕ) (st : S) (ws : List ℕ) → MadeBytes (elements_made order rule v n st ws)
    unfolding elements_made
    elements_bytes zero st ws = pick_case MadeBytes _ _ _ (λ _. tt) (λ _ i. lit< tt)
    elements_bytes (suc n) st ws = then_bytes _ _ (member_bytes st ws (next_of ws)) (elements_bytes n (state_after order rule v st (next_of ws)))

module _ (src : List ℕ) (bytes : Bytes src) where
  front_bytes : (v : Node) (c : Claim) → FrontBytes (front_of v src c)
  unfolding front_of range_front
  front_bytes (leaf f) c = tt
  front_bytes enum c = tt
  front_bytes (row r) c = set_bytes_lem c.count
  front_bytes (arrays r) c = set_bytes_lem c.count
  front_bytes (tuple refs) c = count_bytes (length refs) c
  front_bytes (object refs cards) c = count_bytes (length refs) c
  front_bytes (sparse refs cards) c = bytes_below 4 c.count
  front_bytes (range r) c =
      let flags = get_or src c.start 0 in
      pick_case FrontBytes _ _ _
      (λ _. pick_case FrontBytes _ _ _ (λ _. bounds_bytes flags c.count (bytes c.start) (bounds flags)) (λ _. tt))
      (λ _. tt)

  leaf_bytes : (good : List ℕ → Bool) (c : Claim) (ws : List ℕ) → MadeBytes (leaf_made good src c ws)
  unfolding leaf_made
  leaf_bytes good c ws =
      pick_case MadeBytes _ _ _
      (λ _. pick_case MadeBytes _ _ _
      (λ _. pick_case MadeBytes _ _ _ (λ _. bytes_part src bytes c.start c.size) (λ _. tt))
      (λ _. tt))
      (λ _. tt)

  module _ (rule : Builder) (inner : (k i : ℕ) (ws : List ℕ) → MadeBytes (rule k i ws)) where
    row_bytes : (v : Node) (h : Front) → FrontBytes h → (c : Claim) (ws : List ℕ) → MadeBytes (row_made rule v h c ws)
    unfolding row_made
    row_bytes v no_front h c ws = tt
    row_bytes v (front b first) h c ws = before_bytes b _ h (elements_bytes rule inner v row_order c.count first ws)

    sparse_bytes : (refs cards : List ℕ) (h : Front) → FrontBytes h → (c : Claim) (ws : List ℕ) → MadeBytes (sparse_made rule refs cards h c ws)
    unfolding sparse_made
    sparse_bytes refs cards no_front h c ws = tt
    sparse_bytes refs cards (front b first) h c ws =
        before_bytes b _ h (elements_bytes rule inner (sparse refs cards) (sparse_order cards) c.count no_marks ws)

    node_bytes : (v : Node) (c : Claim) (ws : List ℕ) → MadeBytes (node_made src v rule c ws)
    unfolding node_made
    node_bytes (leaf f) c ws = leaf_bytes _ c ws
    node_bytes enum c ws = leaf_bytes _ c ws
    node_bytes (row r) c ws = row_bytes (row r) _ (front_bytes (row r) c) c ws
    node_bytes (arrays r) c ws = row_bytes (arrays r) _ (front_bytes (arrays r) c) c ws
    node_bytes (tuple refs) c ws = row_bytes (tuple refs) _ (front_bytes (tuple refs) c) c ws
    node_bytes (object refs cards) c ws = row_bytes (object refs cards) _ (front_bytes (object refs cards) c) c ws
    node_bytes (sparse refs cards) c ws = sparse_bytes refs cards _ (front_bytes (sparse refs cards) c) c ws
    node_bytes (range r) c ws = row_bytes (range r) _ (front_bytes (range r) c) c ws

    entry_bytes : (v : Node) (k i : ℕ) (x : Next) → MadeBytes (entry_made src v rule k i x)
    unfolding entry_made
    entry_bytes v k i short = tt
    entry_bytes v k i (next c ws) =
        pick_case MadeBytes _ _ _
        (λ _. pick_case MadeBytes _ _ _ (λ _. pick_case MadeBytes _ _ _ (λ _. tt) (λ _. node_bytes v c ws)) (λ _. tt))
        (λ _. tt)

  build_bytes : (look : ℕ → Node) (f k i : ℕ) (ws : List ℕ) → MadeBytes (build src look f k i ws)
  unfolding build
  build_bytes look zero k i ws = tt
  build_bytes look (suc f) k i ws = entry_bytes (build src look f) (build_bytes look f) (look k) k i (next_of ws)

-- ---- what is put out

abbrev PutBytes : Put → Type 0
PutBytes (refused_put n) = Unit {0}
PutBytes (put_out b) = Bytes b

supplied_bytes : (m : Made) → MadeBytes m → PutBytes (supplied_by m)
unfolding supplied_by
supplied_bytes wrong h = tt
supplied_bytes (made b (w ∷ ws)) h = tt
supplied_bytes (made b []) h = pick_case PutBytes _ _ _ (λ _. tt) (λ _. h)

module _ (p ws src : List ℕ) (bytes : Bytes src) where
  made_bytes : MadeBytes (made_by p ws src)
  unfolding made_by build_of
  made_bytes = pick_case MadeBytes _ _ _ (λ _ i. lit< tt) (λ _. build_bytes src bytes _ _ (get_or p 1 0) 0 ws)

  -- Where the source is bytes, so is what is supplied, whatever the plan and the list.
  pub supplied_is_bytes : (b : List ℕ) → supplied_by (made_by p ws src) ≡ put_out b → Bytes b
  supplied_is_bytes b e = rw e at (supplied_bytes (made_by p ws src) made_bytes)
