-- The laws of one leaf in hand: how large it is, what its head says, and that what the code reads is what the definitions give.
use mathlib.Core.Path.{◌≡◌, refl, ap, sym, ◌∙◌}
use mathlib.Core.Bool.{Bool, true, false}
use mathlib.Core.List.{List, []}
use mathlib.Core.Logic.{inr, ⊎_elim}
use mathlib.Core.Option.{some}
use Prim.Native.Nat.{ℕ, ◌+◌, ◌-◌, ◌^◌, ◌<◌, ◌≤◌}
use native.Mathlib.Omega.{arith}
use native.Mathlib.Nat.{add-zero, add-sub_cancel_left}
use lib.Dec.{eqb, ltb, leb}
use lib.ListN.{length, take, drop, get_or, length-take, length-drop}
use borrow.Author.Tests.{eqb-true, ltb-false, lt-ltb, le-ltb, lt-leb, eq-eqb, ne_eqb}
use Rattle.wire.proofs.Picks.{pick_case, same_or_not}
use Rattle.value_scalars.specs.Sizes.{fixed_size, Fixed}
use Rattle.value_scalars.proofs.Formats.{size_unknown}
use Rattle.forms.specs.declared.Head.{Head}
use Rattle.forms.specs.declared.Head.TheVariants.{Present, Absent}
use Rattle.value_heads.proofs.Cases.{plain_cases, optional_cases}
use Rattle.value_heads.proofs.Bounds.{known_new}
use Rattle.plan_nodes.specs.Readers.{KindAt, At}
use Rattle.plan_nodes.proofs.Looks.{look_leaf, ref_pairs}
use Rattle.plan_nodes.proofs.Nodes.{at_ref, at_kind}
use Rattle.value_parts.specs.Walk.{leaf_kind, leaf_good}
use Rattle.value_parts.proofs.Nodes.{good_scalar}
use Rattle.value_parts.proofs.Members.{known_in}
use Rattle.value_parts.proofs.Containers.{leaf_only}
use Rattle.value_leaves.specs.Leaves.{format_in, fixed_of, FixedAt, told_of, told_size, told_good, ToldAt, good, fixed_leaf, leaf_in, leaf_at, whole_of, given_by, given_at}
use Rattle.forms.specs.declared.Span.{Span}
use Rattle.value_leaves.specs.declared.Given.{Given}
use Rattle.value_leaves.specs.declared.Told.{Told}
use Rattle.value_leaves.specs.declared.Told.TheVariants.{Size, Time}
use Rattle.std.proofs.Common.{Option, Some, None, option_map, Result, Ok, Err}
use Rattle.protocol.specs.Numbers.{pick}
use Rattle.protocol.specs.Scalars.{of_size, local_time, scalar, format_rule, formats, rule_of}
use Rattle.protocol.specs.Heads.{word, negative, element_in, optional, plain_head, object_head, requires, sparse_index}
use Rattle.protocol.specs.Constants.{ABSENT, FORMATS}
use Rattle.protocol.specs.Nodes.{Node, enum, row, arrays, tuple, object, sparse, range, ref_at}
use Rattle.protocol.specs.Plans.{look, refs_at, pair_ref, cards_at}

-- what a leaf in hand is
module _ (b : Span) (start size : ℕ) where
  good_is : good start size ≡ Some b → (start ≡ b.start) × (size ≡ b.len)
  unfolding good
  good_is e =
      let r : record { start = start; len = size } ≡ b = cc in
      (ap (λ (x : Span). x.start) r, ap (λ (x : Span). x.len) r)

-- and none is none
apart : {A : Type 0} (b : Span) → None ≡ Some b → A
apart b e = let z : ◌≡◌ {A = ℕ} 0 1 = cc in absurd (omega arith)

-- ---- a leaf's size

-- of a node that is no scalar
no_format : (b c d e f g : Bool) (p : List ℕ) (k : ℕ)
    → format_in (pick b (row (get_or p (k + 1) 0)) (pick c (arrays (get_or p (k + 1) 0)) (pick d (tuple (take (get_or p (k + 1) 0) (drop (k + 2) p)))
    (pick e (object (refs_at p k) (cards_at p k)) (pick f (sparse (refs_at p k) (cards_at p k)) (pick g (range (get_or p (k + 1) 0)) enum)))))) ≡ FORMATS
unfolding format_in pick
no_format true c d e f g p k = refl
no_format false true d e f g p k = refl
no_format false false true e f g p k = refl
no_format false false false true f g p k = refl
no_format false false false false true g p k = refl
no_format false false false false false true p k = refl
no_format false false false false false false p k = refl

other_format : (p : List ℕ) (k kind : ℕ) → kind ≡ get_or p k 0 → (kind ≡ 1 → ⊥) → format_in (look p k) ≡ FORMATS
unfolding look pick
other_format p k kind is n =
    rw (ne_eqb (get_or p k 0) 1 (λ e. n (is ∙ e)))
    (no_format (eqb (get_or p k 0) 2) (eqb (get_or p k 0) 3) (eqb (get_or p k 0) 4) (eqb (get_or p k 0) 5) (eqb (get_or p k 0) 6) (eqb (get_or p k 0) 7) p k)

pub none_fixed : (p : List ℕ) (k kind : ℕ) → kind ≡ get_or p k 0 → (kind ≡ 1 → ⊥) → None ≡ fixed_of (look p k)
unfolding fixed_of pick
none_fixed p k kind is n = rw (ap fixed_size (other_format p k kind is n) ∙ size_unknown FORMATS (omega arith))

-- a scalar's node, and its format
module _ (p : List ℕ) (k kind : ℕ) (is : kind ≡ get_or p k 0) (e : kind ≡ 1) (f : ℕ) (ef : f ≡ get_or p (k + 1) 0) where
  format_is : format_in (look p k) ≡ f
  unfolding format_in
  format_is = rw (look_leaf p k (sym is ∙ e), ← ef)

  pub fixed_none : (size : ℕ) → Fixed f size → size ≡ 0 → None ≡ fixed_of (look p k)
  unfolding fixed_of pick
  fixed_none size x z = rw (format_is, sym x.is ∙ z)

  pub fixed_some : (size : ℕ) → Fixed f size → (size ≡ 0 → ⊥) → Some size ≡ fixed_of (look p k)
  unfolding fixed_of pick
  fixed_some size x n = rw (format_is, sym x.is, ne_eqb size 0 n)

  pub some_fixed : (size : ℕ) → Fixed f size → (size ≡ 0 → ⊥) → FixedAt p k size
  unfolding leaf_kind pick of_size
  some_fixed size x n =
      record {
        small = x.small;
        kind = ap leaf_kind (sym is ∙ e);
        rule = λ s. sym (good_scalar p k kind is s f ef e) ∙ x.rule (omega (arith, n)) s;
      }

  pub time_is : f ≡ 13 → Some Time ≡ told_of (look p k)
  unfolding told_of pick
  time_is et = rw (format_is, et)

  pub some_time : f ≡ 13 → ToldAt p k Time
  unfolding leaf_kind pick told_good told_size scalar format_rule formats rule_of
  some_time et =
      record {
        small = omega arith;
        kind = ap leaf_kind (sym is ∙ e);
        rule = λ s. sym (good_scalar p k kind is s f ef e) ∙ rw et;
      }

-- a node that is no scalar of times of day
pub not_timed : (p : List ℕ) (k kind : ℕ) → kind ≡ get_or p k 0 → (kind ≡ 1 → get_or p (k + 1) 0 ≡ 13 → ⊥) → option_map Size (fixed_of (look p k)) ≡ told_of (look p k)
unfolding told_of format_in pick
not_timed p k kind is n =
    ⊎_elim
    (λ (e : kind ≡ 1). rw (look_leaf p k (sym is ∙ e), ne_eqb (get_or p (k + 1) 0) 13 (n e)))
    (λ (m : kind ≡ 1 → ⊥). rw (other_format p k kind is m))
    (same_or_not kind 1)

pub size_told : (p : List ℕ) (k size : ℕ) → FixedAt p k size → ToldAt p k (Size size)
unfolding told_size told_good of_size
size_told p k size f = record { small = f.small; kind = f.kind; rule = f.rule }

-- what is permitted of a leaf inside
module _ (p : List ℕ) (k : ℕ) (s : List ℕ) (start size : ℕ) (fits : start + size ≤ length s) where
  pub fixed_is : (fixed : ℕ) → FixedAt p k fixed → eqb size fixed ≡ leaf_good (look p k) (take size (drop start s))
  fixed_is fixed f =
      let e : length (take size (drop start s)) ≡ size = simp (length-take, length-drop) (omega arith) in
      sym (f.rule (take size (drop start s)) ∙ ap (λ (n : ℕ). eqb n fixed) e)

pub part_good : (p : List ℕ) (k : ℕ) (s : List ℕ) (start size : ℕ) (b : Bool)
    → b ≡ leaf_good (look p k) (take (start + size - start) (drop start s)) → b ≡ leaf_good (look p k) (take size (drop start s))
part_good p k s start size b e = rw add-sub_cancel_left at e

-- ---- a leaf of a fixed size

pub record Standing (s : List ℕ) (at size : ℕ) : Type 0 where
  pub fits : size + 4 ≤ length s - at
  pub is : word s at ≡ size

-- an element that stands there is told by its bytes alone: they are a time of day or not, or any of that size
module _ (s : List ℕ) (at : ℕ) (t : Told) (size : ℕ) (es : size ≡ told_size t) where
  pub told_short : length s - at < size + 4 → None ≡ fixed_leaf s at t
  unfolding fixed_leaf pick
  told_short h = rw (← es, lt-ltb (length s - at) (size + 4) h)

  module _ (h : size + 4 ≤ length s - at) (n : ℕ) (en : n ≡ word s at) where
    pub told_other : (n ≡ size → ⊥) → None ≡ fixed_leaf s at t
    unfolding fixed_leaf pick
    told_other m = rw (← es, le-ltb (length s - at) (size + 4) h, ← en, ne_eqb n size m)

    told : n ≡ size → (b : Bool) → told_good t (take size (drop (at + 4) s)) ≡ b → pick b (good (at + 4) size) None ≡ fixed_leaf s at t
    unfolding fixed_leaf pick
    told is b g = rw (← es, le-ltb (length s - at) (size + 4) h, eq-eqb (word s at) size (sym en ∙ is), g)

    pub told_time : n ≡ size → t ≡ Time → (b c : Bool) → b ≡ local_time (take 8 (drop (at + 4) s)) → b ≡ c → pick c (good (at + 4) size) None ≡ fixed_leaf s at t
    unfolding told_size told_good
    told_time is e b c eb ec = let z : size ≡ 8 = es ∙ rw e refl in told is c (rw (z, e) (sym eb ∙ ec))

    pub told_any : n ≡ size → at ≤ length s → (m : ℕ) → t ≡ Size m → good (at + 4) size ≡ fixed_leaf s at t
    unfolding told_size told_good of_size pick
    told_any is inside m e =
        let z : size ≡ m = es ∙ rw e refl in
        let x : length (take size (drop (at + 4) s)) ≡ size = simp (length-take, length-drop) (omega arith) in
        told is true (rw e (eq-eqb (length (take size (drop (at + 4) s))) m (x ∙ z)))

pub standing : (s : List ℕ) (at : ℕ) (t : Told) (b : Span) → Some b ≡ fixed_leaf s at t
    → Standing s at (told_size t) × (told_good t (take (told_size t) (drop (at + 4) s)) ≡ true) × (b.start ≡ at + 4) × (b.len ≡ told_size t)
unfolding fixed_leaf
standing s at t b e =
    pick_case (λ (x : Option Span). x ≡ Some b → Goal) (ltb (length s - at) (told_size t + 4)) None _ (λ _. apart b)
    (λ w. pick_case (λ (x : Option Span). x ≡ Some b → Goal) (eqb (word s at) (told_size t)) _ None
    (λ v. pick_case (λ (x : Option Span). x ≡ Some b → Goal) fine (good (at + 4) (told_size t)) None (λ g q. done w v g q) (λ _. apart b)) (λ _. apart b))
    (sym e)
  where
    fine : Bool
    fine = told_good t (take (told_size t) (drop (at + 4) s))

    Goal : Type 0
    Goal = Standing s at (told_size t) × (fine ≡ true) × (b.start ≡ at + 4) × (b.len ≡ told_size t)

    done : ltb (length s - at) (told_size t + 4) ≡ false → eqb (word s at) (told_size t) ≡ true → fine ≡ true → good (at + 4) (told_size t) ≡ Some b → Goal
    done w v g q =
        let x = good_is b (at + 4) (told_size t) q in
        (record { fits = ltb-false (length s - at) (told_size t + 4) w; is = eqb-true (word s at) (told_size t) v }, g, sym x.0, sym x.1)

-- ---- an element's head

module _ (s : List ℕ) (i at : ℕ) where
  -- a head that is whole, and its element inside
  pub there : (gap size : ℕ) → gap + 4 ≤ length s - at → size ≡ word s (at + gap) → size < 2 ^ 31 → size ≤ length s - (at + gap + 4) → plain_head s gap i at ≡ Ok (Present i (at + gap + 4) size)
  unfolding plain_head element_in negative pick
  there gap size h is n g =
      rw (sym is, le-ltb (length s - at) (gap + 4) h, lt-leb (2 ^ 31) size n, le-ltb (length s - (at + gap + 4)) size g)

  pub standing_head : (size : ℕ) → size ≤ 16 → Standing s at size → plain_head s 0 i at ≡ Ok (Present i (at + 4) size)
  standing_head size few x =
      let f = x.fits in
      let z : at + 0 ≡ at = add-zero at in
      rw z at (there 0 size (omega arith) (sym (rw z x.is)) (omega arith) (omega arith))

  -- an object's element that is there has the head of a tuple's
  pub object_plain : (required : Bool) (j start size : ℕ) → plain_head s 4 i at ≡ Ok (Present j start size) → object_head s required i at ≡ Ok (Present j start size)
  unfolding object_head optional element_in negative pick
  object_plain required j start size =
      plain_cases (λ h. h ≡ Ok (Present j start size) → object_head s required i at ≡ Ok (Present j start size))
      (λ _ e. let z : ◌≡◌ {A = ℕ} 0 1 = cc in absurd (omega arith)) s 4 i at
      (λ whole few fits e.
      let g : word s (at + 4) ≤ length s - (at + 8) = omega arith in
      let n : word s (at + 4) ≡ ABSENT → ⊥ = λ x. omega arith in
      let z : at + 4 + 4 ≡ at + 8 = omega arith in
      let q : Ok (Present i (at + 8) (word s (at + 4))) ≡ Ok (Present j start size) = rw z at e in
      rw (le-ltb (length s - at) 8 whole, ne_eqb (word s (at + 4)) ABSENT n, lt-leb (2 ^ 31) (word s (at + 4)) few, le-ltb (length s - (at + 8)) (word s (at + 4)) g) q)

-- a head of an element that is there, with any index
plain_there : (s : List ℕ) (gap i at j start size : ℕ) → at ≤ length s → plain_head s gap j at ≡ Ok (Present j start size)
    → (plain_head s gap i at ≡ Ok (Present i start size)) × (at + 4 ≤ start) × (start + size ≤ length s)
plain_there s gap i at j start size inside =
    plain_cases (λ h. h ≡ Ok (Present j start size) → (plain_head s gap i at ≡ Ok (Present i start size)) × (at + 4 ≤ start) × (start + size ≤ length s))
    (λ _ e. let z : ◌≡◌ {A = ℕ} 0 1 = cc in absurd (omega arith)) s gap j at
    (λ whole few fits e.
    let a : at + gap + 4 ≡ start = cc in
    let b : word s (at + gap) ≡ size = cc in
    (rw (a, b) at (there s i at gap (word s (at + gap)) whole refl few fits), omega arith, omega arith))

-- the index of a head that was read with index 0
plain_zero : (s : List ℕ) (gap at j start size : ℕ) → plain_head s gap 0 at ≡ Ok (Present j start size) → plain_head s gap 0 at ≡ Ok (Present 0 start size)
plain_zero s gap at j start size =
    plain_cases (λ h. h ≡ Ok (Present j start size) → h ≡ Ok (Present 0 start size))
    (λ _ e. let z : ◌≡◌ {A = ℕ} 0 1 = cc in absurd (omega arith)) s gap 0 at
    (λ whole few fits e.
    let a : at + gap + 4 ≡ start = cc in
    let b : word s (at + gap) ≡ size = cc in
    rw (a, b) refl)

-- ---- the leaf that a head leads to

-- a head that leads to a leaf is of an element that is there
leaf_present : (v : Node) (s : List ℕ) (h : Result Head ℕ) (b : Span) → leaf_in v s h ≡ Some b
    → (i : ℕ) × (h ≡ Ok (Present i b.start b.len)) × (leaf_good v (take b.len (drop b.start s)) ≡ true)
unfolding leaf_in pick
leaf_present v s (Ok (Absent i at)) b e = apart b e
leaf_present v s (Err n) b e = apart b e
leaf_present v s (Ok (Present i at n)) b e = go (leaf_good v (take n (drop at s))) refl e
  where
    go : (c : Bool) → leaf_good v (take n (drop at s)) ≡ c → pick c (good at n) None ≡ Some b
        → (j : ℕ) × (◌≡◌ {A = Result Head ℕ} (Ok (Present i at n)) (Ok (Present j b.start b.len))) × (leaf_good v (take b.len (drop b.start s)) ≡ true)
    go true g q = let x = good_is b at n q in (i, rw (x.0, x.1) refl, rw (x.0, x.1) at g)
    go false g q = apart b q

module _ (v : Node) (s : List ℕ) where
  -- a node that is no leaf has none
  leaf_none : ((t : List ℕ) → false ≡ leaf_good v t) → (h : Result Head ℕ) → None ≡ leaf_in v s h
  unfolding leaf_in pick
  leaf_none n (Ok (Present i start size)) = rw (sym (n (take size (drop start s))))
  leaf_none n (Ok (Absent i start)) = refl
  leaf_none n (Err m) = refl

  module _ (gap at : ℕ) where
    pub leaf_none_at : ((t : List ℕ) → false ≡ leaf_good v t) → None ≡ leaf_at v s gap at
    unfolding leaf_at
    leaf_none_at n = leaf_none n (plain_head s gap 0 at)

    pub leaf_short : length s - at < gap + 4 → None ≡ leaf_at v s gap at
    unfolding leaf_at leaf_in plain_head pick
    leaf_short h = rw (lt-ltb (length s - at) (gap + 4) h)

    either : (b : Bool) → None ≡ leaf_in v s (pick b (Err 23) (Err 20))
    unfolding leaf_in pick
    either true = refl
    either false = refl

    -- its length passes the container's end, or is negative
    pub leaf_over : (size : ℕ) → gap + 4 ≤ length s - at → size ≡ word s (at + gap) → length s - (at + gap + 4) < size → None ≡ leaf_at v s gap at
    unfolding leaf_at plain_head element_in pick
    leaf_over size whole is over =
        rw (le-ltb (length s - at) (gap + 4) whole, ← is, lt-ltb (length s - (at + gap + 4)) size over) (either (negative size))

    -- its bytes are permitted or not
    pub leaf_there : length s ≤ 65535 → (size : ℕ) → gap + 4 ≤ length s - at → size ≡ word s (at + gap) → size ≤ length s - (at + gap + 4)
        → (b : Bool) → b ≡ leaf_good v (take size (drop (at + gap + 4) s)) → pick b (good (at + gap + 4) size) None ≡ leaf_at v s gap at
    unfolding leaf_at leaf_in
    leaf_there few size whole is fits b eb = rw (there s 0 at gap size whole is (omega arith) fits, eb)

kind_is : (p : List ℕ) (k : ℕ) → At p k → KindAt p k (get_or p k 0)
kind_is p k a = let b = at_kind p k a in record { is = refl; low = b.0; high = b.1 }

-- what a leaf in hand says
leaf_stands : (v : Node) (s : List ℕ) (gap i at : ℕ) (b : Span) → at ≤ length s → Some b ≡ leaf_at v s gap at
    → (plain_head s gap i at ≡ Ok (Present i b.start b.len)) × (at + 4 ≤ b.start) × (b.start + b.len ≤ length s) × (leaf_good v (take b.len (drop b.start s)) ≡ true)
unfolding leaf_at
leaf_stands v s gap i at b inside e =
    let q = leaf_present v s (plain_head s gap 0 at) b (sym e) in
    let t = plain_there s gap i at 0 b.start b.len inside (plain_zero s gap at q.0 b.start b.len q.1) in
    (t.0, t.1, t.2, q.2)

pub leaf_in_lem : (p : List ℕ) (k : ℕ) → At p k → (s : List ℕ) (gap i at : ℕ) (b : Span) → at ≤ length s → Some b ≡ leaf_at (look p k) s gap at
    → (plain_head s gap i at ≡ Ok (Present i b.start b.len)) × (at + 4 ≤ b.start) × (b.start + b.len ≤ length s) × (leaf_kind (get_or p k 0) ≡ true)
    × (leaf_good (look p k) (take b.len (drop b.start s)) ≡ true)
leaf_in_lem p k a s gap i at b inside e =
    let t = leaf_stands (look p k) s gap i at b inside e in
    (t.0, t.1, t.2, leaf_only p k (kind_is p k a) (take b.len (drop b.start s)) t.3, t.3)

-- ---- the leaf of a sparse object

optional_there : (s : List ℕ) (q : Bool) (i from size₀ j start size : ℕ) → from ≤ length s → optional s q i from size₀ ≡ Ok (Present j start size)
    → (optional s q i from size₀ ≡ Ok (Present i start size)) × (from ≤ start) × (start + size ≤ length s)
optional_there s q i from size₀ j start size inside =
    optional_cases (λ h. h ≡ Ok (Present j start size) → (h ≡ Ok (Present i start size)) × (from ≤ start) × (start + size ≤ length s))
    (λ _ e. let z : ◌≡◌ {A = ℕ} 0 1 = cc in absurd (omega arith)) s q i from size₀
    (λ _ e. let z : ◌≡◌ {A = ℕ} 0 1 = cc in absurd (omega arith))
    (λ few fits e.
    let a : from ≡ start = cc in
    let b : size₀ ≡ size = cc in
    (rw (a, b), omega arith, omega arith))

whole_of_lem : (j c : ℕ) (r : Option Span) (g : Given) → whole_of j c r ≡ Some g → (j ≡ g.index) × (c ≡ g.node) × (r ≡ Some g.bytes)
unfolding whole_of
whole_of_lem j c None g e = let z : ◌≡◌ {A = ℕ} 0 1 = cc in absurd (omega arith)
whole_of_lem j c (Some b) g e =
    let r : record { index = j; node = c; bytes = b } ≡ g = cc in
    (ap (λ (x : Given). x.index) r, ap (λ (x : Given). x.node) r, ap (λ (x : Given). Some x.bytes) r)

-- the index on the wire
three : (a b c : Bool) (w i : ℕ) → ◌≡◌ {A = Result ℕ ℕ} (pick a (Err 20) (pick b (Err 25) (pick c (Err 26) (Ok w)))) (Ok i) → w ≡ i
unfolding pick
three true b c w i e = let z : ◌≡◌ {A = ℕ} 0 1 = cc in absurd (omega arith)
three false true c w i e = let z : ◌≡◌ {A = ℕ} 0 1 = cc in absurd (omega arith)
three false false true w i e = let z : ◌≡◌ {A = ℕ} 0 1 = cc in absurd (omega arith)
three false false false w i e = cc

-- one index that is known among n is known among 512
pub known_any : (s : List ℕ) (n at i : ℕ) → sparse_index s n [] at ≡ Ok i → i < 512 → sparse_index s 512 [] at ≡ Ok i
unfolding sparse_index pick
known_any s n at i e few =
    let k = known_new s n [] at i e in
    let w : word s at ≡ i = three (ltb (length s - at) 8) (leb n (word s at)) (get_or [] (word s at) false) (word s at) i e in
    rw (le-ltb (length s - at) 8 k.2, w, lt-leb 512 i few)

-- an element that is there, whatever its cardinality
pub there_any : (s : List ℕ) (q : Bool) (i from n j start size : ℕ) → optional s q i from n ≡ Ok (Present j start size) → optional s false i from n ≡ Ok (Present i start size)
unfolding optional element_in negative pick
there_any s q i from n j start size =
    optional_cases (λ h. h ≡ Ok (Present j start size) → optional s false i from n ≡ Ok (Present i start size))
    (λ _ e. let z : ◌≡◌ {A = ℕ} 0 1 = cc in absurd (omega arith)) s q i from n
    (λ _ e. let z : ◌≡◌ {A = ℕ} 0 1 = cc in absurd (omega arith))
    (λ few fits e.
    let a : from ≡ start = cc in
    let b : n ≡ size = cc in
    let g : n ≡ ABSENT → ⊥ = λ x. omega arith in
    rw (ne_eqb n ABSENT g, lt-leb (2 ^ 31) n few, le-ltb (length s - from) n fits, a, b))

-- the node of a sparse object's element
pub pair_is : (p : List ℕ) (k : ℕ) → get_or p k 0 ≡ 6 → (i child : ℕ) → i < get_or p (k + 1) 0 → ref_at (look p k) i ≡ some child → pair_ref p k i ≡ child
pair_is p k e i child h r = let q : some (pair_ref p k i) ≡ some child = sym (ref_pairs p k i (inr e) h) ∙ r in cc

-- a sparse object at k, and the element at a position of its bytes
module _ (p : List ℕ) (k : ℕ) (s : List ℕ) (at : ℕ) where
  abbrev head_of : ℕ → Result Head ℕ
  head_of i = optional s (requires (get_or (cards_at p k) i 0)) i (at + 8) (word s (at + 4))

  pub head_there : (i : ℕ) → at + 8 ≤ length s → (h : Result Head ℕ) → h ≡ head_of i → (j start size : ℕ) → h ≡ Ok (Present j start size)
      → (head_of i ≡ Ok (Present i start size)) × (at + 8 ≤ start) × (start + size ≤ length s)
  head_there i whole h eh j start size e = optional_there s (requires (get_or (cards_at p k) i 0)) i (at + 8) (word s (at + 4)) j start size whole (sym eh ∙ e)

  -- its index is not known
  pub given_bad : (n : ℕ) → Err n ≡ sparse_index s (get_or p (k + 1) 0) [] at → None ≡ given_at p k s at
  unfolding given_at given_by
  given_bad n e = rw (sym e)

  -- its index is known
  module _ (i : ℕ) (e : Ok i ≡ sparse_index s (get_or p (k + 1) 0) [] at) (child : ℕ) (r : pair_ref p k i ≡ child) where
    given_known : given_at p k s at ≡ whole_of i child (leaf_in (look p child) s (head_of i))
    unfolding given_at given_by
    given_known = rw (sym e, r)

    pub given_none : ((t : List ℕ) → false ≡ leaf_good (look p child) t) → None ≡ given_at p k s at
    unfolding whole_of
    given_none n = sym (given_known ∙ ap (whole_of i child) (sym (leaf_none (look p child) s n (head_of i))))

    -- its head is refused, or it is not there
    pub given_refused : (n : ℕ) → Err n ≡ head_of i → None ≡ given_at p k s at
    unfolding whole_of leaf_in
    given_refused n e = sym (given_known ∙ rw (sym e))

    pub given_absent : (h : Head) → Ok h ≡ head_of i → (j start : ℕ) → h ≡ Absent j start → None ≡ given_at p k s at
    unfolding whole_of leaf_in
    given_absent h eh j start e = sym (given_known ∙ rw (sym eh, e))

    -- it is there, and its bytes are permitted or not
    pub given_there : at + 8 ≤ length s → (h : Result Head ℕ) → h ≡ head_of i → (j start size : ℕ) → h ≡ Ok (Present j start size)
        → (b : Bool) → b ≡ leaf_good (look p child) (take size (drop start s)) → whole_of i child (pick b (good start size) None) ≡ given_at p k s at
    unfolding leaf_in
    given_there whole h eh j start size eq b eb = sym (given_known ∙ rw ((head_there i whole h eh j start size eq).0, eb))

  whole_in : (x : Result ℕ ℕ) (g : Given) → given_by p k s at x ≡ Some g
      → (x ≡ Ok g.index) × (pair_ref p k g.index ≡ g.node) × (leaf_in (look p g.node) s (head_of g.index) ≡ Some g.bytes)
  unfolding given_by
  whole_in (Err n) g e = let z : ◌≡◌ {A = ℕ} 0 1 = cc in absurd (omega arith)
  whole_in (Ok j) g e =
      let q = whole_of_lem j (pair_ref p k j) (leaf_in (look p (pair_ref p k j)) s (head_of j)) g e in
      let r : pair_ref p k g.index ≡ g.node = rw q.0 at q.1 in
      (ap Ok q.0, r, rw r at (rw q.0 at q.2))

  -- what a sparse object's leaf in hand says
  pub given_in : At p k → get_or p k 0 ≡ 6 → at ≤ length s → (g : Given) → Some g ≡ given_at p k s at
      → (sparse_index s (get_or p (k + 1) 0) [] at ≡ Ok g.index) × (ref_at (look p k) g.index ≡ some g.node) × (head_of g.index ≡ Ok (Present g.index g.bytes.start g.bytes.len))
      × (leaf_kind (get_or p g.node 0) ≡ true) × (leaf_good (look p g.node) (take g.bytes.len (drop g.bytes.start s)) ≡ true)
  unfolding given_at
  given_in a e6 inside g e =
      let q = whole_in (sparse_index s (get_or p (k + 1) 0) [] at) g (sym e) in
      let w = known_in p k a e6 s at (get_or p (k + 1) 0) g.index refl (sym q.0) inside in
      let r : ref_at (look p k) g.index ≡ some g.node = ref_pairs p k g.index (inr e6) w.0 ∙ ap some q.1 in
      let h = leaf_present (look p g.node) s (head_of g.index) g.bytes q.2 in
      let t = head_there g.index w.2 (head_of g.index) refl h.0 g.bytes.start g.bytes.len h.1 in
      (q.0, r, t.0, leaf_only p g.node (kind_is p g.node (at_ref p k g.index g.node a r).0) (take g.bytes.len (drop g.bytes.start s)) h.2, h.2)

  -- its index, its node and its bytes are in their bounds
  pub given_few : At p k → get_or p k 0 ≡ 6 → at ≤ length s → (g : Given) → Some g ≡ given_at p k s at
      → (g.index < get_or p (k + 1) 0) × (g.index < 512) × (g.node < 2 ^ 32) × (g.bytes.start + g.bytes.len ≤ length s)
  given_few a e b g x =
      let t = given_in a e b g x in
      let w = known_in p k a e s at (get_or p (k + 1) 0) g.index refl (sym t.0) b in
      let h = head_there g.index w.2 (Ok (Present g.index g.bytes.start g.bytes.len)) (sym t.2) g.index g.bytes.start g.bytes.len refl in
      let r = (at_ref p k g.index g.node a t.1).0 in
      (w.0, w.1, r.small, h.2)
