-- The laws of a container's head.
use mathlib.Core.Path.{◌≡◌, refl, ap, sym, ◌∙◌}
use mathlib.Core.Bool.{Bool, true, false}
use mathlib.Core.List.{List, [], ◌∷◌, ◌++◌}
use mathlib.Core.Logic.{◌⊎◌, inl, inr}
use Prim.Native.Nat.{ℕ, ◌+◌, ◌-◌, ◌<◌, ◌≤◌}
use native.Mathlib.Omega.{arith}
use lib.Dec.{eqb, leb}
use lib.ListN.{length, take, drop, get_or, set, length-drop, length-take}
use lib.Seq.{sets, get_or-drop, get_or-take}
use borrow.Author.Tests.{eq-eqb, ne_eqb, le-leb, lt-leb, lt-ltb, le-ltb, leb-true, leb-false}
use native.Mathlib.Nat.{add-zero, add-sub_cancel_left}
use native.Mathlib.Decide.{dec_lt}
use Rattle.wire.proofs.Numbers.{length_bytes}
use Rattle.forms.specs.declared.Opening.{Opening}
use Rattle.std.specs.Prelude.{Result, Ok, Err, Some, None}
use Rattle.std.specs.Result.{result_ok}
use Rattle.value_heads.proofs.Bounds.{range_opened}
use Rattle.plan_nodes.proofs.Looks.{tuple_length, refs_length}
use Rattle.plan_nodes.proofs.Nodes.{at_tuple_size}
use Rattle.value_parts.specs.Walk.{Container}
use Rattle.supply_entries.specs.Emitting.{shut, begins, begin_at}
use Rattle.supply_entries.proofs.Stores.{put_eight}
use Rattle.value_parts.proofs.Containers.{by_kind}
use Rattle.protocol.specs.Numbers.{pick, bytes_be}
use Rattle.protocol.specs.Heads.{range_flags, bounds, range_opening}
use Rattle.protocol.specs.Plans.{look}
use Rattle.plan_nodes.specs.Readers.{At}
use Rattle.protocol.specs.Supplies.{Claim}
use Rattle.protocol.specs.Building.{Front, no_front, front, set_bytes, bounds_front, range_front, count_front, front_of}

-- ---- whether it fits

module _ (b : List ℕ) (first at : ℕ) (out : List ℕ) (n : ℕ) (en : length b ≡ n) where
  pub begun_not : 65535 < at + n → shut ≡ begin_at (front b first) at out
  unfolding begin_at pick
  begun_not h = let k : 65535 < at + length b = omega arith in rw (lt-leb (at + length b) 65535 k)

  pub begun : at + n ≤ 65535 → (out' : List ℕ) → out' ≡ sets out at b → begins first (at + n) out' ≡ begin_at (front b first) at out
  unfolding begin_at pick
  begun h out' e = let k : at + length b ≤ 65535 = omega arith in rw (le-leb (at + length b) 65535 k, e, en)

-- ---- a set or an array

module _ (n at : ℕ) (out : List ℕ) where
  module _ (e : n ≡ 0) where
    none_bytes : set_bytes n ≡ bytes_be 4 0 ++ (bytes_be 4 0 ++ bytes_be 4 0)
    unfolding set_bytes pick bytes_be
    none_bytes = rw (eq-eqb n 0 e)

    none_length : length (set_bytes n) ≡ 12
    unfolding bytes_be
    none_length = rw none_bytes

    pub empty_not : 65535 < at + 12 → shut ≡ begin_at (front (set_bytes n) 0) at out
    empty_not h = begun_not (set_bytes n) 0 at out 12 none_length h

    pub empty_begun : at + 12 ≤ 65535 → (l l' : List ℕ) → l ≡ sets out at (bytes_be 4 0 ++ bytes_be 4 0) → l' ≡ sets l (at + 8) (bytes_be 4 0)
        → begins 0 (at + 12) l' ≡ begin_at (front (set_bytes n) 0) at out
    empty_begun h l l' f g = begun (set_bytes n) 0 at out 12 none_length h l' (put_eight out l l' at 0 0 (bytes_be 4 0) f g ∙ ap (sets out at) (sym none_bytes))

  module _ (e : n ≡ 0 → ⊥) where
    some_bytes : set_bytes n ≡ bytes_be 4 1 ++ (bytes_be 4 0 ++ (bytes_be 4 0 ++ (bytes_be 4 n ++ bytes_be 4 1)))
    unfolding set_bytes pick bytes_be
    some_bytes = rw (ne_eqb n 0 e)

    some_length : length (set_bytes n) ≡ 20
    unfolding bytes_be
    some_length = rw some_bytes

    pub some_not : 65535 < at + 20 → shut ≡ begin_at (front (set_bytes n) 0) at out
    some_not h = begun_not (set_bytes n) 0 at out 20 some_length h

    pub some_begun : at + 20 ≤ 65535 → (l l' l'' : List ℕ) → l ≡ sets out at (bytes_be 4 1 ++ bytes_be 4 0) → l' ≡ sets l (at + 8) (bytes_be 4 0 ++ bytes_be 4 n)
        → l'' ≡ sets l' (at + 16) (bytes_be 4 1) → begins 0 (at + 20) l'' ≡ begin_at (front (set_bytes n) 0) at out
    some_begun h l l' l'' f g k =
        let s : at + 8 + 8 ≡ at + 16 = omega arith in
        let t : l'' ≡ sets l (at + 8) (bytes_be 4 0 ++ (bytes_be 4 n ++ bytes_be 4 1)) = put_eight l l' l'' (at + 8) 0 n (bytes_be 4 1) g (rw s k) in
        begun (set_bytes n) 0 at out 20 some_length h l''
        (put_eight out l l'' at 1 0 (bytes_be 4 0 ++ (bytes_be 4 n ++ bytes_be 4 1)) f t ∙ ap (sets out at) (sym some_bytes))

-- ---- a number of elements

module _ (n at : ℕ) (out : List ℕ) where
  pub count_not : 65535 < at + 4 → shut ≡ begin_at (front (bytes_be 4 n) 0) at out
  count_not h = begun_not (bytes_be 4 n) 0 at out 4 (length_bytes 4 n) h

  pub count_begun : at + 4 ≤ 65535 → (l : List ℕ) → l ≡ sets out at (bytes_be 4 n) → begins 0 (at + 4) l ≡ begin_at (front (bytes_be 4 n) 0) at out
  count_begun h l e = begun (bytes_be 4 n) 0 at out 4 (length_bytes 4 n) h l e

-- ---- a range

opened : (o : Result Opening ℕ) (b : Opening) → Some b ≡ result_ok o → o ≡ Ok b
opened (Ok x) b q = cc
opened (Err n) b q = cc

unopened : (o : Result Opening ℕ) → None ≡ result_ok o → (n : ℕ) × (o ≡ Err n)
unopened (Ok x) q = cc
unopened (Err n) q = (n, refl)

module _ (src : List ℕ) (c : Claim) (at : ℕ) (out : List ℕ) where
  pub range_outside : length src ≤ c.start → shut ≡ begin_at (range_front src c) at out
  unfolding range_front begin_at pick
  range_outside h = rw (le-ltb c.start (length src) h)

  module _ (h : c.start < length src) where
    flags : ℕ
    flags = get_or src c.start 0

    range_is : range_front src c ≡ pick (range_flags flags) (bounds_front flags c.count (bounds flags)) no_front
    unfolding range_front pick flags
    range_is = rw (lt-ltb c.start (length src) h)

    -- the head that is read from the byte of the flags alone
    module _ (part : List ℕ) (ep : part ≡ take (c.start + 1 - c.start) (drop c.start src)) where
      one : part ≡ take 1 (drop c.start src)
      one = let n : c.start + 1 - c.start ≡ 1 = add-sub_cancel_left c.start 1 in rw n at ep

      flags_is : get_or part 0 0 ≡ flags
      unfolding flags
      flags_is = rw (one, get_or-take 1 (drop c.start src) 0 0 (omega arith), get_or-drop, add-zero)

      opening_is : range_opening part ≡ pick (range_flags flags) (bounds flags) (Err 22)
      unfolding range_opening pick
      opening_is =
          let k : 1 ≤ length part = rw one (simp (length-take, length-drop) (omega arith)) in
          rw (le-ltb (length part) 1 k, flags_is)

      module _ (o : Result Opening ℕ) (e : o ≡ range_opening part) where
        by_opening : range_front src c ≡ bounds_front flags c.count o
        unfolding bounds_front pick
        by_opening = go (range_flags flags) refl
          where
            go : (b : Bool) → range_flags flags ≡ b → range_front src c ≡ bounds_front flags c.count o
            go true f = range_is ∙ rw (f, e, opening_is, f)
            go false f = range_is ∙ rw (f, e, opening_is, f)

        pub range_unknown : None ≡ result_ok o → shut ≡ begin_at (range_front src c) at out
        unfolding bounds_front begin_at
        range_unknown q = let f : o ≡ Err (unopened o q).0 = (unopened o q).1 in rw (by_opening, f)

        module _ (b : Opening) (q : Some b ≡ result_ok o) where
          f : o ≡ Ok b
          f = opened o b q

          pub range_other : (c.count ≡ b.count → ⊥) → shut ≡ begin_at (range_front src c) at out
          unfolding bounds_front begin_at pick
          range_other g = rw (by_opening, f, ne_eqb c.count b.count g)

          module _ (g : c.count ≡ b.count) where
            begun_is : range_front src c ≡ front (flags ∷ []) b.first
            unfolding bounds_front pick
            begun_is = by_opening ∙ rw (f, eq-eqb c.count b.count g)

            pub range_not : 65535 ≤ at → shut ≡ begin_at (range_front src c) at out
            range_not l = rw begun_is (begun_not (flags ∷ []) b.first at out 1 refl (omega arith))

            pub range_begun : at < 65535 → (out' : List ℕ) → out' ≡ set out at (get_or part 0 0) → begins b.first (at + 1) out' ≡ begin_at (range_front src c) at out
            range_begun l out' x = rw begun_is (begun (flags ∷ []) b.first at out 1 refl (omega arith) out' (x ∙ ap (set out at) flags_is))

  -- the first index
  first_bound : (flags : ℕ) (b : List ℕ) (first : ℕ) (o : Result Opening ℕ) → ((x : Opening) → o ≡ Ok x → x.first ≤ 2) → bounds_front flags c.count o ≡ front b first → first ≤ 2
  unfolding bounds_front pick
  first_bound f b first (Err n) h e = cc
  first_bound f b first (Ok o) h e = go (eqb c.count o.count) e
    where
      go : (t : Bool) → pick t (front (f ∷ []) o.first) no_front ≡ front b first → first ≤ 2
      go true g = let x : o.first ≡ first = cc in omega (arith, h o refl)
      go false g = cc

  pub range_first : (b : List ℕ) (first : ℕ) → range_front src c ≡ front b first → first ≤ 2
  unfolding range_front pick
  range_first b first e =
      elim (dec_lt c.start (length src)) [
        | yes h ↦ let part : List ℕ = take (c.start + 1 - c.start) (drop c.start src) in
            first_bound _ b first (range_opening part) (λ o f. omega (arith, (range_opened part o f).0)) (sym (by_opening h part refl _ refl) ∙ e)
        | no h ↦ let f = rw (le-ltb c.start (length src) (omega arith)) at e in let z : ◌≡◌ {A = ℕ} 0 1 = cc in absurd (omega arith)
      ]

-- ---- by the kind of a container

pub as_front : (x y : Front) → x ≡ y → (at : ℕ) (out : List ℕ) → begin_at y at out ≡ begin_at x at out
as_front x y e at out = rw e

module _ (p : List ℕ) (k kind : ℕ) (is : Container p k kind) (src : List ℕ) (c : Claim) where
  pub front_range : kind ≡ 7 → front_of (look p k) src c ≡ range_front src c
  unfolding front_of
  front_range = by_kind p k kind is (λ m v. m ≡ 7 → front_of v src c ≡ range_front src c)
      (λ e. absurd (omega arith)) (λ e. absurd (omega arith)) (λ e. absurd (omega arith)) (λ e. absurd (omega arith)) (λ e. absurd (omega arith)) (λ e. refl)

  pub front_set : kind < 4 → front_of (look p k) src c ≡ front (set_bytes c.count) 0
  unfolding front_of
  front_set = by_kind p k kind is (λ m v. m < 4 → front_of v src c ≡ front (set_bytes c.count) 0)
      (λ h. refl) (λ h. refl) (λ h. absurd (omega arith)) (λ h. absurd (omega arith)) (λ h. absurd (omega arith)) (λ h. absurd (omega arith))

  pub front_sparse : kind ≡ 6 → front_of (look p k) src c ≡ front (bytes_be 4 c.count) 0
  unfolding front_of
  front_sparse = by_kind p k kind is (λ m v. m ≡ 6 → front_of v src c ≡ front (bytes_be 4 c.count) 0)
      (λ e. absurd (omega arith)) (λ e. absurd (omega arith)) (λ e. absurd (omega arith)) (λ e. absurd (omega arith)) (λ e. refl) (λ e. absurd (omega arith))

  -- a tuple or an object has as many elements as its node says
  module _ (a : At p k) (n : ℕ) (en : n ≡ get_or p (k + 1) 0) (n₇ : kind ≡ 7 → ⊥) (n₂ : (kind ≡ 2) ⊎ (kind ≡ 3) → ⊥) (n₆ : kind ≡ 6 → ⊥) where
    low : 4 ≤ kind
    low = omega (arith, is.low, λ (e : kind ≡ 2). n₂ (inl e), λ (e : kind ≡ 3). n₂ (inr e))

    counted : front_of (look p k) src c ≡ count_front n c
    unfolding front_of
    counted = by_kind p k kind is (λ m v. get_or p k 0 ≡ m → 4 ≤ m → (m ≡ 6 → ⊥) → (m ≡ 7 → ⊥) → front_of v src c ≡ count_front n c)
        (λ e l x y. absurd (omega arith))
        (λ e l x y. absurd (omega arith))
        (λ e l x y. let t : length (take (get_or p (k + 1) 0) (drop (k + 2) p)) ≡ get_or p (k + 1) 0 = tuple_length p k (get_or p (k + 1) 0) (at_tuple_size p k a e) in rw (t, en))
        (λ e l x y. rw (refs_length p k, en))
        (λ e l x y. absurd (x refl))
        (λ e l x y. absurd (y refl))
        (sym is.is) low n₆ n₇

    pub front_count : c.count ≡ n → front_of (look p k) src c ≡ front (bytes_be 4 c.count) 0
    unfolding count_front pick
    front_count e = counted ∙ rw (eq-eqb c.count n e, e)

    pub front_miscount : (c.count ≡ n → ⊥) → front_of (look p k) src c ≡ no_front
    unfolding count_front pick
    front_miscount e = counted ∙ rw (ne_eqb c.count n e)

-- ---- what a head that was put out says

pub record Began (x : Front) (at : ℕ) (out : List ℕ) (first from : ℕ) (out' : List ℕ) : Type 0 where
  pub bytes : List ℕ
  pub is : x ≡ front bytes first
  pub next : from ≡ at + length bytes
  pub small : from ≤ 65535
  pub output : out' ≡ sets out at bytes

pub began_is : (x : Front) (at : ℕ) (out : List ℕ) (first from : ℕ) (out' : List ℕ) → begins first from out' ≡ begin_at x at out → Began x at out first from out'
unfolding begin_at pick
began_is no_front at out first from out' e = let z : ◌≡◌ {A = ℕ} 0 1 = cc in absurd (omega arith)
began_is (front b i) at out first from out' e = go (leb (at + length b) 65535) refl e
  where
    go : (t : Bool) → leb (at + length b) 65535 ≡ t → begins first from out' ≡ pick t (begins i (at + length b) (sets out at b)) shut → Began (front b i) at out first from out'
    go true f g =
        let ei : i ≡ first = cc in
        let en : from ≡ at + length b = cc in
        let eo : out' ≡ sets out at b = cc in
        record { bytes = b; is = ap (front b) ei; next = en; small = omega (arith, leb-true (at + length b) 65535 f); output = eo }
    go false f g = let z : ◌≡◌ {A = ℕ} 0 1 = cc in absurd (omega arith)

-- a head that was not is faulty, or too large
pub shut_is : (P : Front → Type 0) (x : Front) (at : ℕ) (out : List ℕ) → shut ≡ begin_at x at out → P no_front → ((b : List ℕ) (first : ℕ) → 65535 < at + length b → P (front b first)) → P x
unfolding begin_at pick
shut_is P no_front at out e w l = w
shut_is P (front b i) at out e w l = go (leb (at + length b) 65535) refl e
  where
    go : (t : Bool) → leb (at + length b) 65535 ≡ t → shut ≡ pick t (begins i (at + length b) (sets out at b)) shut → P (front b i)
    go true f g = let z : ◌≡◌ {A = ℕ} 0 1 = cc in absurd (omega arith)
    go false f g = l b i (leb-false (at + length b) 65535 f)
