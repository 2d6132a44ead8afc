-- The laws of a leaf, of an absent element and of an element that is there.
use mathlib.Core.Path.{◌≡◌, refl, ap, sym, ◌∙◌}
use mathlib.Core.Bool.{Bool, true, false}
use mathlib.Core.List.{List}
use mathlib.Core.Option.{some}
use Prim.Native.Nat.{ℕ, ◌+◌, ◌-◌, ◌<◌, ◌≤◌}
use native.Mathlib.Omega.{arith}
use native.Mathlib.Nat.{add-sub_cancel_left}
use lib.Dec.{leb}
use lib.ListN.{length, take, drop}
use lib.Seq.{sets}
use borrow.Author.Tests.{eq-eqb, ne_eqb, le-leb, lt-leb, leb-true}
use Rattle.value_parts.specs.Walk.{Container}
use Rattle.value_parts.proofs.Members.{part_size}
use Rattle.supply_entries.specs.Emitting.{broken, stands, put_at, head_of, head_size}
use Rattle.supply_entries.proofs.Stands.{put_small, put_large, headed_stop, headed_go}
use Rattle.supply_entries.proofs.Heads.{head_is, head_length, lack_size}
use Rattle.protocol.specs.Numbers.{pick}
use Rattle.protocol.specs.Constants.{ABSENT}
use Rattle.protocol.specs.Nodes.{ref_at}
use Rattle.protocol.specs.Plans.{look}
use Rattle.protocol.specs.Supplies.{Claim}
use Rattle.protocol.specs.Building.{Made, wrong, made, Builder, head_bytes, may_lack, leaf_made, absent_made, headed, part_made}

-- ---- a leaf

part_length : (s : List ℕ) (a n : ℕ) → a + n ≤ length s → length (take n (drop a s)) ≡ n
part_length s a n h = ap (λ (k : ℕ). length (take k (drop a s))) (sym (add-sub_cancel_left a n)) ∙ part_size s a n h

module _ (good : List ℕ → Bool) (src : List ℕ) (c : Claim) (ws : List ℕ) (at : ℕ) (out : List ℕ) where
  pub leaf_count : (c.count ≡ 0 → ⊥) → broken ≡ put_at (leaf_made good src c ws) at out
  unfolding leaf_made put_at pick
  leaf_count n = rw (ne_eqb c.count 0 n)

  module _ (z : c.count ≡ 0) where
    leaf_is : leaf_made good src c ws
        ≡ pick (leb (c.start + c.size) (length src))
        (pick (good (take c.size (drop c.start src))) (made (take c.size (drop c.start src)) ws) wrong) wrong
    unfolding leaf_made pick
    leaf_is = rw (eq-eqb c.count 0 z)

    -- the size is judged before the bytes
    pub leaf_large : 65535 < at + c.size → broken ≡ put_at (leaf_made good src c ws) at out
    unfolding put_at pick
    leaf_large h = go (leb (c.start + c.size) (length src)) refl (good (take c.size (drop c.start src))) refl
      where
        go : (x : Bool) → leb (c.start + c.size) (length src) ≡ x → (y : Bool) → good (take c.size (drop c.start src)) ≡ y
            → broken ≡ put_at (leaf_made good src c ws) at out
        go false ex y ey = rw (leaf_is, ex)
        go true ex false ey = rw (leaf_is, ex, ey)
        go true ex true ey =
            let n : length (take c.size (drop c.start src)) ≡ c.size = part_length src c.start c.size (leb-true (c.start + c.size) (length src) ex) in
            let w : leaf_made good src c ws ≡ made (take c.size (drop c.start src)) ws = leaf_is ∙ rw (ex, ey) in
            sym (ap (λ (m : Made). put_at m at out) w ∙ put_large (take c.size (drop c.start src)) ws at out (omega arith))

    pub leaf_outside : length src < c.start + c.size → broken ≡ put_at (leaf_made good src c ws) at out
    unfolding put_at pick
    leaf_outside h = rw (leaf_is, lt-leb (c.start + c.size) (length src) h)

    -- the part from its start to its end, as the code takes it
    module _ (h : c.start + c.size ≤ length src) (b : List ℕ) (eb : b ≡ take (c.start + c.size - c.start) (drop c.start src)) (r : Bool) (er : r ≡ good b) where
      part_is : take c.size (drop c.start src) ≡ b
      part_is = sym (eb ∙ ap (λ (n : ℕ). take n (drop c.start src)) (add-sub_cancel_left c.start c.size))

      inside_is : leaf_made good src c ws ≡ pick r (made b ws) wrong
      unfolding pick
      inside_is = leaf_is ∙ rw (le-leb (c.start + c.size) (length src) h, part_is, ← er)

      pub leaf_unfit : r ≡ false → broken ≡ put_at (leaf_made good src c ws) at out
      unfolding put_at pick
      leaf_unfit e = rw (inside_is, e)

      pub leaf_done : r ≡ true → at + c.size ≤ 65535 → (out' : List ℕ) → out' ≡ sets out at b → stands ws (at + c.size) out' ≡ put_at (leaf_made good src c ws) at out
      unfolding pick
      leaf_done e small out' o =
          let n : length b ≡ c.size = sym (ap length part_is) ∙ part_length src c.start c.size h in
          sym (ap (λ (m : Made). put_at m at out) (inside_is ∙ rw e) ∙ put_small b ws at out (omega arith) ∙ rw (n, o))

-- ---- an absent element

module _ (p : List ℕ) (k kind : ℕ) (is : Container p k kind) (r : ℕ) (c : Claim) (ws : List ℕ) (at : ℕ) (out : List ℕ) where
  pub absent_barred : may_lack (look p k) c.index ≡ false → broken ≡ put_at (absent_made (look p k) r c ws) at out
  unfolding absent_made put_at pick
  absent_barred e = rw e

  module _ (may : may_lack (look p k) c.index ≡ true) where
    pub absent_node : (c.node ≡ r → ⊥) → broken ≡ put_at (absent_made (look p k) r c ws) at out
    unfolding absent_made put_at pick
    absent_node n = rw (may, ne_eqb c.node r n)

    module _ (en : c.node ≡ r) where
      pub absent_count : (c.count ≡ 0 → ⊥) → broken ≡ put_at (absent_made (look p k) r c ws) at out
      unfolding absent_made put_at pick
      absent_count n = rw (may, eq-eqb c.node r en, ne_eqb c.count 0 n)

      module _ (ec : c.count ≡ 0) where
        absent_is : absent_made (look p k) r c ws ≡ made (head_bytes (look p k) c.index ABSENT) ws
        unfolding absent_made pick
        absent_is = rw (may, eq-eqb c.node r en, eq-eqb c.count 0 ec)

        absent_length : length (head_bytes (look p k) c.index ABSENT) ≡ 8
        absent_length = head_length p k kind is c.index ABSENT ∙ (lack_size p k kind is c.index may).0

        pub absent_large : 65535 < at + 8 → broken ≡ put_at (absent_made (look p k) r c ws) at out
        absent_large h =
            sym (ap (λ (m : Made). put_at m at out) absent_is ∙ put_large (head_bytes (look p k) c.index ABSENT) ws at out (omega (arith, absent_length)))

        pub absent_done : at + 8 ≤ 65535 → (out' : List ℕ) → out' ≡ sets out at (head_of kind c.index ABSENT)
            → stands ws (at + 8) out' ≡ put_at (absent_made (look p k) r c ws) at out
        absent_done h out' o =
            let e : out' ≡ sets out at (head_bytes (look p k) c.index ABSENT) = o ∙ ap (sets out at) (head_is p k kind is c.index ABSENT) in
            sym (ap (λ (m : Made). put_at m at out) absent_is
            ∙ put_small (head_bytes (look p k) c.index ABSENT) ws at out (omega (arith, absent_length))
            ∙ rw (absent_length, e))

-- ---- an element

module _ (p : List ℕ) (k kind : ℕ) (is : Container p k kind) (rule : Builder) (c : Claim) (rest ws : List ℕ) (r : ℕ) (er : ref_at (look p k) c.index ≡ some r) (at : ℕ) (out : List ℕ) where
  pub member_absent : c.size ≡ ABSENT → put_at (absent_made (look p k) r c rest) at out ≡ put_at (part_made rule (look p k) (ref_at (look p k) c.index) c rest ws) at out
  unfolding part_made pick
  member_absent e = rw (er, eq-eqb c.size ABSENT e)

  module _ (there : c.size ≡ ABSENT → ⊥) where
    there_is : part_made rule (look p k) (ref_at (look p k) c.index) c rest ws ≡ headed (look p k) c.index (rule r c.index ws)
    unfolding part_made pick
    there_is = rw (er, ne_eqb c.size ABSENT there)

    pub member_stop : (h : ℕ) → h ≡ head_size kind → broken ≡ put_at (rule r c.index ws) (at + h) out
        → broken ≡ put_at (part_made rule (look p k) (ref_at (look p k) c.index) c rest ws) at out
    member_stop h eh q =
        rw there_is (headed_stop (look p k) c.index h (λ n. head_length p k kind is c.index n ∙ sym eh) at out (rule r c.index ws) q)

    pub member_go : (h : ℕ) → h ≡ head_size kind → (us : List ℕ) (at' : ℕ) (out₁ : List ℕ) → stands us at' out₁ ≡ put_at (rule r c.index ws) (at + h) out
        → (out₂ : List ℕ) → out₂ ≡ sets out₁ at (head_of kind c.index (at' - (at + h)))
        → stands us at' out₂ ≡ put_at (part_made rule (look p k) (ref_at (look p k) c.index) c rest ws) at out
    member_go h eh us at' out₁ q out₂ o =
        rw there_is
        (headed_go (look p k) c.index h (λ n. head_length p k kind is c.index n ∙ sym eh) at out (rule r c.index ws) us at' out₁ q out₂
        (o ∙ ap (sets out₁ at) (head_is p k kind is c.index (at' - (at + h)))))
