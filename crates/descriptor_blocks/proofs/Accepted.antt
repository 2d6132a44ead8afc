-- What an accepted descriptor's blocks obey: each is made from those before it, and is sound over them; and the root has values.
use mathlib.Core.Path.{◌≡◌, refl, sym, ◌∙◌}
use mathlib.Core.Logic.{⊎_elim}
use mathlib.Core.Bool.{true, false}
use mathlib.Core.List.{List, [], ◌∷◌, ◌++◌}
use Rattle.std.specs.Prelude.{Option, Some, None}
use Prim.Native.Nat.{ℕ, zero, suc, ◌+◌, ◌≤◌, ◌<◌}
use native.Mathlib.Nat.{eq-or-lt_of_le, le_of_suc-le-suc}
use native.Mathlib.Omega.{arith}
use lib.ListN.{length, get_or, take, length-append, get_or-append}
use lib.Seq.{get_or_at, take-append-le, take_at}
use borrow.Author.Tests.{leb-false}
use Rattle.wire.proofs.Picks.{clash, pick_yes, pick_split, pick_case}
use Rattle.descriptor_fields.specs.Layouts.{known_tag, indexed, valued}
use Rattle.descriptor_fields.specs.Fields.{Element, id_at}
use Rattle.descriptor_blocks.specs.Blocks.{Item, Reading, stop, next, block_from}
use Rattle.descriptor_blocks.specs.Descriptor.{Block, summaries, block_of, Blocks, faulty, whole, extended, full, onward, blocks_from}
use Rattle.descriptor_blocks.specs.Descriptor.{blocks_of, refused_by, described, index_of, tag_at, root_at, rooted, description_of}
use Rattle.descriptor_fields.specs.declared.Draft.{Draft}
use Rattle.descriptor_blocks.proofs.Sound.{Sound, block_sound}
use Rattle.protocol.specs.Numbers.{pick}
use Rattle.protocol.specs.Nodes.{enum}

-- in the place of a block that is not there
abbrev pub missing : Block
missing = record { start = 0; tag = 0; format = 0; height = 0; elements = []; items = []; shape = enum; node = 0; words = [] }

-- a block made from those before it
pub record Made (before : List Block) (b : Block) : Type 0 where
  pub start : ℕ
  pub tag : ℕ
  pub draft : Draft
  pub list : List Element
  pub items : List Item
  pub is : b ≡ block_of before start tag draft list items
  pub known : known_tag tag ≡ true
  pub counted : indexed tag ≡ true
  pub sound : Sound (summaries before) tag draft list

pub record Accepted (bs : List Block) : Type 0 where
  pub few : length bs ≤ 1024
  pub made : (i : ℕ) → i < length bs → Made (take i bs) (get_or bs i missing)

-- ---- the blocks, one by one

accepted_none : Accepted []
accepted_none = record { few = omega arith; made = λ i l. absurd (omega arith) }

accepted_more : (bs : List Block) (b : Block) → length bs < 1024 → Accepted bs → Made bs b → Accepted (bs ++ (b ∷ []))
accepted_more bs b l a m =
    record {
      few = omega (arith, length-append bs (b ∷ []));
      made = λ i k.
          let k' : i < suc (length bs) = omega (arith, length-append bs (b ∷ [])) in
          ⊎_elim
          (λ (e : i ≡ length bs). rw (get_or_at bs b [] missing i (sym e), take_at bs (b ∷ []) i (sym e)) m)
          (λ (e : i < length bs).
          let h : i ≤ length bs = omega arith in
          rw (get_or-append bs (b ∷ []) missing i e, take-append-le i bs (b ∷ []) h) (a.made i e))
          (eq-or-lt_of_le (le_of_suc-le-suc k'));
    }

module _ (d : List ℕ) where
  extend : (bs : List Block) (at tag : ℕ) (x : Draft) (es : List Element) (is : List Item) → known_tag tag ≡ true → full bs tag ≡ false
      → block_from d (summaries bs) tag (at + 1) ≡ next x es is → Accepted bs → Accepted (extended bs at tag x es is)
  unfolding extended full
  extend bs at tag x es is k f e a =
      pick_case Accepted (indexed tag) _ _
      (λ t.
      accepted_more bs (block_of bs at tag x es is) (leb-false _ _ (sym (pick_yes _ _ _ t) ∙ f)) a
      (record {
        start = at;
        tag = tag;
        draft = x;
        list = es;
        items = is;
        is = refl;
        known = k;
        counted = t;
        sound = block_sound d (summaries bs) tag (at + 1) k x es is e;
      }))
      (λ _. a)

  pub blocks_accepted : (f at : ℕ) (bs cs : List Block) → Accepted bs → blocks_from d f at bs ≡ whole cs → Accepted cs
  unfolding blocks_from onward
  blocks_accepted zero at bs cs a e = let z : ◌≡◌ {A = ℕ} 0 1 = cc in absurd (omega arith)
  blocks_accepted (suc f) at bs cs a e =
      ⊎_elim
      (λ p. let q : bs ≡ cs = cc p.1 in rw q at a)
      (λ p.
      ⊎_elim
      (λ t.
      ⊎_elim
      (λ z. let z : ◌≡◌ {A = ℕ} 0 1 = cc z.1 in absurd (omega arith))
      (λ u. go (block_from d (summaries bs) (get_or d at 0) (at + 1)) refl u.1 t.0 u.0 (λ at bs a e. blocks_accepted f at bs cs a e))
      (pick_split _ _ _ _ t.1))
      (λ z. let z : ◌≡◌ {A = ℕ} 0 1 = cc z.1 in absurd (omega arith))
      (pick_split _ _ _ _ p.1))
      (pick_split _ _ _ _ e)
    where
      go : (r : Reading) → block_from d (summaries bs) (get_or d at 0) (at + 1) ≡ r
          → onward at r (λ x es is. blocks_from d f x.at (extended bs at (get_or d at 0) x es is)) ≡ whole cs → known_tag (get_or d at 0) ≡ true
          → full bs (get_or d at 0) ≡ false → ((at : ℕ) (bs : List Block) → Accepted bs → blocks_from d f at bs ≡ whole cs → Accepted cs) → Accepted cs
      go (stop n) r e k l rest = let z : ◌≡◌ {A = ℕ} 0 1 = cc in absurd (omega arith)
      go (next x es is) r e k l rest = rest x.at (extended bs at (get_or d at 0) x es is) (extend bs at (get_or d at 0) x es is k l r a) e

-- ---- the root

-- the block with an index has values
pub record Valued (bs : List Block) (i : ℕ) : Type 0 where
  pub inside : i < length bs
  pub values : valued (get_or bs i missing).tag ≡ true

pub tag_valued : (bs : List Block) (i : ℕ) → valued (tag_at bs i) ≡ true → Valued bs i
unfolding tag_at valued pick
tag_valued [] i e = clash e
tag_valued (b ∷ bs) zero e = record { inside = omega arith; values = e }
tag_valued (b ∷ bs) (suc i) e = let v = tag_valued bs i e in record { inside = omega (arith, v.inside); values = v.values }

-- an accepted descriptor that has a type
rooted_is : (d : List ℕ) (r : ℕ) (t : Blocks) → blocks_of d ≡ t → (bs : List Block) (i : ℕ) → rooted d r t ≡ described bs i → Accepted bs × Valued bs i
unfolding rooted blocks_of root_at
rooted_is d r (faulty n p) w bs i e = let z : ◌≡◌ {A = ℕ} 0 1 = cc in absurd (omega arith)
rooted_is d r (whole cs) w bs i e = go (index_of d cs r) e
  where
    go : (o : Option ℕ) → root_at d cs o ≡ described bs i → Accepted bs × Valued bs i
    go None e = let z : ◌≡◌ {A = ℕ} 0 1 = cc in absurd (omega arith)
    go (Some j) e =
        ⊎_elim
        (λ p.
        let q : cs ≡ bs = cc p.1 in
        let q' : j ≡ i = cc p.1 in
        let v : Valued cs j = tag_valued cs j p.0 in
        (rw q at (blocks_accepted d (suc (length d)) 0 [] cs accepted_none w), rw (q', q) at v))
        (λ z. let z : ◌≡◌ {A = ℕ} 0 1 = cc z.1 in absurd (omega arith))
        (pick_split _ _ _ _ e)

pub described_is : (d root : List ℕ) (bs : List Block) (i : ℕ) → description_of d root ≡ described bs i → Accepted bs × Valued bs i
unfolding description_of
described_is d root bs i e =
    let never : (A : Type 0) (n p : ℕ) → refused_by n p ≡ described bs i → A = λ A n p e. let z : ◌≡◌ {A = ℕ} 0 1 = cc in absurd (omega arith) in
    ⊎_elim
    (λ z. never _ _ _ z.1)
    (λ p.
    ⊎_elim
    (λ q.
    ⊎_elim
    (λ r.
    ⊎_elim (λ z. let z : ◌≡◌ {A = ℕ} 0 1 = cc z.1 in absurd (omega arith)) (λ z. never _ _ _ z.1) (pick_split _ _ _ _ r.1))
    (λ r. rooted_is d (id_at root 0) (blocks_of d) refl bs i r.1)
    (pick_split _ _ _ _ q.1))
    (λ z. never _ _ _ z.1)
    (pick_split _ _ _ _ p.1))
    (pick_split _ _ _ _ e)
