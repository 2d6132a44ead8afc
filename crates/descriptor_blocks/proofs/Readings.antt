-- What holds from field to field holds from a block's start to its end.
use mathlib.Core.Path.{◌≡◌, refl}
use mathlib.Core.Logic.{⊎_elim}
use mathlib.Core.Bool.{Bool, true, false}
use mathlib.Core.List.{List, [], ◌∷◌}
use Rattle.std.specs.Prelude.{Ok, Err}
use Prim.Native.Nat.{ℕ, zero, suc, ◌+◌, ◌≤◌}
use native.Mathlib.Omega.{arith}
use lib.ListN.{length}
use borrow.Author.Tests.{leb-true}
use Rattle.wire.proofs.Picks.{pick_split}
use Rattle.descriptor_fields.specs.Fields.{Known, Element, Verdict, fine, extent, fault, kept, grown}
use Rattle.descriptor_blocks.specs.Blocks.{Item, Reading, stop, next, if_fine, noted, and_then, counting, field, fields, items}
use Rattle.descriptor_fields.specs.declared.Draft.{Draft}
use Rattle.protocol.specs.Numbers.{pick}

-- nothing was fine and a refusal
pub refusal_fine : {A : Type 0} (n : ℕ) → ◌≡◌ {A = Verdict} (Err n) fine → A
refusal_fine n e = let z : ◌≡◌ {A = ℕ} 0 1 = cc in absurd (omega arith)

-- a choice that is fine is none of the refusals
pub no_fault : (t : Bool) (a : Verdict) (n : ℕ) → pick t a (Err n) ≡ fine → (t ≡ true) × (a ≡ fine)
unfolding pick
no_fault true a n e = (refl, e)
no_fault false a n e = refusal_fine n e

pub fault_no : (t : Bool) (n : ℕ) (b : Verdict) → pick t (Err n) b ≡ fine → (t ≡ false) × (b ≡ fine)
unfolding pick
fault_no true n b e = refusal_fine n e
fault_no false n b e = (refl, e)

fine_next : (v : Verdict) (r : Reading) (y : Draft) (fs : List Element) (is : List Item) → if_fine v r ≡ next y fs is → (v ≡ fine) × (r ≡ next y fs is)
unfolding if_fine
fine_next (Ok u) r y fs is e = (refl, e)
fine_next (Err n) r y fs is e = let z : ◌≡◌ {A = ℕ} 0 1 = cc in absurd (omega arith)

-- ---- two readings, one after the other

noted_next : (is : List Item) (r : Reading) (y : Draft) (fs : List Element) (js : List Item) → noted is r ≡ next y fs js → (ks : List Item) × (r ≡ next y fs ks)
unfolding noted
noted_next is (stop n) y fs js e = let z : ◌≡◌ {A = ℕ} 0 1 = cc in absurd (omega arith)
noted_next is (next x es ks) y fs js e =
    let a : x ≡ y = cc in
    let b : es ≡ fs = cc in
    (ks, cc)

pub record Between (r : Reading) (f : Draft → List Element → Reading) (y : Draft) (fs : List Element) : Type 0 where
  pub draft : Draft
  pub list : List Element
  pub read : List Item
  pub rest : List Item
  pub first : r ≡ next draft list read
  pub second : f draft list ≡ next y fs rest

pub between : (r : Reading) (f : Draft → List Element → Reading) (y : Draft) (fs : List Element) (js : List Item) → and_then r f ≡ next y fs js → Between r f y fs
unfolding and_then
between (stop n) f y fs js e = let z : ◌≡◌ {A = ℕ} 0 1 = cc in absurd (omega arith)
between (next x es is) f y fs js e =
    let n = noted_next is (f x es) y fs js e in
    record { draft = x; list = es; read = is; rest = n.0; first = refl; second = n.1 }

pub next_same : (x y : Draft) (es fs : List Element) (is js : List Item) → next x es is ≡ next y fs js → (x ≡ y) × (es ≡ fs)
next_same x y es fs is js e = (cc, cc)

module _ (d : List ℕ) (known : List Known) (tag : ℕ) where
  -- ---- a field that was read

  pub record Step (c : ℕ) (x : Draft) (es : List Element) (y : Draft) (fs : List Element) : Type 0 where
    pub inside : x.at + extent d c x.at ≤ length d
    pub fine : fault d known tag c x es ≡ fine
    pub draft : kept d known tag c x ≡ y
    pub list : grown d c x es ≡ fs

  pub stepped : (c : ℕ) (x : Draft) (es : List Element) (y : Draft) (fs : List Element) (is : List Item) → field d known tag c x es ≡ next y fs is → Step c x es y fs
  unfolding field
  stepped c x es y fs is e =
      ⊎_elim
      (λ a.
      let b = fine_next _ _ _ _ _ a.1 in
      let s = next_same _ _ _ _ _ _ b.1 in
      record { inside = leb-true _ _ a.0; fine = b.0; draft = s.0; list = s.1 })
      (λ b. let z : ◌≡◌ {A = ℕ} 0 1 = cc b.1 in absurd (omega arith))
      (pick_split _ _ _ _ e)

  -- ---- fields, and a run of items

  -- P says what holds with fields yet to come
  module _ (P : List ℕ → Draft → List Element → Type 0)
      (step : (c : ℕ) (cs : List ℕ) (x : Draft) (es : List Element) → P (c ∷ cs) x es → (y : Draft) (fs : List Element) → Step c x es y fs → P cs y fs) where
    pub fields_keep : (cs : List ℕ) (x : Draft) (es : List Element) → P cs x es → (y : Draft) (fs : List Element) (is : List Item)
        → fields d known tag cs x es ≡ next y fs is → P [] y fs
    unfolding fields
    fields_keep [] x es p y fs is e =
        let s = next_same _ _ _ _ _ _ e in
        rw (← s.0, ← s.1) p
    fields_keep (c ∷ cs) x es p y fs is e =
        let b = between _ _ y fs is e in
        fields_keep cs b.draft b.list (step c cs x es p b.draft b.list (stepped c x es _ _ _ b.first)) y fs b.rest b.second

  -- Q says what holds with items yet to come
  module _ (cs : List ℕ) (Q : ℕ → Draft → List Element → Type 0)
      (round : (n : ℕ) (x : Draft) (es : List Element) → Q (suc n) x es → (y : Draft) (fs : List Element) (is : List Item)
      → fields d known tag cs (counting (suc n) x) es ≡ next y fs is → Q n y fs) where
    pub items_keep : (n : ℕ) (x : Draft) (es : List Element) → Q n x es → (y : Draft) (fs : List Element) (is : List Item)
        → items d known tag cs n x es ≡ next y fs is → Q 0 y fs
    unfolding items
    items_keep zero x es q y fs is e =
        let s = next_same _ _ _ _ _ _ e in
        rw (← s.0, ← s.1) q
    items_keep (suc n) x es q y fs is e =
        let b = between _ _ y fs is e in
        items_keep n b.draft b.list (round n x es q b.draft b.list b.read b.first) y fs b.rest b.second
