-- A scalar's format is known at its block's end: from its own id, or from its last ancestor.
use mathlib.Core.Path.{◌≡◌, refl, ap, sym, ◌∙◌}
use mathlib.Core.Logic.{⊎_elim}
use mathlib.Core.Bool.{Bool, true, false}
use mathlib.Core.List.{List, [], ◌∷◌}
use Rattle.std.specs.Prelude.{Err, Option, Some, None, is_some, is_none}
use Prim.Native.Nat.{ℕ, suc, ◌+◌, ◌≤◌, ◌<◌}
use native.Mathlib.Omega.{arith}
use lib.Dec.{ltb, eqb}
use lib.ListN.{length, get_or}
use borrow.Author.Tests.{eqb-false, ltb-true, ltb-false, eq-eqb}
use Rattle.wire.proofs.Picks.{clash, pick_yes, pick_case, same_or_not}
use Rattle.descriptor_fields.specs.Layouts.{ID, TEXT, BOOL, ANCESTORS, ANCESTOR, layout}
use Rattle.descriptor_fields.specs.Fields.{Known, Element, fine, format_number, no_block, id_at, format_of, number_at, formatless, count_fault, decides, format_by, fits, kind_fault, ref_fault, fault, format_after, kept}
use Rattle.descriptor_blocks.specs.Blocks.{Item, next, noted, and_then, counting, fields, items, section, block_from}
use Rattle.descriptor_fields.specs.declared.Draft.{Draft}
use Rattle.descriptor_blocks.proofs.Readings.{refusal_fine, no_fault, fault_no, between, next_same, stepped, items_keep}
use Rattle.protocol.specs.Numbers.{pick}

-- a format is below 20
abbrev Low : Option ℕ → Type 0
Low None = Unit {0}
Low (Some f) = f < 20

low_format : (i : ℕ) → Low (format_of i)
unfolding format_of
low_format i =
    pick_case Low (ltb i 0x100) _ _ (λ _. tt)
    (λ a. pick_case Low (ltb i 0x113) _ _ (λ b. omega (arith, ltb-true i 0x113 b, ltb-false i 0x100 a)) (λ _. pick_case Low (eqb i 0x130) _ _ (λ _. omega arith) (λ _. tt)))

low_number : (o : Option ℕ) → Low o → (o ≡ None → ⊥) → format_number o < 20
low_number None l n = absurd (n refl)
low_number (Some f) l n = l

-- the format is settled, or is to come from one of n ancestors
abbrev Due : ℕ → Draft → Type 0
Due n x = Low x.format × (x.format ≡ None → 1 ≤ n)

module _ (d : List ℕ) (known : List Known) where
  -- ---- the head: a scalar that needs an ancestor has one (R3.16)

  due_count : (x : Draft) (es : List Element) → fault d known 3 ANCESTORS x es ≡ fine → x.format ≡ None → 1 ≤ number_at d ANCESTORS x.at
  unfolding fault count_fault formatless pick
  due_count x es sound e =
      let v = number_at d ANCESTORS x.at in
      let f : count_fault 3 ANCESTORS x v ≡ fine = sound in
      let g = (fault_no (ltb 512 v) 17 (pick (eqb v 0) (pick (is_none x.format) (Err 12) fine) fine) f).1 in
      ⊎_elim
      (λ (z : v ≡ 0).
      refusal_fine 12
      (sym (pick_yes (eqb v 0) (pick (is_none x.format) (Err 12) fine) fine (eq-eqb _ _ z) ∙ pick_yes (is_none x.format) (Err 12) fine (ap is_none e)) ∙ g))
      (λ (z : v ≡ 0 → ⊥). omega arith)
      (same_or_not v 0)

  head_due : (x : Draft) (es : List Element) (y : Draft) (fs : List Element) (is : List Item)
      → fields d known 3 (ID ∷ TEXT ∷ BOOL ∷ ANCESTORS ∷ []) x es ≡ next y fs is → Due y.left y
  unfolding fields kept format_after pick
  head_due x es y fs is e =
      let a = between _ _ y fs is e in
      let b = between _ _ y fs a.rest a.second in
      let c = between _ _ y fs b.rest b.second in
      let l = between _ _ y fs c.rest c.second in
      let s = stepped d known 3 ID x es _ _ _ a.first in
      let t = stepped d known 3 TEXT _ _ _ _ _ b.first in
      let u = stepped d known 3 BOOL _ _ _ _ _ c.first in
      let w = stepped d known 3 ANCESTORS _ _ _ _ _ l.first in
      let f1 : format_of (id_at d x.at) ≡ a.draft.format = ap (λ (z : Draft). z.format) s.draft in
      let f2 : a.draft.format ≡ b.draft.format = ap (λ (z : Draft). z.format) t.draft in
      let f3 : b.draft.format ≡ c.draft.format = ap (λ (z : Draft). z.format) u.draft in
      let f4 : c.draft.format ≡ l.draft.format = ap (λ (z : Draft). z.format) w.draft in
      let f5 : number_at d ANCESTORS c.draft.at ≡ l.draft.left = ap (λ (z : Draft). z.left) w.draft in
      let q : l.draft ≡ y = (next_same _ _ _ _ _ _ l.second).0 in
      let r : Due l.draft.left l.draft =
      (rw (f1 ∙ f2 ∙ f3 ∙ f4) at (low_format (id_at d x.at)), λ g. omega (arith, due_count c.draft c.list w.fine (f4 ∙ g)))
      in
      rw q at r

  -- ---- the ancestors

  module _ (n : ℕ) (x : Draft) (es : List Element) (q : Due (suc n) x) (sound : fault d known 3 ANCESTOR (counting (suc n) x) es ≡ fine) where
    last : Known
    last = get_or known (number_at d ANCESTOR x.at) no_block

    -- the last ancestor is a scalar whose own id is known (R3.16)
    last_known : fits d 3 ANCESTOR (counting (suc n) x) last ≡ true
    unfolding fault ref_fault kind_fault pick last
    last_known =
        let v = number_at d ANCESTOR x.at in
        let a : pick (ltb v (length known)) (kind_fault d 3 ANCESTOR (counting (suc n) x) last) (Err 13) ≡ fine = sound in
        (no_fault (fits d 3 ANCESTOR (counting (suc n) x) last) fine 14 (no_fault (ltb v (length known)) _ 13 a).1).0

    low_by : Low (format_by d last)
    unfolding format_by
    low_by = pick_case Low (eqb last.tag 3) _ _ (λ _. low_format (id_at d (last.start + 1))) (λ _. tt)

    ancestor_due : Due n (kept d known 3 ANCESTOR (counting (suc n) x))
    unfolding fits formatless decides kept format_after pick last
    ancestor_due = go (decides 3 (counting (suc n) x)) refl last_known
      where
        go : (t : Bool) → decides 3 (counting (suc n) x) ≡ t → pick t (is_some (format_by d last)) true ≡ true
            → Low (pick t (format_by d last) x.format) × (pick t (format_by d last) x.format ≡ None → 1 ≤ n)
        go true e f = (low_by, λ g. clash (sym (ap is_some g) ∙ f))
        go false e f = (
          q.0,
          λ (g : x.format ≡ None).
              let h : eqb (suc n) 1 ≡ false = sym (pick_yes (is_none x.format) (eqb (suc n) 1) false (ap is_none g)) ∙ e in
              let z = eqb-false (suc n) 1 h in
              omega arith,
        )

  ancestors_due : (n : ℕ) (x : Draft) (es : List Element) → Due n x → (y : Draft) (fs : List Element) (is : List Item)
      → items d known 3 (ANCESTOR ∷ []) n x es ≡ next y fs is → Due 0 y
  unfolding fields
  ancestors_due =
      items_keep d known 3 (ANCESTOR ∷ []) (λ n x es. Due n x)
      (λ n x es q y fs is e.
      let b = between _ _ y fs is e in
      let s = stepped d known 3 ANCESTOR _ _ _ _ _ b.first in
      let w : kept d known 3 ANCESTOR (counting (suc n) x) ≡ y = s.draft ∙ (next_same _ _ _ _ _ _ b.second).0 in
      rw w at (ancestor_due n x es q s.fine))

  -- ---- the block

  pub scalar_format : (at : ℕ) (y : Draft) (fs : List Element) (is : List Item) → block_from d known 3 at ≡ next y fs is → format_number y.format < 20
  unfolding block_from section layout fields items and_then noted pick
  scalar_format at y fs is e =
      let b = between _ _ y fs is e in
      let h = between _ _ b.draft b.list b.read b.first in
      let g = head_due _ _ h.draft h.list h.read h.first in
      let w = ancestors_due h.draft.left h.draft h.list g b.draft b.list h.rest h.second in
      let q : b.draft.format ≡ y.format = ap (λ (z : Draft). z.format) (next_same (counting 0 b.draft) y b.list fs [] b.rest b.second).0 in
      let n : b.draft.format ≡ None → ⊥ = λ z. omega (arith, w.1 z) in
      rw q at (low_number b.draft.format w.0 n)
