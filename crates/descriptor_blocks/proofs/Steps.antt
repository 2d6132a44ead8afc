-- Where the reading of fields, of items and of a section leads: what is left of it leads to the same place.
use mathlib.Core.Path.{◌≡◌, refl, ap, sym, ◌∙◌}
use mathlib.Core.Bool.{true}
use mathlib.Core.List.{List, [], ◌∷◌}
use Rattle.std.specs.Prelude.{Ok, Err}
use Prim.Native.Nat.{ℕ, suc, ◌+◌, ◌≤◌, ◌<◌}
use native.Mathlib.Nat.{add-zero}
use native.Mathlib.Numerals.{add-one}
use native.Mathlib.Omega.{arith}
use lib.Dec.{eqb, leb}
use lib.ListN.{length, drop, get_or, drop_of_length-le}
use lib.Seq.{drop-cons}
use borrow.Author.Tests.{eq-eqb, ne_eqb, le-leb, lt-leb}
use Rattle.wire.proofs.Picks.{pick_yes, pick_no}
use Rattle.descriptor_fields.specs.Layouts.{up_to_end}
use Rattle.descriptor_fields.specs.Fields.{Known, Element, Verdict, fine, extent, fault, kept, grown}
use Rattle.descriptor_blocks.specs.Blocks.{Reading, stop, next, if_fine, noted, and_then, counting, field, fields, items}
use Rattle.descriptor_blocks.specs.Walks.{Walk, stopped, moved, led, push, pushes, Inside}
use Rattle.descriptor_fields.specs.Arrays.{Roomy, elements_of}
use Rattle.descriptor_blocks.proofs.Rules.{kept_at, kept_left, kept_many, grown_not}
use Rattle.descriptor_fields.specs.declared.Draft.{Draft}
use Rattle.protocol.specs.Numbers.{pick}

-- ---- one reading after another

unfoldable pub follow : Walk → (Draft → List Element → Walk) → Walk
follow (stopped n) f = stopped n
follow (moved x es) f = f x es

pub led_then : (r : Reading) (f : Draft → List Element → Reading) → led (and_then r f) ≡ follow (led r) (λ x es. led (f x es))
unfolding led and_then follow noted
led_then (stop n) f = refl
led_then (next x es is) f = after (f x es)
  where
    after : (q : Reading) → led (noted is q) ≡ led q
    after (stop n) = refl
    after (next y fs js) = refl

module _ (r : Reading) (f : Draft → List Element → Reading) where
  pub halts : (n : ℕ) → stopped n ≡ led r → stopped n ≡ led (and_then r f)
  unfolding follow
  halts n e = sym (led_then r f ∙ ap (λ (w : Walk). follow w (λ x es. led (f x es))) (sym e))

  pub goes : (x : Draft) (es : List Element) → moved x es ≡ led r → led (and_then r f) ≡ led (f x es)
  unfolding follow
  goes x es e = led_then r f ∙ ap (λ (w : Walk). follow w (λ y fs. led (f y fs))) (sym e)

-- ---- a field

module _ (d : List ℕ) (known : List Known) (tag c : ℕ) (x : Draft) (es : List Element) (size : ℕ) (is : size ≡ extent d c x.at) where
  pub field_short : length d < x.at + size → stopped 10 ≡ led (field d known tag c x es)
  unfolding field led
  field_short h = ap led (sym (pick_no _ _ _ (lt-leb _ _ (rw is at h))))

  module _ (h : x.at + size ≤ length d) (v : Verdict) (e : v ≡ fault d known tag c x es) where
    fits : leb (x.at + extent d c x.at) (length d) ≡ true
    fits = le-leb _ _ (rw is at h)

    pub field_bad : (n : ℕ) → v ≡ Err n → stopped n ≡ led (field d known tag c x es)
    unfolding field led if_fine
    field_bad n z = ap led (sym (pick_yes _ _ _ fits ∙ ap (λ (w : Verdict). if_fine w (next (kept d known tag c x) (grown d c x es) (record { kind = c; start = x.at } ∷ []))) (sym e ∙ z)))

    module _ (z : v ≡ fine) (y : Draft) (p : y ≡ kept d known tag c x) where
      pub field_good : (fs : List Element) → fs ≡ grown d c x es → moved y fs ≡ led (field d known tag c x es)
      unfolding field led if_fine
      field_good fs q =
          rw (p, q)
          (ap led (sym (pick_yes _ _ _ fits ∙ ap (λ (w : Verdict). if_fine w (next (kept d known tag c x) (grown d c x es) (record { kind = c; start = x.at } ∷ []))) (sym e ∙ z))))

      pub field_inside : x.left ≤ 512 → Inside (length d) (x.count + push c) (Ok y)
      unfolding Inside
      field_inside l = rw p (omega (arith, kept_at d known tag c x), kept_left d known tag c x es (sym e ∙ z) l, omega (arith, kept_many d known tag c x))

-- ---- room for elements

pub roomy_less : (a : List ℕ) (n m : ℕ) → Roomy a (n + m) → Roomy a n
roomy_less a n m r = record { room = r.room; few = omega (arith, r.few) }

pub roomy_as : (a b : List ℕ) (n : ℕ) → length b ≡ length a → Roomy a n → Roomy b n
roomy_as a b n e r = record { room = omega (arith, r.room); few = r.few }

pub roomy_one : (a : List ℕ) (n c : ℕ) → 17 ≤ c → Roomy a (n + push c) → Roomy a (n + 1)
unfolding push
roomy_one a n c g r = record { room = r.room; few = let e : ◌≡◌ {A = ℕ} (pick (leb 17 c) 1 0) 1 = pick_yes _ _ _ (le-leb 17 c g) in omega (arith, r.few) }

-- no element more
pub grown_same : (d : List ℕ) (known : List Known) (tag c : ℕ) (x y : Draft) (a : List ℕ) → c < 17 → y ≡ kept d known tag c x
    → elements_of a y.count ≡ grown d c x (elements_of a x.count)
unfolding push
grown_same d known tag c x y a h p =
    let e : ◌≡◌ {A = ℕ} (pick (leb 17 c) 1 0) 0 = pick_no _ _ _ (lt-leb 17 c h) in
    let q : y.count ≡ x.count = ap (λ (z : Draft). z.count) p ∙ kept_many d known tag c x ∙ rw e (add-zero x.count) in
    ap (elements_of a) q ∙ grown_not d c x (elements_of a x.count) h

-- ---- fields

module _ (codes : List ℕ) (k : ℕ) where
  pub codes_over : length codes ≤ k → up_to_end (drop k codes) ≡ []
  unfolding up_to_end
  codes_over h = rw (drop_of_length-le codes {i = k} h)

  module _ (h : k < length codes) where
    codes_first : up_to_end (drop k codes) ≡ pick (eqb (get_or codes k 0) 0) [] (get_or codes k 0 ∷ up_to_end (drop (k + 1) codes))
    unfolding up_to_end
    codes_first = rw (add-one, drop-cons codes k 0 h)

    pub codes_end : get_or codes k 0 ≡ 0 → up_to_end (drop k codes) ≡ []
    codes_end e = codes_first ∙ pick_yes _ _ _ (eq-eqb _ _ e)

    pub codes_next : (get_or codes k 0 ≡ 0 → ⊥) → up_to_end (drop k codes) ≡ get_or codes k 0 ∷ up_to_end (drop (k + 1) codes)
    codes_next n = codes_first ∙ pick_no _ _ _ (ne_eqb _ _ n)

pub pushes_next : (c : ℕ) (cs cs' : List ℕ) → cs ≡ c ∷ cs' → pushes cs ≡ push c + pushes cs'
unfolding pushes
pushes_next c cs cs' e = rw e

module _ (d : List ℕ) (known : List Known) (tag : ℕ) where
  pub fields_none : (cs : List ℕ) (x : Draft) (es : List Element) → cs ≡ [] → moved x es ≡ led (fields d known tag cs x es)
  unfolding fields led
  fields_none cs x es e = rw e

  module _ (c : ℕ) (cs cs' : List ℕ) (x : Draft) (es : List Element) (e : cs ≡ c ∷ cs') where
    pub fields_halt : (n : ℕ) → stopped n ≡ led (field d known tag c x es) → stopped n ≡ led (fields d known tag cs x es)
    unfolding fields
    fields_halt n s = rw e (halts (field d known tag c x es) (fields d known tag cs') n s)

    pub fields_go : (y : Draft) (fs : List Element) → moved y fs ≡ led (field d known tag c x es) → led (fields d known tag cs x es) ≡ led (fields d known tag cs' y fs)
    unfolding fields
    fields_go y fs s = rw e (goes (field d known tag c x es) (fields d known tag cs') y fs s)

  -- ---- items

  pub items_none : (cs : List ℕ) (n : ℕ) (x : Draft) (es : List Element) → n ≡ 0 → moved x es ≡ led (items d known tag cs n x es)
  unfolding items led
  items_none cs n x es e = rw e

  module _ (cs : List ℕ) (n m : ℕ) (x : Draft) (es : List Element) (e : n ≡ m + 1) where
    pub items_halt : (k : ℕ) → stopped k ≡ led (fields d known tag cs (counting n x) es) → stopped k ≡ led (items d known tag cs n x es)
    unfolding items
    items_halt k s = rw (e, add-one) (halts (fields d known tag cs (counting (suc m) x) es) (items d known tag cs m) k (rw (e, add-one) at s))

    pub items_go : (y : Draft) (fs : List Element) → moved y fs ≡ led (fields d known tag cs (counting n x) es) → led (items d known tag cs n x es) ≡ led (items d known tag cs m y fs)
    unfolding items
    items_go y fs s = rw (e, add-one) (goes (fields d known tag cs (counting (suc m) x) es) (items d known tag cs m) y fs (rw (e, add-one) at s))
