-- Sections of a block: fields one after another, and runs of items.
use mathlib.Core.Path.{◌≡◌, refl, sym, subst}
use mathlib.Core.Bool.{false}
use mathlib.Core.List.{List, [], ◌∷◌, ◌++◌}
use Prim.Native.Nat.{ℕ, zero, suc, ◌+◌, ◌≤◌}
use lib.ListN.{length, take, drop}
use Rattle.descriptor_fields.specs.Layouts.{TEXT, BOOL, ANCESTORS, ANCESTOR}
use Rattle.descriptor_fields.specs.Fields.{Known, Element, extent, text_at, number_at, width_of, formatless, decides, fault as fault_of, kept, grown, height_after}
use Rattle.descriptor_fields.specs.declared.Draft.{Draft}
use Rattle.descriptor_blocks.specs.Blocks.{Reading, and_then, field, fields, items, counting}
use Rattle.protocol.specs.Descriptors.{Block, Parsed, Reader, text_field, bool_field, item_count, counted, schema, any_block}
use Rattle.protocol.specs.Descriptors.{item_run as items_of}
use Rattle.descriptor_agree.proofs.Agree.{judged, Agree, agree_then, agree_map, agree_assoc, agree_noted, agree_field, agree_last}
use Rattle.descriptor_agree.proofs.Fields.{Pairs, bool_same, text_same, ancestors_same, ancestor_same}
use Rattle.protocol.specs.Numbers.{pick, be}

module _ (d : List ℕ) (known : List Known) (tag : ℕ) where
  -- fields that are yet to come, and the run after them
  unfoldable pub rest : List ℕ → List ℕ → Draft → List Element → Reading
  rest cs is x es = and_then (fields d known tag cs x es) (λ y fs. items d known tag is y.left y fs)

  pub rest_cons : {B : Type 0} (Q : Draft → List Element → B → Type 0) (c : ℕ) (cs is : List ℕ) (x : Draft) (es : List Element) (p : Parsed B)
      → Agree d Q (and_then (field d known tag c x es) (rest cs is)) p → Agree d Q (rest (c ∷ cs) is x es) p
  unfolding rest fields
  rest_cons Q c cs is x es p e = agree_assoc d Q (field d known tag c x es) (fields d known tag cs) (λ y fs. items d known tag is y.left y fs) p e

  pub rest_end : {B : Type 0} (Q : Draft → List Element → B → Type 0) (is : List ℕ) (x : Draft) (es : List Element) (p : Parsed B)
      → Agree d Q (items d known tag is x.left x es) p → Agree d Q (rest [] is x es) p
  unfolding rest fields and_then
  rest_end Q is x es p e = agree_noted d Q [] (items d known tag is x.left x es) p e

  -- a run of items, by what holds with so many yet to come
  module _ {A : Type 0} (cs : List ℕ) (item : List A → Reader A) (Inv : ℕ → Draft → List Element → List A → Type 0)
      (step : (n : ℕ) (x : Draft) (es : List Element) (before : List A) → x.at ≤ length d → Inv (suc n) x es before
      → Agree d (λ y fs a. Inv n y fs (before ++ (a ∷ []))) (fields d known tag cs (counting (suc n) x) es) (item before (drop x.at d))) where
    pub agree_items : (n : ℕ) (x : Draft) (es : List Element) (before : List A) → x.at ≤ length d → Inv n x es before
        → Agree d (Inv 0) (items d known tag cs n x es) (items_of item n before (drop x.at d))
    unfolding items items_of
    agree_items zero x es before h inv = (refl, h, inv)
    agree_items (suc n) x es before h inv =
        agree_then d (λ y fs a. Inv n y fs (before ++ (a ∷ []))) (Inv 0) (fields d known tag cs (counting (suc n) x) es)
        (item before (drop x.at d)) (items d known tag cs n) (λ a. items_of item n (before ++ (a ∷ []))) (step n x es before h inv)
        (λ y fs a l i. agree_items n y fs (before ++ (a ∷ [])) l i)

  -- a count, and as many items
  module _ {A : Type 0} (c : ℕ) (cs : List ℕ) (item : List A → Reader A) (Inv : ℕ → Draft → List Element → List A → Type 0)
      (step : (n : ℕ) (x : Draft) (es : List Element) (before : List A) → x.at ≤ length d → Inv (suc n) x es before
      → Agree d (λ y fs a. Inv n y fs (before ++ (a ∷ []))) (fields d known tag cs (counting (suc n) x) es) (item before (drop x.at d)))
      (x : Draft) (es : List Element) where
    pub agree_run : item_count (drop x.at d) ≡ judged d x.at (extent d c x.at) (fault_of d known tag c x es) (be (take 2 (drop x.at d)))
        → (kept d known tag c x).left ≡ be (take 2 (drop x.at d))
        → Inv (be (take 2 (drop x.at d))) (kept d known tag c x) (grown d c x es) []
        → Agree d (Inv 0) (rest (c ∷ []) cs x es) (counted item (drop x.at d))
    unfolding counted kept
    agree_run same left inv =
        rest_cons (Inv 0) c [] cs x es (counted item (drop x.at d))
        (agree_field d known tag (Inv 0) c x es (item_count (drop x.at d)) (be (take 2 (drop x.at d))) (rest [] cs)
        (λ n. items_of item n []) same
        (λ l z. rest_end (Inv 0) cs (kept d known tag c x) (grown d c x es) _
        (subst (λ (m : ℕ). Agree d (Inv 0) (items d known tag cs m (kept d known tag c x) (grown d c x es)) (items_of item (be (take 2 (drop x.at d))) [] (drop (x.at + extent d c x.at) d)))
        (sym left) (agree_items cs item Inv step (be (take 2 (drop x.at d))) (kept d known tag c x) (grown d c x es) [] l inv))))

-- nothing of the elements was read yet
pub record Fresh (x : Draft) (es : List Element) : Type 0 where
  pub height : x.height ≡ 1
  pub free : x.free ≡ 0
  pub none_yet : es ≡ []

module _ (d : List ℕ) (known : List Known) (tag : ℕ) (bs : List Block) (pairs : Pairs d known bs) where
  -- ancestors that decide nothing
  ancestor_step : (plain : (y : Draft) → formatless tag y ≡ false) (n : ℕ) (x : Draft) (es : List Element) (before : List ℕ)
      → x.at ≤ length d → Fresh x es
      → Agree d (λ y fs a. Fresh y fs) (fields d known tag (ANCESTOR ∷ []) (counting (suc n) x) es) (any_block bs (drop x.at d))
  unfolding fields kept height_after grown pick decides
  ancestor_step plain n x es before h f =
      agree_last d known tag _ ANCESTOR (counting (suc n) x) es (any_block bs (drop x.at d)) (be (take 2 (drop x.at d)))
      (ancestor_same d known tag bs pairs (counting (suc n) x) es h (rw (plain (counting (suc n) x))))
      (λ l z. record { height = f.height; free = f.free; none_yet = f.none_yet })

  pub schema_agrees : (plain : (y : Draft) → formatless tag y ≡ false) (x : Draft) (es : List Element) → x.at ≤ length d → Fresh x es
      → Agree d (λ y fs s. Fresh y fs) (rest d known tag (TEXT ∷ BOOL ∷ ANCESTORS ∷ []) (ANCESTOR ∷ []) x es) (schema bs (drop x.at d))
  unfolding schema kept height_after grown pick number_at width_of
  schema_agrees plain x es h f =
      rest_cons d known tag _ TEXT (BOOL ∷ ANCESTORS ∷ []) (ANCESTOR ∷ []) x es _
      (agree_field d known tag _ TEXT x es (text_field (drop x.at d)) (text_at d x.at) _ _ (text_same d known tag bs pairs x es h) (λ l z.
      let y = kept d known tag TEXT x in
      rest_cons d known tag _ BOOL (ANCESTORS ∷ []) (ANCESTOR ∷ []) y es _
      (agree_field d known tag _ BOOL y es (bool_field (drop y.at d)) (be (take 1 (drop y.at d))) _ _ (bool_same d known tag bs pairs y es l) (λ l' z'.
      let w = kept d known tag BOOL y in
      agree_map d (λ y fs s. Fresh y fs) _
      (λ ancestors. record { name = text_at d x.at; defined = be (take 1 (drop y.at d)); ancestors = ancestors })
      (rest d known tag (ANCESTORS ∷ []) (ANCESTOR ∷ []) w es) (counted (λ _. any_block bs) (drop w.at d))
      (agree_run d known tag ANCESTORS (ANCESTOR ∷ []) (λ _. any_block bs) (λ n y fs a. Fresh y fs) (ancestor_step plain) w es
      (ancestors_same d known tag bs pairs w es l' (plain w)) refl
      (record { height = f.height; free = f.free; none_yet = f.none_yet }))
      (λ _ _ _ i. i)))))
