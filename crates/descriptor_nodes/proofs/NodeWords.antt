-- A node's words, as the code puts them out: word by word, and by the block's tag.
use mathlib.Core.Path.{◌≡◌, refl, ap, ap₂, sym, ◌∙◌}
use mathlib.Core.Logic.{◌⊎◌, inl, inr}
use mathlib.Core.Bool.{Bool, true, false}
use mathlib.Core.List.{List, [], ◌∷◌, ◌++◌, map, map-append}
use Prim.Native.Nat.{ℕ, zero, suc, ◌+◌, ◌*◌, ◌≤◌, ◌<◌}
use native.Mathlib.Numerals.{add-one}
use native.Mathlib.Omega.{arith}
use lib.Dec.{eqb}
use lib.ListN.{length, get_or, set, length-map}
use lib.Seq.{sets}
use borrow.Author.Tests.{eq-eqb, ne_eqb}
use Rattle.wire.proofs.Picks.{pick_yes, pick_no}
use Rattle.wire.proofs.Stores.{sets_append}
use Rattle.descriptor_fields.specs.Layouts.{valued}
use Rattle.descriptor_fields.specs.Fields.{Known, no_block, Element}
use Rattle.descriptor_blocks.specs.Descriptor.{refs, cards, only_ref, node_of, node_at, words_of}
use Rattle.descriptor_fields.specs.Arrays.{tab, known_at, known_of, element_at, elements_of}
use Rattle.descriptor_fields.proofs.Tabs.{tab_length, tab_get}
use Rattle.descriptor_fields.proofs.Known.{known_get, known_beyond}
use Rattle.descriptor_blocks.proofs.Elements.{no_element}
use Rattle.descriptor_nodes.specs.Nodes.{Puts, single_kind, single_words, many_kind, many_words}
use Rattle.protocol.specs.Numbers.{pick}
use Rattle.protocol.specs.Nodes.{row, arrays, tuple, object, sparse, rename}
use Rattle.protocol.specs.Compiling.{ref_cards, node_as_words}

-- pairs, one by one
pub pairs_length : (rs cs : List ℕ) → length cs ≡ length rs → length (ref_cards rs cs) ≡ 2 * length rs
unfolding ref_cards
pairs_length [] cs e = refl
pairs_length (r ∷ rs) [] e = absurd (omega arith)
pairs_length (r ∷ rs) (c ∷ cs) e = omega (arith, pairs_length rs cs (omega arith))

-- ---- one more word

-- words stored after those that are stored
pub then_sets : (l l₁ ws vs : List ℕ) (to n : ℕ) → n ≡ length ws → l₁ ≡ sets l to ws → sets l₁ (to + n) vs ≡ sets l to (ws ++ vs)
then_sets l l₁ ws vs to n e q = rw (q, e) (sets_append l to ws vs)

module _ {A B : Type 0} (f : A → B) (g : ℕ → A) where
  map_tab : (n : ℕ) → map f (tab g n) ≡ tab (λ i. f (g i)) n
  unfolding tab
  map_tab zero = refl
  map_tab (suc n) = map-append f (tab g n) (g n ∷ []) ∙ ap (λ (l : List B). l ++ (f (g n) ∷ [])) (map_tab n)

pairs_snoc : (rs cs : List ℕ) (r c : ℕ) → length cs ≡ length rs → ref_cards (rs ++ (r ∷ [])) (cs ++ (c ∷ [])) ≡ ref_cards rs cs ++ (r ∷ c ∷ [])
unfolding ref_cards
pairs_snoc [] [] r c e = refl
pairs_snoc [] (x ∷ cs) r c e = absurd (omega arith)
pairs_snoc (y ∷ rs) [] r c e = absurd (omega arith)
pairs_snoc (y ∷ rs) (x ∷ cs) r c e = ap (λ (l : List ℕ). y ∷ x ∷ l) (pairs_snoc rs cs r c (omega arith))

module _ (f : ℕ → ℕ) (a : List ℕ) where
  abbrev pub refs_to : ℕ → List ℕ
  refs_to k = map f (refs (elements_of a k))

  abbrev pub pairs_to : ℕ → List ℕ
  pairs_to k = ref_cards (map f (refs (elements_of a k))) (cards (elements_of a k))

  refs_tab : (k : ℕ) → refs_to k ≡ tab (λ i. f (get_or a (3 * i + 1) 0)) k
  unfolding element_at
  refs_tab k =
      ap (map f) (map_tab (λ (e : Element). e.ref) (element_at a) k) ∙ map_tab f (λ i. get_or a (3 * i + 1) 0) k

  cards_tab : (k : ℕ) → cards (elements_of a k) ≡ tab (λ i. get_or a (3 * i + 2) 0) k
  unfolding element_at
  cards_tab k = map_tab (λ (e : Element). e.card) (element_at a) k

  pub refs_length : (k : ℕ) → length (refs_to k) ≡ k
  refs_length k = ap length (refs_tab k) ∙ tab_length _ k

  pub cards_length : (k : ℕ) → length (cards (elements_of a k)) ≡ k
  cards_length k = ap length (cards_tab k) ∙ tab_length _ k

  pub pairs_count : (k : ℕ) → length (pairs_to k) ≡ 2 * k
  pairs_count k =
      pairs_length (refs_to k) (cards (elements_of a k)) (cards_length k ∙ sym (refs_length k)) ∙ ap (λ (n : ℕ). 2 * n) (refs_length k)

  refs_next : (k : ℕ) → refs_to (k + 1) ≡ refs_to k ++ (f (get_or a (3 * k + 1) 0) ∷ [])
  unfolding tab
  refs_next k =
      refs_tab (k + 1) ∙ ap (tab (λ i. f (get_or a (3 * i + 1) 0))) (add-one k)
      ∙ ap (λ (l : List ℕ). l ++ (f (get_or a (3 * k + 1) 0) ∷ [])) (sym (refs_tab k))

  cards_next : (k : ℕ) → cards (elements_of a (k + 1)) ≡ cards (elements_of a k) ++ (get_or a (3 * k + 2) 0 ∷ [])
  unfolding tab
  cards_next k =
      cards_tab (k + 1) ∙ ap (tab (λ i. get_or a (3 * i + 2) 0)) (add-one k)
      ∙ ap (λ (l : List ℕ). l ++ (get_or a (3 * k + 2) 0 ∷ [])) (sym (cards_tab k))

  pairs_next : (k : ℕ) → pairs_to (k + 1) ≡ pairs_to k ++ (f (get_or a (3 * k + 1) 0) ∷ get_or a (3 * k + 2) 0 ∷ [])
  pairs_next k =
      ap₂ ref_cards (refs_next k) (cards_next k)
      ∙ pairs_snoc (refs_to k) (cards (elements_of a k)) (f (get_or a (3 * k + 1) 0)) (get_or a (3 * k + 2) 0) (cards_length k ∙ sym (refs_length k))

  module _ (l l₁ l₂ : List ℕ) (to k r : ℕ) (e : r ≡ f (get_or a (3 * k + 1) 0)) where
    pub refs_more : l₁ ≡ sets l to (refs_to k) → l₂ ≡ set l₁ (to + k) r → l₂ ≡ sets l to (refs_to (k + 1))
    refs_more p q =
        q ∙ then_sets l l₁ (refs_to k) (r ∷ []) to k (sym (refs_length k)) p
        ∙ ap (λ (v : ℕ). sets l to (refs_to k ++ (v ∷ []))) e ∙ ap (sets l to) (sym (refs_next k))

    pub pairs_more : l₁ ≡ sets l to (pairs_to k) → l₂ ≡ sets l₁ (to + 2 * k) (r ∷ get_or a (3 * k + 2) 0 ∷ []) → l₂ ≡ sets l to (pairs_to (k + 1))
    pairs_more p q =
        q ∙ then_sets l l₁ (pairs_to k) (r ∷ get_or a (3 * k + 2) 0 ∷ []) to (2 * k) (sym (pairs_count k)) p
        ∙ ap (λ (v : ℕ). sets l to (pairs_to k ++ (v ∷ get_or a (3 * k + 2) 0 ∷ []))) e ∙ ap (sets l to) (sym (pairs_next k))

  -- all of them
  module _ (l l₁ : List ℕ) (to k n : ℕ) (h : k ≤ n) (g : n ≤ k) where
    pub refs_done : l₁ ≡ sets l to (refs_to k) → l₁ ≡ sets l to (refs_to n)
    refs_done p = p ∙ ap (λ (m : ℕ). sets l to (refs_to m)) (let e : k ≡ n = omega arith in e)

    pub pairs_done : l₁ ≡ sets l to (pairs_to k) → l₁ ≡ sets l to (pairs_to n)
    pairs_done p = p ∙ ap (λ (m : ℕ). sets l to (pairs_to m)) (let e : k ≡ n = omega arith in e)

-- ---- an earlier block, or none

module _ (d a : List ℕ) (n r i : ℕ) (e : i ≡ r) where
  within : i < n → known_at d a i ≡ get_or (known_of d a n) r no_block
  within h = sym (known_get d a n i h) ∙ ap (λ (k : ℕ). get_or (known_of d a n) k no_block) e

  beyond : n ≤ i → no_block ≡ get_or (known_of d a n) r no_block
  beyond h = sym (known_beyond d a n r (omega arith))

  pub node_here : i < n → get_or a (3 * i + 2) 0 ≡ node_at (known_of d a n) r
  unfolding node_at known_at
  node_here h = ap (λ (k : Known). k.node) (within h)

  pub node_beyond : n ≤ i → 0 ≡ node_at (known_of d a n) r
  unfolding node_at
  node_beyond h = ap (λ (k : Known). k.node) (beyond h)

  pub tag_here : (t : ℕ) → i < n → t ≡ (known_at d a i).tag → t ≡ (get_or (known_of d a n) r no_block).tag
  tag_here t h p = p ∙ ap (λ (k : Known). k.tag) (within h)

  pub tag_beyond : n ≤ i → 0 ≡ (get_or (known_of d a n) r no_block).tag
  tag_beyond h = ap (λ (k : Known). k.tag) (beyond h)

-- the first reference
module _ (a : List ℕ) (n : ℕ) where
  pub only_none : n ≡ 0 → 0 ≡ only_ref (elements_of a n)
  unfolding tab only_ref
  only_none e = rw e

  pub only_first : (n ≡ 0 → ⊥) → get_or a 1 0 ≡ only_ref (elements_of a n)
  unfolding element_at only_ref
  only_first e =
      sym (first (elements_of a n) ∙ ap (λ (x : Element). x.ref) (tab_get (element_at a) no_element n 0 (omega (arith, e))))
    where
      first : (es : List Element) → only_ref es ≡ (get_or es 0 no_element).ref
      first [] = refl
      first (e ∷ es) = refl

-- two stores
pub two : (l l₁ l₂ : List ℕ) (to a b : ℕ) → l₁ ≡ set l to a → l₂ ≡ set l₁ (to + 1) b → l₂ ≡ sets l to (a ∷ b ∷ [])
two l l₁ l₂ to a b p q = rw (q, p, add-one)

-- ---- what is put out

-- a kind, a count, and what follows them
pub headed : (ws rest l l₁ l₂ : List ℕ) (to r k n : ℕ) → ws ≡ k ∷ n ∷ rest → l₁ ≡ sets l to (k ∷ n ∷ []) → l₂ ≡ sets l₁ (to + 2) rest → r ≡ to + 2 + length rest
    → Puts ws to r l l₂
headed ws rest l l₁ l₂ to r k n e p q h =
    record {
      end = rw e (omega arith);
      words = q ∙ then_sets l l₁ (k ∷ n ∷ []) rest to 2 refl p ∙ ap (sets l to) (sym e);
    }

-- these words, whatever they are called
pub putting : (ws vs l l₁ : List ℕ) (to r : ℕ) → ws ≡ vs → l₁ ≡ sets l to vs → r ≡ to + length vs → Puts ws to r l l₁
putting ws vs l l₁ to r e p h = rw e (record { end = h; words = p })

-- ---- by the tag

module _ (known : List Known) (tag : ℕ) where
  module _ (r : ℕ) where
    pub kind_range : tag ≡ 9 → 7 ≡ single_kind known tag r
    unfolding single_kind pick
    kind_range e = rw e

    module _ (t : ℕ) (q : t ≡ (get_or known r no_block).tag) where
      pub kind_arrays : tag ≡ 0 → t ≡ 6 → 3 ≡ single_kind known tag r
      unfolding single_kind pick
      kind_arrays e i = rw (e, ← q, i)

      pub kind_row : tag ≡ 0 → (t ≡ 6 → ⊥) → 2 ≡ single_kind known tag r
      unfolding single_kind pick
      kind_row e i = rw (e, ← q, ne_eqb _ _ i)

    pub kind_other : (tag ≡ 9 → ⊥) → (tag ≡ 0 → ⊥) → 2 ≡ single_kind known tag r
    unfolding single_kind pick
    kind_other p q = rw (ne_eqb _ _ p, ne_eqb _ _ q)

    -- its kind and its reference
    pub single_put : (l l₁ : List ℕ) (to k w : ℕ) → k ≡ single_kind known tag r → w ≡ node_at known r → l₁ ≡ sets l to (k ∷ w ∷ []) → l₁ ≡ sets l to (single_words known tag r)
    unfolding single_words
    single_put l l₁ to k w e i p = p ∙ ap₂ (λ (k w : ℕ). sets l to (k ∷ w ∷ [])) e i

  module _ (format : ℕ) (es : List Element) where
    words_leaf : tag ≡ 3 → words_of known tag format es ≡ 1 ∷ format ∷ []
    unfolding words_of valued node_of rename node_as_words pick
    words_leaf e = rw e

    words_enum : tag ≡ 7 → words_of known tag format es ≡ 8 ∷ []
    unfolding words_of valued node_of rename node_as_words pick
    words_enum e = rw e

    words_single : (tag ≡ 0) ⊎ ((tag ≡ 6) ⊎ (tag ≡ 9)) → words_of known tag format es ≡ single_words known tag (only_ref es)
    unfolding words_of valued node_of rename node_as_words single_kind single_words pick
    words_single (inl e) = rw e (go (eqb (get_or known (only_ref es) no_block).tag 6))
      where
        go : (t : Bool) → node_as_words (rename (node_at known) (pick t (arrays (only_ref es)) (row (only_ref es)))) ≡ pick t 3 2 ∷ node_at known (only_ref es) ∷ []
        go true = refl
        go false = refl
    words_single (inr (inl e)) = rw e
    words_single (inr (inr e)) = rw e

    -- an object or a tuple
    words_many : valued tag ≡ true → (tag ≡ 3 → ⊥) → (tag ≡ 7 → ⊥) → ((tag ≡ 0) ⊎ ((tag ≡ 6) ⊎ (tag ≡ 9)) → ⊥)
        → words_of known tag format es ≡ many_words known tag es
    unfolding words_of node_of rename node_as_words many_words many_kind pick
    words_many v n3 n7 single =
        rw (
          v,
          ne_eqb tag 0 (λ e. single (inl e)),
          ne_eqb tag 3 n3,
          ne_eqb tag 6 (λ e. single (inr (inl e))),
          ne_eqb tag 7 n7,
          ne_eqb tag 9 (λ e. single (inr (inr e))),
        )
        (go (eqb tag 1) (eqb tag 8))
      where
        rs : List ℕ
        rs = map (node_at known) (refs es)

        count : length rs ≡ length es
        count = length-map (refs es) (node_at known) ∙ length-map es (λ (e : Element). e.ref)

        go : (s t : Bool)
            → node_as_words (rename (node_at known) (pick s (object (refs es) (cards es)) (pick t (sparse (refs es) (cards es)) (tuple (refs es)))))
            ≡ pick s 5 (pick t 6 4) ∷ length es ∷ pick (eqb (pick s 5 (pick t 6 4)) 4) rs (ref_cards rs (cards es))
        go true t = ap (λ (n : ℕ). 5 ∷ n ∷ ref_cards rs (cards es)) count
        go false true = ap (λ (n : ℕ). 6 ∷ n ∷ ref_cards rs (cards es)) count
        go false false = ap (λ (n : ℕ). 4 ∷ n ∷ rs) count

    -- what each arm puts out
    pub put_none : (l : List ℕ) (to : ℕ) (t : Bool) → t ≡ valued tag → t ≡ false → Puts (words_of known tag format es) to to l l
    unfolding words_of
    put_none l to t q e = putting _ [] l l to to (pick_no _ _ _ (sym q ∙ e)) refl (omega arith)

    module _ (l l₁ : List ℕ) (to : ℕ) where
      pub put_leaf : tag ≡ 3 → l₁ ≡ sets l to (1 ∷ format ∷ []) → Puts (words_of known tag format es) to (to + 2) l l₁
      put_leaf e p = putting _ (1 ∷ format ∷ []) l l₁ to (to + 2) (words_leaf e) p refl

      pub put_enum : tag ≡ 7 → l₁ ≡ set l to 8 → Puts (words_of known tag format es) to (to + 1) l l₁
      put_enum e p = putting _ (8 ∷ []) l l₁ to (to + 1) (words_enum e) p refl

      pub put_one : (r : ℕ) → (tag ≡ 0) ⊎ ((tag ≡ 6) ⊎ (tag ≡ 9)) → r ≡ only_ref es → l₁ ≡ sets l to (single_words known tag r) → Puts (words_of known tag format es) to (to + 2) l l₁
      unfolding single_words
      put_one r e q p =
          putting _ (single_words known tag r) l l₁ to (to + 2) (words_single e ∙ ap (single_words known tag) (sym q)) p refl

      pub put_rest : (t : Bool) (r : ℕ) → t ≡ valued tag → t ≡ true → (tag ≡ 3 → ⊥) → (tag ≡ 7 → ⊥) → ((tag ≡ 0) ⊎ ((tag ≡ 6) ⊎ (tag ≡ 9)) → ⊥)
          → Puts (many_words known tag es) to r l l₁ → Puts (words_of known tag format es) to r l l₁
      put_rest t r q e n3 n7 single p = rw (words_many (sym q ∙ e) n3 n7 single) p

  -- the same with the elements as the code keeps them
  module _ (a : List ℕ) (n : ℕ) (l l₁ l₂ : List ℕ) (to : ℕ) where
    sized : (k : ℕ) (ws : List ℕ) → k ∷ length (elements_of a n) ∷ ws ≡ k ∷ n ∷ ws
    sized k ws = ap (λ (m : ℕ). k ∷ m ∷ ws) (tab_length (element_at a) n)

    module _ (k : ℕ) (kind : k ≡ many_kind tag) (p : l₁ ≡ sets l to (k ∷ n ∷ [])) where
      pub put_tuple : k ≡ 4 → l₂ ≡ sets l₁ (to + 2) (refs_to (node_at known) a n) → Puts (many_words known tag (elements_of a n)) to (to + 2 + n) l l₂
      unfolding many_words
      put_tuple e q =
          headed _ (refs_to (node_at known) a n) l l₁ l₂ to (to + 2 + n) k n
          (ap (λ (j : ℕ). j ∷ length (elements_of a n) ∷ pick (eqb j 4) (refs_to (node_at known) a n) (pairs_to (node_at known) a n)) (sym kind)
          ∙ sized k _ ∙ ap (λ (ws : List ℕ). k ∷ n ∷ ws) (pick_yes _ _ _ (eq-eqb _ _ e)))
          p q (omega (arith, refs_length (node_at known) a n))

      pub put_object : (k ≡ 4 → ⊥) → l₂ ≡ sets l₁ (to + 2) (pairs_to (node_at known) a n) → Puts (many_words known tag (elements_of a n)) to (to + 2 + 2 * n) l l₂
      unfolding many_words
      put_object e q =
          headed _ (pairs_to (node_at known) a n) l l₁ l₂ to (to + 2 + 2 * n) k n
          (ap (λ (j : ℕ). j ∷ length (elements_of a n) ∷ pick (eqb j 4) (refs_to (node_at known) a n) (pairs_to (node_at known) a n)) (sym kind)
          ∙ sized k _ ∙ ap (λ (ws : List ℕ). k ∷ n ∷ ws) (pick_no _ _ _ (ne_eqb _ _ e)))
          p q (omega (arith, pairs_count (node_at known) a n))
