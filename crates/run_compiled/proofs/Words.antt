-- A node's words in a plan, whatever stands before and after them: looking the node up gives it back, its size is their number, and its
-- height is the one that its references give it. One law over the kind of node for each.
use mathlib.Core.Path.{◌≡◌, refl, ap, ap₂, sym, ◌∙◌}
use mathlib.Core.Bool.{true}
use mathlib.Core.List.{List, [], ◌∷◌, ◌++◌}
use Prim.Native.Nat.{ℕ, zero, suc, ◌+◌, ◌*◌, ◌≤◌, ◌<◌}
use native.Mathlib.Nat.{add-zero}
use native.Mathlib.Omega.{arith}
use lib.Dec.{ltb}
use lib.ListN.{length, get_or, length-append, get_or-append}
use lib.Seq.{get_or-append-add, drop-append-add, take-append_seam, ext_get_or}
use borrow.Author.Tests.{lt-ltb, le-ltb}
use Rattle.wire.proofs.Picks.{pick_yes, pick_no}
use Rattle.plan_nodes.proofs.Looks.{up_length, up_at, look_leaf, look_row, look_arrays, look_tuple, look_object, look_sparse, look_range, look_enum}
use Rattle.descriptor_nodes.proofs.NodeWords.{pairs_length}
use Rattle.protocol.specs.Numbers.{pick, up_to}
use Rattle.protocol.specs.Nodes.{Node, leaf, enum, row, arrays, tuple, object, sparse, range}
use Rattle.protocol.specs.Messages.{is_cardinality}
use Rattle.protocol.specs.Plans.{PlanNode, pair_ref, pair_card, refs_at, cards_at, look, refer_all, all_cardinalities, node_size, node_height, many_height}
use Rattle.protocol.specs.Compiling.{ref_cards, node_as_words}

-- ---- nodes

-- the first word
unfoldable pub kind_of : Node → ℕ
kind_of (leaf f) = 1
kind_of enum = 8
kind_of (row r) = 2
kind_of (arrays r) = 3
kind_of (tuple rs) = 4
kind_of (object rs cs) = 5
kind_of (sparse rs cs) = 6
kind_of (range r) = 7

-- the references
unfoldable pub refs_of : Node → List ℕ
refs_of (leaf f) = []
refs_of enum = []
refs_of (row r) = r ∷ []
refs_of (arrays r) = r ∷ []
refs_of (tuple rs) = rs
refs_of (object rs cs) = rs
refs_of (sparse rs cs) = rs
refs_of (range r) = r ∷ []

-- references and cardinalities of an object: as many of each, at most 512
pub record Paired (rs cs : List ℕ) : Type 0 where
  pub same : length cs ≡ length rs
  pub few : length rs ≤ 512
  pub cards : (j : ℕ) → j < length cs → is_cardinality (get_or cs j 0) ≡ true

-- what is asked of a node by itself: its format, its count and its cardinalities (R4.4)
unfoldable pub Proper : Node → Type 0
Proper (leaf f) = f < 20
Proper enum = Unit {0}
Proper (row r) = Unit {0}
Proper (arrays r) = Unit {0}
Proper (tuple rs) = length rs ≤ 512
Proper (object rs cs) = Paired rs cs
Proper (sparse rs cs) = Paired rs cs
Proper (range r) = Unit {0}

-- ---- lists

pairs_at : (rs cs rest : List ℕ) (k : ℕ) → length cs ≡ length rs → k < length rs
    → (get_or (ref_cards rs cs ++ rest) (2 * k) 0 ≡ get_or rs k 0) × (get_or (ref_cards rs cs ++ rest) (suc (2 * k)) 0 ≡ get_or cs k 0)
unfolding ref_cards
pairs_at [] cs rest k e l = absurd (omega arith)
pairs_at (r ∷ rs) [] rest k e l = absurd (omega arith)
pairs_at (r ∷ rs) (c ∷ cs) rest zero e l = (refl, refl)
pairs_at (r ∷ rs) (c ∷ cs) rest (suc k) e l =
    let h = pairs_at rs cs rest k (omega arith) (omega arith) in
    let a : 2 * suc k ≡ suc (suc (2 * k)) = omega arith in
    rw a h

-- all references at once
refers_same : (seen : List PlanNode) (kind : ℕ) (f g : ℕ → ℕ) (n : ℕ) → ((k : ℕ) → k < n → f k ≡ g k) → refer_all seen kind f n ≡ refer_all seen kind g n
unfolding refer_all
refers_same seen kind f g zero e = refl
refers_same seen kind f g (suc n) e = rw (e n (omega arith), refers_same seen kind f g n (λ k l. e k (omega arith)))

cards_all : (f : ℕ → ℕ) (n : ℕ) → ((k : ℕ) → k < n → is_cardinality (f k) ≡ true) → all_cardinalities f n ≡ true
unfolding all_cardinalities pick
cards_all f zero e = refl
cards_all f (suc n) e = rw (cards_all f n (λ k l. e k (omega arith))) (e n (omega arith))

up_same : (f : ℕ → ℕ) (l : List ℕ) → ((k : ℕ) → k < length l → f k ≡ get_or l k 0) → up_to f (length l) ≡ l
up_same f l e =
    ext_get_or 0 (up_to f (length l)) l (up_length f (length l))
    (λ i lt. let h : i < length l = omega (arith, up_length f (length l)) in up_at f (length l) i h ∙ e i h)

-- ---- a node's words

abbrev pub around : List ℕ → Node → List ℕ → List ℕ
around pre v rest = pre ++ (node_as_words v ++ rest)

module _ (pre rest : List ℕ) where
  word_at : (v : Node) (k : ℕ) → get_or (around pre v rest) (length pre + k) 0 ≡ get_or (node_as_words v ++ rest) k 0
  word_at v k = get_or-append-add pre (node_as_words v ++ rest) k 0

  first_word : (v : Node) → get_or (around pre v rest) (length pre) 0 ≡ get_or (node_as_words v ++ rest) 0 0
  first_word v = ap (λ (k : ℕ). get_or (around pre v rest) k 0) (sym (add-zero (length pre))) ∙ word_at v 0

  pub kind_word : (v : Node) → get_or (around pre v rest) (length pre) 0 ≡ kind_of v
  unfolding node_as_words kind_of
  kind_word (leaf f) = first_word (leaf f)
  kind_word enum = first_word enum
  kind_word (row r) = first_word (row r)
  kind_word (arrays r) = first_word (arrays r)
  kind_word (tuple rs) = first_word (tuple rs)
  kind_word (object rs cs) = first_word (object rs cs)
  kind_word (sparse rs cs) = first_word (sparse rs cs)
  kind_word (range r) = first_word (range r)

  -- places past the first two words and past the first three
  place : (k : ℕ) → length pre + 2 + k ≡ length pre + suc (suc k)
  place k = omega arith

  place_next : (k : ℕ) → length pre + 3 + k ≡ length pre + suc (suc (suc k))
  place_next k = omega arith

  module _ (v : Node) (n : ℕ) (rs cs : List ℕ) (w : node_as_words v ≡ n ∷ length rs ∷ ref_cards rs cs) (h : length cs ≡ length rs) where
    pair_ref_lem : (k : ℕ) → k < length rs → pair_ref (around pre v rest) (length pre) k ≡ get_or rs k 0
    unfolding pair_ref
    pair_ref_lem k l =
        ap (λ (m : ℕ). get_or (around pre v rest) m 0) (place (2 * k)) ∙ word_at v (suc (suc (2 * k)))
        ∙ ap (λ (ws : List ℕ). get_or (ws ++ rest) (suc (suc (2 * k))) 0) w
        ∙ (pairs_at rs cs rest k h l).0

    pair_card_lem : (k : ℕ) → k < length rs → pair_card (around pre v rest) (length pre) k ≡ get_or cs k 0
    unfolding pair_card
    pair_card_lem k l =
        ap (λ (m : ℕ). get_or (around pre v rest) m 0) (place_next (2 * k)) ∙ word_at v (suc (suc (suc (2 * k))))
        ∙ ap (λ (ws : List ℕ). get_or (ws ++ rest) (suc (suc (suc (2 * k)))) 0) w
        ∙ (pairs_at rs cs rest k h l).1

    pair_count : get_or (around pre v rest) (length pre + 1) 0 ≡ length rs
    pair_count = word_at v 1 ∙ ap (λ (ws : List ℕ). get_or (ws ++ rest) 1 0) w

    pair_refs : refs_at (around pre v rest) (length pre) ≡ rs
    unfolding refs_at
    pair_refs = rw pair_count (up_same (pair_ref (around pre v rest) (length pre)) rs pair_ref_lem)

    pair_cards : cards_at (around pre v rest) (length pre) ≡ cs
    unfolding cards_at
    pair_cards = rw (pair_count, ← h) (up_same (pair_card (around pre v rest) (length pre)) cs (λ k l. pair_card_lem k (rw (← h) l)))

  -- ---- looking it up

  pub look_node : (v : Node) → Proper v → look (around pre v rest) (length pre) ≡ v
  unfolding Proper node_as_words kind_of
  look_node (leaf f) h = look_leaf _ _ (kind_word (leaf f)) ∙ ap leaf (word_at (leaf f) 1)
  look_node enum h = look_enum _ _ (kind_word enum)
  look_node (row r) h = look_row _ _ (kind_word (row r)) ∙ ap row (word_at (row r) 1)
  look_node (arrays r) h = look_arrays _ _ (kind_word (arrays r)) ∙ ap arrays (word_at (arrays r) 1)
  look_node (tuple rs) h =
      look_tuple _ _ (kind_word (tuple rs))
      ∙ ap tuple (rw (word_at (tuple rs) 1, drop-append-add pre (node_as_words (tuple rs) ++ rest) 2) (take-append_seam rs rest))
  look_node (object rs cs) h =
      look_object _ _ (kind_word (object rs cs)) ∙ ap₂ object (pair_refs (object rs cs) 5 rs cs refl h.same) (pair_cards (object rs cs) 5 rs cs refl h.same)
  look_node (sparse rs cs) h =
      look_sparse _ _ (kind_word (sparse rs cs)) ∙ ap₂ sparse (pair_refs (sparse rs cs) 6 rs cs refl h.same) (pair_cards (sparse rs cs) 6 rs cs refl h.same)
  look_node (range r) h = look_range _ _ (kind_word (range r)) ∙ ap range (word_at (range r) 1)

  -- ---- its size

  pub size_node : (v : Node) → Proper v → node_size (get_or (around pre v rest) (length pre) 0) (get_or (around pre v rest) (length pre + 1) 0) ≡ length (node_as_words v)
  unfolding Proper node_as_words kind_of node_size pick
  size_node (leaf f) h = rw (kind_word (leaf f))
  size_node enum h = rw (kind_word enum)
  size_node (row r) h = rw (kind_word (row r))
  size_node (arrays r) h = rw (kind_word (arrays r))
  size_node (tuple rs) h = rw (kind_word (tuple rs), word_at (tuple rs) 1) (omega arith)
  size_node (object rs cs) h = rw (kind_word (object rs cs), word_at (object rs cs) 1) (omega (arith, pairs_length rs cs h.same))
  size_node (sparse rs cs) h = rw (kind_word (sparse rs cs), word_at (sparse rs cs) 1) (omega (arith, pairs_length rs cs h.same))
  size_node (range r) h = rw (kind_word (range r))

  -- ---- its height

  module _ (seen : List PlanNode) where
    abbrev Climbs : Node → Type 0
    Climbs v =
        node_height (around pre v rest) (length pre) seen (get_or (around pre v rest) (length pre) 0) (get_or (around pre v rest) (length pre + 1) 0)
        ≡ refer_all seen (kind_of v) (λ k. get_or (refs_of v) k 0) (length (refs_of v))

    -- references and cardinalities
    module _ (v : Node) (n : ℕ) (rs cs : List ℕ) (w : node_as_words v ≡ n ∷ length rs ∷ ref_cards rs cs) (h : Paired rs cs) where
      pairs_climb : pick (ltb 512 (length rs)) 0
          (pick (all_cardinalities (pair_card (around pre v rest) (length pre)) (length rs)) (refer_all seen n (pair_ref (around pre v rest) (length pre)) (length rs)) 0)
          ≡ refer_all seen n (λ k. get_or rs k 0) (length rs)
      pairs_climb =
          pick_no _ _ _ (le-ltb 512 (length rs) h.few)
          ∙ pick_yes _ _ _
          (cards_all (pair_card (around pre v rest) (length pre)) (length rs)
          (λ k l. ap is_cardinality (pair_card_lem v n rs cs w h.same k l) ∙ h.cards k (rw h.same l)))
          ∙ refers_same seen n (pair_ref (around pre v rest) (length pre)) (λ k. get_or rs k 0) (length rs) (pair_ref_lem v n rs cs w h.same)

    pub height_node : (v : Node) → Proper v → Climbs v
    unfolding Proper node_as_words kind_of refs_of node_height refer_all pick many_height
    height_node (leaf f) h = rw (kind_word (leaf f), word_at (leaf f) 1, lt-ltb f 20 h)
    height_node enum h = rw (kind_word enum)
    height_node (row r) h = rw (kind_word (row r), word_at (row r) 1)
    height_node (arrays r) h = rw (kind_word (arrays r), word_at (arrays r) 1)
    height_node (tuple rs) h =
        rw (kind_word (tuple rs), word_at (tuple rs) 1)
        (pick_no _ _ _ (le-ltb 512 (length rs) h)
        ∙ refers_same seen 4 (λ k. get_or (around pre (tuple rs) rest) (length pre + 2 + k) 0) (λ k. get_or rs k 0) (length rs)
        (λ k l.
        ap (λ (m : ℕ). get_or (around pre (tuple rs) rest) m 0) (place k) ∙ word_at (tuple rs) (suc (suc k)) ∙ get_or-append rs rest 0 k l))
    height_node (object rs cs) h = rw (kind_word (object rs cs), word_at (object rs cs) 1) (pairs_climb (object rs cs) 5 rs cs refl h)
    height_node (sparse rs cs) h = rw (kind_word (sparse rs cs), word_at (sparse rs cs) 1) (pairs_climb (sparse rs cs) 6 rs cs refl h)
    height_node (range r) h = rw (kind_word (range r), word_at (range r) 1)

-- a node whose words stand at a place of a plan
pub record Stands (p : List ℕ) (at : ℕ) (v : Node) : Type 0 where
  pub kind : get_or p at 0 ≡ kind_of v
  pub looks : look p at ≡ v
  pub size : node_size (get_or p at 0) (get_or p (at + 1) 0) ≡ length (node_as_words v)
  pub inside : at + length (node_as_words v) ≤ length p
  pub height : (seen : List PlanNode) → node_height p at seen (get_or p at 0) (get_or p (at + 1) 0) ≡ refer_all seen (kind_of v) (λ k. get_or (refs_of v) k 0) (length (refs_of v))

pub stands : (pre : List ℕ) (v : Node) (rest p : List ℕ) (at : ℕ) → Proper v → p ≡ around pre v rest → at ≡ length pre → Stands p at v
stands pre v rest p at h e l =
    rw (e, l)
    (record {
      kind = kind_word pre rest v;
      looks = look_node pre rest v h;
      size = size_node pre rest v h;
      inside = omega (arith, length-append pre (node_as_words v ++ rest), length-append (node_as_words v) rest);
      height = λ seen. height_node pre rest seen v h;
    })
