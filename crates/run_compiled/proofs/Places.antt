-- Where the nodes of an accepted descriptor's blocks stand in its plan, and what finding them among the nodes read gives.
use mathlib.Core.Path.{◌≡◌, refl, ap, sym, ◌∙◌}
use mathlib.Core.Logic.{⊎_elim}
use mathlib.Core.Bool.{Bool, true, false}
use mathlib.Core.List.{List, [], ◌∷◌, ◌++◌, append_assoc, append-nil}
use Prim.Native.Nat.{ℕ, zero, suc, ◌+◌, ◌≤◌, ◌<◌}
use native.Mathlib.Nat.{eq-or-lt_of_le, le_of_suc-le-suc}
use native.Mathlib.Omega.{arith}
use lib.Dec.{eqb}
use lib.ListN.{length, get_or, take, length-append, get_or-map}
use lib.Seq.{take-suc}
use borrow.Author.Tests.{eq-eqb, ne_eqb}
use Rattle.wire.proofs.Picks.{pick_yes, pick_no, pick_case}
use Rattle.plan_nodes.proofs.Reading.{find_append}
use Rattle.descriptor_fields.specs.Layouts.{valued}
use Rattle.descriptor_fields.specs.Fields.{Known, no_block}
use Rattle.descriptor_blocks.specs.Descriptor.{node_at, words_of, Block, summary, summaries, all_words, block_of}
use Rattle.descriptor_blocks.proofs.Accepted.{missing, Made, Accepted}
use Rattle.run_compiled.proofs.Words.{kind_of}
use Rattle.protocol.specs.Numbers.{pick}
use Rattle.protocol.specs.Nodes.{Node, leaf, enum, row, arrays, tuple, object, sparse, range, rename}
use Rattle.protocol.specs.Plans.{PlanNode, placed_at, is_some}
use mathlib.Core.Option.{none, some}
use Rattle.protocol.specs.Compiling.{node_as_words}

-- ---- blocks and their summaries

pub summary_at : (bs : List Block) (r : ℕ) → get_or (summaries bs) r no_block ≡ summary (get_or bs r missing)
unfolding summary
summary_at bs r = get_or-map summary bs r missing

pub node_at_lem : (bs : List Block) (r : ℕ) → node_at (summaries bs) r ≡ (get_or bs r missing).node
unfolding node_at summary
node_at_lem bs r = ap (λ (k : Known). k.node) (summary_at bs r)

pub all_append : (xs ys : List Block) → all_words (xs ++ ys) ≡ all_words xs ++ all_words ys
unfolding all_words
all_append [] ys = refl
all_append (x ∷ xs) ys = rw (all_append xs ys) (sym (append_assoc x.words (all_words xs) (all_words ys)))

pub words_some : (v : Node) → 1 ≤ length (node_as_words v)
unfolding node_as_words
words_some (leaf f) = omega arith
words_some enum = omega arith
words_some (row r) = omega arith
words_some (arrays r) = omega arith
words_some (tuple rs) = omega arith
words_some (object rs cs) = omega arith
words_some (sparse rs cs) = omega arith
words_some (range r) = omega arith

-- ---- the nodes that were read

-- what a plan's reading knows of a block's node
unfoldable pub known_of : Block → PlanNode
known_of b = record { start = b.node; kind = kind_of b.shape; height = b.height }

unfoldable pub seen_of : List Block → List PlanNode
seen_of [] = []
seen_of (b ∷ bs) = pick (valued b.tag) (known_of b ∷ seen_of bs) (seen_of bs)

seen_append : (xs ys : List Block) → seen_of (xs ++ ys) ≡ seen_of xs ++ seen_of ys
unfolding seen_of pick
seen_append [] ys = refl
seen_append (x ∷ xs) ys = rw (seen_append xs ys) (go (valued x.tag))
  where
    go : (t : Bool) → pick t (known_of x ∷ (seen_of xs ++ seen_of ys)) (seen_of xs ++ seen_of ys) ≡ pick t (known_of x ∷ seen_of xs) (seen_of xs) ++ seen_of ys
    go true = refl
    go false = refl

pub seen_few : (xs : List Block) → length (seen_of xs) ≤ length xs
unfolding seen_of
seen_few [] = omega arith
seen_few (x ∷ xs) =
    pick_case (λ l. length l ≤ suc (length xs)) (valued x.tag) (known_of x ∷ seen_of xs) (seen_of xs)
    (λ _. omega (arith, seen_few xs)) (λ _. omega (arith, seen_few xs))

find_after : (xs ys : List PlanNode) (k : ℕ) → placed_at xs k ≡ none → placed_at (xs ++ ys) k ≡ placed_at ys k
unfolding placed_at pick
find_after [] ys k = λ e. refl
find_after (x ∷ xs) ys k = go (find_after xs ys k) (eqb x.start k)
  where
    go : (placed_at xs k ≡ none → placed_at (xs ++ ys) k ≡ placed_at ys k) → (t : Bool) → pick t (some x) (placed_at xs k) ≡ none → pick t (some x) (placed_at (xs ++ ys) k) ≡ placed_at ys k
    go f true e = let z : ◌≡◌ {A = ℕ} 0 1 = cc in absurd (omega arith)
    go f false e = f e

-- ---- the blocks of an accepted descriptor

-- the word after the nodes of the first i blocks
unfoldable pub place : List Block → ℕ → ℕ
place bs i = 2 + length (all_words (take i bs))

module _ (bs : List Block) (a : Accepted bs) where
  abbrev block : ℕ → Block
  block i = get_or bs i missing

  module _ (i : ℕ) (l : i < length bs) where
    made : Made (take i bs) (block i)
    made = a.made i l

    pub node_is : (block i).node ≡ place bs i
    unfolding place block_of
    node_is = ap (λ (b : Block). b.node) made.is

    -- a block without values has no words, one with values those of its node
    pub words_none : valued (block i).tag ≡ false → (block i).words ≡ []
    unfolding block_of words_of
    words_none e =
        ap (λ (b : Block). b.words) made.is ∙ pick_no _ _ _ (ap (λ (b : Block). valued b.tag) (sym made.is) ∙ e)

    pub words_are : valued (block i).tag ≡ true → (block i).words ≡ node_as_words (rename (node_at (summaries (take i bs))) (block i).shape)
    unfolding block_of words_of
    words_are e =
        ap (λ (b : Block). b.words) made.is ∙ pick_yes _ _ _ (ap (λ (b : Block). valued b.tag) (sym made.is) ∙ e)
        ∙ ap (λ (b : Block). node_as_words (rename (node_at (summaries (take i bs))) b.shape)) (sym made.is)

    pub all_next : all_words (take (suc i) bs) ≡ all_words (take i bs) ++ (block i).words
    unfolding all_words
    all_next =
        rw (take-suc bs i missing l)
        (all_append (take i bs) (block i ∷ []) ∙ ap (λ (ws : List ℕ). all_words (take i bs) ++ ws) (append-nil (block i).words))

    pub place_next : place bs (suc i) ≡ place bs i + length (block i).words
    unfolding place
    place_next = omega (arith, ap length all_next, length-append (all_words (take i bs)) (block i).words)

    pub seen_next : seen_of (take (suc i) bs) ≡ seen_of (take i bs) ++ pick (valued (block i).tag) (known_of (block i) ∷ []) []
    unfolding seen_of
    seen_next = rw (take-suc bs i missing l) (seen_append (take i bs) (block i ∷ []))

  -- ---- what is found

  -- no node of the first i blocks starts after them
  find_low : (i k : ℕ) → i ≤ length bs → place bs i ≤ k → placed_at (seen_of (take i bs)) k ≡ none
  unfolding seen_of placed_at known_of
  find_low zero k l h = refl
  find_low (suc i) k l h =
      let m : i < length bs = omega arith in
      rw (seen_next i m)
      (find_after (seen_of (take i bs)) _ k (find_low i k (omega arith) (omega (arith, place_next i m)))
      ∙ pick_case (λ l. placed_at l k ≡ none) (valued (block i).tag) (known_of (block i) ∷ []) []
      (λ t.
      pick_no _ _ _
      (ne_eqb (block i).node k
      (λ (e : (block i).node ≡ k).
      let w : 1 ≤ length (block i).words = rw (words_are i m t) (words_some _) in
      omega (arith, place_next i m, node_is i m))))
      (λ _. refl))

  -- a block with values is found among the blocks up to any later one
  pub find_block : (i r : ℕ) → i ≤ length bs → r < i → valued (block r).tag ≡ true → placed_at (seen_of (take i bs)) (block r).node ≡ some (known_of (block r))
  unfolding placed_at is_some known_of
  find_block zero r l h v = absurd (omega arith)
  find_block (suc i) r l h v =
      let m : i < length bs = omega arith in
      rw (seen_next i m)
      (⊎_elim
      (λ (e : r ≡ i).
      let z : place bs i ≤ (block r).node = omega (arith, node_is i m, ap (λ (k : ℕ). (block k).node) e) in
      find_after (seen_of (take i bs)) _ (block r).node (find_low i (block r).node (omega arith) z)
      ∙ ap (λ (k : ℕ). placed_at (pick (valued (block k).tag) (known_of (block k) ∷ []) []) (block r).node) (sym e)
      ∙ ap (λ (l : List PlanNode). placed_at l (block r).node) (pick_yes (valued (block r).tag) (known_of (block r) ∷ []) [] v)
      ∙ pick_yes _ _ none (eq-eqb (block r).node (block r).node refl))
      (λ (e : r < i).
      let f = find_block i r (omega arith) e v in
      find_append (seen_of (take i bs)) _ (block r).node (ap is_some f) ∙ f)
      (eq-or-lt_of_le (le_of_suc-le-suc h)))
