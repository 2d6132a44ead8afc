-- The loop over the blocks: what is left of the reading leads to the same
-- blocks, what is kept of them is theirs, and their words stand in the plan.
use mathlib.Core.Path.{◌≡◌, refl, ap, ap₂, sym, ◌∙◌}
use mathlib.Core.Logic.{⊎_elim}
use mathlib.Core.Bool.{Bool, true, false}
use mathlib.Core.List.{List, [], ◌∷◌, ◌++◌, map, append_assoc, append-nil}
use Prim.Native.Nat.{ℕ, suc, ◌+◌, ◌*◌, ◌≤◌, ◌<◌}
use native.Mathlib.Omega.{arith}
use lib.Dec.{eqb, leb}
use lib.ListN.{length, get_or, length-append, length-map}
use lib.Seq.{sets}
use borrow.Author.Tests.{eq-eqb, ne_eqb, le-leb, lt-leb, leb-false}
use Rattle.wire.proofs.Stores.{sets_append}
use Rattle.wire.proofs.Picks.{pick_yes, pick_no, pick_split, pick_case}
use Rattle.descriptor_fields.specs.Layouts.{known_tag, indexed, valued}
use Rattle.descriptor_fields.specs.Fields.{Known, no_block, Element, fine, format_number}
use Rattle.descriptor_blocks.specs.Blocks.{Item, Reading, stop, next, block_from}
use Rattle.descriptor_blocks.specs.Descriptor.{refs, cards, only_ref, node_of, node_at, Block, summary, summaries, all_words}
use Rattle.descriptor_blocks.specs.Descriptor.{words_of, block_of, faulty, extended, full, onward, blocks_from, blocks_of}
use Rattle.descriptor_fields.specs.Arrays.{tab, Told, known_of, known_at, element_at, elements_of}
use Rattle.descriptor_blocks.specs.Walks.{stopped, moved, led, walk_of, Inside}
use Rattle.descriptor_fields.specs.declared.Draft.{Draft}
use Rattle.std.specs.Prelude.{Result, Ok, Err}
use Rattle.forms.specs.declared.fault.Refusal.{Refusal}
use Rattle.descriptor_fields.proofs.Tabs.{tab_length}
use Rattle.descriptor_blocks.proofs.Sound.{block_sound, height_most}
use Rattle.descriptor_blocks.proofs.Progress.{block_past}
use Rattle.descriptor_blocks.proofs.BlockFuel.{blocks_fuel}
use Rattle.descriptor_blocks.proofs.IdFirst.{id_whole}
use Rattle.descriptor_blocks.proofs.Loops.{is_inside}
use Rattle.descriptor_nodes.specs.Nodes.{Puts}
use Rattle.descriptor_nodes.proofs.NodeWords.{pairs_length}
use Rattle.descriptor_scan.specs.Scan.{tag_check, Kept, Adds, Scans}
use Rattle.protocol.specs.Numbers.{pick}
use Rattle.protocol.specs.Nodes.{Node, leaf, enum, row, arrays, tuple, object, sparse, range, rename}
use Rattle.protocol.specs.Compiling.{ref_cards, node_as_words}

-- ---- what a part says of the reading

pub record Came (r : Reading) (x : Draft) (a : List ℕ) : Type 0 where
  pub items : List Item
  pub is : r ≡ next x (elements_of a x.count) items

came_from : (r : Reading) (x : Draft) (es : List Element) → moved x es ≡ led r → (is : List Item) × (r ≡ next x es is)
unfolding led
came_from (stop n) x es e = let z : ◌≡◌ {A = ℕ} 0 1 = cc in absurd (omega arith)
came_from (next y fs js) x es e =
    let a : x ≡ y = cc in
    let b : es ≡ fs = cc in
    (js, cc)

pub came : (p : Result Draft ℕ) (a : List ℕ) (r : Reading) → walk_of p a ≡ led r → (x : Draft) → p ≡ Ok x → Came r x a
unfolding walk_of
came p a r e x q = let f = came_from r x (elements_of a x.count) (ap (λ (t : Result Draft ℕ). walk_of t a) (sym q) ∙ e) in record { items = f.0; is = f.1 }

pub went_wrong : (p : Result Draft ℕ) (a : List ℕ) (r : Reading) → walk_of p a ≡ led r → (n : ℕ) → p ≡ Err n → r ≡ stop n
unfolding walk_of led
went_wrong p a r e n q = go r (ap (λ (t : Result Draft ℕ). walk_of t a) (sym q) ∙ e)
  where
    go : (t : Reading) → stopped n ≡ led t → t ≡ stop n
    go (stop m) f = cc
    go (next x es is) f = let z : ◌≡◌ {A = ℕ} 0 1 = cc in absurd (omega arith)

-- ---- lists of blocks

pub all_snoc : (bs : List Block) (b : Block) → all_words (bs ++ (b ∷ [])) ≡ all_words bs ++ b.words
unfolding all_words
all_snoc [] b = append-nil b.words
all_snoc (c ∷ bs) b = rw (all_snoc bs b) (sym (append_assoc c.words (all_words bs) b.words))

summaries_snoc : (bs : List Block) (b : Block) → summaries (bs ++ (b ∷ [])) ≡ summaries bs ++ (summary b ∷ [])
summaries_snoc [] b = refl
summaries_snoc (c ∷ bs) b = rw (summaries_snoc bs b)

-- ---- how many words a block has

module _ (ρ : ℕ → ℕ) (es : List Element) where
  abbrev Few : Node → Type 0
  Few v = length (node_as_words (rename ρ v)) ≤ 2 + 2 * length es

  few_row : (r : ℕ) → Few (row r)
  unfolding rename node_as_words
  few_row r = omega arith

  few_arrays : (r : ℕ) → Few (arrays r)
  unfolding rename node_as_words
  few_arrays r = omega arith

  few_range : (r : ℕ) → Few (range r)
  unfolding rename node_as_words
  few_range r = omega arith

  few_leaf : (f : ℕ) → Few (leaf f)
  unfolding rename node_as_words
  few_leaf f = omega arith

  few_enum : Few enum
  unfolding rename node_as_words
  few_enum = omega arith

  refs_many : length (map ρ (refs es)) ≡ length es
  refs_many = length-map (refs es) ρ ∙ length-map es (λ (e : Element). e.ref)

  pairs_many : length (ref_cards (map ρ (refs es)) (cards es)) ≡ 2 * length (map ρ (refs es))
  pairs_many = pairs_length (map ρ (refs es)) (cards es) (length-map es (λ (e : Element). e.card) ∙ sym refs_many)

  few_tuple : Few (tuple (refs es))
  unfolding rename node_as_words
  few_tuple = omega (arith, refs_many)

  few_object : Few (object (refs es) (cards es))
  unfolding rename node_as_words
  few_object = omega (arith, refs_many, pairs_many)

  few_sparse : Few (sparse (refs es) (cards es))
  unfolding rename node_as_words
  few_sparse = omega (arith, refs_many, pairs_many)

words_most : (known : List Known) (tag f : ℕ) (es : List Element) → length (words_of known tag f es) ≤ 2 + 2 * length es
unfolding words_of node_of
words_most known tag f es =
    let ρ = node_at known in
    let P = Few ρ es in
    pick_case (λ (ws : List ℕ). length ws ≤ 2 + 2 * length es) (valued tag) _ _
    (λ _.
    pick_case P (eqb tag 0) _ _ (λ _. pick_case P (eqb (get_or known (only_ref es) no_block).tag 6) _ _ (λ _. few_arrays ρ es (only_ref es)) (λ _. few_row ρ es (only_ref es)))
    (λ _. pick_case P (eqb tag 1) _ _ (λ _. few_object ρ es)
    (λ _. pick_case P (eqb tag 3) _ _ (λ _. few_leaf ρ es f)
    (λ _. pick_case P (eqb tag 6) _ _ (λ _. few_row ρ es (only_ref es))
    (λ _. pick_case P (eqb tag 7) _ _ (λ _. few_enum ρ es)
    (λ _. pick_case P (eqb tag 8) _ _ (λ _. few_sparse ρ es)
    (λ _. pick_case P (eqb tag 9) _ _ (λ _. few_range ρ es (only_ref es)) (λ _. few_tuple ρ es))))))))
    (λ _. omega arith)

pub read_inside : (p : Result Draft ℕ) (x : Draft) (end : ℕ) → p ≡ Ok x → Inside end 512 p → x.count ≤ 512
unfolding Inside
read_inside p x end q i = let f = is_inside p x end 512 q i in f.2

-- ---- a block more

pub adds : (d known known' plan plan' : List ℕ) (n at to r : ℕ) (x : Draft) (es : List Element) {tag : ℕ} → tag ≡ get_or d at 0 → Told d known' (n + 1)
    → known_of d known' (n + 1) ≡ known_of d known n ++ (record { start = at; tag = get_or d at 0; height = x.height; node = to } ∷ [])
    → Puts (words_of (known_of d known n) tag (format_number x.format) es) to r plan plan' → Adds d n at x es to r known known' plan plan'
adds d known known' plan plan' n at to r x es t told same puts = record { told = told; same = same; puts = rw t at puts }

-- ---- the loop

pub record Scanning (d plan₀ known plan : List ℕ) (n at to : ℕ) : Type 0 where
  pub bs : List Block
  pub kept : Kept d known n to bs
  pub words : plan ≡ sets plan₀ 2 (all_words bs)
  pub inside : at ≤ length d
  pub same : blocks_of d ≡ blocks_from d (suc (length d)) at bs

pub scanning_start : (d plan known : List ℕ) → length d ≤ 65535 → 3072 ≤ length known → Scanning d plan known plan 0 0 2
unfolding blocks_of tab all_words
scanning_start d plan known s r =
    record {
      bs = [];
      kept =
          record {
            told = record { room = omega arith; few = omega arith; short = s; inside = λ i h. absurd (omega arith); low = λ i h. absurd (omega arith) };
            same = refl;
            end = refl;
            most = omega arith;
          };
      words = refl;
      inside = omega arith;
      same = refl;
    }

module _ (d plan₀ known plan : List ℕ) (n at to : ℕ) (g : Scanning d plan₀ known plan n at to) where
  abbrev bs : List Block
  bs = g.bs

  pub scanning_most : to ≤ 2097152
  scanning_most = omega (arith, g.kept.most, g.kept.told.few)

  many : n ≡ length bs
  many = sym (tab_length (known_at d known) n) ∙ ap length g.kept.same ∙ length-map bs summary

  pub scanning_end : length d ≤ at → Scans d (blocks_of d) (Ok (record { count = n; end = to })) known plan₀ plan
  unfolding blocks_from Scans
  scanning_end h = rw (g.same ∙ pick_yes _ _ _ (le-leb _ _ h)) (g.kept, g.words)

  module _ (l : at < length d) (tag : ℕ) (t : tag ≡ get_or d at 0) where
    -- the blocks from a tag on, by its rule
    tagged : blocks_of d
        ≡ pick (known_tag tag)
        (pick (full bs tag) (faulty 17 at)
        (onward at (block_from d (summaries bs) tag (at + 1)) (λ x es is. blocks_from d (length d) x.at (extended bs at tag x es is))))
        (faulty 11 at)
    unfolding blocks_from
    tagged = rw t (g.same ∙ pick_no _ _ _ (lt-leb _ _ l))

    full_is : full bs tag ≡ pick (indexed tag) (leb 1024 n) false
    unfolding full
    full_is = rw (← many) refl

    pub scanning_tag : (m : ℕ) → Err m ≡ tag_check tag n → Scans d (blocks_of d) (Err (record { fault = m; place = at })) known plan₀ plan
    unfolding tag_check Scans
    scanning_tag m e = go (known_tag tag) refl (full bs tag) refl
      where
        go : (k : Bool) → known_tag tag ≡ k → (f : Bool) → full bs tag ≡ f → Scans d (blocks_of d) (Err (record { fault = m; place = at })) known plan₀ plan
        go false a f b =
            let g = e ∙ pick_no _ _ _ a in
            rw (tagged ∙ pick_no _ _ _ a) (let h : m ≡ 11 = cc in (h, refl))
        go true a true b =
            let g = e ∙ pick_yes _ _ _ a ∙ pick_yes _ _ _ (sym full_is ∙ b) in
            rw (tagged ∙ pick_yes _ _ _ a ∙ pick_yes _ _ _ b) (let h : m ≡ 17 = cc in (h, refl))
        go true a false b =
            let g = e ∙ pick_yes _ _ _ a ∙ pick_no _ _ _ (sym full_is ∙ b) in
            let z : ◌≡◌ {A = ℕ} 0 1 = cc in absurd (omega arith)

    module _ (f : fine ≡ tag_check tag n) where
      passed : (known_tag tag ≡ true) × (pick (indexed tag) (leb 1024 n) false ≡ false)
      unfolding tag_check
      passed = go (known_tag tag) refl (pick (indexed tag) (leb 1024 n) false) refl
        where
          go : (k : Bool) → known_tag tag ≡ k → (b : Bool) → pick (indexed tag) (leb 1024 n) false ≡ b
              → (known_tag tag ≡ true) × (pick (indexed tag) (leb 1024 n) false ≡ false)
          go false a b e = let g = f ∙ pick_no _ _ _ a in let z : ◌≡◌ {A = ℕ} 0 1 = cc in absurd (omega arith)
          go true a true e = let g = f ∙ pick_yes _ _ _ a ∙ pick_yes _ _ _ e in let z : ◌≡◌ {A = ℕ} 0 1 = cc in absurd (omega arith)
          go true a false e = (a, e)

      read_on : blocks_of d ≡ onward at (block_from d (summaries bs) tag (at + 1)) (λ x es is. blocks_from d (length d) x.at (extended bs at tag x es is))
      read_on = tagged ∙ pick_yes _ _ _ passed.0 ∙ pick_no _ _ _ (full_is ∙ passed.1)

      module _ (p : Result Draft ℕ) (a : List ℕ) (e : walk_of p a ≡ led (block_from d (known_of d known n) tag (at + 1))) where
        reading : walk_of p a ≡ led (block_from d (summaries bs) tag (at + 1))
        reading = rw g.kept.same at e

        pub scanning_halt : (m : ℕ) → p ≡ Err m → Scans d (blocks_of d) (Err (record { fault = m; place = at })) known plan₀ plan
        unfolding Scans onward
        scanning_halt m q =
            rw (read_on ∙ ap (λ (r : Reading). onward at r (λ x es is. blocks_from d (length d) x.at (extended bs at tag x es is))) (went_wrong p a _ reading m q))
            (refl, refl)

        module _ (x : Draft) (q : p ≡ Ok x) where
          got : Came (block_from d (summaries bs) tag (at + 1)) x a
          got = came p a (block_from d (summaries bs) tag (at + 1)) reading x q

          past : (at + 1 < x.at) × (x.at ≤ length d)
          past = block_past d (summaries bs) tag passed.0 (at + 1) (omega arith) x (elements_of a x.count) got.items got.is

          pub scanning_past : at < x.at
          scanning_past = omega (arith, past.0)

          later : blocks_of d ≡ blocks_from d (suc (length d)) x.at (extended bs at tag x (elements_of a x.count) got.items)
          unfolding onward
          later =
              read_on
              ∙ ap (λ (r : Reading). onward at r (λ x es is. blocks_from d (length d) x.at (extended bs at tag x es is))) got.is
              ∙ blocks_fuel d (length d) (suc (length d)) x.at (extended bs at tag x (elements_of a x.count) got.items) past.1 (omega (arith, past.0))
              (omega (arith, past.0))

          unchanged : tag ≡ 127 → extended bs at tag x (elements_of a x.count) got.items ≡ bs
          unfolding extended indexed
          unchanged s = pick_no _ _ _ (pick_yes _ _ _ (eq-eqb _ _ s))

          pub scanning_skip : tag ≡ 127 → Scanning d plan₀ known plan n x.at to
          scanning_skip s =
              record {
                bs = bs;
                kept = g.kept;
                words = g.words;
                inside = past.1;
                same = later ∙ ap (λ (cs : List Block). blocks_from d (suc (length d)) x.at cs) (unchanged s);
              }

          module _ (s : tag ≡ 127 → ⊥) where
            counted : indexed tag ≡ true
            unfolding indexed
            counted = pick_no _ _ _ (ne_eqb _ _ s)

            pub scanning_few : n < 1024
            scanning_few = leb-false _ _ (sym (pick_yes _ _ _ counted) ∙ passed.1)

            pub scanning_id : at + 17 ≤ length d
            scanning_id = let w = id_whole d (summaries bs) tag (at + 1) s x (elements_of a x.count) got.items got.is in omega arith

            pub scanning_height : x.height ≤ 32
            scanning_height = height_most (summaries bs) tag x (elements_of a x.count) (block_sound d (summaries bs) tag (at + 1) passed.0 x (elements_of a x.count) got.items got.is)

            module _ (known' plan' : List ℕ) (r : ℕ) (w : Adds d n at x (elements_of a x.count) to r known known' plan plan') (c : x.count ≤ 512) where
              abbrev b : Block
              b = block_of bs at tag x (elements_of a x.count) got.items

              words_is : words_of (known_of d known n) (get_or d at 0) (format_number x.format) (elements_of a x.count) ≡ b.words
              unfolding block_of
              words_is = rw (← t, g.kept.same) refl

              bs_more : extended bs at tag x (elements_of a x.count) got.items ≡ bs ++ (b ∷ [])
              unfolding extended
              bs_more = pick_yes _ _ _ counted

              ends : r ≡ to + length b.words
              ends = w.puts.end ∙ ap (λ (ws : List ℕ). to + length ws) words_is

              last : ◌≡◌ {A = Known} (record { start = at; tag = get_or d at 0; height = x.height; node = to }) (summary b)
              unfolding summary block_of
              last = ap₂ (λ (u v : ℕ). record { start = at; tag = u; height = x.height; node = v }) (sym t) g.kept.end

              total : length (all_words (bs ++ (b ∷ []))) ≡ length (all_words bs) + length b.words
              total = ap length (all_snoc bs b) ∙ length-append (all_words bs) b.words

              pub scanning_add : Scanning d plan₀ known' plan' (n + 1) x.at r
              unfolding block_of summary
              scanning_add =
                  record {
                    bs = bs ++ (b ∷ []);
                    kept =
                        record {
                          told = w.told;
                          same = w.same ∙ ap₂ (λ (ks : List Known) (k : Known). ks ++ (k ∷ [])) g.kept.same last ∙ sym (summaries_snoc bs b);
                          end = omega (arith, ends, g.kept.end, total);
                          most = omega (arith, ends, g.kept.most, words_most (summaries bs) tag (format_number x.format) (elements_of a x.count), tab_length (element_at a) x.count);
                        };
                    words =
                        w.puts.words ∙ ap₂ (λ (l ws : List ℕ). sets l to ws) g.words words_is
                        ∙ ap (λ (k : ℕ). sets (sets plan₀ 2 (all_words bs)) k b.words) g.kept.end ∙ sets_append plan₀ 2 (all_words bs) b.words
                        ∙ ap (λ (ws : List ℕ). sets plan₀ 2 ws) (sym (all_snoc bs b));
                    inside = past.1;
                    same = later ∙ ap (λ (cs : List Block). blocks_from d (suc (length d)) x.at cs) bs_more;
                  }
