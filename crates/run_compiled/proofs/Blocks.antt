-- What is known of a block with values among those of an accepted descriptor: its
-- references go to earlier blocks with values, and its node stands in the plan.
use mathlib.Core.Path.{◌≡◌, refl, ap, sym, ◌∙◌}
use mathlib.Core.Bool.{true}
use mathlib.Core.List.{List, [], ◌∷◌, ◌++◌}
use mathlib.Core.Option.{some}
use Prim.Native.Nat.{ℕ, zero, suc, ◌+◌, ◌<◌}
use native.Mathlib.Omega.{arith}
use lib.ListN.{length, get_or, take, drop, length-take, length-map}
use lib.Seq.{get_or-take, split_at}
use Rattle.descriptor_fields.specs.Layouts.{valued}
use Rattle.descriptor_fields.specs.Fields.{Known, Element, format_number}
use Rattle.descriptor_blocks.specs.Descriptor.{refs, node_at, Block, summary, summaries, all_words, block_of, plan_words}
use Rattle.descriptor_blocks.proofs.Elements.{no_element, target, element_valued, raised_by, Refers}
use Rattle.descriptor_blocks.proofs.Accepted.{missing, Made, Accepted, Valued}
use Rattle.run_compiled.specs.OffBlocks.{block_at}
use Rattle.run_compiled.proofs.Words.{kind_of, refs_of, Proper, Stands, stands}
use Rattle.run_compiled.proofs.Shapes.{ref_of, Kinded, kinded, shape_refs, shape_proper, shape_refers}
use Rattle.run_compiled.proofs.Places.{summary_at, all_append, place, words_are}
use Rattle.run_compiled.proofs.Renames.{rename_proper, rename_same, ref_in}
use Rattle.protocol.specs.Nodes.{Node, ref_at, rename}
use Rattle.protocol.specs.Plans.{may_refer}
use Rattle.protocol.specs.Compiling.{node_as_words}

pub shape_at : (bs : List Block) (i : ℕ) → block_at bs i ≡ (get_or bs i missing).shape
unfolding block_at
shape_at [] i = refl
shape_at (b ∷ bs) zero = refl
shape_at (b ∷ bs) (suc i) = shape_at bs i

-- a block with values, over those before it
pub record Facts (known : List Known) (b : Block) : Type 0 where
  pub list : List Element
  pub tag : ℕ
  pub same_refs : refs_of b.shape ≡ refs list
  pub proper : Proper b.shape
  pub each : (j : ℕ) → j < length list → Refers known tag (get_or list j no_element)
  pub high : b.height ≡ raised_by known 1 list
  pub may : (j kind : ℕ) → j < length list → Kinded (target known (get_or list j no_element)).tag kind → may_refer (kind_of b.shape) kind ≡ true
  pub own : Kinded b.tag (kind_of b.shape)

made_facts : (before : List Block) (b : Block) → Made before b → valued b.tag ≡ true → Facts (summaries before) b
unfolding block_of
made_facts before b m v =
    let known = summaries before in
    let w : valued m.tag ≡ true = ap (λ (b : Block). valued b.tag) (sym m.is) ∙ v in
    rw m.is
    (record {
      list = m.list;
      tag = m.tag;
      same_refs = shape_refs known m.list m.tag m.known m.counted w m.draft m.sound;
      proper = shape_proper known m.list m.tag m.known m.counted w m.draft m.sound;
      each = m.sound.each;
      high = m.sound.high;
      may = shape_refers known m.list m.tag m.known m.counted w m.draft m.sound;
      own = kinded known m.list m.tag m.known m.counted w (format_number m.draft.format);
    })

module _ (bs : List Block) (a : Accepted bs) where
  -- an earlier block, seen from a later one
  target_is : (i : ℕ) (e : Element) → e.ref < length (summaries (take i bs)) → (e.ref < i) × (e.ref < length bs) × (target (summaries (take i bs)) e ≡ summary (get_or bs e.ref missing))
  target_is i e l =
      let m : e.ref < length (take i bs) = rw length-map at l in
      let k : (e.ref < i) × (e.ref < length bs) = omega (arith, length-take i bs) in
      (k.0, k.1, summary_at (take i bs) e.ref ∙ ap summary (get_or-take i bs e.ref missing k.0))

  module _ (i : ℕ) (v : Valued bs i) where
    pub facts : Facts (summaries (take i bs)) (get_or bs i missing)
    facts = made_facts (take i bs) (get_or bs i missing) (a.made i v.inside) v.values

    -- an element's block is an earlier one, with values
    pub record Earlier (e : Element) : Type 0 where
      pub less : e.ref < i
      pub has : Valued bs e.ref
      pub is : target (summaries (take i bs)) e ≡ summary (get_or bs e.ref missing)
      pub node : node_at (summaries (take i bs)) e.ref ≡ node_at (summaries bs) e.ref

    pub earlier : (j : ℕ) → j < length facts.list → Earlier (get_or facts.list j no_element)
    unfolding summary node_at
    earlier j l =
        let r = facts.each j l in
        let e = get_or facts.list j no_element in
        let t = target_is i e r.below in
        let w : valued (target (summaries (take i bs)) e).tag ≡ true = element_valued (summaries (take i bs)) e facts.tag r in
        record {
          less = t.0;
          has = record { inside = t.1; values = ap (λ (k : Known). valued k.tag) (sym t.2) ∙ w };
          is = t.2;
          node = ap (λ (k : Known). k.node) (t.2 ∙ sym (summary_at bs e.ref));
        }

    -- the references of its node are those of its elements
    pub refs_count : length (refs_of (get_or bs i missing).shape) ≡ length facts.list
    refs_count = ap length facts.same_refs ∙ length-map facts.list (λ (e : Element). e.ref)

    pub refs_at_lem : (j : ℕ) → get_or (refs_of (get_or bs i missing).shape) j 0 ≡ (get_or facts.list j no_element).ref
    refs_at_lem j = ap (λ (l : List ℕ). get_or l j 0) facts.same_refs ∙ ref_of facts.list j

    pub closed : (k r : ℕ) → ref_at (block_at bs i) k ≡ some r → Valued bs r × (r < i)
    closed k r e =
        let q = ref_in (get_or bs i missing).shape k r (ap (λ (v : Node). ref_at v k) (sym (shape_at bs i)) ∙ e) in
        let l : q.0 < length facts.list = rw refs_count at q.1 in
        let w : r ≡ (get_or facts.list q.0 no_element).ref = q.2 ∙ refs_at_lem q.0 in
        let h = earlier q.0 l in
        rw w (h.has, h.less)

    -- among the blocks before it, its references have the places that they have in the whole plan
    pub renames_same : rename (node_at (summaries (take i bs))) (get_or bs i missing).shape ≡ rename (node_at (summaries bs)) (get_or bs i missing).shape
    renames_same =
        rename_same (node_at (summaries (take i bs))) (node_at (summaries bs)) (get_or bs i missing).shape
        (λ k l. rw (refs_at_lem k) (earlier k (rw refs_count at l)).node)

    -- its node stands in the plan
    pub stands_block : (root : ℕ) → Stands (plan_words bs root) (place bs i) (rename (node_at (summaries bs)) (get_or bs i missing).shape)
    unfolding plan_words place all_words
    stands_block root =
        let u = rename (node_at (summaries bs)) (get_or bs i missing).shape in
        let w : (get_or bs i missing).words ≡ node_as_words u = words_are bs a i v.inside v.values ∙ ap node_as_words renames_same in
        let split : all_words bs ≡ all_words (take i bs) ++ (node_as_words u ++ all_words (drop (suc i) bs)) =
        ap all_words (split_at bs i missing v.inside) ∙ all_append (take i bs) (get_or bs i missing ∷ drop (suc i) bs)
        ∙ ap (λ (ws : List ℕ). all_words (take i bs) ++ (ws ++ all_words (drop (suc i) bs))) w
        in
        stands ((2 + length (all_words bs)) ∷ node_at (summaries bs) root ∷ all_words (take i bs)) u (all_words (drop (suc i) bs)) (plan_words bs root) (place bs i)
        (rename_proper (node_at (summaries bs)) (get_or bs i missing).shape facts.proper)
        (ap (λ (ws : List ℕ). (2 + length (all_words bs)) ∷ node_at (summaries bs) root ∷ ws) split)
        (omega arith)
