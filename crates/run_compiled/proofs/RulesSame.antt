-- The rules read off protocol's blocks give what the rules read off the code's own blocks give.
use mathlib.Core.Path.{◌≡◌, refl, ap, sym, ◌∙◌}
use mathlib.Core.Bool.{true}
use mathlib.Core.List.{List, [], ◌∷◌}
use mathlib.Core.Option.{some}
use Prim.Native.Nat.{ℕ, zero, suc, ◌<◌}
use native.Mathlib.Omega.{arith}
use lib.ListN.{length, get_or, get_elem?, length-map}
use Rattle.wire.proofs.Picks.{pick_yes}
use Rattle.value_laws.proofs.Relabel.{relabel_value}
use Rattle.protocol.specs.Descriptors.{Block, bare_form, DescribedType, no_type, block_type, describe}
use Rattle.protocol.specs.OffDescriptor.{node_or_any, node_of_block, block_look, value_off, type_off, judged_off, rules_by}
use Rattle.descriptor_fields.specs.Layouts.{valued}
use Rattle.descriptor_blocks.specs.Descriptor.{Block as OldBlock, summary, summaries, node_at, Description, refused_by, without_type, described, description_of, plan_words}
use Rattle.descriptor_blocks.proofs.Elements.{no_element}
use Rattle.descriptor_blocks.proofs.Accepted.{missing, Accepted, Valued, described_is}
use Rattle.descriptor_agree.proofs.Fields.{pairs_length}
use Rattle.descriptor_agree.proofs.Words.{Shapes, Twins}
use Rattle.descriptor_agree.proofs.Whole.{Alike, description_same}
use Rattle.run_compiled.specs.OffBlocks.{block_at, value_in, judged, rules_of}
use Rattle.run_compiled.proofs.Renames.{rename_same}
use Rattle.run_compiled.proofs.Blocks.{shape_at, facts, earlier, refs_count, refs_at_lem, closed}
use Rattle.run_compiled.proofs.Formed.{look_block}
use Rattle.run_compiled.proofs.ByBlocks.{value_same}
use Rattle.protocol.specs.Nodes.{Node, ref_at, rename}
use Rattle.protocol.specs.Values.{value_of}
use Rattle.protocol.specs.Answers.{Outcome, refused, accepted}
use Rattle.protocol.specs.Compiling.{node_position}
use Rattle.protocol.specs.Running.{list_roomed}
use Rattle.protocol.specs.Plans.{look}

-- a block with values has one node by both
shape_same : (all : List Block) (os : List OldBlock) (bs : List Block) → Shapes all os bs → (k : ℕ) → k < length os
    → valued (get_or os k missing).tag ≡ true → node_of_block all (get_elem? bs k) ≡ block_at os k
unfolding node_of_block node_or_any block_at
shape_same all [] bs s k h v = absurd (omega arith)
shape_same all (o ∷ os) [] s k h v = absurd s
shape_same all (o ∷ os) (b ∷ bs) s zero h v = rw (s.0, pick_yes (valued o.tag) (some o.shape) _ v)
shape_same all (o ∷ os) (b ∷ bs) s (suc k) h v = shape_same all os bs s.1 k (omega arith) v

module _ (d : List ℕ) (os : List OldBlock) (bs : List Block) (t : Twins d os bs) (a : Accepted os) where
  look_same : (k : ℕ) → Valued os k → block_look bs k ≡ block_at os k
  unfolding block_look
  look_same k g = shape_same bs os bs t.shapes k g.inside g.values

  same_length : length os ≡ length bs
  same_length = sym (length-map os summary) ∙ pairs_length d (summaries os) bs t.pairs

  place_same : (k : ℕ) → Valued os k → node_position bs k ≡ node_at (summaries os) k
  place_same k g = sym (t.nodes k (omega (arith, g.inside, same_length)))

  -- its references go to blocks with values, and so to the same words
  places_same : (k : ℕ) → Valued os k → rename (node_position bs) (get_or os k missing).shape ≡ rename (node_at (summaries os)) (get_or os k missing).shape
  places_same k g =
      rename_same (node_position bs) (node_at (summaries os)) (get_or os k missing).shape
      (λ j l. rw (refs_at_lem os a k g j) (place_same (get_or (facts os a k g).list j no_element).ref (earlier os a k g j (rw (refs_count os a k g) at l)).has))

  module _ (root : ℕ) (v : Valued os root) where
    look_new : (k : ℕ) → Valued os k → look (plan_words os root) (node_position bs k) ≡ rename (node_position bs) (block_look bs k)
    look_new k g =
        ap (look (plan_words os root)) (place_same k g) ∙ look_block os a root k g ∙ ap (rename (node_at (summaries os))) (shape_at os k)
        ∙ sym (places_same k g)
        ∙ ap (rename (node_position bs)) (sym (shape_at os k) ∙ sym (look_same k g))

    value_new : (s : List ℕ) → value_off bs root s ≡ value_in os root s
    unfolding value_off
    value_new s =
        sym
        (relabel_value (node_position bs) (block_look bs) (look (plan_words os root)) (Valued os)
        (λ k i r g e. closed os a k g i r (ap (λ (u : Node). ref_at u i) (sym (look_same k g)) ∙ e))
        look_new
        root v (omega (arith, v.inside, a.few)) 0 0 s)
        ∙ ap (λ (n : ℕ). value_of (look (plan_words os root)) n 0 0 s) (place_same root v)
        ∙ value_same os root a v s

module _ (d root s : List ℕ) where
  judged_same : (o : Description) (n : Outcome DescribedType) → description_of d root ≡ o → Alike d o n → judged_off n s ≡ judged o s
  unfolding judged_off type_off judged
  judged_same (refused_by n p) (refused m q) i e = rw (e.0, e.1)
  judged_same (refused_by n p) (accepted u) i e = absurd e
  judged_same without_type (refused m q) i e = absurd e
  judged_same without_type (accepted no_type) i e = refl
  judged_same without_type (accepted (block_type bs k)) i e = absurd e
  judged_same (described os j) (refused m q) i e = absurd e
  judged_same (described os j) (accepted no_type) i e = absurd e
  judged_same (described os j) (accepted (block_type bs k)) i e =
      let h = described_is d root os j i in
      rw (← e.1, value_new d os bs e.0 h.0 j h.1 s)

-- The rules read off a descriptor are the same by both definitions.
pub rules_same : (d root s : List ℕ) (room : ℕ) → rules_by bare_form d root s room ≡ rules_of d root s room
unfolding rules_by rules_of
rules_same d root s room = ap (list_roomed room) (judged_same d root s (description_of d root) (describe bare_form d root) refl (description_same d root))
