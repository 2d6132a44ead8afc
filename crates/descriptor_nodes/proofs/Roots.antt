-- The index of the block with an id, and the tag of the block with an index: as the blocks say and as the words that are kept of them say.
use mathlib.Core.Path.{◌≡◌, refl}
use mathlib.Core.List.{List, [], ◌∷◌}
use Prim.Native.Nat.{ℕ, zero, suc, ◌≤◌, ◌<◌}
use native.Mathlib.Nat.{le_of_suc-le-suc}
use native.Mathlib.Omega.{arith}
use lib.ListN.{length, get_or}
use Rattle.descriptor_fields.specs.Fields.{no_block}
use Rattle.descriptor_blocks.specs.Descriptor.{Block, summary, summaries, tag_at}

pub tag_same : (bs : List Block) (k : ℕ) → k < length bs → tag_at bs k ≡ (get_or (summaries bs) k no_block).tag
unfolding tag_at summary
tag_same [] k h = absurd (omega arith)
tag_same (b ∷ bs) zero h = refl
tag_same (b ∷ bs) (suc k) h = tag_same bs k (le_of_suc-le-suc h)

pub tag_out : (bs : List Block) (k : ℕ) → length bs ≤ k → tag_at bs k ≡ 10
unfolding tag_at
tag_out [] k h = refl
tag_out (b ∷ bs) zero h = absurd (omega arith)
tag_out (b ∷ bs) (suc k) h = tag_out bs k (le_of_suc-le-suc h)
