-- Nobody has to believe these definitions: they are the reading of the blocks as the code does it, what is kept of them in words, and the plan by
-- its words so far.
use Rattle.std.specs.Prelude.{◌≡◌, ℕ, ◌+◌, ◌*◌, ◌≤◌, false, List, [], ◌∷◌, ◌++◌, leb, length, get_or, Result, Ok, Err}
use Rattle.std.proofs.lemmas.List.Edits.{sets}
use Rattle.descriptor_fields.specs.Layouts.{known_tag, indexed}
use Rattle.descriptor_fields.specs.Fields.{Element, Verdict, fine, format_number}
use Rattle.descriptor_blocks.specs.Descriptor.{Block, summaries, all_words, words_of, Blocks, faulty, whole}
use Rattle.descriptor_fields.specs.Arrays.{Told, known_of}
use Rattle.descriptor_fields.specs.declared.Draft.{Draft}
use Rattle.descriptor_nodes.specs.Nodes.{Puts}
use Rattle.descriptor_scan.specs.declared.Scanned.{Scanned}
use Rattle.forms.specs.declared.fault.Refusal.{Refusal}
use Rattle.protocol.specs.Numbers.{pick}

-- 11 for an unknown tag (R3.2), and then 17 for one block too many (R3.14)
unfoldable pub tag_check : ℕ → ℕ → Verdict
tag_check tag n = pick (known_tag tag) (pick (pick (indexed tag) (leb 1024 n) false) (Err 17) fine) (Err 11)

-- what is kept of the blocks, and where the next node starts
pub record Kept (d known : List ℕ) (n to : ℕ) (bs : List Block) : Type 0 where
  pub told : Told d known n
  pub same : known_of d known n ≡ summaries bs
  pub end : to ≡ 2 + length (all_words bs)
  pub most : to ≤ 2 + 1026 * n

-- a block more
pub record Adds (d : List ℕ) (n at : ℕ) (x : Draft) (es : List Element) (to r : ℕ) (known known' plan plan' : List ℕ) : Type 0 where
  pub told : Told d known' (n + 1)
  pub same : known_of d known' (n + 1) ≡ known_of d known n ++ (record { start = at; tag = get_or d at 0; height = x.height; node = to } ∷ [])
  pub puts : Puts (words_of (known_of d known n) (get_or d at 0) (format_number x.format) es) to r plan plan'

-- what the reading gives
unfoldable pub Scans : List ℕ → Blocks → Result Scanned Refusal → List ℕ → List ℕ → List ℕ → Type 0
Scans d (faulty n p) (Err r) known plan plan' = (r.fault ≡ n) × (r.place ≡ p)
Scans d (faulty n p) (Ok x) known plan plan' = ⊥
Scans d (whole bs) (Err r) known plan plan' = ⊥
Scans d (whole bs) (Ok x) known plan plan' = (Kept d known x.count x.end bs) × (plan' ≡ sets plan 2 (all_words bs))
