use mathlib.Core.Path.{◌≡◌}
use mathlib.Core.Bool.{false}
use Prim.Native.Nat.{ℕ, ◌<◌}
use Rattle.descriptor_fields.specs.Fields.{text_at}
use Rattle.descriptor_fields.specs.Arrays.{element_at}
use Rattle.protocol.specs.Numbers.{same_bytes}
use Rattle.descriptor_names.proofs.text.is_named.Given as goal

abbrev pub invariant-loop-i : goal.invariant-loop-i
invariant-loop-i l = (j : ℕ) → j < l.i → same_bytes (text_at l.d (element_at l.elements j).name) (text_at l.d l.at) ≡ false
