use mathlib.Core.Path.{◌≡◌}
use mathlib.Core.Bool.{false}
use Prim.Native.Nat.{ℕ, ◌<◌}
use Rattle.descriptor_fields.specs.Fields.{id_at}
use Rattle.descriptor_fields.specs.Arrays.{known_at}
use Rattle.descriptor_names.proofs.Earlier.{has_id}
use Rattle.descriptor_names.proofs.id.find.Given as goal

abbrev pub invariant-loop-i : goal.invariant-loop-i
invariant-loop-i l =
    (j : ℕ) → j < l.i → has_id l.earlier.d.now (id_at l.s l.at) (known_at l.earlier.d.now l.earlier.known.now j) ≡ false
