use mathlib.Core.Logic.{⊎_elim}
use borrow.Author.Tests.{ne_eqb}
use Rattle.value_leaves.specs.Leaves.{gap_of}
use Rattle.protocol.specs.Numbers.{pick}
use Rattle.value_leaves.proofs.gap_of.Goals as goal

pub returns-then-kind-eq-KIND_OUTPUT_OBJECT : goal.returns-then-kind-eq-KIND_OUTPUT_OBJECT
unfolding gap_of pick
returns-then-kind-eq-KIND_OUTPUT_OBJECT c = ⊎_elim (λ e. rw e) (λ e. rw e.1) c.if-kind-eq-KIND_OUTPUT_OBJECT.either

pub returns-else-kind-eq-KIND_OUTPUT_OBJECT : goal.returns-else-kind-eq-KIND_OUTPUT_OBJECT
unfolding gap_of pick
returns-else-kind-eq-KIND_OUTPUT_OBJECT c =
    let n = c.if-kind-eq-KIND_OUTPUT_OBJECT.false in
    rw (ne_eqb _ _ n.0, ne_eqb _ _ n.1)
