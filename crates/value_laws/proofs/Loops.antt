-- The elements of a container one at a time, whatever its form: the next one, and the end.
use mathlib.Core.Path.{◌≡◌, ◌∙◌}
use mathlib.Core.Bool.{true, false}
use mathlib.Core.List.{List}
use mathlib.Core.Option.{Option}
use Prim.Native.Nat.{ℕ, suc}
use lib.ListN.{length}
use borrow.Author.Tests.{eq-eqb, ne_eqb}
use Rattle.std.specs.Prelude.{Result}
use Rattle.wire.proofs.Picks.{pick_yes, pick_no}
use Rattle.forms.specs.declared.Head.{Head}
use Rattle.protocol.specs.Heads.{end_of}
use Rattle.protocol.specs.Lists.{empty}
use Rattle.protocol.specs.Answers.{refused, accepted}
use Rattle.protocol.specs.Values.{then, Rule, element_outcome, Form, container_end, elements}

module _ {S : Type 0} (form : Form S) (rule : Rule) (ref : ℕ → Option ℕ) (base : ℕ) (s : List ℕ) (n : ℕ) (st : S) (at : ℕ) where
  pub elements_next : (m : ℕ) (h : Result Head ℕ) → n ≡ suc m → h ≡ form.head st at
      → elements form rule ref base s n st at ≡ then (element_outcome rule ref base s h) (elements form rule ref base s m (form.next st h) (end_of h))
  unfolding elements
  elements_next m h e d = rw (e, d)

  module _ (e : n ≡ 0) where
    pub elements_over : (at ≡ length s → ⊥) → elements form rule ref base s n st at ≡ refused 21 base
    unfolding elements container_end
    elements_over h = rw e (pick_no _ _ _ (ne_eqb _ _ h))

    module _ (whole : at ≡ length s) where
      pub elements_lack : form.lacks st ≡ true → elements form rule ref base s n st at ≡ refused 27 base
      unfolding elements container_end
      elements_lack h = rw e (pick_yes _ _ _ (eq-eqb _ _ whole) ∙ pick_yes _ _ _ h)

      pub elements_done : form.lacks st ≡ false → elements form rule ref base s n st at ≡ accepted empty
      unfolding elements container_end
      elements_done h = rw e (pick_yes _ _ _ (eq-eqb _ _ whole) ∙ pick_no _ _ _ h)
