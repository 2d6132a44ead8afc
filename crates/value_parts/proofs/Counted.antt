-- How many required elements of a sparse object were given so far, beside its marks: at the end it tells whether one is lacking.
use mathlib.Core.Path.{◌≡◌, ap, sym, ◌∙◌}
use mathlib.Core.Bool.{Bool, true, false}
use mathlib.Core.List.{List}
use Prim.Native.Nat.{ℕ, ◌+◌, ◌<◌, ◌≤◌}
use native.Mathlib.Omega.{arith}
use lib.Dec.{ltb}
use lib.ListN.{length, get_or, set as store, length-set, length-replicate}
use Rattle.value_heads.specs.Heads.{given}
use Rattle.value_heads.proofs.Counts.{needed_most, given_most, given_none, given_next, lacking_fewer}
use Rattle.plan_nodes.specs.Memo.{needed_at}
use Rattle.plan_nodes.proofs.Looks.{cards_length}
use Rattle.plan_nodes.proofs.Nodes.{at_few}
use Rattle.value_parts.specs.Counted.{Counted}
use Rattle.protocol.specs.Numbers.{pick}
use Rattle.protocol.specs.Heads.{requires, lacking}
use Rattle.protocol.specs.Values.{no_marks}
use Rattle.protocol.specs.Plans.{cards_at}
use Rattle.plan_nodes.specs.Readers.{At}

module _ (p : List ℕ) (k : ℕ) where
  pub counted_none : (marks : List Bool) → marks ≡ no_marks → Counted p k marks 0
  counted_none marks e =
      record {
        room = ap length e ∙ length-replicate 512 false;
        same = sym (ap (λ (m : List Bool). given (cards_at p k) m (length (cards_at p k))) e ∙ given_none (cards_at p k) 512 (length (cards_at p k)));
      }

  module _ (marks : List Bool) (n : ℕ) (u : Counted p k marks n) where
    pub counted_few : At p k → get_or p k 0 ≡ 6 → n ≤ 512
    counted_few a e =
        let few = at_few p k a (omega arith) (omega arith) in
        omega (
          arith,
          u.same,
          given_most (cards_at p k) marks (length (cards_at p k)),
          needed_most (cards_at p k) (length (cards_at p k)),
          cards_length p k,
        )

    -- an element that was not given before
    pub counted_next : (i : ℕ) → i < get_or p (k + 1) 0 → i < 512 → get_or marks i false ≡ false → (marks' : List Bool) → marks' ≡ store marks i true
        → (m : ℕ) → m ≡ n + pick (requires (get_or (cards_at p k) i 0)) 1 0 → Counted p k marks' m
    counted_next i l b new marks' e m f =
        let inside : i < length marks = omega (arith, u.room) in
        let below : i < length (cards_at p k) = omega (arith, cards_length p k) in
        record {
          room = ap length e ∙ length-set marks i true ∙ u.room;
          same = f ∙ ap (λ (q : ℕ). q + pick (requires (get_or (cards_at p k) i 0)) 1 0) u.same
              ∙ given_next (cards_at p k) marks i inside new (length (cards_at p k)) below
              ∙ ap (λ (q : List Bool). given (cards_at p k) q (length (cards_at p k))) (sym e);
        }

    pub counted_end : (m : ℕ) → m ≡ needed_at p k → ltb n m ≡ lacking (cards_at p k) marks (length (cards_at p k))
    unfolding needed_at
    counted_end m e = rw (e, u.same) (sym (lacking_fewer (cards_at p k) marks (length (cards_at p k))))
