-- The layout at a position of the table of codes, what holds of every code, and a measure for walks over the table.
use mathlib.Core.Path.{◌≡◌, refl, ap, sym, ◌∙◌}
use mathlib.Core.List.{List, [], ◌∷◌}
use mathlib.Core.Logic.{◌⊎◌, inl, inr, ⊎_elim}
use Prim.Native.Nat.{ℕ, zero, suc, ◌+◌, ◌-◌, ◌*◌, ◌<◌, ◌≤◌}
use native.Mathlib.Omega.{arith}
use native.Mathlib.Nat.{add-zero, add-suc, suc-add, zero-add, le_of_suc-le-suc, not-suc-le-zero, add-sub_of_le}
use native.Mathlib.Decide.{dec_lt}
use lib.Dec.{leb, ltb}
use lib.ListN.{length, get_or, drop}
use lib.Seq.{get_or-drop}
use borrow.Author.Tests.{le-leb, le-ltb, lt-ltb, ltb-true, ne_eqb}
use Rattle.wire.proofs.Tables.{each_below, where_below}
use Rattle.message_layout.specs.Tables.{codes, field_of, entry, layouts, layout_at, CodeOf, width_of, values_of, widths, firsts, values, allowed_of}
use Rattle.protocol.specs.Numbers.{pick}
use Rattle.protocol.specs.Messages.{done, one, run, u16}

pub lt_or_ge : (a b : ℕ) → (a < b) ⊎ (b ≤ a)
lt_or_ge a b = elim (dec_lt a b) [ yes p ↦ inl p | no n ↦ inr (omega arith) ]

-- ---- the layout at a position

entry_of : (cs : List ℕ) (b p : ℕ) → p < length cs → get_or (layouts b cs) p done ≡ entry (b + p) (get_or cs p 0) (drop (suc p) (layouts b cs))
unfolding layouts
entry_of [] b p h = absurd (not-suc-le-zero h)
entry_of (c ∷ cs) b zero h = rw add-zero
entry_of (c ∷ cs) b (suc p) h =
    entry_of cs (suc b) p (le_of_suc-le-suc h)
    ∙ ap (λ (n : ℕ). entry n (get_or cs p 0) (drop (suc p) (layouts (suc b) cs))) (suc-add b p ∙ sym (add-suc b p))

module _ (p c : ℕ) (h : p < 51) (o : c ≡ get_or codes p 0) where
  here : layout_at p ≡ entry p c (drop (suc p) (layouts 0 codes))
  unfolding layout_at codes
  here = entry_of codes 0 p h ∙ ap (λ (n : ℕ). entry n (get_or codes p 0) (drop (suc p) (layouts 0 codes))) (zero-add p)
      ∙ ap (λ (n : ℕ). entry p n (drop (suc p) (layouts 0 codes))) (sym o)

  after : (j : ℕ) → get_or (drop (suc p) (layouts 0 codes)) j done ≡ layout_at (suc p + j)
  unfolding layout_at
  after j = get_or-drop (suc p) (layouts 0 codes) j done

  next : get_or (drop (suc p) (layouts 0 codes)) 0 done ≡ layout_at (p + 1)
  next = after 0 ∙ ap layout_at (omega arith)

  pub at_end : c ≡ 0 → layout_at p ≡ done
  unfolding entry pick
  at_end e = rw here (rw e)

  pub at_field : 0 < c → c < 16 → layout_at p ≡ one (field_of c) (layout_at (p + 1))
  unfolding entry pick
  at_field z l = rw (here, ne_eqb c 0 (λ e. omega arith), lt-ltb c 16 l, next)

  pub at_run : 16 ≤ c → p < c - 16 → layout_at p ≡ run (layout_at (c - 16)) (layout_at (p + 1))
  unfolding entry pick
  at_run l a = rw (here, ne_eqb c 0 (λ e. omega arith), le-ltb c 16 l, next, after (c - 16 - suc p), add-sub_of_le a)

-- the code of a run's count
pub count_code : field_of 7 ≡ u16
unfolding field_of pick width_of values_of widths firsts allowed_of values
count_code = refl

-- ---- the facts of every code, which antt computes

pub code_sound : (p : ℕ) → p < 51 → CodeOf p (get_or codes p 0)
unfolding codes pick
code_sound p h =
    record {
      code = refl;
      next = λ g. ltb-true _ _ (where_below (λ k. ltb 0 (get_or codes k 0)) (λ k. ltb (k + 1) 51) 51 refl p h (lt-ltb _ _ g));
      field = λ g. ltb-true _ _ (where_below (λ k. ltb (get_or codes k 0) 16) (λ k. ltb (get_or codes k 0) 12) 51 refl p h (lt-ltb _ _ g));
      inside = ltb-true _ _ (each_below (λ k. ltb (get_or codes k 0) 67) 51 refl p h);
      ahead = λ g. ltb-true _ _ (where_below (λ k. leb 16 (get_or codes k 0)) (λ k. ltb k (get_or codes k 0 - 16)) 51 refl p h (le-leb _ _ g));
    }

-- ---- a measure: a run's items stand at a later position

unfoldable pub μ_code : ℕ → ℕ
μ_code c = pick (ltb c 16) 0 (2 * (67 - c) + 1)

pub code_below : (p c s : ℕ) → s ≤ p → p < 51 → c < 67 → (16 ≤ c → p < c - 16) → μ_code c < 2 * (51 - s)
unfolding μ_code pick
code_below p c s g h k a =
    ⊎_elim
    (λ (l : c < 16). rw (lt-ltb c 16 l) (omega arith))
    (λ (l : 16 ≤ c). let b = a l in rw (le-ltb c 16 l) (omega arith))
    (lt_or_ge c 16)

pub walk_falls : (c : ℕ) → 16 ≤ c → c < 67 → 2 * (51 - (c - 16)) < μ_code c
unfolding μ_code pick
walk_falls c l h = rw (le-ltb c 16 l) (omega arith)
