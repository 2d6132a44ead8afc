-- `wire::words::is_cardinality` meets its contract: three of the numbers follow one another, and two stand alone.
use mathlib.Core.Path.{◌≡◌, refl, sym}
use mathlib.Core.Bool.{true, false}
use mathlib.Core.Logic.{◌⊎◌, inl, inr}
use Prim.Native.Nat.{ℕ, ◌≤◌, ◌<◌}
use native.Mathlib.Omega.{arith}
use borrow.Author.Rules.{rules}
use borrow.Author.Tests.{ne_eqb}
use Rattle.wire.proofs.Tables.{each_at}
use Rattle.protocol.specs.Numbers.{pick, any}
use Rattle.protocol.specs.Messages.{is_cardinality}
use Rattle.wire.proofs.words.is_cardinality.Goals as goal

alone : (c : ℕ) → (c ≡ 65) ⊎ (c ≡ 77) → true ≡ is_cardinality c
unfolding is_cardinality any pick
alone c (inl e) = rw e
alone c (inr e) = rw e

in_run : (c : ℕ) → 109 ≤ c → c < 112 → true ≡ is_cardinality c
unfolding is_cardinality any pick
in_run c p q = sym (each_at is_cardinality 109 3 refl c p q)

neither : (c : ℕ) → (109 ≤ c → c < 112 → ⊥) → ((c ≡ 65) ⊎ (c ≡ 77) → ⊥) → false ≡ is_cardinality c
unfolding is_cardinality any pick
neither c p q =
    rw (ne_eqb c 110 (λ e. p (omega arith) (omega arith)), ne_eqb c 111 (λ e. p (omega arith) (omega arith)), ne_eqb c 65 (λ e. q (inl e)), ne_eqb c 109 (λ e. p (omega arith) (omega arith)), ne_eqb c 77 (λ e. q (inr e)))

pub returns-in-110 : goal.returns-in-110
returns-in-110 c = alone _ c.in-110.is

pub returns-in-110-2 : goal.returns-in-110-2
returns-in-110-2 c = in_run _ (omega arith) (omega arith)

pub returns-in_default : goal.returns-in_default
returns-in_default c = neither _ (λ p q. omega arith) (search rules)

pub returns-in_default-2 : goal.returns-in_default-2
returns-in_default-2 c = neither _ (λ p q. omega arith) (search rules)
