-- What is promised of the text check with the step over plain bytes (L5), on one page. It must be believed together with crates/protocol and
-- wire_letters/specs/Step, whose definitions it cites. Each promise is a type with a name, and proofs/Theorems proves it.
use Rattle.std.specs.Prelude.{◌≡◌, true, List, ◌⊎◌, ℕ, ◌<◌, ◌≤◌, length, get_or, drop}
use Rattle.wire_letters.specs.Step.{plain_end}
use Rattle.wire_letters.specs.contracts.plain.plain_end as plain_end_contract
use Rattle.wire_letters.specs.contracts.letters.is_utf8 as is_utf8_contract
use Rattle.wire_letters.proofs.plain.plain_end.Symbol as plain_end_code
use Rattle.wire_letters.proofs.letters.is_utf8.Symbol as is_utf8_code
use Rattle.wire_stepless.specs.contracts.textbench_is_utf8_stepless as stepless_contract
use Rattle.wire_stepless.specs.contracts.alike as alike_contract
use Rattle.wire_stepless.proofs.textbench_is_utf8_stepless.Symbol as stepless_code
use Rattle.wire_stepless.proofs.alike.Symbol as alike_code
use Rattle.protocol.specs.Text.{well_formed}
use Rattle.letters_theorems.specs.Terms.{Does}

-- From any place of a run, its end among them, the step over plain bytes ends exactly at the first byte of 80 hex or above, or at the run's end;
-- what is left there is well-formed exactly where what was left before is (R2.6, L5).
abbrev pub PlainStep : Type 0
PlainStep =
    (s : List ℕ) (i : ℕ) → i ≤ length s
    → (i ≤ plain_end s i)
    × (plain_end s i ≤ length s)
    × ((k : ℕ) → i ≤ k → k < plain_end s i → get_or s k 0 < 0x80)
    × ((plain_end s i ≡ length s) ⊎ (0x80 ≤ get_or s (plain_end s i) 0))
    × (well_formed (drop i s) ≡ well_formed (drop (plain_end s i) s))

-- The code's step is that one; the text check that has it, and the same check without the step, answer whether the bytes are well-formed; and a
-- function that calls both and compares them finds them alike, on any bytes: what is accepted is the same (R2.6, L5).
pub record TextChecks : Type 2 where
  pub step_does : Does plain_end_contract.ended plain_end_code.code plain_end_code.name (λ κs (s, (from, _)) r _. r ≡ plain_end s.now from)
  pub check_does : Does is_utf8_contract.ended is_utf8_code.code is_utf8_code.name (λ κs (s, _) r _. r ≡ well_formed s.now)
  pub stepless_does : Does stepless_contract.ended stepless_code.code stepless_code.name (λ κs (s, _) r _. r ≡ well_formed s.now)
  pub alike_does : Does alike_contract.ended alike_code.code alike_code.name (λ κs _ r _. r ≡ true)
