-- The laws of an element's number on bytes.
use mathlib.Core.Path.{◌≡◌}
use mathlib.Core.Bool.{true}
use mathlib.Core.List.{List}
use Prim.Native.Nat.{ℕ}
use lib.ListN.{length}
use Rattle.std.specs.Prelude.{Result}
use Rattle.forms.specs.declared.fault.Refusal.{Refusal}
use Rattle.c_find.proofs.Findings.{find_crossed}
use Rattle.find_number.specs.declared.Number.{Number}
use Rattle.find_number.specs.Number.{Gives}
use Rattle.protocol.specs.Finding.{number_of}
use Rattle.protocol.specs.Crossing.{words_in, crosses, number_from}

pub number_crossed : (plan value path : List ℕ) → crosses (length plan) ≡ true → crosses (length path) ≡ true
    → (p q : List ℕ) → p ≡ words_in plan → q ≡ words_in path
    → (r : Result Number Refusal) → Gives (number_of p value q) r → Gives (number_from plan value path) r
unfolding number_from number_of
number_crossed plan value path e d p q ep eq r g = rw (← find_crossed plan value path e d p q ep eq, ← ep) g
