-- The step over plain bytes (L5): from the place i, with the bytes from there on, it ends at the first byte of 80 hex or above, or at the end. To be
-- believed like the definitions of crates/protocol. It stands here and not in protocol/specs/Text, where it belongs, since the port to today's
-- Rattle changes no file of definitions that had landed.
use Rattle.std.specs.Prelude.{List, [], ◌∷◌, ℕ, suc, leb, drop}
use Rattle.protocol.specs.Numbers.{pick}

unfoldable pub plain_from : ℕ → List ℕ → ℕ
plain_from i [] = i
plain_from i (b ∷ s) = pick (leb 0x80 b) i (plain_from (suc i) s)

unfoldable pub plain_end : List ℕ → ℕ → ℕ
plain_end s i = plain_from i (drop i s)
