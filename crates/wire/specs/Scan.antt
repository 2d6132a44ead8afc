-- Nobody has to believe these definitions: they are what the functions of src/text.rt say to each other of a scan of text, in forms of
-- protocol's well-formed text (R2.6) that no other crate needs.
use Rattle.std.specs.declared.option.Option.{Option}
use Rattle.std.specs.Prelude.{◌≡◌, Bool, true, false, Some, None, List, [], ◌∷◌, ℕ, zero, suc, ◌+◌, ◌*◌, ◌/◌, ◌<◌, eqb, ltb, length, drop, get_or}
use Rattle.protocol.specs.Numbers.{pick}
use Rattle.protocol.specs.Text.{Range, ◌to◌, within, utf8_table, following}

-- how many bytes at the front are below 80 hex
unfoldable pub plain_run : List ℕ → ℕ
plain_run [] = 0
plain_run (b ∷ s) = pick (ltb b 0x80) (suc (plain_run s)) 0

-- the range of a byte that is not the first, and is not narrowed by the first
abbrev pub follower : Range
follower = 0x80 to 0xbf

unfoldable pub followers : ℕ → List Range
followers zero = []
followers (suc n) = follower ∷ followers n

-- n bytes yet to come of a sequence, the first of them in r
unfoldable pub ahead : ℕ → Range → List Range
ahead zero r = []
ahead (suc n) r = r ∷ followers n

-- the range of a second byte, by the first
unfoldable pub second : ℕ → Range
second b =
    pick (eqb b 0xe0) (0xa0 to 0xbf)
    (pick (eqb b 0xed) (0x80 to 0x9f)
    (pick (eqb b 0xf0) (0x90 to 0xbf)
    (pick (eqb b 0xf4) (0x80 to 0x8f) follower)))

-- at i stands a first byte that has n bytes after it
pub record Begins (s : List ℕ) (i n : ℕ) : Type 0 where
  pub inside : i < length s
  pub some : 0 < n
  pub few : n < 4
  pub row : ahead n (second (get_or s i 0)) ≡ following utf8_table (get_or s i 0)

-- bytes in ranges, in their order
unfoldable pub follow : List Range → List ℕ → Bool
follow [] s = true
follow (r ∷ rs) [] = false
follow (r ∷ rs) (b ∷ s) = pick (within r b) (follow rs s) false

-- how many bytes the sequence at the front has, by the row of its first byte, if one stands there
unfoldable pub sequence_size : List ℕ → Option ℕ
sequence_size [] = None
sequence_size (b ∷ s) = pick (follow (following utf8_table b) s) (Some (suc (length (following utf8_table b)))) None

-- where the plain bytes at i end
abbrev pub plain_end : List ℕ → ℕ → ℕ
plain_end s i = i + plain_run (drop i s)

-- where the whole blocks of n plain bytes at i end
abbrev pub blocks_end : List ℕ → ℕ → ℕ → ℕ
blocks_end s n i = i + plain_run (drop i s) / n * n
