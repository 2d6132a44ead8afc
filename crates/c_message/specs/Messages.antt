-- Nobody has to believe these definitions: they are what the code says to itself of a message whose words go out as bytes (R9.3).
use Rattle.std.specs.Prelude.{◌≡◌, ℕ, ◌*◌, ◌≤◌, List, length}
use Rattle.message_read.specs.Answers.{Accepted}
use Rattle.protocol.specs.Messages.{message_of, message_words}

-- an accepted message of n words, which can cross, and for whose bytes there is room (R9.6)
pub record Listable (side : ℕ) (src : List ℕ) (n : ℕ) (l : List ℕ) : Type 0 where
  pub accepted : Accepted (message_of side src)
  pub count : n ≡ length (message_words (message_of side src))
  pub most : n ≤ 8192
  pub room : 4 * n ≤ length l
