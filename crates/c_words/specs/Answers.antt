-- How the C calls' struct `Answer` shows words that go out, or no room for them: read it only for the contract of `c_words::put_answer`.
use Rattle.std.specs.Prelude.{◌≡◌, List, ◌++◌, ℕ, ◌*◌, ltb, length, drop}
use Rattle.forms.specs.declared.Answer.{Answer}
use Rattle.protocol.specs.Numbers.{pick}
use Rattle.protocol.specs.Crossing.{bytes_out, word_room, refusal, success}

-- what is settled where n words go out as bytes, if there is room for them (R9.6): the answer, and every byte of the room (R1.1, R1.2)
pub record WordsOut (no n : ℕ) (ws : List ℕ) (r : Answer) (l l' : List ℕ) : Type 0 where
  pub answer : r ≡ pick (ltb (word_room (length l)) n) (refusal no 0) (success n 0)
  pub bytes : l' ≡ pick (ltb (word_room (length l)) n) l (bytes_out ws ++ drop (4 * n) l)
