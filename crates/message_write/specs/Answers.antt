-- How the answer of `message_write::write` shows protocol's outcome of writing a message: read it only for its contract.
use Rattle.std.specs.Prelude.{◌≡◌, ℕ, List, length, Result, Ok, Err}
use Rattle.protocol.specs.Answers.{Put, refused_put, put_out, output_after}

-- a refusal's number, or the length of the message
unfoldable pub wrote_of : Put → Result ℕ ℕ
wrote_of (refused_put n) = Err n
wrote_of (put_out b) = Ok (length b)

-- what is put out settles the answer and the output (R1.1, R1.2)
pub record Puts (p : Put) (r : Result ℕ ℕ) (out out' : List ℕ) : Type 0 where
  pub answer : r ≡ wrote_of p
  pub output : out' ≡ output_after p out
