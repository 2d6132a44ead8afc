-- How the code's own answer shows protocol's outcome of writing a value: read it only for the contract of `supply_write::write` and of what it
-- calls.
use Rattle.std.specs.Prelude.{◌≡◌, ℕ, List, length, Result, Ok, Err}
use Rattle.protocol.specs.Answers.{Put, refused_put, put_out, output_after}

-- a refusal's number, or the length of the value
unfoldable pub answer_of : Put → Result ℕ ℕ
answer_of (refused_put n) = Err n
answer_of (put_out b) = Ok (length b)

-- what is put out settles the answer and the output (R1.1, R1.2)
pub record Puts (p : Put) (r : Result ℕ ℕ) (out out' : List ℕ) : Type 0 where
  pub answer : r ≡ answer_of p
  pub output : out' ≡ output_after p out
