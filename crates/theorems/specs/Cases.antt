-- The eleven cases at the end of docs/RULES.md, as one table about crates/protocol, with which this must be believed: the bytes and plans, what
-- is done with them, and what that gives.
use Rattle.std.specs.Prelude.{ℕ, List, [], ◌∷◌, ◌++◌, replicate, take}
use Rattle.protocol.specs.Constants.{MOST_WORDS}
use Rattle.protocol.specs.Answers.{Outcome, refused, accepted}
use Rattle.protocol.specs.Lists.{words}
use Rattle.protocol.specs.Descriptors.{bare_form}
use Rattle.protocol.specs.Compiling.{compile_by}
use Rattle.protocol.specs.Running.{run_of}

-- ---- bytes and plans

-- the four bytes of a small number
unfoldable pub four : ℕ → List ℕ
four n = 0 ∷ 0 ∷ 0 ∷ n ∷ []

-- descriptor A: a scalar block for int64, and a set of it, which is the root
unfoldable pub int64_id : List ℕ
int64_id = replicate 14 0 ++ (0x01 ∷ 0x05 ∷ [])

unfoldable pub set_id : List ℕ
set_id = replicate 16 0x11

unfoldable pub int64_block : List ℕ
int64_block =
    0x03 ∷ (int64_id
    ++ (four 10 ++ (0x73 ∷ 0x74 ∷ 0x64 ∷ 0x3a ∷ 0x3a ∷ 0x69 ∷ 0x6e ∷ 0x74 ∷ 0x36 ∷ 0x34 ∷ 0x01 ∷ 0x00 ∷ 0x00 ∷ [])))

-- the second block, with an id and a reference
unfoldable pub set_block : List ℕ → ℕ → List ℕ
set_block id r = 0x00 ∷ (id ++ (0x00 ∷ r ∷ []))

unfoldable pub descriptor_a : List ℕ
descriptor_a = int64_block ++ set_block set_id 0

-- the plan of A, and one with a sparse object
unfoldable pub plan_a : List ℕ
plan_a = 6 ∷ 4 ∷ 1 ∷ 5 ∷ 2 ∷ 2 ∷ []

unfoldable pub plan_sparse : List ℕ
plan_sparse = 8 ∷ 4 ∷ 1 ∷ 5 ∷ 6 ∷ 1 ∷ 2 ∷ 65 ∷ []

-- the set of the integers 7 and -1
unfoldable pub two_integers : List ℕ
two_integers = four 1 ++ (replicate 8 0 ++ (four 2 ++ (four 1 ++ (four 8 ++ (replicate 7 0 ++ (7 ∷ (four 8 ++ replicate 8 255)))))))

-- ---- what is done, and what it gives

-- number and place of a refusal, or the words of a plan or a list
pub data Result : Type 0 where
  refuses : ℕ → ℕ → Result
  yields : List ℕ → Result

unfoldable pub result_of : {A : Type 0} → (A → List ℕ) → Outcome A → Result
result_of f (refused n p) = refuses n p
result_of f (accepted a) = yields (f a)

pub record Case : Type 0 where
  pub done : Result
  pub gives : Result

abbrev pub compiling : List ℕ → List ℕ → Result → Case
compiling d root r = record { done = result_of (λ ws. ws) (compile_by bare_form d root MOST_WORDS); gives = r }

abbrev pub running : List ℕ → List ℕ → Result → Case
running p s r = record { done = result_of words (run_of p s MOST_WORDS); gives = r }

-- the cases 1 to 11, in order
unfoldable pub cases : List Case
cases =
    compiling descriptor_a set_id (yields plan_a)
    ∷ running plan_a two_integers (yields (4 ∷ 0 ∷ 0 ∷ 44 ∷ 2 ∷ 2 ∷ 0 ∷ 24 ∷ 8 ∷ 0 ∷ 2 ∷ 1 ∷ 36 ∷ 8 ∷ 0 ∷ []))
    ∷ running plan_a (replicate 12 0) (yields (4 ∷ 0 ∷ 0 ∷ 12 ∷ 0 ∷ []))
    ∷ running plan_a (four 1 ++ (replicate 8 0 ++ (four 0 ++ four 1))) (refuses 22 0)
    ∷ running plan_a (take 43 two_integers) (refuses 20 0)
    ∷ running plan_a (two_integers ++ (0 ∷ [])) (refuses 21 0)
    ∷ running plan_a (four 1 ++ (replicate 8 0 ++ (four 1 ++ (four 1 ++ (four 7 ++ replicate 7 0))))) (refuses 24 24)
    ∷ compiling (int64_block ++ set_block set_id 1) set_id (refuses 13 34)
    ∷ compiling (int64_block ++ set_block int64_id 0) set_id (refuses 15 34)
    ∷ running plan_sparse (four 0) (refuses 27 0)
    ∷ running plan_sparse (four 2 ++ (four 0 ++ (four 8 ++ (replicate 8 0 ++ (four 0 ++ (four 8 ++ replicate 8 0)))))) (refuses 26 0)
    ∷ []
