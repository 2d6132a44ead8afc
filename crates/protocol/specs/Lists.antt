-- Lists (R6): what an accepted value lists, entries, each with what is below it, in the order of the wire.
use Rattle.std.specs.Prelude.{◌≡◌, ℕ, ◌+◌, ◌*◌, ◌/◌, ◌≤◌, List, [], ◌∷◌, ◌++◌}
use Rattle.protocol.specs.Constants.{ENTRY_WORDS}

-- R6.1: the fifth word, how many entries are directly below, is not stored, so none can be made up
pub record Entry : Type 0 where
  pub node : ℕ
  pub index : ℕ
  pub start : ℕ
  pub size : ℕ

abbrev pub entry_of : ℕ → ℕ → ℕ → ℕ → Entry
entry_of k i base size = record { node = k; index = i; start = base; size = size }

-- R6.2: nothing; or an entry, the entries below it, and its next siblings
pub data Forest : Type 0 where
  empty : Forest
  tree : Entry → Forest → Forest → Forest

unfoldable pub append : Forest → Forest → Forest
append empty g = g
append (tree e below next) g = tree e below (append next g)

-- R6.6: how many trees stand side by side
unfoldable pub width : Forest → ℕ
width empty = 0
width (tree e below next) = width next + 1

-- R6.1: an entry's words
abbrev pub entry_words : Entry → ℕ → List ℕ
entry_words e n = e.node ∷ e.index ∷ e.start ∷ e.size ∷ n ∷ []

unfoldable pub words : Forest → List ℕ
words empty = []
words (tree e below next) = entry_words e (width below) ++ (words below ++ words next)

-- entries with their nodes renamed, and all else as it was
unfoldable pub renamed_forest : (ℕ → ℕ) → Forest → Forest
renamed_forest ρ empty = empty
renamed_forest ρ (tree e below next) =
    tree (entry_of (ρ e.node) e.index e.start e.size) (renamed_forest ρ below) (renamed_forest ρ next)

-- R6.10: w words are whole entries, at most one and one more for every four of n bytes
pub record Entries (n w : ℕ) : Type 0 where
  pub entries : ℕ
  pub words : w ≡ ENTRY_WORDS * entries
  pub most : entries ≤ 1 + n / 4
