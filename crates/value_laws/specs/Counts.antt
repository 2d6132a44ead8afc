-- Nobody has to believe these definitions: they count entries, for the laws on how many there are (R6.10).
use Rattle.std.specs.Prelude.{ℕ, ◌+◌}
use Rattle.protocol.specs.Lists.{Forest, empty, tree}

-- how many entries there are in all
unfoldable pub entry_count : Forest → ℕ
entry_count empty = 0
entry_count (tree e below next) = entry_count below + 1 + entry_count next
