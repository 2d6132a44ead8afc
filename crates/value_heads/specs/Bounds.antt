-- Nobody has to believe these definitions: they are what the code says to itself of a head that was read, whatever its bytes.
use Rattle.std.specs.Prelude.{ℕ, ◌<◌, ◌≤◌, ◌≡◌, Bool, false, List, get_or}
use Rattle.forms.specs.declared.Opening.{Opening}
use Rattle.forms.specs.declared.Head.{Head}
use Rattle.forms.specs.declared.Head.TheVariants.{Present, Absent}

-- the elements start within n bytes, after the container's own head
abbrev pub Opened : ℕ → Opening → Type 0
Opened n o = (1 ≤ o.at) × (o.at ≤ n)

-- an element's head ends at n or later
unfoldable pub From : ℕ → Head → Type 0
From n (Present i start size) = n ≤ start
From n (Absent i start) = n ≤ start

-- the element is the one of index n
unfoldable pub Indexed : ℕ → Head → Type 0
Indexed n (Present i start size) = i ≡ n
Indexed n (Absent i start) = i ≡ n

-- the element's index is one of n, and was not given before
unfoldable pub Fresh : ℕ → List Bool → Head → Type 0
Fresh n marks (Present i start size) = (i < n) × (get_or marks i false ≡ false)
Fresh n marks (Absent i start) = (i < n) × (get_or marks i false ≡ false)
