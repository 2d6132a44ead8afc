-- Nobody has to believe these definitions: they are the code's tables, and the layouts that they stand for (R2.5 to R2.10). That the layout of
-- a type byte is protocol's is proved (proofs/Starts).
use Rattle.std.specs.Prelude.{◌≡◌, ℕ, suc, ◌+◌, ◌-◌, ◌≤◌, ◌<◌, List, [], ◌∷◌, ltb, eqb, get_or, take, drop, Some, None}
use Rattle.protocol.specs.Numbers.{pick}
use Rattle.protocol.specs.Messages.{Field, number, text, bytes, Layout, done, one, run}
use Rattle.std.proofs.Math.Option.{Option as Known, some, none}
use Rattle.std.specs.declared.option.Option.{Option}

-- for each code its number's width, and where its values start among all values; they end where the next code's start
unfoldable pub widths : List ℕ
widths = 0 ∷ 0 ∷ 0 ∷ 1 ∷ 1 ∷ 1 ∷ 1 ∷ 2 ∷ 4 ∷ 8 ∷ 16 ∷ 2 ∷ []

unfoldable pub firsts : List ℕ
firsts = 0 ∷ 0 ∷ 0 ∷ 0 ∷ 3 ∷ 7 ∷ 10 ∷ 15 ∷ 15 ∷ 15 ∷ 15 ∷ 15 ∷ 16 ∷ []

unfoldable pub values : List ℕ
values =
    0x78 ∷ 0xc8 ∷ 0xff ∷ 0x14 ∷ 0x28 ∷ 0x3c ∷ 0x50 ∷ 0x49 ∷ 0x54 ∷ 0x45 ∷ 0x6e ∷ 0x6f ∷ 0x41 ∷ 0x6d ∷ 0x4d ∷ 1 ∷ []

-- the codes of all layouts: 0 ends one, 1 is text, 2 bytes, 3 to 11 numbers, and 16 + p a run of the layout at p
unfoldable pub codes : List ℕ
codes =
    3 ∷ 8 ∷ 1 ∷ 61 ∷ 0
    ∷ 4 ∷ 8 ∷ 1 ∷ 64 ∷ 0
    ∷ 64 ∷ 5 ∷ 0
    ∷ 64 ∷ 9 ∷ 1 ∷ 10 ∷ 2 ∷ 0
    ∷ 64 ∷ 9 ∷ 6 ∷ 10 ∷ 2 ∷ 10 ∷ 2 ∷ 0
    ∷ 10 ∷ 2 ∷ 0
    ∷ 11 ∷ 2 ∷ 0
    ∷ 2 ∷ 2 ∷ 0
    ∷ 0
    ∷ 7 ∷ 7 ∷ 64 ∷ 58 ∷ 0
    ∷ 1 ∷ 64 ∷ 0
    ∷ 7 ∷ 2 ∷ 0
    ∷ 1 ∷ 1 ∷ 0
    ∷ []

unfoldable pub allowed_of : ℕ → ℕ → List ℕ
allowed_of from to = take (to - from) (drop from values)

unfoldable pub width_of : ℕ → ℕ
width_of c = get_or widths c 0

unfoldable pub values_of : ℕ → List ℕ
values_of c = allowed_of (get_or firsts c 0) (get_or firsts (c + 1) 0)

unfoldable pub field_of : ℕ → Field
field_of c = pick (ltb 2 c) (number (width_of c) (values_of c)) (pick (eqb c 2) bytes text)

-- the layout that a code at p starts, `later` being the layouts at the positions after p
unfoldable pub entry : ℕ → ℕ → List Layout → Layout
entry p c later =
    pick (eqb c 0) done
    (pick (ltb c 16) (one (field_of c) (get_or later 0 done)) (run (get_or later (c - 16 - suc p) done) (get_or later 0 done)))

-- the layouts at each position of a table of codes, whose first is p
unfoldable pub layouts : ℕ → List ℕ → List Layout
layouts p [] = []
layouts p (c ∷ cs) = entry p c (layouts (suc p) cs) ∷ layouts (suc p) cs

unfoldable pub layout_at : ℕ → Layout
layout_at p = get_or (layouts 0 codes) p done

-- a code's width, and what holds of every width of the table
pub record WidthOf (c r : ℕ) : Type 0 where
  pub width : r ≡ width_of c
  pub wide : r ≤ 16
  pub some : 2 < c → 0 < r

-- where a code's values are, and what holds of every code's: a number with values is narrow
pub record PartOf (c from to : ℕ) : Type 0 where
  pub from_is : from ≡ get_or firsts c 0
  pub to_is : to ≡ get_or firsts (c + 1) 0
  pub ordered : from ≤ to
  pub end : to ≤ 16
  pub narrow : from < to → width_of c ≤ 7

-- a code of the table, and what holds of every code there
pub record CodeOf (p c : ℕ) : Type 0 where
  pub code : c ≡ get_or codes p 0
  pub next : 0 < c → p + 1 < 51
  pub field : c < 16 → c < 12
  pub inside : c < 67
  pub ahead : 16 ≤ c → p < c - 16

-- the layout at a start
unfoldable pub known_at : Option ℕ → Known Layout
known_at (Some p) = some (layout_at p)
known_at None = none

-- where the layout of a type byte starts in the table of codes, where the side knows it: the server's, the client's, and by the side
unfoldable pub server_start : ℕ → Option ℕ
server_start t =
    pick (eqb t 0x45) (Some 0)
    (pick (eqb t 0x4c) (Some 5)
    (pick (eqb t 0x5a) (Some 10)
    (pick (eqb t 0x43) (Some 13) (pick (eqb t 0x54) (Some 19) (pick (eqb t 0x73) (Some 27) (pick (eqb t 0x44) (Some 30) (pick (eqb t 0x53) (Some 33) None)))))))

unfoldable pub client_start : ℕ → Option ℕ
client_start t = pick (eqb t 0x53) (Some 36) (pick (eqb t 0x56) (Some 37) None)

unfoldable pub start_of : ℕ → ℕ → Option ℕ
start_of side t = pick (eqb side 1) (server_start t) (pick (eqb side 0) (client_start t) None)
