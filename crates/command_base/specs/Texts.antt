-- The printed lines that several commands have, each with the line feed that ends it.
use Rattle.std.specs.Prelude.{ℕ, List, codes}
use Rattle.text_lines.specs.Lines.{ended}

-- the work or the budget was not enough
abbrev pub spent_line : List ℕ
spent_line = ended (codes "spent")

-- the input is longer than a command takes
abbrev pub too_long_line : List ℕ
too_long_line = ended (codes "input too long")

-- the shelf failed
abbrev pub shelf_line : List ℕ
shelf_line = ended (codes "shelf failed")

-- there is none of what was searched
abbrev pub none_line : List ℕ
none_line = ended (codes "none")

-- a table of the win would have too many nodes
abbrev pub full_line : List ℕ
full_line = ended (codes "table full")
