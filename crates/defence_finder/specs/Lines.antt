-- The lines that list defences.
use Rattle.std.specs.Prelude.{ℕ, List, ◌++◌, length, codes}
use Rattle.std.specs.List.{flat_map}
use Rattle.std.specs.Fmt.{decimal}
use Rattle.game_rules.specs.declared.Point.{Point}
use Rattle.text_lines.specs.Lines.{ended}
use Rattle.text_lines.specs.Spellings.{point_text}

-- the line of a point
abbrev pub point_line : Point → List ℕ
point_line p = ended (point_text p)

-- the number of defences, and a line for each
abbrev pub defences_text : List Point → List ℕ
defences_text ps = ended (codes "defences " ++ decimal (length ps)) ++ flat_map point_line ps
