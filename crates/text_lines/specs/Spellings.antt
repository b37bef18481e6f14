-- How points are spelled.
use Rattle.std.specs.Prelude.{ℕ, List, ◌++◌, codes}
use Rattle.std.specs.List.{flat_map}
use Rattle.std.specs.Fmt.{decimal}
use Rattle.game_rules.specs.declared.Point.{Point}

-- the byte between two words
abbrev pub space : ℕ
space = 32

-- the byte between two coordinates
abbrev pub comma : ℕ
comma = 44

-- a pair of numbers, as of coordinates
abbrev pub pair_text : ℕ → ℕ → List ℕ
pair_text x y = decimal x ++ (codes "," ++ decimal y)

-- a point: its column and its row
abbrev pub point_text : Point → List ℕ
point_text p = pair_text p.x p.y

-- points, each after a space
abbrev pub points_text : List Point → List ℕ
points_text ps = flat_map (λ p. codes " " ++ point_text p) ps
