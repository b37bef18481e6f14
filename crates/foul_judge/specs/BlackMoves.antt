-- What becomes of a move of Black where Black has fouls.
use Rattle.std.specs.Prelude.{ℕ, Bool, ◌==◌, nat_le, if◌then◌else◌, List, Option, Some, None}
use Rattle.std.specs.Option.{option_map_or}
use Rattle.std.specs.List.{list_any, sum_by}
use Rattle.game_rules.specs.Grid.{Grid, empties_of}
use Rattle.game_rules.specs.Shapes.{five}
use Rattle.game_rules.specs.Play.{black_foul}
use Rattle.game_rules.specs.declared.RuleKind.{RuleKind}
use Rattle.game_rules.specs.declared.Side.TheVariants.{Black}
use Rattle.game_rules.specs.declared.Point.{Point}
use Rattle.game_rules.specs.declared.Foul.{Foul}
use Rattle.game_rules.specs.declared.Foul.TheVariants.{Overline, DoubleFour, DoubleThree}
use Rattle.game_rules.specs.declared.Outcome.{Outcome}
use Rattle.game_rules.specs.declared.Outcome.TheVariants.{Wins, Fouls, Draws, GoesOn}
use Rattle.row_shapes.specs.declared.shapes.Shape.{Shape}

-- the outcome of a move that neither wins nor is a foul, where so many points are empty before it
abbrev pub quiet_outcome : ℕ → Outcome
quiet_outcome empties = if empties == 1 then Draws else GoesOn

-- the outcome of a move of Black at the empty point p, whoever is to move: it wins, or is a foul, or neither
abbrev pub black_outcome : RuleKind → Grid → Point → Outcome
black_outcome rule b p = if five rule b Black p then Wins else option_map_or Fouls (black_foul rule b p) (quiet_outcome (empties_of b))

-- the same by the shapes of its stone, and by whether two axes are threes
abbrev pub outcome_of_shapes : List Shape → Bool → ℕ → Outcome
outcome_of_shapes shapes threes empties =
    if list_any (λ shape. shape.five) shapes then Wins
    else if list_any (λ shape. shape.over) shapes then Fouls Overline
    else if nat_le 2 (sum_by (λ shape. shape.fours) shapes) then Fouls DoubleFour
    else if threes then Fouls DoubleThree
    else quiet_outcome empties

-- the foul in an outcome, if it is one
abbrev pub foul_in : Outcome → Option Foul
foul_in (Fouls foul) = Some foul
foul_in outcome = None
