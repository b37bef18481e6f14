-- The command `foul`: its words, and what it says of its input.
use Rattle.std.specs.Prelude.{◌≡◌, ℕ, List, [], ◌∷◌, ◌++◌, length, codes, if◌then◌else◌, Option, None}
use Rattle.std.specs.List.{flat_map, filter_map}
use Rattle.std.specs.Option.{option_map}
use Rattle.std.specs.Fmt.{decimal}
use Rattle.game_rules.specs.Grid.{Grid, is_empty, points_of}
use Rattle.game_rules.specs.Play.{foul_of, mover}
use Rattle.game_rules.specs.declared.RuleKind.{RuleKind}
use Rattle.game_rules.specs.declared.Side.{Side}
use Rattle.game_rules.specs.declared.Side.TheVariants.{Black, White}
use Rattle.game_rules.specs.declared.Point.{Point}
use Rattle.game_referee.specs.Lines.{foul_word}
use Rattle.text_lines.specs.Lines.{ended}
use Rattle.text_lines.specs.Spellings.{point_text}
use Rattle.position_files.specs.declared.PositionFile.{PositionFile}
use Rattle.position_commands.specs.declared.fouls.FoulPoint.{FoulPoint}
use Rattle.command_base.specs.declared.status.Status.{Status}
use Rattle.command_base.specs.declared.status.Status.TheVariants.{Done}
use Rattle.command_base.specs.Positions.{PositionCommand}

-- the foul of Black at a point, if the point is empty and a foul
abbrev pub foul_point : RuleKind → Grid → Point → Option FoulPoint
foul_point kind b p = if is_empty b p then option_map (λ f. record { at = p; foul = f }) (foul_of kind b Black p) else None

-- the fouls of Black in reading order
abbrev pub black_fouls : RuleKind → Grid → List FoulPoint
black_fouls kind b = filter_map (foul_point kind b) (points_of b)

-- the fouls of the side to move, which only Black has
abbrev pub fouls_of_mover : Side → RuleKind → Grid → List FoulPoint
fouls_of_mover Black kind b = black_fouls kind b
fouls_of_mover White kind b = []

-- the line of a foul: its point and its word
abbrev pub foul_line : FoulPoint → List ℕ
foul_line f = ended (codes "foul " ++ point_text f.at ++ (codes " " ++ foul_word f.foul))

-- the number of fouls, and a line for each
abbrev pub fouls_text : List FoulPoint → List ℕ
fouls_text fouls = ended (codes "fouls " ++ decimal (length fouls)) ++ flat_map foul_line fouls

-- the fouls of the side to move are listed
pub record IsFoulList (file : PositionFile) (status : Status) (text : List ℕ) : Type 0 where
  pub ends : status ≡ Done
  pub list : text ≡ fouls_text (fouls_of_mover (mover file.board) file.kind file.board)

-- `foul`, which answers for each lawful position
abbrev pub foul_command : PositionCommand
foul_command = record {
  words = codes "foul" ∷ [];
  in_range = Unit {0};
  Says = IsFoulList;
  IsEnough = λ file. Unit {0};
  IsAnswer = λ status. status ≡ Done;
}
