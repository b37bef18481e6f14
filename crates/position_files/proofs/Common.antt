-- The words of texts of positions and tables, all in one place for the files of laws, and those that the laws alone need.
use Rattle.std.specs.Prelude.{ℕ, List, ◌++◌, codes}
use Rattle.game_rules.specs.declared.Side.TheVariants.{White}
unfoldable pub use Rattle.foul_judge.specs.Lawful.{refusal}
pub use Rattle.foul_judge.specs.declared.position.PositionError.{PositionError}
pub use Rattle.game_rules.specs.Grid.{Grid, IsBoard, holds, is_on, is_stone_of, place_of, points_of}
pub use Rattle.game_rules.specs.declared.Cell.TheVariants.{Empty}
pub use Rattle.game_rules.specs.declared.Point.{Point}
pub use Rattle.game_rules.specs.declared.RuleKind.{RuleKind}
pub use Rattle.game_rules.specs.declared.RuleKind.TheVariants.{Freestyle}
pub use Rattle.game_rules.specs.declared.Side.{Side}
pub use Rattle.game_rules.specs.declared.Side.TheVariants.{Black}
pub use Rattle.game_rules.specs.declared.TheConstants.{MIN_SIDE}
pub use Rattle.position_files.specs.Answers.{AnswersFit, NodeFits, OpenRestFits, ReplyFits, RestFits, StartFits, answers_with}
pub use Rattle.position_files.specs.Boards.{AreSides, IsSide, SameBut}
pub use Rattle.position_files.specs.Bodies.{BodyFits, IsBodyLines, IsFinishFault, IsFinished, body_lines}
pub use Rattle.position_files.specs.Faults.{IsGameFault, IsMiscounted, IsPositionFault, IsTableFault, after_lines, at_line, in_file}
pub use Rattle.position_files.specs.Faults.{in_game}
pub use Rattle.position_files.specs.Games.{AreOn, IsGameText, IsTextOfGame, moves_line}
unfoldable pub use Rattle.position_files.specs.Games.{game_text}
pub use Rattle.position_files.specs.Positions.{IsPositionText, IsTextOfPosition, rule_word, size_text}
unfoldable pub use Rattle.position_files.specs.Positions.{board_lines, position_text, stones}
pub use Rattle.position_files.specs.ReadBack.{GamesReadBack, HeadsReadBack, NamesFirstBad, NodesNameFirstBad, NodesReadBack}
pub use Rattle.position_files.specs.ReadBack.{PositionsReadBack, StartsNameFirstBad, StartsReadBack, TablesReadBack}
pub use Rattle.position_files.specs.Sections.{AreNodeLines, AreNodes, IsBoardLines, IsHeadOf, IsNodesOf, IsSectionFault, IsStartLines}
pub use Rattle.position_files.specs.Sections.{IsStartOf}
pub use Rattle.position_files.specs.Tables.{IsTableText, IsTextOfTable, RootFits, answers_text, node_line, replies_text, reply_text}
pub use Rattle.position_files.specs.Tables.{rest_text, start_line}
unfoldable pub use Rattle.position_files.specs.Tables.{nodes_lines, table_text}
pub use Rattle.position_files.specs.declared.GameFile.{GameFile}
pub use Rattle.position_files.specs.declared.PositionFile.{PositionFile}
pub use Rattle.position_files.specs.declared.TableFile.{TableFile}
pub use Rattle.position_files.specs.declared.TheConstants.{MAX_MOVES}
pub use Rattle.position_files.specs.declared.error.FileError.{FileError}
pub use Rattle.position_files.specs.declared.error.FileError.TheVariants.{Unlawful, WrongMoves}
pub use Rattle.position_files.specs.declared.error.HeadError.{HeadError}
pub use Rattle.position_files.specs.declared.sections.Head.{Head}
pub use Rattle.position_files.specs.declared.tables.Body.{Body}
pub use Rattle.strategy_graph.specs.Tables.{Answers, IsNode, IsTable, RepliesOn, TableOnBoard, names_below}
pub use Rattle.strategy_graph.specs.declared.Node.{Node}
pub use Rattle.strategy_graph.specs.declared.Reply.{Reply}
pub use Rattle.strategy_graph.specs.declared.Rest.{Rest}
pub use Rattle.strategy_graph.specs.declared.Rest.TheVariants.{Nothing, To}
pub use Rattle.strategy_graph.specs.declared.TheConstants.{MAX_NODES}
pub use Rattle.strategy_graph.specs.declared.roots.Root.{Root}
pub use Rattle.strategy_graph.specs.declared.roots.Root.TheVariants.{Attack, Defend}
pub use Rattle.text_lines.specs.Lines.{FirstBad, LeavesAt, ended, line_feed, text_of}
pub use Rattle.text_lines.specs.Reading.{Gives, GivesLine, IsBetween, IsWithin, ReadsLine, is_free, tail_text}
pub use Rattle.text_lines.specs.Spellings.{comma, point_text, points_text, space}
pub use Rattle.text_lines.specs.declared.fault.Fault.{Fault}
pub use Rattle.text_lines.specs.declared.fault.Fault.TheVariants.{Bad}

-- the line of the rule
abbrev pub rule_line : RuleKind → List ℕ
rule_line kind = codes "rule " ++ rule_word kind

-- the line of the size
abbrev pub size_line : ℕ → ℕ → List ℕ
size_line width height = codes "size " ++ size_text width height

-- the line of Black's stones
abbrev pub black_line : Grid → List ℕ
black_line b = codes "black" ++ points_text (stones b Black)

-- the line of White's stones
abbrev pub white_line : Grid → List ℕ
white_line b = codes "white" ++ points_text (stones b White)

-- the byte between a reply and the node that answers it
abbrev pub arrow : ℕ
arrow = 62
