-- The words of position_commands, all in one place for the files of laws.
pub use Rattle.command_base.specs.Positions.{SaysOfPosition}
pub use Rattle.command_base.specs.Runs.{Run}
pub use Rattle.command_base.specs.Searches.{ShowsOfPosition, SpeaksOfPosition}
pub use Rattle.command_base.specs.Statuses.{status_number}
pub use Rattle.command_base.specs.Told.{IsTold}
pub use Rattle.command_base.specs.declared.answer.Answer.{Answer}
pub use Rattle.command_base.specs.declared.status.Status.{Status}
pub use Rattle.command_base.specs.declared.status.Status.TheVariants.{Done}
pub use Rattle.defence_finder.specs.Answers.{most_nodes}
pub use Rattle.defence_finder.specs.Defences.{defences_of}
pub use Rattle.game_rules.specs.Grid.{Grid, IsBoard}
pub use Rattle.game_rules.specs.declared.RuleKind.{RuleKind}
pub use Rattle.position_commands.specs.Defends.{DefenceSays, IsEnoughAfterEach, IsJudgedDefence, IsLostText, ListsDefences, LostTextIsOne}
pub use Rattle.position_commands.specs.Defends.{ShowsDefence, SpeaksOfDefence, WritesStart, defend_command, first_spent_at, plans_at}
pub use Rattle.position_commands.specs.Fouls.{IsFoulList, black_fouls, foul_command, foul_line, foul_point}
pub use Rattle.position_commands.specs.Fours.{AreLimits, IsFoundWin, IsFourText, IsSearchedByFours, IsShortWinText, IsWinText, SearchSays}
pub use Rattle.position_commands.specs.Fours.{ShowsSearch, fours_command, table_at}
pub use Rattle.position_commands.specs.Threats.{AreLengthAndNodes, IsSequenceSearched, SequenceSays, ShowsSequence, threat_line}
pub use Rattle.position_commands.specs.Threats.{threats_command}
pub use Rattle.position_files.specs.Tables.{IsTextOfTable}
pub use Rattle.position_files.specs.declared.PositionFile.{PositionFile}
pub use Rattle.renju_io.specs.Told.{Takes}
pub use Rattle.strategy_graph.specs.declared.Node.{Node}
