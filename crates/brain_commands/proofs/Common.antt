-- The words of brain_commands, all in one place for the files of laws.
pub use Rattle.brain_commands.specs.Brains.{AnswersAll, EndsBrain, EndsSession, HasServed, IsBrain, IsBrainWith, IsSession}
pub use Rattle.brain_commands.specs.Brains.{IsUnhinderedSession, PlaysByFile, brain_with_words, nothing_held, session_of, session_status}
pub use Rattle.brain_commands.specs.Brains.{shown_after, shown_before}
pub use Rattle.brain_commands.specs.Drills.{AnswersDrill, EndsDrill, IsDrill, IsDrillText, ShowsCounts, ShowsDrill, WritesDrill}
pub use Rattle.brain_commands.specs.Drills.{drill_lines}
pub use Rattle.brain_commands.specs.Games.{AnsweredLines, GamesGoWell, IsPlayedBy, OwnGamesGoWellIn, PlaysByFours, PlaysByRoots}
pub use Rattle.brain_commands.specs.Games.{PlaysOwnWins, ShowsGames, ShowsHeldGames, ShowsOwnGames, StandsBehind, state_told}
