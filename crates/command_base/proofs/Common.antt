-- The words of command_base, all in one place for the files of laws.
pub use Rattle.command_base.specs.Forms.{HasWords}
pub use Rattle.command_base.specs.Positions.{IsPositionAt, PositionCommand, SaysOfPosition, of_position}
pub use Rattle.command_base.specs.Refusals.{IsRefusedText}
pub use Rattle.command_base.specs.Runs.{Change, HasFailed, HasNoFault, IsAskedNoMore, IsAskedOnly, IsDelivered, IsOutOfMemory, IsUnbegun}
pub use Rattle.command_base.specs.Runs.{Run, change, program_run}
pub use Rattle.command_base.specs.Searches.{IsSearched, ShowsOfPosition, SpeaksOfPosition}
pub use Rattle.command_base.specs.Statuses.{status_number}
pub use Rattle.command_base.specs.Texts.{full_line, none_line, spent_line, too_long_line}
pub use Rattle.command_base.specs.Told.{AnswersTold, EndsTold, HasToldAnswer, IsInput, IsLongInput, IsSaid, IsTold, IsUnhindered, IsYielded}
pub use Rattle.command_base.specs.Told.{ToldCommand}
