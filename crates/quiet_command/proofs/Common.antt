-- The words of quiet_command, all in one place for the files of laws.
pub use Rattle.quiet_command.specs.Quiets.{IsCheckedTable, IsFinished, IsQuietlySolved, IsSureWin, IsUnsolved, IsUnsure, QuietSays}
pub use Rattle.quiet_command.specs.Quiets.{SpeaksOfQuietWin, WritesQuietWin, quiet_command}
