-- The words of table_commands, all in one place for the files of laws.
pub use Rattle.brain_session.specs.declared.TheConstants.{BRAIN_WORK}
pub use Rattle.command_base.specs.Runs.{Run}
pub use Rattle.command_base.specs.Statuses.{status_number}
pub use Rattle.command_base.specs.Told.{IsTold}
pub use Rattle.command_base.specs.declared.status.Status.{Status}
pub use Rattle.command_base.specs.declared.status.Status.TheVariants.{Done, RefusedTable, RefusedText}
pub use Rattle.file_loading.specs.HeldFiles.{IsFit, IsTableFile, TableFileSays}
pub use Rattle.file_loading.specs.ManyFiles.{AreTableFiles}
pub use Rattle.file_loading.specs.TableFiles.{IsTableAt}
pub use Rattle.position_files.specs.declared.TableFile.{TableFile}
pub use Rattle.renju_io.specs.Files.{Files}
pub use Rattle.renju_io.specs.Told.{Takes}
pub use Rattle.strategy_graph.specs.declared.Node.{Node}
pub use Rattle.table_book.specs.declared.Book.{Book}
pub use Rattle.table_commands.specs.Binds.{AreFew, AreNames, BindSays, HasBound, IsBind, IsFullAt, IsUnhinderedBind, ShowsBinding}
pub use Rattle.table_commands.specs.Binds.{ShowsBound, TellsBook, bind_words}
pub use Rattle.table_commands.specs.Books.{AreWithin, BookSays, EntriesSay, IsWonBook, IsWonEntry, ShowsBook, book_command}
pub use Rattle.table_commands.specs.Checks.{CheckSays, IsAcceptedInput, IsAcceptedTable, ShowsWin, TableSays, accepted_line, check_command}
pub use Rattle.table_commands.specs.Images.{ImageSays, ImagedFileSays, IsImage, IsImagedInput, ShowsImage, image_command, symmetry_word}
pub use Rattle.table_commands.specs.Referees.{ComparesSays, HasGameFault, HeldSays, IsGameAt, IsJudgedInput, IsRefereeWith, RefereeSays}
pub use Rattle.table_commands.specs.Referees.{RefereesByFile, ShowsGame, ShowsReferee, ShowsVerdict, TellsTable, compares_command, of_game}
pub use Rattle.table_commands.specs.Referees.{referee_command, referee_with_words, replay_line, verdict_on}
