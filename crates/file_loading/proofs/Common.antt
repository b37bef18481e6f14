-- The words of file_loading, all in one place for the files of laws.
pub use Rattle.brain_session.specs.declared.TheConstants.{BRAIN_WORK}
pub use Rattle.command_base.specs.Runs.{Change, HasFailed, HasNoFault, IsDelivered, Run, change}
pub use Rattle.command_base.specs.Statuses.{status_number}
pub use Rattle.command_base.specs.declared.answer.Answer.{Answer}
pub use Rattle.command_base.specs.declared.status.Status.{Status}
pub use Rattle.command_base.specs.declared.status.Status.TheVariants.{Done, RefusedTable, RefusedText, ShelfFault, Spent, TooLong}
pub use Rattle.command_base.specs.declared.status.Status.TheVariants.{WriteFault}
pub use Rattle.file_loading.specs.BookFiles.{AreAccepted, IsBookAt, IsRefusedBook, IsRefusedEntry, hold_refusal_status}
pub use Rattle.file_loading.specs.HeldFiles.{BookFileSays, FileSays, GivesHeld, HeldFile, IsFileName, IsFit, IsHeldText, IsLoaded}
pub use Rattle.file_loading.specs.HeldFiles.{IsTableFile, IsUnheld, IsUnhinderedShelf, NamedRoot, TableFileSays, TellsFile, held_by}
pub use Rattle.file_loading.specs.HeldFiles.{held_with, named_entry, named_root, of_book, of_table}
pub use Rattle.file_loading.specs.Loading.{HoldsFile, IsLoadedAs, IsLoadedBookText, IsLoadedFrom, IsLoadedHeld, IsLoadedText}
pub use Rattle.file_loading.specs.ManyFiles.{AreTableFiles}
pub use Rattle.file_loading.specs.TableFiles.{IsRefusedTable, IsSpentWork, IsTableAt, IsToldOf}
pub use Rattle.position_files.specs.declared.TableFile.{TableFile}
pub use Rattle.renju_io.specs.Files.{Files}
pub use Rattle.renju_io.specs.declared.TheConstants.{MAX_INPUT_BYTES}
pub use Rattle.table_book.specs.declared.Book.{Book}
pub use Rattle.table_book.specs.declared.error.HoldError.{HoldError}
pub use Rattle.table_book.specs.declared.error.HoldError.TheVariants.{Refused}
