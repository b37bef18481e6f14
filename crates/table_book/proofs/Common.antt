-- The words of table_book, all in one place for the files of laws.
pub use Rattle.game_rules.specs.Grid.{Grid}
pub use Rattle.game_rules.specs.declared.TheConstants.{MAX_SIDE}
unfoldable pub use Rattle.position_files.specs.Positions.{board_lines}
pub use Rattle.position_files.specs.Tables.{node_line}
pub use Rattle.position_files.specs.declared.TableFile.{TableFile}
pub use Rattle.strategy_graph.specs.Roots.{root_below}
pub use Rattle.strategy_graph.specs.declared.Node.{Node}
pub use Rattle.strategy_graph.specs.declared.TheConstants.{MAX_NODES}
pub use Rattle.strategy_graph.specs.declared.roots.Root.{Root}
pub use Rattle.strategy_graph.specs.declared.roots.Root.TheVariants.{Attack, Defend}
pub use Rattle.table_book.specs.Binding.{AddsFile, AreEntriesOf, AreInOrder, CanBeBound, HoldSame, IsBinding, IsBound, IsEntryOf, SameRoot}
pub use Rattle.table_book.specs.Binding.{bind_error, nodes_of, tables_of}
pub use Rattle.table_book.specs.Books.{BeginsBook, EntryFits, EntryRootFits, HasText, IsBookText, IsSound, IsTextOfBook, IsWellFormed}
pub use Rattle.table_book.specs.Books.{entries_line, first_line, move_count_line, nodes_line, root_line}
unfoldable pub use Rattle.table_book.specs.Books.{book_lines, book_text, entry_lines}
pub use Rattle.table_book.specs.Faults.{IsBookFault, IsEarliest, IsUnsound, in_book}
pub use Rattle.table_book.specs.Holding.{IsAccepted, IsHoldFault, at_entry, entry_arrivals, held_entry}
pub use Rattle.table_book.specs.ReadBack.{BooksReadBack}
pub use Rattle.table_book.specs.Sections.{AreEntryLines, IsBookLines, IsEndLines, IsEntryLines, IsRestLines, rest_lines}
pub use Rattle.table_book.specs.declared.Book.{Book}
pub use Rattle.table_book.specs.declared.Entry.{Entry}
pub use Rattle.table_book.specs.declared.TheConstants.{MAX_ENTRIES}
pub use Rattle.text_lines.specs.Lines.{ended, line_feed, text_of}
