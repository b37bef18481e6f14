-- The words of renju_io, all in one place for the files of laws.
pub use Rattle.renju_io.specs.Asked.{GivesByEach, IsAsked, IsAskedAtMost, IsAskedOnce, IsAskedWithin, IsNotAsked, after_calls, one_more}
pub use Rattle.renju_io.specs.Asked.{piece_count}
pub use Rattle.renju_io.specs.Faults.{HasRisen, HasStayed}
pub use Rattle.renju_io.specs.Files.{Files, file_under}
pub use Rattle.renju_io.specs.LineReads.{OpenUntilLast, ReadsNoFurther, ReadsOn}
pub use Rattle.renju_io.specs.Lines.{GoesPast, HasNoLineFeed, IsExhausted, KeepsLine, KnowsEnd, LineText, ReaderState, StaysOpen}
pub use Rattle.renju_io.specs.Lines.{TakesLines, TakesTooMany, Tells, TellsLast, Text, ToldAddsUp, ToldAreWhole, ToldToTheEnd, TooLong}
pub use Rattle.renju_io.specs.Lines.{begun, is_line_feed, line_of, lines, lines_left, pieces, reads_for, told_lines, whole_lines}
pub use Rattle.renju_io.specs.Memory.{entries}
pub use Rattle.renju_io.specs.Told.{Gives, GivesSome, Takes, TakesPart, tells_end}
