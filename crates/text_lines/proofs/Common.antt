-- The words of texts made of lines, all in one place for the files of laws.
pub use Rattle.text_lines.specs.Lines.{BeginsWith, Extends, FirstBad, IsFront, IsLineOf, LeavesAt, ended, line_feed, pieces, text_of}
pub use Rattle.text_lines.specs.Reading.{Gives, GivesLine, IsBetween, IsPlain, IsWithin, Reads, ReadsLine, is_free, tail_text}
pub use Rattle.text_lines.specs.Spellings.{comma, pair_text, point_text, points_text, space}
pub use Rattle.text_lines.specs.declared.fault.Fault.{Fault}
pub use Rattle.text_lines.specs.declared.fault.Fault.TheVariants.{Bad, Memory}
