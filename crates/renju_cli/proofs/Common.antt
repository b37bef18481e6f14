-- The words of renju_cli, all in one place for the files of laws.
pub use Rattle.renju_cli.specs.Commands.{HasForm, IsForm, command}
pub use Rattle.renju_cli.specs.Reports.{IsComplete, Report}
pub use Rattle.renju_cli.specs.Words.{second_word, words_after, words_after_second, words_after_third}
