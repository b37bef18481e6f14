-- The words of gomocup_text, all in one place for the files of laws.
pub use Rattle.gomocup_text.specs.Answers.{answer_text, answer_words}
pub use Rattle.gomocup_text.specs.Commands.{command_told, commands, form_of, stone_or, text_command, word_command}
pub use Rattle.gomocup_text.specs.Numbers.{is_number, numbers_of_three}
pub use Rattle.gomocup_text.specs.Words.{is_gap, rest_of, word_named, word_of}
