-- The words of line_proof, all in one place for the files of laws.
pub use Rattle.line_proof.specs.Answers.{IsQuick, IsTold, OnProved}
pub use Rattle.line_proof.specs.Doubles.{IsDouble, LeavesTwoFives}
pub use Rattle.line_proof.specs.Lines.{behind_line_move, block_of, block_or_gain, each_loses, line_move, move_wins}
unfoldable pub use Rattle.line_proof.specs.Lines.{line_tree, line_wins}
pub use Rattle.line_proof.specs.Replies.{AnswersAll, AreAnswers, FindsAnswers, IsAnswered, answered, going_on}
