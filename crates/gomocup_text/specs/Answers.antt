-- The line of each answer.
use Rattle.std.specs.Prelude.{ℕ, List, ◌++◌, codes}
use Rattle.text_lines.specs.Spellings.{point_text}
use Rattle.gomocup_text.specs.declared.Answer.{Answer}
use Rattle.gomocup_text.specs.declared.Answer.TheVariants as answer
use Rattle.gomocup_text.specs.declared.ErrorText.{ErrorText}
use Rattle.gomocup_text.specs.declared.ErrorText.TheVariants.{UnsupportedSize, NoBoard, NotReading, UnsupportedRule, BadBoard, BadArguments}
use Rattle.gomocup_text.specs.declared.ErrorText.TheVariants.{GameStarted, GameOver, WrongTurn, BadMove, GameLost, OpponentFoul, GameDrawn}

-- the words of an error
abbrev pub error_words : ErrorText → List ℕ
error_words UnsupportedSize = codes "unsupported size"
error_words NoBoard = codes "no board"
error_words NotReading = codes "not reading"
error_words UnsupportedRule = codes "unsupported rule"
error_words BadBoard = codes "bad board"
error_words BadArguments = codes "bad arguments"
error_words GameStarted = codes "game started"
error_words GameOver = codes "game over"
error_words WrongTurn = codes "wrong turn"
error_words BadMove = codes "bad move"
error_words GameLost = codes "game lost"
error_words OpponentFoul = codes "opponent foul"
error_words GameDrawn = codes "game drawn"

-- the words of an answer
abbrev pub answer_words : Answer → List ℕ
answer_words answer.Ok = codes "OK"
answer_words (answer.Move point) = point_text point
answer_words answer.About = codes "name=\"renju\", version=\"1.0\""
answer_words (answer.Error error) = codes "ERROR " ++ error_words error
answer_words answer.Unknown = codes "UNKNOWN command"

-- the line of an answer, with carriage return and line feed
abbrev pub answer_text : Answer → List ℕ
answer_text answer = answer_words answer ++ codes "\r\n"
