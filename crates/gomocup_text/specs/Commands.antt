-- The command of each line: the table of commands, row by row in its order.
use Rattle.std.specs.Prelude.{ℕ, if◌then◌else◌, nat_lt, List, [], ◌∷◌, length, map, Option, Some, None, codes}
use Rattle.std.specs.Str.{str_eq_ignore_ascii_case}
use Rattle.renju_io.specs.Lines.{LineText, Text, TooLong, lines}
use Rattle.renju_io.specs.declared.TheConstants.{MAX_LINE_BYTES}
use Rattle.gomocup_text.specs.Words.{word_named, rest_of, trimmed, without_return, word_of}
use Rattle.gomocup_text.specs.Numbers.{number_of, numbers_of_two, numbers_of_three}
use Rattle.gomocup_text.specs.declared.words.Word.{Word}
use Rattle.gomocup_text.specs.declared.words.Word.TheVariants as word
use Rattle.gomocup_text.specs.declared.Command.{Command}
use Rattle.gomocup_text.specs.declared.Command.TheVariants.{Start, RectStart, Begin, Turn, Board, Stone, Done, Restart, Takeback, Rule}
use Rattle.gomocup_text.specs.declared.Command.TheVariants.{Info, About, End, Blank, Malformed, Unknown}

-- the command of the numbers that a word takes, where they are there: the word in another form is malformed
abbrev pub numbers_or : {N : Type 0} → Option N → (N → Command) → Command
numbers_or (Some numbers) command = command numbers
numbers_or None command = Malformed

-- the command of a word that has to stand alone
abbrev pub alone_or : List ℕ → Command → Command
alone_or [] command = command
alone_or (byte ∷ bytes) command = Malformed

-- what follows `INFO rule`: one number is the wish for a rule
abbrev pub rule_or_info : Option ℕ → Command
rule_or_info (Some rule) = Rule rule
rule_or_info None = Info

-- what follows `INFO`: `rule`, in either case, and one number, or anything else
abbrev pub info_of : List ℕ → Command
info_of rest = if str_eq_ignore_ascii_case (word_of rest) (codes "rule") then rule_or_info (number_of (rest_of rest)) else Info

-- a word, and what follows it
abbrev pub form_of : Word → List ℕ → Command
form_of word.Start rest = numbers_or (number_of rest) (λ size. Start size)
form_of word.RectStart rest = numbers_or (numbers_of_two rest) (λ sides. RectStart sides.0 sides.1)
form_of word.Turn rest = numbers_or (numbers_of_two rest) (λ point. Turn point.0 point.1)
form_of word.Takeback rest = numbers_or (numbers_of_two rest) (λ point. Takeback point.0 point.1)
form_of word.Begin rest = alone_or rest Begin
form_of word.Board rest = alone_or rest Board
form_of word.Done rest = alone_or rest Done
form_of word.Restart rest = alone_or rest Restart
form_of word.About rest = alone_or rest About
form_of word.End rest = alone_or rest End
form_of word.Info rest = info_of rest

-- a text that begins with a word of the table, or with anything else
abbrev pub word_command : Option Word → List ℕ → Command
word_command (Some word) rest = form_of word rest
word_command None rest = Unknown

-- a text that is three numbers, or another
abbrev pub stone_or : Option (ℕ × ℕ × ℕ) → Command → Command
stone_or (Some stone) other = Stone stone.0 stone.1 stone.2
stone_or None other = other

-- a text without gaps at its ends: nothing, three numbers, a word of the table and what follows it, or anything else
abbrev pub text_command : List ℕ → Command
text_command [] = Blank
text_command (byte ∷ bytes) =
    let text = byte ∷ bytes in stone_or (numbers_of_three text) (word_command (word_named (word_of text)) (rest_of text))

-- a line without its line feed: one carriage return at its end is dropped, then the gaps at both ends
abbrev pub command_of : List ℕ → Command
command_of line =
    if nat_lt MAX_LINE_BYTES (length line) then Malformed else text_command (trimmed (without_return line))

-- the command of a line as a reader of lines tells it
abbrev pub command_told : LineText → Command
command_told (Text line) = command_of line
command_told TooLong = Malformed

-- the commands of an input, one for each line
abbrev pub commands : List ℕ → List Command
commands bytes = map command_told (lines bytes)
