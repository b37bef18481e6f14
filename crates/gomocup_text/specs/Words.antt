-- The words of a line, and the gaps between them.
use Rattle.std.specs.Prelude.{ℕ, ◌-◌, Bool, ◌||◌, ◌==◌, if◌then◌else◌, List, length, take, drop, Option, Some, None, codes, slice_index}
use Rattle.std.specs.List.{prefix_len, suffix_len, before_first, after_first}
use Rattle.std.specs.Str.{str_eq_ignore_ascii_case}
use Rattle.text_lines.specs.Spellings.{space}
use Rattle.gomocup_text.specs.declared.words.Word.{Word}
use Rattle.gomocup_text.specs.declared.words.Word.TheVariants.{Start, RectStart, Turn, Takeback, Begin, Board, Done, Restart, About, End}
use Rattle.gomocup_text.specs.declared.words.Word.TheVariants.{Info}

-- a tab
abbrev pub tab : ℕ
tab = 9

-- what may stand at the end of a line
abbrev pub carriage_return : ℕ
carriage_return = 13

-- a space or a tab
abbrev pub is_gap : ℕ → Bool
is_gap byte = (byte == space) || (byte == tab)

-- a line without its last byte, where that is a carriage return
abbrev pub without_return : List ℕ → List ℕ
without_return line =
    if slice_index line (length line - 1) == carriage_return then take (length line - 1) line else line

-- bytes without the gaps at their front
abbrev pub without_front_gaps : List ℕ → List ℕ
without_front_gaps bytes = drop (prefix_len is_gap bytes) bytes

-- bytes without the gaps at their end
abbrev pub without_end_gaps : List ℕ → List ℕ
without_end_gaps bytes = take (length bytes - suffix_len is_gap bytes) bytes

-- bytes without the gaps at both ends
abbrev pub trimmed : List ℕ → List ℕ
trimmed bytes = without_end_gaps (without_front_gaps bytes)

-- the word that a text begins with: what stands before its first gap
abbrev pub word_of : List ℕ → List ℕ
word_of text = before_first is_gap text

-- what follows that word, behind the gaps
abbrev pub rest_of : List ℕ → List ℕ
rest_of text = without_front_gaps (after_first is_gap text)

-- the word of a command that has this name, in either case
abbrev pub word_named : List ℕ → Option Word
word_named name =
    if str_eq_ignore_ascii_case name (codes "START") then Some Start
    else if str_eq_ignore_ascii_case name (codes "RECTSTART") then Some RectStart
    else if str_eq_ignore_ascii_case name (codes "TURN") then Some Turn
    else if str_eq_ignore_ascii_case name (codes "TAKEBACK") then Some Takeback
    else if str_eq_ignore_ascii_case name (codes "BEGIN") then Some Begin
    else if str_eq_ignore_ascii_case name (codes "BOARD") then Some Board
    else if str_eq_ignore_ascii_case name (codes "DONE") then Some Done
    else if str_eq_ignore_ascii_case name (codes "RESTART") then Some Restart
    else if str_eq_ignore_ascii_case name (codes "ABOUT") then Some About
    else if str_eq_ignore_ascii_case name (codes "END") then Some End
    else if str_eq_ignore_ascii_case name (codes "INFO") then Some Info
    else None
