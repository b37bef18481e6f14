-- The lines of an input, and what a reader of lines keeps of it.
use Rattle.std.specs.Prelude.{◌≡◌, ℕ, ◌+◌, ◌-◌, ◌<◌, Bool, true, false, not, List, [], ◌∷◌, ◌++◌, ◌⊎◌, ◌==◌, if◌then◌else◌, nat_lt, length}
use Rattle.std.specs.Prelude.{take, map, Option, Result, Ok, Err}
use Rattle.std.specs.List.{AllByRecursion, suffix_len}
use Rattle.std.specs.Option.{option_map}
use Rattle.std.specs.Io.KnownBytes.{prepend_known, IsAtEnd}
use Rattle.std.specs.Io.BufRead.{take_through}
use Rattle.renju_io.specs.Told.{Gives}
use Rattle.renju_io.specs.declared.line_reader.Line.{Line}
use Rattle.renju_io.specs.declared.line_reader.Line.TheVariants as kind
use Rattle.renju_io.specs.declared.line_reader.ReadError.{ReadError}
use Rattle.renju_io.specs.declared.TheConstants.{LINE_FEED, MAX_LINE_BYTES, MAX_SESSION_BYTES}

-- a line of an input: its bytes, or that there are too many of them
pub data LineText : Type 0 where
  Text : List ℕ → LineText
  TooLong : LineText

-- whether a byte ends a line
abbrev pub is_line_feed : ℕ → Bool
is_line_feed byte = byte == LINE_FEED

-- a byte at the front of the first of some pieces
abbrev pub begun : ℕ → List (List ℕ) → List (List ℕ)
begun byte [] = (byte ∷ []) ∷ []
begun byte (piece ∷ pieces) = (byte ∷ piece) ∷ pieces

-- the pieces of an input before each line feed, and a last piece without one if it is not empty
abbrev pub pieces : List ℕ → List (List ℕ)
pieces [] = []
pieces (byte ∷ bytes) = if is_line_feed byte then [] ∷ pieces bytes else begun byte (pieces bytes)

-- a piece as a line
abbrev pub line_of : List ℕ → LineText
line_of piece = if nat_lt MAX_LINE_BYTES (length piece) then TooLong else Text piece

-- the lines of an input
abbrev pub lines : List ℕ → List LineText
lines bytes = map line_of (pieces bytes)

-- the bytes up to the end of their last whole line
abbrev pub whole_lines : List ℕ → List ℕ
whole_lines bytes = take (length bytes - suffix_len (λ byte. not (is_line_feed byte)) bytes) bytes

-- no line ends within these bytes
abbrev pub HasNoLineFeed : List ℕ → Type 0
HasNoLineFeed bytes = AllByRecursion (λ byte. is_line_feed byte ≡ false) bytes

-- a reader of lines: the line that it told last; the bytes that it took and that belong to no line told so far, of a line
-- that is too long as many as show that; how many bytes it took in all; and whether a read has told the end of the input
pub record ReaderState : Type 0 where
  pub text : List ℕ
  pub kept : List ℕ
  pub taken : ℕ
  pub ended : Bool

-- the most reads that a reader of lines has asked for: one for each byte that it took, and the one that told the end
abbrev pub reads_for : ReaderState → ℕ
reads_for reader = reader.taken + (if reader.ended then 1 else 0)

-- a reader that was told the end of the input is asked of a source that has no byte left
abbrev pub KnowsEnd : ReaderState → Option (List ℕ) → Type 0
KnowsEnd reader left = reader.ended ≡ true → IsAtEnd left

-- the lines that an answer of the reader tells, whose text is lent by the reader: one, or none at the end of the input
-- and after an error
abbrev pub told_lines : Result Line ReadError → List ℕ → List LineText
told_lines (Ok kind.Text) text = Text text ∷ []
told_lines (Ok kind.TooLong) text = TooLong ∷ []
told_lines (Ok kind.End) text = []
told_lines (Err e) text = []

-- whatever bytes follow, the lines of the first bytes and those are the lines told, and then the lines of the rest and those
pub record Tells (bytes : List ℕ) (told : List LineText) (rest : List ℕ) : Type 0 where
  pub whatever : (more : List ℕ) → lines (bytes ++ more) ≡ told ++ lines (rest ++ more)

-- the input has ended, and the lines of these bytes are the lines told
pub record TellsLast (bytes : List ℕ) (told : List LineText) (rest : List ℕ) (left : Option (List ℕ)) : Type 0 where
  pub all : lines bytes ≡ told
  pub none_kept : rest ≡ []
  pub ended : IsAtEnd left

-- the reader took some bytes of the source, which gave no others, and told the first lines of those that it had kept and
-- of those, or the last ones, where a read told the end of the input
pub record TakesLines (old : ReaderState) (left : Option (List ℕ)) (told : List LineText) (new : ReaderState)
    (left_after : Option (List ℕ)) : Type 0 where
  pub given : List ℕ
  pub gives : Gives left given left_after
  pub counted : new.taken ≡ old.taken + length given
  pub tells : Tells (old.kept ++ given) told new.kept ⊎ (new.ended ≡ true) × TellsLast (old.kept ++ given) told new.kept left_after

-- the reader took these bytes of the source, and the line does not end within those that it had kept and these
pub record StaysOpen (old : ReaderState) (given : List ℕ) (new : ReaderState) : Type 0 where
  pub open_still : HasNoLineFeed (old.kept ++ given)
  pub stands : Tells (old.kept ++ given) [] new.kept

-- a read failed within a line: the bytes that the reader took stay
pub record KeepsLine (old : ReaderState) (left : Option (List ℕ)) (new : ReaderState) (left_after : Option (List ℕ)) : Type 0 where
  pub given : List ℕ
  pub gives : Gives left given left_after
  pub counted : new.taken ≡ old.taken + length given
  pub stays : StaysOpen old given new

-- the reader took bytes of the source up to the most that it may take, within which the line does not end, and one more
pub record GoesPast (old : ReaderState) (left : Option (List ℕ)) (new : ReaderState) (left_after : Option (List ℕ)) : Type 0 where
  pub given : List ℕ
  pub past : List ℕ
  pub gives : Gives left (given ++ past) left_after
  pub all : old.taken + length given ≡ MAX_SESSION_BYTES
  pub one : length past ≡ 1
  pub counted : new.taken ≡ MAX_SESSION_BYTES + 1
  pub stays : StaysOpen old given new

-- the reader goes past the most that it may take, or it went there before, and nothing was done
abbrev pub TakesTooMany : ReaderState → Option (List ℕ) → ReaderState → Option (List ℕ) → Type 0
TakesTooMany old left new left_after =
    GoesPast old left new left_after ⊎ (MAX_SESSION_BYTES < old.taken) × (new ≡ old) × (left_after ≡ left)

-- the lines that are left, of the bytes kept and those of the source, where it tells them
abbrev pub lines_left : ReaderState → Option (List ℕ) → Option (List LineText)
lines_left reader left = option_map lines (prepend_known reader.kept left)

-- the byte after the most that a reader may take belongs to the line that comes next: it was taken before, or the line
-- does not end before it
abbrev pub IsExhausted : ReaderState → List ℕ → Type 0
IsExhausted reader left = (MAX_SESSION_BYTES < reader.taken)
    ⊎ HasNoLineFeed reader.kept × (MAX_SESSION_BYTES < reader.taken + length (take_through LINE_FEED left))

-- where a reader has told the lines of what it took and keeps an open line, these are the lines that end within that
abbrev pub ToldAreWhole : Type 0
ToldAreWhole = (bytes rest : List ℕ) (told : List LineText) → Tells bytes told rest → HasNoLineFeed rest → told ≡ lines (whole_lines bytes)

-- what was told of some bytes, and what is told of those that were kept and of more, is told of all of them
abbrev pub ToldAddsUp : Type 0
ToldAddsUp = (bytes kept given rest : List ℕ) (told more : List LineText) →
    Tells bytes told kept → Tells (kept ++ given) more rest → Tells (bytes ++ given) (told ++ more) rest

-- at the end of the input all its lines have been told
abbrev pub ToldToTheEnd : Type 0
ToldToTheEnd = (bytes kept given rest : List ℕ) (told more : List LineText) (left : Option (List ℕ)) →
    Tells bytes told kept → TellsLast (kept ++ given) more rest left → lines (bytes ++ given) ≡ told ++ more
