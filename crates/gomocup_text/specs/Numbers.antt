-- The numbers of a command.
use Rattle.std.specs.Prelude.{ℕ, Bool, ◌&&◌, ◌==◌, if◌then◌else◌, nat_lt, nat_le, List, length, Option, Some, None}
use Rattle.std.specs.Char.{is_ascii_digit}
use Rattle.std.specs.List.{list_all, before_first, after_first}
use Rattle.std.specs.Str.Parse.{digits_value}
use Rattle.text_lines.specs.Spellings.{comma}
use Rattle.gomocup_text.specs.Words.{trimmed}
use Rattle.gomocup_text.specs.declared.TheConstants.{MAX_DIGITS}

-- one to nine digits; leading zeros are taken
abbrev pub is_number : List ℕ → Bool
is_number bytes = (nat_lt 0 (length bytes) && nat_le (length bytes) MAX_DIGITS) && list_all is_ascii_digit bytes

-- the number that these bytes are the digits of
abbrev pub number_of : List ℕ → Option ℕ
number_of bytes = if is_number bytes then Some (digits_value 10 bytes) else None

-- whether a byte is a comma
abbrev pub is_comma : ℕ → Bool
is_comma byte = byte == comma

-- what stands before the first comma, or all where there is none
abbrev pub before_comma : List ℕ → List ℕ
before_comma bytes = before_first is_comma bytes

-- what stands after the first comma, or nothing where there is none
abbrev pub after_comma : List ℕ → List ℕ
after_comma bytes = after_first is_comma bytes

-- a number and one more, where both are there
abbrev pub both : Option ℕ → Option ℕ → Option (ℕ × ℕ)
both (Some first) (Some second) = Some (first, second)
both (Some first) None = None
both None second = None

-- a number and two more, where all are there
abbrev pub all_three : Option ℕ → Option (ℕ × ℕ) → Option (ℕ × ℕ × ℕ)
all_three (Some first) (Some later) = Some (first, later.0, later.1)
all_three (Some first) None = None
all_three None later = None

-- two numbers with a comma between them; gaps may stand beside the comma
abbrev pub numbers_of_two : List ℕ → Option (ℕ × ℕ)
numbers_of_two bytes = both (number_of (trimmed (before_comma bytes))) (number_of (trimmed (after_comma bytes)))

-- three numbers with a comma between each and the next
abbrev pub numbers_of_three : List ℕ → Option (ℕ × ℕ × ℕ)
numbers_of_three bytes = all_three (number_of (trimmed (before_comma bytes))) (numbers_of_two (after_comma bytes))
