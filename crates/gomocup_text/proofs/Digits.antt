-- The digits of a number, and how large it is.
use Rattle.std.proofs.Common.{◌≡◌, ℕ, ◌+◌, ◌*◌, ◌^◌, ◌<◌, ◌≤◌, true, ◌&&◌, List, [], ◌∷◌, length, take, get_or, arith, length-take-le, suc}
use Rattle.std.proofs.Common.{zero, nat_le, nat_lt}
use Rattle.std.proofs.lemmas.Bool.Decides.{nat_tests}
use Rattle.std.proofs.lemmas.Int.Digits.{digits_value-lt, digits_value_more}
use Rattle.std.proofs.lemmas.Str.{digit_value_digit}
use Rattle.std.proofs.Math.Nat.{pow-le-pow_right}
use Rattle.std.specs.Char.{is_ascii_digit, digit_value}
use Rattle.std.specs.List.{list_all}
use Rattle.std.specs.Str.Parse.{AllDigits, digits_value}
use Rattle.game_rules.proofs.Boards.{and_left, and_right}
use Rattle.gomocup_text.specs.Numbers.{is_number}

-- a digit is from 48 to 57, and its value is how far it is above 48
pub record IsDigit (byte : ℕ) : Type 0 where
  pub least : 48 ≤ byte
  pub most : byte ≤ 57
  pub value : digit_value byte + 48 ≡ byte

IsDigit-test : (byte : ℕ) → is_ascii_digit byte ≡ true → IsDigit byte
IsDigit-test byte is =
    let low = and_left (nat_le 48 byte) (nat_le byte 57) is in
    let high = and_right (nat_le 48 byte) (nat_le byte 57) is in
    let least : 48 ≤ byte = grind (arith, nat_tests) in
    let most : byte ≤ 57 = grind (arith, nat_tests) in
    record { least = least; most = most; value = digit_value_digit byte (least, most) }

pub IsDigit-at : (bytes : List ℕ) (i : ℕ) → list_all is_ascii_digit bytes ≡ true → i < length bytes → IsDigit (get_or bytes i 0)
IsDigit-at [] i all within = absurd (omega arith)
IsDigit-at (byte ∷ bytes) zero all within = IsDigit-test byte (and_left (is_ascii_digit byte) (list_all is_ascii_digit bytes) all)
IsDigit-at (byte ∷ bytes) (suc i) all within =
    IsDigit-at bytes i (and_right (is_ascii_digit byte) (list_all is_ascii_digit bytes) all) (omega arith)

AllDigits-take : (bytes : List ℕ) (n : ℕ) → list_all is_ascii_digit bytes ≡ true → AllDigits 10 (take n bytes)
AllDigits-take bytes zero all = tt
AllDigits-take [] (suc n) all = tt
AllDigits-take (byte ∷ bytes) (suc n) all =
    let digit = IsDigit-test byte (and_left (is_ascii_digit byte) (list_all is_ascii_digit bytes) all) in
    (omega (arith, digit.value, digit.most), AllDigits-take bytes n (and_right (is_ascii_digit byte) (list_all is_ascii_digit bytes) all))

-- what a number's digits are
pub record IsNumber (bytes : List ℕ) : Type 0 where
  pub few : length bytes ≤ 9
  pub all : list_all is_ascii_digit bytes ≡ true

pub IsNumber-test : (bytes : List ℕ) → is_number bytes ≡ true → IsNumber bytes
IsNumber-test bytes is =
    let lengths = and_left (nat_lt 0 (length bytes) && nat_le (length bytes) 9) (list_all is_ascii_digit bytes) is in
    let short = and_right (nat_lt 0 (length bytes)) (nat_le (length bytes) 9) lengths in
    record {
      few = grind (arith, nat_tests);
      all = and_right (nat_lt 0 (length bytes) && nat_le (length bytes) 9) (list_all is_ascii_digit bytes) is;
    }

-- one more digit: its value, and how large the number is then
pub record NextDigit (bytes : List ℕ) (i : ℕ) : Type 0 where
  pub digit : IsDigit (get_or bytes i 0)
  pub more : digits_value 10 (take (i + 1) bytes) ≡ digits_value 10 (take i bytes) * 10 + digit_value (get_or bytes i 0)
  pub fits : digits_value 10 (take i bytes) < 100000000

pub NextDigit-at : (bytes : List ℕ) (i : ℕ) → is_number bytes ≡ true → i < length bytes → NextDigit bytes i
NextDigit-at bytes i is within =
    let number = IsNumber-test bytes is in
    let below : digits_value 10 (take i bytes) < 10 ^ length (take i bytes) =
    digits_value-lt 10 (take i bytes) (AllDigits-take bytes i number.all) in
    let long : length (take i bytes) ≤ 8 = omega (arith, length-take-le i bytes (omega arith), number.few) in
    let most : 10 ^ length (take i bytes) ≤ 10 ^ 8 = pow-le-pow_right (omega arith) long in
    record {
      digit = IsDigit-at bytes i number.all within;
      more = digits_value_more 10 bytes i within;
      fits = omega (arith, below, most);
    }
