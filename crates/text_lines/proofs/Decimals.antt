-- Decimal numbers.
use Rattle.std.proofs.Common.{◌≡◌, ℕ, ◌+◌, ◌*◌, ◌/◌, ◌%◌, ◌-◌, ◌^◌, ◌<◌, ◌≤◌, refl, sym, ap, subst, ◌∙◌, arith, List, [], ◌∷◌, ◌++◌, length}
use Rattle.std.proofs.Common.{take, append_assoc, get_or, nat_lt, eqb, not, true, false, inl, inr}
use Rattle.std.specs.Char.{digit_value, IsNotAsciiDigit}
use Rattle.std.specs.Fmt.{decimal}
use Rattle.std.specs.Str.Parse.{AllDigits, digits_value}
use Rattle.std.proofs.lemmas.Bool.{cases_eq, le-ltb, lt-ltb, ne_eqb}
use Rattle.std.proofs.Math.Seq.{take-length}
use Rattle.std.proofs.lemmas.Fmt.{decimal_digit, decimal_step, decimal_nonempty, first_decimal, decimal-digits_value, digits_decimal}
use Rattle.std.proofs.lemmas.Fmt.{digits_value-decimal}
use Rattle.std.proofs.lemmas.Int.Digits.{digits_value_more, digits_more}
use Rattle.std.proofs.lemmas.Str.Parse.{IsNumeralModel, numerals_by_value, tells_digits, digit_at, digit_from_value, digits_value-take-le}
use Rattle.text_lines.proofs.Common.{IsPlain, is_free}

own : IsNumeralModel (AllDigits 10) (digits_value 10)
own = numerals_by_value (AllDigits 10) tells_digits

-- what a number is spelled by is plain
decimal_plain : (n : ℕ) → n < 2 ^ 64 → IsPlain (decimal n)
decimal_plain n fits = record {
  some = decimal_nonempty n fits;
  plain = λ zero_first. elim (cases_eq n 0) [
    | inl e ↦ rw e (ap length (decimal_digit 0 (omega arith)))
    | inr ne ↦ let first = first_decimal n (omega arith) fits in absurd (omega (arith, first, zero_first))
  ];
}

pub plain_if_spelled : (bytes : List ℕ) (n : ℕ) → n < 2 ^ 64 → bytes ≡ decimal n → IsPlain bytes
plain_if_spelled bytes n few e = subst IsPlain (sym e) (decimal_plain n (omega arith))

pub digits_if_spelled : (bytes : List ℕ) (n i : ℕ) → n < 2 ^ 64 → bytes ≡ decimal n → i < length bytes
    → (48 ≤ get_or bytes i 0) × (get_or bytes i 0 ≤ 57)
digits_if_spelled bytes n i few e within =
    let all : AllDigits 10 bytes = subst (AllDigits 10) (sym e) (digits_decimal own n (omega arith)) in
    digit_at bytes i all within

pub value_if_spelled : (bytes : List ℕ) (n i : ℕ) → n < 2 ^ 64 → bytes ≡ decimal n → digits_value 10 (take i bytes) ≤ n
value_if_spelled bytes n i few e =
    let value : digits_value 10 bytes ≡ n = ap (digits_value 10) e ∙ digits_value-decimal own n (omega arith) in
    let part = digits_value-take-le 10 bytes i (omega arith) in
    omega (arith, value, part)

pub spelled_by_digits : (bytes : List ℕ) (n : ℕ) → IsPlain bytes → AllDigits 10 bytes → n ≡ digits_value 10 bytes → n < 2 ^ 64
    → bytes ≡ decimal n
spelled_by_digits bytes n plain all e few =
    let back : decimal (digits_value 10 bytes) ≡ bytes = decimal-digits_value own bytes all plain.some plain.plain (omega arith) in
    sym back ∙ ap decimal (sym e)

-- the bytes are digits, and this is their number, which is at most so much
pub record IsNumberOf (bytes : List ℕ) (n most : ℕ) : Type 0 where
  pub digits : AllDigits 10 bytes
  pub value : n ≡ digits_value 10 bytes
  pub few : n ≤ most

pub no_number : (most : ℕ) → IsNumberOf [] 0 most
no_number most = record { digits = tt; value = refl; few = omega arith }

digit_is : (b : ℕ) → 48 ≤ b → b ≤ 57 → digit_value b ≡ b - 48
digit_is b low high =
    let above : nat_lt b 48 ≡ false = le-ltb b 48 low in
    let below : nat_lt b 58 ≡ true = lt-ltb b 58 (omega arith) in
    rw (above, below) refl

pub number_more : (bytes : List ℕ) (i n most : ℕ) → i < length bytes → 48 ≤ get_or bytes i 0 → get_or bytes i 0 ≤ 57
    → IsNumberOf (take i bytes) n most → n * 10 + (get_or bytes i 0 - 48) ≤ most
    → IsNumberOf (take (i + 1) bytes) (n * 10 + (get_or bytes i 0 - 48)) most
number_more bytes i n most within low high so_far few =
    let d = digit_is (get_or bytes i 0) low high in
    record {
      digits = digits_more 10 bytes i within so_far.digits (omega (arith, d));
      value = let more = digits_value_more 10 bytes i within in let value = so_far.value in sym (more ∙ rw (d, ← value) refl);
      few = few;
    }

-- bytes whose front is more than the number do not spell it
pub too_much : (bytes : List ℕ) (i n v most : ℕ) → i < length bytes → 48 ≤ get_or bytes i 0 → get_or bytes i 0 ≤ 57
    → IsNumberOf (take i bytes) n most → most < n * 10 + (get_or bytes i 0 - 48) → most < 2 ^ 64 → v ≤ most → bytes ≡ decimal v → ⊥
too_much bytes i n v most within low high so_far over bound few e =
    let part = value_if_spelled bytes v (i + 1) (omega arith) e in
    omega (arith, digit_is (get_or bytes i 0) low high, digits_value_more 10 bytes i within, so_far.value, part)

pub is_spelled : (bytes : List ℕ) (i n most : ℕ) → i ≡ length bytes → IsNumberOf (take i bytes) n most → IsPlain bytes → most < 2 ^ 64
    → (n ≤ most) × (bytes ≡ decimal n)
is_spelled bytes i n most end so_far plain bound =
    let whole : take i bytes ≡ bytes = rw end (take-length bytes) in
    let all : IsNumberOf bytes n most = subst (λ (l : List ℕ). IsNumberOf l n most) whole so_far in
    (all.few, let few = all.few in spelled_by_digits bytes n plain all.digits all.value (omega (arith, few)))

-- a text grows by a number of two digits where it grows by one of them after the other
pub two_digits : (n : ℕ) (old mid new : List ℕ) → 10 ≤ n → n < 100 → mid ≡ old ++ decimal (n / 10) → new ≡ mid ++ decimal (n % 10)
    → new ≡ old ++ decimal n
two_digits n old mid new some few e f =
    let low : n % 10 < 10 = omega arith in
    let both : decimal n ≡ decimal (n / 10) ++ decimal (n % 10) =
    decimal_step n some (omega arith) ∙ ap (λ (l : List ℕ). decimal (n / 10) ++ l) (sym (decimal_digit (n % 10) low)) in
    f ∙ ap (λ (l : List ℕ). l ++ decimal (n % 10)) e ∙ append_assoc old (decimal (n / 10)) (decimal (n % 10))
    ∙ ap (λ (l : List ℕ). old ++ l) (sym both)

-- bytes with another byte than a digit spell no number
pub no_digit : (bytes : List ℕ) (v i : ℕ) → v < 2 ^ 64 → bytes ≡ decimal v → i < length bytes → IsNotAsciiDigit (get_or bytes i 0) → ⊥
no_digit bytes v i few e within (inl low) = let digit = digits_if_spelled bytes v i few e within in omega (arith, digit.0, low)
no_digit bytes v i few e within (inr high) = let digit = digits_if_spelled bytes v i few e within in omega (arith, digit.1, high)

not_separator : (d s : ℕ) → 48 ≤ d → d ≤ 57 → IsNotAsciiDigit s → not (eqb d s) ≡ true
not_separator d s low high (inl less) = rw (ne_eqb d s (λ e. omega arith)) refl
not_separator d s low high (inr more) = rw (ne_eqb d s (λ e. omega arith)) refl

free_digits : (s : ℕ) (ds : List ℕ) → IsNotAsciiDigit s → AllDigits 10 ds → is_free s ds ≡ true
free_digits s [] other all = refl
free_digits s (d ∷ ds) other all =
    let digit = digit_from_value d all.0 in
    rw (not_separator d s digit.0 digit.1 other, free_digits s ds other all.1) refl

-- no separator is a digit
pub decimal-free : (s n : ℕ) → IsNotAsciiDigit s → n < 2 ^ 64 → is_free s (decimal n) ≡ true
decimal-free s n other fits = free_digits s (decimal n) other (digits_decimal own n fits)
