use Rattle.std.proofs.Common.{arith, get_or}
use Rattle.std.specs.Char.{IsAsciiDigit, IsNotAsciiDigit}
use Rattle.std.proofs.lemmas.Bool.{MatchBool-at_true, MatchBool-at_false}
use Rattle.text_lines.proofs.Decimals.{no_number, number_more, too_much, is_spelled, no_digit}
use Rattle.text_lines.proofs.numbers.digits.Goals as goal

pub loop-byte-init : goal.loop-byte-init
loop-byte-init c = no_number c.args.most

pub returns-then-not-is_ascii_digit : goal.returns-then-not-is_ascii_digit
returns-then-not-is_ascii_digit c = record {
  number = λ v few e. no_digit c.args.bytes.now v c.loop-byte.byte-index
      (omega arith) e c.loop-byte-test.true (MatchBool-at_false (IsAsciiDigit (get_or c.args.bytes.now c.loop-byte.byte-index 0))
      (IsNotAsciiDigit (get_or c.args.bytes.now c.loop-byte.byte-index 0)) c.if-not-is_ascii_digit.true c.is_ascii_digit.ensures.cases);
}

pub returns-in_err-number : goal.returns-in_err-number
returns-in_err-number c =
    let digit = MatchBool-at_true (IsAsciiDigit (get_or c.args.bytes.now c.loop-byte.byte-index 0))
    (IsNotAsciiDigit (get_or c.args.bytes.now c.loop-byte.byte-index 0)) c.if-not-is_ascii_digit.false c.is_ascii_digit.ensures.cases in
    let over = c.in_err-number.ensures.longer in
    rw c.from_residual.ensures (record {
      number = λ v few e.
          too_much c.args.bytes.now c.loop-byte.byte-index c.loop-byte.number v c.args.most c.loop-byte-test.true digit.0 digit.1
          c.loop-byte.invariant (omega (arith, over)) (omega arith) few e;
    })

pub loop-byte-preserved : goal.loop-byte-preserved
loop-byte-preserved c =
    let digit = MatchBool-at_true (IsAsciiDigit (get_or c.args.bytes.now c.loop-byte.byte-index 0))
    (IsNotAsciiDigit (get_or c.args.bytes.now c.loop-byte.byte-index 0)) c.if-not-is_ascii_digit.false c.is_ascii_digit.ensures.cases in
    let longer = c.in_ok-number.ensures.longer in
    rw longer.1 (number_more c.args.bytes.now c.loop-byte.byte-index c.loop-byte.number c.args.most c.loop-byte-test.true digit.0 digit.1
    c.loop-byte.invariant longer.0)

pub returns : goal.returns
returns c = record {
  number = is_spelled c.args.bytes.now c.loop-byte.byte-index c.loop-byte.number c.args.most (omega arith)
      c.loop-byte.invariant c.requires.plain (omega arith);
}
