use Rattle.std.proofs.Common.{◌≡◌, ◌+◌, ◌*◌, take, arith}
use Rattle.std.specs.Str.Parse.{digits_value}
use Rattle.gomocup_text.proofs.Digits.{NextDigit-at}
use Rattle.gomocup_text.proofs.numbers.value_of.Goals as goal

pub overflow_sub-digit : goal.overflow_sub-digit
overflow_sub-digit c =
    let next = NextDigit-at c.args.bytes.now c.loop-digit.digit-index c.requires.digits c.loop-digit-test.true in next.digit.least

pub overflow_mul-value : goal.overflow_mul-value
overflow_mul-value c =
    let next = NextDigit-at c.args.bytes.now c.loop-digit.digit-index c.requires.digits c.loop-digit-test.true in
    omega (arith, next.fits, c.loop-digit.invariant)

pub overflow_add-value : goal.overflow_add-value
overflow_add-value c =
    let next = NextDigit-at c.args.bytes.now c.loop-digit.digit-index c.requires.digits c.loop-digit-test.true in
    omega (arith, next.fits, next.digit.most, c.loop-digit.invariant, c.from.ensures)

pub loop-digit-preserved : goal.loop-digit-preserved
loop-digit-preserved c =
    let next = NextDigit-at c.args.bytes.now c.loop-digit.digit-index c.requires.digits c.loop-digit-test.true in
    let so_far : c.loop-digit.value ≡ digits_value 10 (take c.loop-digit.digit-index c.args.bytes.now) = c.loop-digit.invariant in
    let value : c.loop-digit.value * 10 + c.from.result ≡ digits_value 10 (take (c.loop-digit.digit-index + 1) c.args.bytes.now) =
    omega (arith, next.more, next.digit.value, so_far, c.from.ensures) in
    value
