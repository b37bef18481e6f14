use Rattle.std.proofs.Common.{arith, string_bytes}
use Rattle.text_lines.proofs.Decimals.{two_digits}
use Rattle.text_lines.proofs.written.push_short.Goals as goal

pub returns-clause-number : goal.returns-clause-number
returns-clause-number c = two_digits c.args.number (string_bytes c.args.text.now) (string_bytes c.push_digit-2.new.text)
    (string_bytes c.push_digit-3.new.text) (omega arith) c.requires.short c.in_ok-push_digit.ensures.digit
    c.in_ok-push_digit-2.ensures.digit
