use Rattle.std.proofs.Common.{arith}
use Rattle.text_lines.proofs.Decimals.{plain_if_spelled}
use Rattle.text_lines.proofs.numbers.large_number.Goals as goal

pub returns-in-empty : goal.returns-in-empty
returns-in-empty c =
    record { number = λ v few e. let plain = plain_if_spelled c.args.bytes.now v (omega arith) e in omega (arith, plain.some) }

pub returns-in-48 : goal.returns-in-48
returns-in-48 c =
    record { number = λ v few e. let plain = plain_if_spelled c.args.bytes.now v (omega arith) e in omega (arith, plain.plain) }
