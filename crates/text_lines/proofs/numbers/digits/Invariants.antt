use Rattle.std.proofs.Common.{take}
use Rattle.text_lines.proofs.Decimals.{IsNumberOf}
use Rattle.text_lines.proofs.numbers.digits.Given as goal

-- the number is that of the digits so far
abbrev pub invariant-loop-byte : goal.invariant-loop-byte
invariant-loop-byte l = IsNumberOf (take l.byte-index l.bytes) l.number l.most
