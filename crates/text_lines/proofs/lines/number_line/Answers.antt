use Rattle.std.proofs.Common.{arith}
use Rattle.std.specs.Fmt.{decimal}
use Rattle.text_lines.specs.Reading.{IsBetween}
use Rattle.text_lines.proofs.LineLaws.{prefix_none, prefix_bad, between-free, too_few}
use Rattle.text_lines.proofs.lines.number_line.Goals as goal

pub returns-in_err-text : goal.returns-in_err-text
returns-in_err-text c = rw c.from_residual.ensures (record {
  number = prefix_none (IsBetween c.args.least c.args.most) decimal (between-free c.args.least c.args.most (omega arith)) c.args.word.now
      c.args.bytes.now c.in_err-text.ensures.text;
})

pub returns-in_err-number : goal.returns-in_err-number
returns-in_err-number c = rw c.from_residual-in_err-number.ensures (record {
  number = prefix_bad (IsBetween c.args.least c.args.most) decimal (between-free c.args.least c.args.most (omega arith)) c.args.word.now
      c.args.bytes.now c.in_ok-text.text.now c.in_ok-text.rest.now c.requires.word c.in_ok-text.ensures.text.0 c.in_ok-text.ensures.text.1
      (λ n count e. let few = count.few in c.in_err-number.ensures.number n few e);
})

pub returns-then-number-least : goal.returns-then-number-least
returns-then-number-least c = record {
  number = prefix_bad (IsBetween c.args.least c.args.most) decimal (between-free c.args.least c.args.most (omega arith)) c.args.word.now
      c.args.bytes.now c.in_ok-text.text.now c.in_ok-text.rest.now c.requires.word c.in_ok-text.ensures.text.0 c.in_ok-text.ensures.text.1
      (too_few c.args.least c.args.most c.in_ok-number.number c.in_ok-text.text.now (omega arith) c.in_ok-number.ensures.number.0
      c.if-number-least.true c.in_ok-number.ensures.number.1);
}
