use Rattle.std.proofs.Common.{arith}
use Rattle.position_files.proofs.FrontLaws.{front_digit, front_more}
use Rattle.position_files.proofs.fronts.short_number.Goals as goal

pub returns-in-Some : goal.returns-in-Some
returns-in-Some c = record {
  text = front_more c.args.bytes.now c.in_ok-first.rest.now c.in-Some.more.now c.in_ok-first.first c.in-Some.last (omega arith)
      (omega (arith, c.in_ok-first.ensures.digit)) c.in-Some.ensures.digit
      (front_digit c.args.bytes.now c.in_ok-first.rest.now c.in_ok-first.first c.in_ok-first.ensures.digit c.in_ok-first.ensures.text)
      c.in-Some.ensures.text;
}
