use Rattle.std.proofs.Common.{arith}
use Rattle.std.proofs.lemmas.Option.{slice_get-get_or}
use Rattle.strategy_checker.proofs.Courses.{listed-here}
use Rattle.strategy_checker.proofs.meeting.advance.Goals as goal

pub returns-then-i-replies-clause-listed : goal.returns-then-i-replies-clause-listed
returns-then-i-replies-clause-listed c =
    listed-here c.args.replies.now c.in-Listed.i _ c.requires.rising (slice_get-get_or c.args.replies.now c.in-Listed.i _ (omega arith))

pub returns-then-i-replies-2-clause-listed : goal.returns-then-i-replies-2-clause-listed
returns-then-i-replies-2-clause-listed c = listed-here c.args.replies.now c.in-ListedThen.i _ c.requires.rising
    (slice_get-get_or c.args.replies.now c.in-ListedThen.i _ (omega arith))
