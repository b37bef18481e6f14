use Rattle.std.proofs.Common.{◌≡◌, ◌≤◌, length}
use Rattle.strategy_checker.proofs.Common.{Answers, IsOutlook, AreMet, Owes, all_to_ask, owed, to_ask}
use Rattle.strategy_checker.proofs.walk.Walk.next.Given as goal

-- the position stays, and the replies are asked one after another
abbrev pub invariant-loop-q : goal.invariant-loop-q
invariant-loop-q g l =
    let a : Answers = record { replies = l.replies; rest = l.rest } in
    let all = all_to_ask l.fn.position l.replies l.fn.meeting.course in
    record {
      same : l.position ≡ l.fn.position;
      owes : Owes g.R.Rule.KIND l.table a l.fn.position (AreMet g.R.Rule.KIND l.table a l.fn.position all)
          (owed g.R.Rule.KIND l.table a l.fn.position all) (to_ask l.replies l.course) l.fn.self.left l.self;
      outlook : IsOutlook g.R.Rule.KIND l.table l.fn.position l.meeting.outlook;
      left : l.self.left ≤ l.fn.self.left;
    }

abbrev pub decreases-loop-q : goal.decreases-loop-q
decreases-loop-q g l = length (to_ask l.replies l.course)
