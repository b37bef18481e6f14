use Rattle.std.proofs.Common.{◌≡◌}
use Rattle.strategy_graph.proofs.Common.{AcceptedStart, start_arrivals}
use Rattle.strategy_checker.proofs.Common.{IsOutlook, Owes, all_to_ask}
use Rattle.strategy_checker.proofs.walk.Walk.visit_start.Given as goal

-- the position stays, and the replies are met one after another
abbrev pub invariant-loop-next : goal.invariant-loop-next
invariant-loop-next g l = record {
  same : l.position ≡ l.fn.position;
  owes : Owes g.R.Rule.KIND l.table l.start l.fn.position (AcceptedStart g.R.Rule.KIND l.table l.start l.fn.position)
      (start_arrivals g.R.Rule.KIND l.table l.start l.fn.position) (all_to_ask l.fn.position l.start.replies l.meeting.course)
      l.fn.self.left l.self;
  outlook : IsOutlook g.R.Rule.KIND l.table l.fn.position l.meeting.outlook;
}

abbrev pub decreases-loop-next : goal.decreases-loop-next
decreases-loop-next g l = l.self.left
