use Rattle.std.proofs.Common.{◌≡◌, ◌+◌, ◌*◌, take}
use Rattle.zone_checker.proofs.Common.{HasZone, ComesTo, ReplyHasPairsBy, Took, asked_of}
use Rattle.zone_checker.proofs.Replying.{RepliedTo}
use Rattle.zone_checker.proofs.walk.+zones.Given as goal

abbrev pub decreases-node_zone : goal.decreases-node_zone
decreases-node_zone g l = 4 * l.i + 3

abbrev pub decreases-withstand : goal.decreases-withstand
decreases-withstand g l = 4 * l.asked.bound + 2

abbrev pub decreases-reply_all : goal.decreases-reply_all
decreases-reply_all g l = 4 * l.asked.bound + 1

abbrev pub decreases-reply : goal.decreases-reply
decreases-reply g l = 4 * l.asked.bound

abbrev pub invariant-reply_all-loop-q : goal.invariant-reply_all-loop-q
invariant-reply_all-loop-q g l = record {
  board : l.walk.board ≡ l.fn.walk.board;
  taken : Took (ComesTo (ReplyHasPairsBy g.R.Rule.KIND l.ground.table.now l.ground.side (asked_of l.asked.replies.now l.asked.rest)
      l.asked.rest l.fn.walk.board) (take l.q-index l.ground.points.now)) l.fn.walk.left l.walk.left;
  replied : RepliedTo l.ground.side (asked_of l.asked.replies.now l.asked.rest)
      (HasZone g.R.Rule.KIND l.ground.table.now l.ground.side) l.fn.walk.board l.passed l.ground.points.now l.q-index l.fn.marks.items
      l.marks.items;
}
