use Rattle.std.proofs.Common.{◌≡◌, find, length, IfSome}
use Rattle.threat_game.proofs.Common.{StandsBy}
use Rattle.threat_game.proofs.Kept.{stands}
use Rattle.threat_game.proofs.MetLaws.{PartLeft}
use Rattle.threat_game.proofs.replies.each_reply.Given as goal

-- the view is as before, and the board; what is judged is of the replies before the points left, in part, this is its first, and its win
-- stands by the double point that is told
abbrev pub invariant-loop-q : goal.invariant-loop-q
invariant-loop-q g l = record {
  same : g.V.Seen.position l.view ≡ g.V.Seen.position l.fn.view;
  same_board : l.board ≡ l.fn.board;
  first : l.first ≡ find stands l.part.items;
  standing : IfSome l.standing (StandsBy g.R.Rule.KIND (g.V.Seen.position l.fn.view) l.first);
  so_far : PartLeft g.R.Rule.KIND l.moves (g.V.Seen.position l.fn.view) l.part.items l.points;
}

abbrev pub decreases-loop-q : goal.decreases-loop-q
decreases-loop-q g l = length l.points
