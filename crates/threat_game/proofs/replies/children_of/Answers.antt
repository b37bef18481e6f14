use Rattle.std.proofs.Common.{◌≤◌}
use Rattle.threat_game.proofs.Common.{counted_for}
use Rattle.threat_game.proofs.Kept.{found-if}
use Rattle.threat_game.proofs.replies.children_of.Goals as goal

pub begun-requires : goal.begun-requires
begun-requires c = record {
  few = found-if (λ child. counted_for child.judged ≤ 3) c.args.judged.now c.requires.each
      c.first_standing-first.result c.first_standing-first.ensures.first;
}
