use Rattle.std.proofs.Common.{◌≡◌, drop}
use Rattle.brain_session.proofs.Common.{first_node, game_of}
use Rattle.brain_session.proofs.choice.held_node.Given as goal

-- no root so far leads to a node, and the moves are as before
abbrev pub invariant-loop-i : goal.invariant-loop-i
invariant-loop-i l = record {
  same : l.played ≡ l.fn.played;
  first : first_node (game_of l.fn.played l.game) (drop l.i l.held.roots) ≡ first_node (game_of l.fn.played l.game) l.held.roots;
}
