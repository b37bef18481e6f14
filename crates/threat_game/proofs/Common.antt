-- The words of the game of threats, all in one place for the files of laws.
pub use Rattle.threat_game.specs.Attacks.{AreAttacks, AreCandidates, IsAttempt, IsDoubleWin, IsKept, IsStillKept, LeavesBoth, OthersFail}
pub use Rattle.threat_game.specs.Attacks.{has_reply}
pub use Rattle.threat_game.specs.Attacks.{has_saving, is_fouled, tried_moves}
unfoldable pub use Rattle.threat_game.specs.Attacks.{best_reply, is_last_move, is_settled_move, is_tried}
pub use Rattle.threat_game.specs.FreeMoves.{EachGoesOn}
pub use Rattle.threat_game.specs.NearDoubles.{AreNearStones, DoublesAreNear, IsInReach, is_double_on, is_some_point, makes_two}
pub use Rattle.threat_game.specs.NearDoubles.{points_of_two, reach, stones_around}
unfoldable pub use Rattle.threat_game.specs.NearDoubles.{makes_on}
pub use Rattle.threat_game.specs.QuietPoints.{HasTwoQuiet, IsQuiet}
pub use Rattle.threat_game.specs.Replies.{AreChildren, AreJudged, AreKept, AreReplies, AreStopped, EscapesBy, HasEscape, IsBeside, IsChild}
pub use Rattle.threat_game.specs.Replies.{AreJudgedInPart, IsJudged, IsJudgedDouble, IsJudgement, IsKeptAt, IsMetAt, StandsBy, StopsDoubles}
pub use Rattle.threat_game.specs.Replies.{TellsUnmet}
pub use Rattle.threat_game.specs.Replies.{answer_nodes}
pub use Rattle.threat_game.specs.Replies.{counted_for, first_with, has_reply_at, has_reply_beside, is_met, is_open, is_same_double}
pub use Rattle.threat_game.specs.Replies.{is_standing}
pub use Rattle.threat_game.specs.Replies.{kept_children, moves_for, nodes_for, one_if, put_first, replies_at, standing_node, stands_for}
pub use Rattle.threat_game.specs.ThreatGame.{LosesToThreats, is_safe_threat, move_at, nowhere}
unfoldable pub use Rattle.threat_game.specs.ThreatGame.{is_threat_move, threat_tree}
pub use Rattle.threat_game.specs.Wins.{IsThreatWin}
