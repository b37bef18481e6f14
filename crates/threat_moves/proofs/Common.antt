-- The words of fours and threes, all in one place for the files of laws.
pub use Rattle.row_shapes.specs.FivePoints.{is_several}
pub use Rattle.threat_moves.specs.Blocks.{by_block, by_fives}
unfoldable pub use Rattle.threat_moves.specs.Blocks.{fate}
pub use Rattle.threat_moves.specs.FiveEnds.{HasCosts, IsSure, IsSureAt, end_past, five_end, is_five_end, is_past, is_straight_at}
pub use Rattle.threat_moves.specs.FourMoves.{four_moves}
unfoldable pub use Rattle.threat_moves.specs.FourMoves.{is_four_move}
pub use Rattle.threat_moves.specs.FreePoints.{StaysFree}
pub use Rattle.threat_moves.specs.OneBlock.{BlockDecides, LeavesFive, OthersLeaveFive, all_foul, block_wins}
pub use Rattle.threat_moves.specs.Threats.{is_gain, makes_threat, threats_of, threats_on}
unfoldable pub use Rattle.threat_moves.specs.Threats.{fills_five, has_straight_point, is_straight_point, is_threat, stops_three, threats_at}
pub use Rattle.threat_moves.specs.ThreeMoves.{has_double_point, makes_double_point, three_moves}
unfoldable pub use Rattle.threat_moves.specs.ThreeMoves.{is_three_move}
