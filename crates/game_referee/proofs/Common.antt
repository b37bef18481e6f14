-- The words of game_referee, all in one place for the files of laws.
pub use Rattle.game_referee.specs.Followers.{Agrees, FollowerNeverLoses, GamesGoByRoot, GamesGoByTable, GoesByRoot, GoesByTable, IsKeptBy}
pub use Rattle.game_referee.specs.Followers.{IsPlayed, NeverLoses, even_moves, mover_after, odd_moves, side_of}
pub use Rattle.game_referee.specs.Played.{WentOn}
pub use Rattle.game_referee.specs.Replays.{departs_from, in_turn, is_attack, is_stray, next_turn, strays}
unfoldable pub use Rattle.game_referee.specs.Replays.{replay}
pub use Rattle.game_referee.specs.Verdicts.{outcomes, verdict_from}
unfoldable pub use Rattle.game_referee.specs.Verdicts.{verdict}
