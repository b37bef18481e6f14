use Rattle.brain_session.specs.States.{board_after}
use Rattle.brain_session.proofs.SessionGames.{ends-empty}
use Rattle.brain_session.proofs.game.SessionGame.end.Goals as goal

pub play-requires : goal.play-requires
play-requires c = record {
  empty = ends-empty c.args.self.now.kind (board_after c.args.played.now.start c.args.played.now.moves) c.args.p c.requires.ends;
}
