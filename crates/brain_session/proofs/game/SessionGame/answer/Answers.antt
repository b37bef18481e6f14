use Rattle.std.proofs.Common.{ap, sym, subst, ◌∙◌}
use Rattle.brain_session.proofs.Common.{mover, board_after, Moves, IsReady}
use Rattle.game_rules.proofs.Positions.{GoesOn-empty}
use Rattle.brain_session.proofs.SessionGames.{reply-mover, reply-ready}
use Rattle.brain_session.proofs.game.SessionGame.answer.Goals as goal

pub play-requires : goal.play-requires
play-requires c = record {
  empty = GoesOn-empty c.args.self.now.kind (board_after c.args.played.now.start c.args.played.now.moves) c.args.p c.requires.goes_on;
}

pub make_move-answer-requires-clause-to_move : goal.make_move-answer-requires-clause-to_move
make_move-answer-requires-clause-to_move c = ap (λ (x : Moves). mover (board_after x.start x.moves)) c.play.ensures.played
    ∙ reply-mover c.args.held.now c.args.played.now c.args.self.now c.args.p c.requires.kept c.requires.going c.requires.goes_on
    c.requires.to_reply

pub make_move-answer-requires-clause-ready : goal.make_move-answer-requires-clause-ready
make_move-answer-requires-clause-ready c =
    let k = c.args.self.now in
    subst (λ (x : Moves). IsReady c.args.held.now x k) (sym c.play.ensures.played)
    (reply-ready c.args.held.now c.args.played.now k c.args.p c.requires.kept c.requires.going c.requires.goes_on)
