use Rattle.std.proofs.Common.{sym}
use Rattle.brain_session.specs.States.{board_after}
use Rattle.brain_session.proofs.SessionGames.{follow-stands, follow-on, node-in_table}
use Rattle.brain_session.proofs.Guiding.{stands-legal}
use Rattle.brain_session.proofs.game.SessionGame.follow.Goals as goal

pub attack-requires : goal.attack-requires
attack-requires c = record {
  in_table = node-in_table c.args.held.now c.args.self.now.kind (board_after c.args.played.now.start c.args.played.now.moves)
      c.answer.new.self
      (follow-stands c.args.held.now c.args.played.now c.args.self.now c.in_ok-reply.reply c.in-Some.guide c.answer.new.self c.answer.result
      (sym c.in_ok-reply.ensures.last) c.in-Some.is c.requires.ready c.answer.ensures.answered c.if-answer.true);
}

pub returns-then-answer-clause-followed : goal.returns-then-answer-clause-followed
returns-then-answer-clause-followed c =
    let stands = follow-stands c.args.held.now c.args.played.now c.args.self.now c.in_ok-reply.reply c.in-Some.guide c.answer.new.self
    c.answer.result (sym c.in_ok-reply.ensures.last) c.in-Some.is c.requires.ready c.answer.ensures.answered c.if-answer.true in
    follow-on c.args.held.now c.args.played.now c.args.self.now c.in_ok-reply.reply c.in-Some.guide c.answer.new.self c.answer.result
    (sym c.in_ok-reply.ensures.last) c.in-Some.is c.requires.ready c.answer.ensures.answered c.if-answer.true
    c.attack.result (c.attack.ensures.attack c.args.self.now.kind (board_after c.args.played.now.start c.args.played.now.moves) stands)

pub returns-then-answer-clause-stands : goal.returns-then-answer-clause-stands
returns-then-answer-clause-stands c = record {
  table = c.attack.ensures.table;
  node = follow-stands c.args.held.now c.args.played.now c.args.self.now c.in_ok-reply.reply c.in-Some.guide c.answer.new.self
      c.answer.result (sym c.in_ok-reply.ensures.last) c.in-Some.is c.requires.ready c.answer.ensures.answered c.if-answer.true;
}

pub returns-then-answer-clause-empty : goal.returns-then-answer-clause-empty
returns-then-answer-clause-empty c =
    let b = board_after c.args.played.now.start c.args.played.now.moves in
    let stands = follow-stands c.args.held.now c.args.played.now c.args.self.now c.in_ok-reply.reply c.in-Some.guide c.answer.new.self
    c.answer.result (sym c.in_ok-reply.ensures.last) c.in-Some.is c.requires.ready c.answer.ensures.answered c.if-answer.true in
    stands-legal c.args.held.now c.args.self.now.kind b c.answer.new.self c.attack.result
    (record { table = c.attack.ensures.table; node = stands }) (c.attack.ensures.attack c.args.self.now.kind b stands)
