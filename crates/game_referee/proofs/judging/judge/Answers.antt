use Rattle.game_referee.proofs.judging.judge.Goals as goal

pub take_back-requires-clause-played : goal.take_back-requires-clause-played
take_back-requires-clause-played g c = (c.args.position.now, c.side-mover.ensures.lawful, c.play_on-played.ensures.played)

pub returns-clause-same : goal.returns-clause-same
returns-clause-same g c = c.take_back.ensures.back c.args.position.now c.side-mover.ensures.lawful c.play_on-played.ensures.played
