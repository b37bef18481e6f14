use Rattle.std.proofs.Common.{sym, ap, ◌∙◌, Option}
use Rattle.strategy_graph.specs.declared.roots.Root.{Root}
use Rattle.game_referee.proofs.Common.{departs_from, replay, strays, outcomes}
use Rattle.game_referee.proofs.Following.{follower-never-loses}
use Rattle.game_referee.proofs.replaying.replay.Goals as goal

pub take_back-requires-clause-played : goal.take_back-requires-clause-played
take_back-requires-clause-played g c = (c.args.position.now, c.side-mover.ensures.lawful, c.play_by-played.ensures.played)

pub returns-clause-kept : goal.returns-clause-kept
unfolding replay
returns-clause-kept g c = λ accepted follows.
    follower-never-loses g.R.Rule.KIND c.args.table.now c.args.root.now c.args.position.now c.args.moves.now accepted
    (ap (λ (turn : Option Root). departs_from 0 (strays c.args.table.now turn c.args.moves.now)
    (outcomes g.R.Rule.KIND c.args.position.now c.args.moves.now)) (sym (c.first_turn.ensures.first c.args.table.now))
    ∙ sym c.play_by-played.ensures.answer ∙ follows)

pub returns-clause-same : goal.returns-clause-same
returns-clause-same g c = c.take_back.ensures.back c.args.position.now c.side-mover.ensures.lawful c.play_by-played.ensures.played
