use Rattle.std.proofs.Common.{ap, sym, subst, ◌∙◌}
use Rattle.brain_session.proofs.Common.{SessionGame, GoesOnAlong, chosen_anew, game_of}
use Rattle.brain_session.proofs.SessionGames.{chosen-anew, chosen-followed}
use Rattle.brain_session.proofs.game.SessionGame.next_move.Goals as goal

pub returns-in-Some-clause-chosen : goal.returns-in-Some-clause-chosen
returns-in-Some-clause-chosen c = chosen-followed c.args.held.now (game_of c.args.played.now c.args.self.now) _ c.in-Some.ensures.followed

pub choose-requires : goal.choose-requires
choose-requires c =
    let m = c.args.played.now in
    record { along = subst (λ (x : SessionGame). GoesOnAlong x.kind m.start m.moves) (sym c.in_default.ensures.none.1) c.requires.along }

pub returns-clause-chosen : goal.returns-clause-chosen
returns-clause-chosen c =
    let h = c.args.held.now in
    let m = c.args.played.now in
    let k = c.args.self.now in
    chosen-anew h (game_of m k) c.in_default.ensures.none.0
    ∙ ap (λ (x : SessionGame). chosen_anew h (game_of m x)) (sym c.in_default.ensures.none.1) ∙ sym c.in_ok-found.ensures.chosen
