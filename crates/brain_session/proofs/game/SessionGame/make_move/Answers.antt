use Rattle.std.proofs.Common.{◌≡◌, not, ◌∷◌, ap, sym, subst, ◌∙◌}
use Rattle.brain_session.proofs.Common.{outcome, goes_on, Outcome, SessionGame, board_after, Moves, IsKeptUp, game_of}
use Rattle.brain_session.proofs.SessionGames.{MovesBy, kept-moved, chosen-moves}
use Rattle.brain_session.proofs.game.SessionGame.make_move.Goals as goal

pub returns-clause-running : goal.returns-clause-running
returns-clause-running c =
    let h = c.args.held.now in
    let m : Moves = c.args.played.now in
    let k : SessionGame = c.args.self.now in
    let n : SessionGame = c.next_move.new.self in
    let p = c.in_ok-at.at in
    let b = board_after m.start m.moves in
    let others : n ≡ record k { guide = n.guide } = c.in_ok-at.ensures.others in
    let same : c.next_move.new.played ≡ m = c.in_ok-at.ensures.same in
    let played : c.play.new.self ≡ record m { moves = p ∷ m.moves } =
    c.play.ensures.played ∙ ap (λ (x : Moves). record x { moves = p ∷ x.moves }) (c.outcome.ensures.same ∙ same) in
    let ended : c.is_last-self.result ≡ not (goes_on (outcome k.kind b p)) =
    c.is_last-self.ensures.last ∙ ap (λ (o : Outcome). not (goes_on o)) (c.outcome.ensures.outcome
    ∙ ap (λ (x : Moves). outcome n.kind (board_after x.start x.moves) p) same ∙ ap (λ (x : SessionGame). outcome x.kind b p) others) in
    let game : record n { ended = c.is_last-self.result } ≡ record k { ended = not (goes_on (outcome k.kind b p)); guide = n.guide } =
    ap (λ (x : SessionGame). record x { ended = c.is_last-self.result; guide = n.guide }) others
    ∙ ap (λ r. record k { ended = r; guide = n.guide }) ended in
    let kept : IsKeptUp h (record m { moves = p ∷ m.moves }) (record k { ended = not (goes_on (outcome k.kind b p)); guide = n.guide }) =
    kept-moved h m k p c.requires.along c.requires.to_move n.guide c.in_ok-at.ensures.empty c.in_ok-at.ensures.stands
    (subst (MovesBy h (game_of m k)) c.in_ok-at.ensures.chosen (chosen-moves h (game_of m k))) in
    subst (λ (x : Moves). IsKeptUp h x (record n { ended = c.is_last-self.result }))
    (sym played) (subst (IsKeptUp h (record m { moves = p ∷ m.moves })) (sym game) kept)
