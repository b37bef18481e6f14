use Rattle.std.proofs.Common.{◌≡◌, ap, sym, subst, ◌∙◌, Some, Option}
use Rattle.brain_session.proofs.Common.{is_on, outcome, RuleKind, White, Game, Place, InGame, board_of, board_in, move_row, placed}
use Rattle.brain_session.proofs.Common.{turn_row, is_game, in_place, IsRow, IsStateOf, Takes, game_of, place_of}
use Rattle.brain_session.proofs.SessionBoards.{new-game, no-game, session_board-kept, first-taken}
use Rattle.brain_session.proofs.session_board.SessionBoard.begin_by_turn.Goals as goal

pub returns-clause-row : goal.returns-clause-row
returns-clause-row c = λ s state.
    let h = c.args.held.now in
    let m = c.self.inside.played in
    let o = c.self.inside.game in
    let k = c.in-Some.kind in
    let r = c.in_ok-reaction.reaction in
    let next : Game = game_of c.take_reply.new.played c.take_reply.new.self in
    let view : place_of m o ≡ c.args.self.now = c.self.view_is in
    let none = no-game m o (ap is_game view ∙ c.requires.fresh) c.self.invariant in
    let fresh = sym view ∙ none.0 in
    let taken = subst (λ (g : Game). IsRow h (move_row (in_place h (InGame g)) g c.args.p (outcome g.rule (board_of g) c.args.p)) r
    (InGame next)) (new-game m c.new-game.result k White none.1 c.new-game.ensures.begun) c.in_ok-reaction.ensures.taken in
    let at : IsStateOf h c.args.self.now (Some k) s = subst (λ (u : Option RuleKind). IsStateOf h c.args.self.now u s) c.in-Some.is state in
    subst (λ (w : Place). Takes (turn_row s w c.args.p) s r (placed s (InGame next)))
    (sym fresh) (first-taken h m.start.width m.start.height k s c.args.p r next (subst (λ (w : Place). IsStateOf h w (Some k) s) fresh at)
    (ap (λ (w : Place). is_on (board_in w) c.args.p) (sym fresh) ∙ c.requires.on) taken)

pub invariant_of-self-2 : goal.invariant_of-self-2
invariant_of-self-2 c = session_board-kept c.args.held.now c.take_reply.new.played c.take_reply.new.self c.in_ok-reaction.ensures.running
