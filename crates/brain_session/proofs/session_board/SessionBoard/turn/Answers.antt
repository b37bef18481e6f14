use Rattle.std.proofs.Common.{◌≡◌, true, false, ap, sym, subst, ◌∙◌, None, Option, IfSome, IfOk}
use Rattle.brain_session.proofs.Common.{is_on, Point, Error, BadMove, Says, Game, Place, InGame, State, board_in, placed, turn_row}
use Rattle.brain_session.proofs.Common.{IsPointOn, IsSessionBoard, IsStateOf, Takes, game_of, place_of, turn_refusal}
use Rattle.brain_session.proofs.SessionBoards.{turn-off, turn-taken, session_board-after}
use Rattle.brain_session.proofs.session_board.SessionBoard.turn.Goals as goal

pub returns-in_default-at-clause-row : goal.returns-in_default-at-clause-row
returns-in_default-at-clause-row c = λ s p state point.
    let h = c.args.held.now in
    let m = c.self.inside.played in
    let o = c.self.inside.game in
    let view : place_of m o ≡ c.args.self.now = c.self.view_is in
    subst (λ (w : Place). turn_refusal w c.args.rule ≡ None → IsStateOf h w c.args.rule s → is_on (board_in w) p ≡ false
    → Takes (turn_row s w p) s (Says (Error BadMove)) (placed s w)) view (turn-off h m o c.args.rule s p)
    (sym c.in_default.ensures.error) state (subst (λ (a : Option Point). IsPointOn (board_in c.args.self.now) p a) c.in_default-at.is point)

pub begin_by_turn-requires-clause-on : goal.begin_by_turn-requires-clause-on
begin_by_turn-requires-clause-on c =
    let view : place_of c.self.inside.played c.self.inside.game ≡ c.args.self.now = c.self.view_is in
    subst (λ (w : Place). is_on (board_in w) c.in-Some-at.p ≡ true) (sym view)
    (subst (λ (a : Option Point). IfSome a (λ p. is_on (board_in c.args.self.now) p ≡ true)) c.in-Some-at.is c.requires.on)

pub invariant_of-self : goal.invariant_of-self
invariant_of-self c =
    let session_board = subst (IsSessionBoard c.self.inside.played) c.in-Some-game.is c.self.invariant in
    session_board-after c.args.held.now c.self.inside.played c.take_reply.new.played c.in-Some-game.game c.take_reply.new.self
    c.take_reply.result c.take_reply.ensures.running c.take_reply.ensures.same c.take_reply.ensures.unchanged session_board

pub returns-in-Some-game-clause-row : goal.returns-in-Some-game-clause-row
returns-in-Some-game-clause-row c =
    let h = c.args.held.now in
    let m = c.self.inside.played in
    let next : Game = game_of c.take_reply.new.played c.take_reply.new.self in
    let here : InGame (game_of m c.in-Some-game.game) ≡ c.args.self.now = ap (place_of m) (sym c.in-Some-game.is) ∙ c.self.view_is in
    subst (λ (w : Place). turn_refusal w c.args.rule ≡ None → IfOk c.take_reply.result
    (λ r. (s : State) (p : Point) → IsStateOf h w c.args.rule s → IsPointOn (board_in c.args.self.now) p c.args.at
    → Takes (turn_row s w p) s r (placed s (InGame next)))) here
    (λ may. turn-taken h (game_of m c.in-Some-game.game) c.args.rule (board_in c.args.self.now) c.args.at c.in-Some-at.p
    c.take_reply.result next may c.in-Some-at.is c.take_reply.ensures.taken) (sym c.in_default.ensures.error)
