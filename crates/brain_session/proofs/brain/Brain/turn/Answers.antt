use Rattle.std.proofs.Common.{◌≡◌, ap, sym, subst, ◌∙◌, IsNone, IfOk, is_some}
use Rattle.brain_session.proofs.Common.{Place, State, point_at, board_in, turn_row, IsPointOn, Takes, place_in}
use Rattle.brain_session.proofs.Takings.{turn-takes}
use Rattle.brain_session.proofs.brain.Brain.turn.Goals as goal

pub returns-clause-row : goal.returns-clause-row
returns-clause-row c =
    let s : State = record {
      wish = c.self.inside.wish;
      held = c.self.inside.held;
      place = place_in c.self.inside.session_board;
      batch = c.self.inside.batch;
    } in
    let view : s ≡ c.args.self.now = c.self.view_is in
    let p = point_at c.args.x c.args.y in
    let here : s.place ≡ c.in-Some.session_board = ap place_in c.in-Some.is in
    let none : IsNone s.batch = ap (λ (w : State). is_some w.batch) view ∙ c.requires.unread in
    let point : IsPointOn (board_in c.in-Some.session_board) p c.point-at.result = subst
    (λ (w : Place). IsPointOn (board_in w) p c.point-at.result) (ap (λ (w : State). w.place) (sym view) ∙ here) c.point-at.ensures.point in
    subst (λ (w : State). IfOk c.turn.result (λ r. Takes (turn_row w w.place p) w r (record s { place = c.turn.new.self }))) view
    (turn-takes c.turn.result s c.in-Some.session_board c.turn.new.self c.rule_of.result c.point-at.result p here
    c.rule_of.ensures.rule none point c.turn.ensures.row)
