use Rattle.std.proofs.Common.{◌≡◌, sym, subst}
use Rattle.brain_session.proofs.Common.{State, point_at, board_in, IsPointOn, place_in}
use Rattle.brain_session.proofs.BatchRoom.{room-for}
use Rattle.brain_session.proofs.Takings.{stone-running}
use Rattle.brain_session.proofs.brain.Brain.stone.Goals as goal

pub add-requires-clause-room : goal.add-requires-clause-room
add-requires-clause-room c =
    let s : State = record {
      wish = c.self.inside.wish;
      held = c.self.inside.held;
      place = place_in c.self.inside.session_board;
      batch = c.self.inside.batch;
    } in
    let view : s ≡ c.args.self.now = c.self.view_is in
    room-for s (point_at c.args.x c.args.y) c.point-at.result c.self.invariant
    (subst (λ (w : State). IsPointOn (board_in w.place) (point_at c.args.x c.args.y) c.point-at.result) (sym view) c.point-at.ensures.point)

pub invariant_of-self : goal.invariant_of-self
invariant_of-self c =
    let s : State = record {
      wish = c.self.inside.wish;
      held = c.self.inside.held;
      place = place_in c.self.inside.session_board;
      batch = c.self.inside.batch;
    } in
    let view : s ≡ c.args.self.now = c.self.view_is in
    stone-running s (point_at c.args.x c.args.y) c.point-at.result c.args.field c.add.new.self c.self.invariant
    (subst (λ (w : State). IsPointOn (board_in w.place) (point_at c.args.x c.args.y) c.point-at.result) (sym view) c.point-at.ensures.point)
    c.add.ensures.added

pub returns-clause-running : goal.returns-clause-running
returns-clause-running c =
    let s : State = record {
      wish = c.self.inside.wish;
      held = c.self.inside.held;
      place = place_in c.self.inside.session_board;
      batch = c.self.inside.batch;
    } in
    let view : s ≡ c.args.self.now = c.self.view_is in
    stone-running s (point_at c.args.x c.args.y) c.point-at.result c.args.field c.add.new.self c.self.invariant
    (subst (λ (w : State). IsPointOn (board_in w.place) (point_at c.args.x c.args.y) c.point-at.result) (sym view) c.point-at.ensures.point)
    c.add.ensures.added
