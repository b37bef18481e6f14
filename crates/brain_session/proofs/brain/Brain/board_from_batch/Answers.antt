use Rattle.std.proofs.Common.{◌≡◌, ap, subst, None, IfSome}
use Rattle.brain_session.proofs.Common.{State, game_from, board_in, IsBegun, place_in}
use Rattle.brain_session.proofs.Takings.{none-begun}
use Rattle.brain_session.proofs.brain.Brain.board_from_batch.Goals as goal

pub returns-in_default-clause-begun : goal.returns-in_default-clause-begun
returns-in_default-clause-begun c =
    let s : State = record {
      wish = c.self.inside.wish;
      held = c.self.inside.held;
      place = place_in c.self.inside.session_board;
      batch = c.self.inside.batch;
    } in
    let view : s ≡ c.args.self.now = c.self.view_is in
    subst (λ (w : State). IfSome w.batch (λ b. IsBegun w.held (game_from c.args.kind (board_in w.place) b) None)) view
    (none-begun s.held c.args.kind s.place s.batch (ap place_in c.in_default.is) c.self.invariant.batch)
