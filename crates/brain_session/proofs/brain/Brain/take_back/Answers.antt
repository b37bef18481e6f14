use Rattle.std.proofs.Common.{◌≡◌, ap, subst, ◌∙◌, is_some}
use Rattle.brain_session.proofs.Common.{State, IsPlace, place_in}
use Rattle.brain_session.proofs.Takings.{placed-running}
use Rattle.brain_session.proofs.brain.Brain.take_back.Goals as goal

pub invariant_of-self-2 : goal.invariant_of-self-2
invariant_of-self-2 c =
    let s : State = record {
      wish = c.self.inside.wish;
      held = c.self.inside.held;
      place = place_in c.self.inside.session_board;
      batch = c.self.inside.batch;
    } in
    let view : s ≡ c.args.self.now = c.self.view_is in
    placed-running s c.take_back.new.self c.self.invariant.held (ap (λ (w : State). is_some w.batch) view ∙ c.requires.unread)
    (c.take_back.ensures.place s.held (subst (IsPlace s.held) (ap place_in c.in-Some.is) c.self.invariant.place))

pub returns-clause-running : goal.returns-clause-running
returns-clause-running c =
    let s : State = record {
      wish = c.self.inside.wish;
      held = c.self.inside.held;
      place = place_in c.self.inside.session_board;
      batch = c.self.inside.batch;
    } in
    let view : s ≡ c.args.self.now = c.self.view_is in
    placed-running s c.take_back.new.self c.self.invariant.held (ap (λ (w : State). is_some w.batch) view ∙ c.requires.unread)
    (c.take_back.ensures.place s.held (subst (IsPlace s.held) (ap place_in c.in-Some.is) c.self.invariant.place))
