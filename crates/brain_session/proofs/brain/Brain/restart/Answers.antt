use Rattle.std.proofs.Common.{refl, sym, subst, IsNone}
use Rattle.brain_session.proofs.Common.{State}
use Rattle.brain_session.proofs.Takings.{placed-running}
use Rattle.brain_session.proofs.brain.Brain.restart.Goals as goal

pub invariant_of-self-2 : goal.invariant_of-self-2
invariant_of-self-2 c =
    let s : State = record { wish = c.self.inside.wish; held = c.self.inside.held; place = c.clear.new.self; batch = c.end.new.self } in
    placed-running s c.clear.new.self c.self.invariant.held
    (subst IsNone (sym c.end.ensures.ended) refl) (c.clear.ensures.place c.self.inside.held)

pub returns-clause-running : goal.returns-clause-running
returns-clause-running c =
    let s : State = record { wish = c.self.inside.wish; held = c.self.inside.held; place = c.clear.new.self; batch = c.end.new.self } in
    placed-running s c.clear.new.self c.self.invariant.held
    (subst IsNone (sym c.end.ensures.ended) refl) (c.clear.ensures.place c.self.inside.held)
