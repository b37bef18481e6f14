use Rattle.std.proofs.Common.{◌≡◌, ap, sym, ◌∙◌, Option, option_map}
use Rattle.brain_session.proofs.Common.{Batch, State, spoiled, Step, place_in}
use Rattle.brain_session.proofs.Takings.{spoiled-step}
use Rattle.brain_session.proofs.brain.Brain.step.Goals as goal

pub returns-then-is_spoiled_by-clause-reaction : goal.returns-then-is_spoiled_by-clause-reaction
returns-then-is_spoiled_by-clause-reaction c = ap (λ (w : Step). w.reaction)
    (sym (spoiled-step c.args.self.now c.args.command.now (sym c.is_spoiled_by.ensures.spoiled ∙ c.if-is_spoiled_by.true)))

pub returns-then-is_spoiled_by-clause-next : goal.returns-then-is_spoiled_by-clause-next
returns-then-is_spoiled_by-clause-next c =
    let s : State = record {
      wish = c.self.inside.wish;
      held = c.self.inside.held;
      place = place_in c.self.inside.session_board;
      batch = c.self.inside.batch;
    } in
    let view : s ≡ c.args.self.now = c.self.view_is in
    ap (λ (o : Option Batch). record s { batch = o }) c.spoil.ensures.spoiled
    ∙ ap (λ (w : State). record w { batch = option_map spoiled w.batch }) view ∙ ap (λ (w : Step). w.next)
    (sym (spoiled-step c.args.self.now c.args.command.now (sym c.is_spoiled_by.ensures.spoiled ∙ c.if-is_spoiled_by.true)))
