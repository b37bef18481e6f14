use Rattle.std.proofs.Common.{◌≡◌, true, ap, sym, subst, ◌∙◌, Option, Some, IfSome, is_some}
use Rattle.brain_session.proofs.Common.{Batch, Place, State, game_from, board_in, done_row, placed, rule_of, IsBegun, Takes, place_in}
use Rattle.brain_session.specs.declared.Reaction.{Reaction}
use Rattle.brain_session.proofs.Takings.{done-row}
use Rattle.brain_session.proofs.brain.Brain.done.Goals as goal

pub returns-in-Some-2-clause-row : goal.returns-in-Some-2-clause-row
returns-in-Some-2-clause-row c =
    let s : State = record {
      wish = c.self.inside.wish;
      held = c.self.inside.held;
      place = place_in c.self.inside.session_board;
      batch = c.self.inside.batch;
    } in
    let view : s ≡ c.args.self.now = c.self.view_is in
    let t : State = c.args.self.now in
    let place = c.in-Some-2.session_board in
    let r = c.in-Some-2.reaction in
    let read : is_some t.batch ≡ true =
    ap (λ (w : State). is_some w.batch) (sym view) ∙ sym c.is_read.ensures.read ∙ c.if-not-is_read.false in
    let by_wish : Some c.in-Some.kind ≡ rule_of t.wish = c.in-Some.ensures.rule ∙ ap (λ (w : State). rule_of w.wish) view in
    let begun : IfSome t.batch (λ b. IsBegun t.held (game_from c.in-Some.kind (board_in t.place) b) (Some (place, r))) =
    subst (λ (o : Option (Place × Reaction)). IfSome t.batch (λ b. IsBegun t.held (game_from c.in-Some.kind (board_in t.place) b) o))
    c.in-Some-2.is c.in_ok-session_board.ensures.begun in
    let there : placed t place ≡ record s { place = place; batch = c.end-in-Some-2.new.self } = ap (λ (w : State). placed w place)
    (sym view) ∙ ap (λ (o : Option Batch). record s { place = place; batch = o }) (sym c.end-in-Some-2.ensures.ended) in
    subst (Takes (done_row t t.batch) t r) there (done-row t c.in-Some.kind r place read by_wish begun)
