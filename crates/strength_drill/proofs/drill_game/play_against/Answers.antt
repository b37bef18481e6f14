use Rattle.std.proofs.Common.{◌≡◌, refl, sym, ap, ◌∙◌}
use Rattle.strength_drill.proofs.Common.{Grid, after, Done, State, new_brain, brain_step, move_said, position_lines, told_all, drawn_move}
use Rattle.gomocup_text.specs.declared.Command.{Command}
use Rattle.strength_drill.proofs.DrillCourse.{told-as, opened-as, turn-as, course-first, course-won, course-one, course-ended, course-next}
use Rattle.strength_drill.proofs.DrillCourse.{course-on}
use Rattle.strength_drill.proofs.drill_game.play_against.Goals as goal

-- the brain says its first move
pub unreachable-requires : goal.unreachable-requires
unreachable-requires g c =
    let told = told-as c.args.brain.now.held g.R.Rule.KIND c.KIND.result c.args.position.now c.board.result.now c.args.brain.now
    c.tell_position.new.brain c.in_ok-tell_position.ensures.told c.requires.new c.KIND.ensures c.board.ensures.board in
    let opened = opened-as c.args.brain.now.held g.R.Rule.KIND c.args.position.now c.tell_position.new.brain c.step.new.self c.requires.wide
    c.requires.high c.side.ensures.lawful c.requires.held told c.in_ok-step.ensures.next c.step.ensures.running.held in
    let said = ap move_said (c.in_ok-step.ensures.reaction ∙ opened.says) in
    let none = c.in_default.is in
    let is = c.move_said.ensures.said in
    cc

pub loop-turns-init : goal.loop-turns-init
loop-turns-init g c =
    let told : c.tell_position.new.brain ≡ told_all (new_brain c.args.brain.now.held) (position_lines g.R.Rule.KIND c.args.position.now) =
    told-as c.args.brain.now.held g.R.Rule.KIND c.KIND.result c.args.position.now c.board.result.now c.args.brain.now
    c.tell_position.new.brain c.in_ok-tell_position.ensures.told c.requires.new c.KIND.ensures c.board.ensures.board in
    let opened = opened-as c.args.brain.now.held g.R.Rule.KIND c.args.position.now c.tell_position.new.brain c.step.new.self c.requires.wide
    c.requires.high c.side.ensures.lawful c.requires.held told c.in_ok-step.ensures.next c.step.ensures.running.held in
    let opened_there = rw told at opened in
    let says = ap (λ (s : State). move_said (brain_step s Done).reaction) (sym told) ∙ ap move_said (sym c.in_ok-step.ensures.reaction)
    ∙ sym c.move_said.ensures.said ∙ c.in-Some.is in
    course-first c.args.brain.now.held g.R.Rule.KIND c.args.position.now c.args.draws.now.number
    (brain_step (told_all (new_brain c.args.brain.now.held) (position_lines g.R.Rule.KIND c.args.position.now)) Done) c.step.new.self
    c.args.draws.now.number c.args.position.now c.in-Some.first refl opened_there
    (c.in_ok-step.ensures.next ∙ ap (λ (s : State). (brain_step s Done).next) told) refl refl says

-- a move that wins ends the game
pub returns-in-Wins-clause-played : goal.returns-in-Wins-clause-played
returns-in-Wins-clause-played g c =
    let wins = sym c.outcome.ensures.outcome ∙ c.in-Wins.is in
    course-won c.args.brain.now.held g.R.Rule.KIND c.args.position.now c.args.draws.now.number c.loop-turns.brain c.loop-turns.draws.number
    c.loop-turns.position c.loop-turns.at c.loop-turns.turns c.loop-turns.invariant wins

-- a move by the table wins or goes on
pub returns-in_default-outcome : goal.returns-in_default-outcome
returns-in_default-outcome g c =
    absurd (course-one c.args.brain.now.held g.R.Rule.KIND c.args.position.now c.args.draws.now.number c.loop-turns.brain
    c.loop-turns.draws.number c.loop-turns.position c.loop-turns.at c.loop-turns.turns c.loop-turns.invariant
    (λ e. c.in_default-outcome.not-Wins (c.outcome.ensures.outcome ∙ e))
    (λ e. c.in_default-outcome.not-GoesOn (c.outcome.ensures.outcome ∙ e)))

-- one that is answered by no move was a foul
pub returns-in_default-move_said-clause-played : goal.returns-in_default-move_said-clause-played
returns-in_default-move_said-clause-played g c =
    let turn = turn-as c.from.result c.from-in-loop-turns.result c.drawn_move-q.result c.from.ensures c.from-in-loop-turns.ensures in
    let state = c.in_ok-reaction.ensures.next ∙ ap (λ (a : Command). (brain_step c.loop-turns.brain a).next) turn in
    let reaction = c.in_ok-reaction.ensures.reaction ∙ ap (λ (a : Command). (brain_step c.loop-turns.brain a).reaction) turn in
    let on = sym c.outcome.ensures.outcome ∙ c.in-GoesOn.is in
    let board = c.play.ensures.played ∙ ap (λ (x : Grid). after x c.loop-turns.at) c.outcome.ensures.same in
    let point = c.drawn_move-q.ensures.drawn ∙ ap (λ (x : Grid). drawn_move x c.draw.result) c.board-in-loop-turns.ensures.board in
    let none = sym c.move_said-in-loop-turns.ensures.said ∙ c.in_default-move_said.is in
    rw c.says_foul-won.ensures.foul
    (course-ended c.args.brain.now.held g.R.Rule.KIND c.args.position.now c.args.draws.now.number c.loop-turns.brain
    c.loop-turns.draws.number c.loop-turns.position c.loop-turns.at c.loop-turns.turns c.loop-turns.invariant on c.play.new.self board
    c.draw.new.self.number c.draw.result c.draw.ensures.next c.draw.ensures.drawn c.drawn_move-q.result point
    c.step-in-loop-turns.new.self c.in_ok-reaction.reaction state reaction none)

pub play-requires-in-loop-turns : goal.play-requires-in-loop-turns
play-requires-in-loop-turns g c =
    let turn = turn-as c.from.result c.from-in-loop-turns.result c.drawn_move-q.result c.from.ensures c.from-in-loop-turns.ensures in
    let state = c.in_ok-reaction.ensures.next ∙ ap (λ (a : Command). (brain_step c.loop-turns.brain a).next) turn in
    let reaction = c.in_ok-reaction.ensures.reaction ∙ ap (λ (a : Command). (brain_step c.loop-turns.brain a).reaction) turn in
    let on = sym c.outcome.ensures.outcome ∙ c.in-GoesOn.is in
    let board = c.play.ensures.played ∙ ap (λ (x : Grid). after x c.loop-turns.at) c.outcome.ensures.same in
    let point = c.drawn_move-q.ensures.drawn ∙ ap (λ (x : Grid). drawn_move x c.draw.result) c.board-in-loop-turns.ensures.board in
    let some = sym c.move_said-in-loop-turns.ensures.said ∙ c.in-Some-move_said.is in
    record {
      goes_on = course-on c.args.brain.now.held g.R.Rule.KIND c.args.position.now c.args.draws.now.number c.loop-turns.brain
          c.loop-turns.draws.number c.loop-turns.position c.loop-turns.at c.loop-turns.turns c.loop-turns.invariant on
          c.play.new.self board c.draw.new.self.number c.draw.result c.draw.ensures.next c.draw.ensures.drawn c.drawn_move-q.result point
          c.step-in-loop-turns.new.self c.in_ok-reaction.reaction state reaction c.in-Some-move_said.next some;
    }

pub loop-turns-preserved : goal.loop-turns-preserved
loop-turns-preserved g c =
    let turn = turn-as c.from.result c.from-in-loop-turns.result c.drawn_move-q.result c.from.ensures c.from-in-loop-turns.ensures in
    let state = c.in_ok-reaction.ensures.next ∙ ap (λ (a : Command). (brain_step c.loop-turns.brain a).next) turn in
    let reaction = c.in_ok-reaction.ensures.reaction ∙ ap (λ (a : Command). (brain_step c.loop-turns.brain a).reaction) turn in
    let on = sym c.outcome.ensures.outcome ∙ c.in-GoesOn.is in
    let board = c.play.ensures.played ∙ ap (λ (x : Grid). after x c.loop-turns.at) c.outcome.ensures.same in
    let point = c.drawn_move-q.ensures.drawn ∙ ap (λ (x : Grid). drawn_move x c.draw.result) c.board-in-loop-turns.ensures.board in
    let some = sym c.move_said-in-loop-turns.ensures.said ∙ c.in-Some-move_said.is in
    rw c.play-in-loop-turns.ensures.played
    (course-next c.args.brain.now.held g.R.Rule.KIND c.args.position.now c.args.draws.now.number c.loop-turns.brain
    c.loop-turns.draws.number c.loop-turns.position c.loop-turns.at c.loop-turns.turns c.loop-turns.invariant on c.play.new.self board
    c.draw.new.self.number c.draw.result c.draw.ensures.next c.draw.ensures.drawn c.drawn_move-q.result point
    c.step-in-loop-turns.new.self c.in_ok-reaction.reaction state reaction c.in-Some-move_said.next some)
