use Rattle.std.proofs.Common.{inl, inr, refl, ap, sym}
use Rattle.brain_session.proofs.Common.{Reaction, row_of}
use Rattle.brain_session.proofs.Takings.{at-command, said-at, if-unread, said-unread, unread-at, done-free, turn-free}
use Rattle.brain_session.proofs.brain.Brain.take.Goals as goal

pub returns-in-Start-clause-row : goal.returns-in-Start-clause-row
unfolding row_of
returns-in-Start-clause-row c = at-command c.start.result c.args.self.now c.start.new.self c.args.command.now _ c.in-Start.is
    c.start.ensures.row

pub returns-in-RectStart-clause-row : goal.returns-in-RectStart-clause-row
unfolding row_of
returns-in-RectStart-clause-row c = at-command c.start-in-RectStart.result c.args.self.now c.start-in-RectStart.new.self c.args.command.now
    _ c.in-RectStart.is c.start-in-RectStart.ensures.row

pub returns-in-Restart-clause-row : goal.returns-in-Restart-clause-row
unfolding row_of
returns-in-Restart-clause-row c = said-at c.args.self.now c.restart.new.self c.args.command.now _ c.restart.result c.in-Restart.is
    c.restart.ensures.row

pub returns-in-About-clause-row : goal.returns-in-About-clause-row
unfolding row_of
returns-in-About-clause-row c = said-at c.args.self.now c.args.self.now c.args.command.now _ _ c.in-About.is refl

pub returns-in-End-clause-row : goal.returns-in-End-clause-row
unfolding row_of
returns-in-End-clause-row c = said-at c.args.self.now c.args.self.now c.args.command.now _ _ c.in-End.is refl

pub returns-in-Rule-clause-row : goal.returns-in-Rule-clause-row
unfolding row_of
returns-in-Rule-clause-row c = said-at c.args.self.now c.rule.new.self c.args.command.now _ c.rule.result c.in-Rule.is c.rule.ensures.row

pub returns-in-Board-clause-row : goal.returns-in-Board-clause-row
unfolding row_of
returns-in-Board-clause-row c = said-at c.args.self.now c.board.new.self c.args.command.now _ c.board.result c.in-Board.is
    c.board.ensures.row

pub returns-in-Stone-clause-row : goal.returns-in-Stone-clause-row
unfolding row_of
returns-in-Stone-clause-row c = said-at c.args.self.now c.stone.new.self c.args.command.now _ c.stone.result c.in-Stone.is
    c.stone.ensures.row

pub returns-in-Done-clause-row : goal.returns-in-Done-clause-row
unfolding row_of
returns-in-Done-clause-row c = at-command c.done.result c.args.self.now c.done.new.self c.args.command.now _ c.in-Done.is c.done.ensures.row

pub returns-in-Begin-clause-row : goal.returns-in-Begin-clause-row
unfolding row_of
returns-in-Begin-clause-row c = at-command c.begin.result c.args.self.now c.begin.new.self c.args.command.now _ c.in-Begin.is
    (if-unread c.begin.result c.args.self.now c.begin.new.self _
    (unread-at c.args.self.now c.args.command.now _ c.in-Begin.is refl c.requires.unspoiled) c.begin.ensures.row)

pub returns-in-Turn-clause-row : goal.returns-in-Turn-clause-row
unfolding row_of
returns-in-Turn-clause-row c = at-command c.turn.result c.args.self.now c.turn.new.self c.args.command.now _ c.in-Turn.is
    (if-unread c.turn.result c.args.self.now c.turn.new.self _
    (unread-at c.args.self.now c.args.command.now _ c.in-Turn.is refl c.requires.unspoiled) c.turn.ensures.row)

pub returns-in-Takeback-clause-row : goal.returns-in-Takeback-clause-row
unfolding row_of
returns-in-Takeback-clause-row c = said-at c.args.self.now c.take_back.new.self c.args.command.now _ c.take_back.result c.in-Takeback.is
    (said-unread c.args.self.now c.take_back.new.self _ c.take_back.result
    (unread-at c.args.self.now c.args.command.now _ c.in-Takeback.is refl c.requires.unspoiled) c.take_back.ensures.row)

pub returns-in-Unknown-clause-row : goal.returns-in-Unknown-clause-row
unfolding row_of
returns-in-Unknown-clause-row c = said-at c.args.self.now c.args.self.now c.args.command.now _ _ c.in-Unknown.is
    (said-unread c.args.self.now c.args.self.now _ _
    (unread-at c.args.self.now c.args.command.now _ c.in-Unknown.is refl c.requires.unspoiled) refl)

pub returns-in-Turn-clause-no_memory : goal.returns-in-Turn-clause-no_memory
returns-in-Turn-clause-no_memory c = turn-free c.turn.result c.args.self.now c.args.command.now c.in-Turn.x c.in-Turn.y c.in-Turn.is
    (unread-at c.args.self.now c.args.command.now _ c.in-Turn.is refl c.requires.unspoiled) c.turn.ensures.following c.turn.ensures.settled

pub returns-in-Done-clause-no_memory : goal.returns-in-Done-clause-no_memory
returns-in-Done-clause-no_memory c = done-free c.done.result c.args.self.now c.args.command.now c.in-Done.is c.done.ensures.begins_none
    c.done.ensures.unsupported

-- a line that says nothing, and one that is no command
pub returns-in-Info-clause-row : goal.returns-in-Info-clause-row
unfolding row_of
returns-in-Info-clause-row c = elim c.in-Info.is [
  | inl info ↦ said-at c.args.self.now c.args.self.now c.args.command.now _ _ info refl
  | inr blank ↦ said-at c.args.self.now c.args.self.now c.args.command.now _ _ blank refl
]

pub returns-in-Malformed-clause-row : goal.returns-in-Malformed-clause-row
unfolding row_of
returns-in-Malformed-clause-row c =
    said-at c.args.self.now c.args.self.now c.args.command.now _ _ c.in-Malformed.is (said-unread c.args.self.now c.args.self.now _ _
    (unread-at c.args.self.now c.args.command.now _ c.in-Malformed.is refl c.requires.unspoiled)
    (ap (λ (r : Reaction). record { reaction = r; next = c.args.self.now }) (sym c.error.ensures.says)))
