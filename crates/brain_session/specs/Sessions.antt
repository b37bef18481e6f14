-- Whole sessions: what the brain answers to one command after another.
use Rattle.std.specs.Prelude.{ℕ, List, [], ◌∷◌}
use Rattle.std.specs.List.{flat_map}
use Rattle.gomocup_text.specs.Commands.{commands}
use Rattle.gomocup_text.specs.Answers.{answer_text}
use Rattle.gomocup_text.specs.declared.Command.{Command}
use Rattle.gomocup_text.specs.declared.Answer.{Answer}
use Rattle.brain_session.specs.declared.Reaction.{Reaction}
use Rattle.brain_session.specs.declared.Reaction.TheVariants.{Silent, Says, Ends}
use Rattle.brain_session.specs.States.{State}
use Rattle.brain_session.specs.Steps.{brain_step}

-- the answer of this reaction, if it is one, and then these, unless it ends the session
abbrev pub then_answers : Reaction → List Answer → List Answer
then_answers Silent later = later
then_answers (Says a) later = a ∷ later
then_answers Ends later = []

-- the answers to these commands from this state on, up to END
unfoldable pub answers_from : State → List Command → List Answer
answers_from s [] = []
answers_from s (c ∷ cs) = let step = brain_step s c in then_answers step.reaction (answers_from step.next cs)

-- the state after a reaction: the later one, unless it ends the session
abbrev pub then_state : Reaction → State → State → State
then_state Silent s later = later
then_state (Says a) s later = later
then_state Ends s later = s

-- the state after these commands from this one on, up to END
unfoldable pub state_after : State → List Command → State
state_after s [] = s
state_after s (c ∷ cs) = let step = brain_step s c in then_state step.reaction step.next (state_after step.next cs)

-- the texts of answers, one after another
abbrev pub answer_texts : List Answer → List ℕ
answer_texts answers = flat_map answer_text answers

-- the text of a session over these bytes from this state on: the lines of its answers, up to END or the last line
abbrev pub session_text : State → List ℕ → List ℕ
session_text s bytes = answer_texts (answers_from s (commands bytes))
