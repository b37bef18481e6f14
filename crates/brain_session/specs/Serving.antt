-- How a session over devices ends: what was written then, and in which state the brain is.
use Rattle.brain_session.specs.declared.Reaction.{Reaction}
use Rattle.std.specs.Prelude.{◌≡◌, ℕ, ◌<◌, ◌≤◌, Bool, false, List, [], ◌∷◌, ◌++◌, length, take, Option, Some, Contains, ◌⊎◌, true, map}
use Rattle.std.specs.Io.KnownBytes.{IsAtEnd}
use Rattle.renju_io.specs.Asked.{IsAsked, IsAskedOnce}
use Rattle.renju_io.specs.Told.{Gives, Takes, TakesPart}
use Rattle.renju_io.specs.Lines.{LineText, ReaderState, TakesLines, whole_lines}
use Rattle.renju_io.specs.declared.TheConstants.{MAX_SESSION_BYTES}
use Rattle.gomocup_text.specs.Commands.{commands, command_told}
use Rattle.gomocup_text.specs.Answers.{answer_text}
use Rattle.gomocup_text.specs.declared.Command.{Command}
use Rattle.gomocup_text.specs.declared.Command.TheVariants.{End}
use Rattle.brain_session.specs.declared.Reaction.TheVariants.{Says, Silent, Ends}
use Rattle.gomocup_text.specs.declared.Answer.{Answer}
use Rattle.brain_session.specs.States.{State}
use Rattle.brain_session.specs.Steps.{brain_step}
use Rattle.brain_session.specs.Sessions.{answers_from, answer_texts, state_after}
use Rattle.brain_session.specs.Memory.{takes_none}

-- the reader took bytes of the source, and told the lines of these commands
pub record TakesCommands (old : ReaderState) (left : Option (List ℕ)) (told : List Command) (new : ReaderState)
    (left_after : Option (List ℕ)) : Type 0 where
  pub lines : List LineText
  pub takes : TakesLines old left lines new left_after
  pub are : told ≡ map command_told lines

-- what a sink shows: the bytes that were written, where it tells them, and how often it was asked
pub record Output : Type 0 where
  pub written : Option (List ℕ)
  pub asked : ℕ

-- what a sink shows, by what it tells and counts in a state
abbrev pub output_of : {Sink : Type 0} → (Sink → Option (List ℕ)) → (Sink → ℕ) → Sink → Output
output_of written asked sink = record { written = written sink; asked = asked sink }

-- the answer of the reaction was written by one write, if it is one, and the session goes on, unless it ends
abbrev pub IsWritten : Reaction → Bool → Output → Output → Type 0
IsWritten Silent goes_on old new = (goes_on ≡ true) × (new ≡ old)
IsWritten (Says a) goes_on old new = (goes_on ≡ true) × Takes old.written (answer_text a) new.written × IsAskedOnce old.asked new.asked
IsWritten Ends goes_on old new = (goes_on ≡ false) × (new ≡ old)

-- the brain stepped the command, and its answer was written, if it has one
pub record IsAnswered (old : State) (c : Command) (goes_on : Bool) (new : State) (before after : Output) : Type 0 where
  pub state : new ≡ (brain_step old c).next
  pub wrote : IsWritten (brain_step old c).reaction goes_on before after

-- the brain stepped the command, and of its answer a part was written, by one write
pub record IsHalfAnswered (old : State) (c : Command) (new : State) (before after : Output) : Type 0 where
  pub state : new ≡ (brain_step old c).next
  pub answer : Answer
  pub says : (brain_step old c).reaction ≡ Says answer
  pub part : TakesPart before.written (answer_text answer) after.written
  pub once : IsAskedOnce before.asked after.asked

-- a brain and a sink before and after a session
pub record Served : Type 0 where
  pub before : State
  pub after : State
  pub output_before : Output
  pub output_after : Output

-- a session from one state of a brain and of a sink to another
abbrev pub served : (before after : State) → (output_before output_after : Output) → Served
served before after output_before output_after =
    record { before = before; after = after; output_before = output_before; output_after = output_after }

-- these answers were written, each by one write
pub record Writes (answers : List Answer) (old new : Output) : Type 0 where
  pub wrote : Takes old.written (answer_texts answers) new.written
  pub each : IsAsked (length answers) old.asked new.asked

-- the brain stepped these commands, up to END, and their answers were written, each by one write
pub record HasAnswered (v : Served) (stepped : List Command) : Type 0 where
  pub state : v.after ≡ state_after v.before stepped
  pub writes : Writes (answers_from v.before stepped) v.output_before v.output_after

-- none of these commands is END
abbrev pub HasNoEnd : List Command → Type 0
HasNoEnd asked = Contains asked End → ⊥

-- the source gave some bytes, no more than a session may have. END is among their whole lines, or the input has ended.
pub record IsReadToEnd (left left_after : Option (List ℕ)) : Type 0 where
  pub given : List ℕ
  pub gives : Gives left given left_after
  pub few : length given ≤ MAX_SESSION_BYTES
  pub ends : Contains (commands (whole_lines given)) End ⊎ IsAtEnd left_after

-- a read failed after the source gave some bytes: their whole lines, none of which is END, were answered, and no more
pub record StopsAtRead (v : Served) (left left_after : Option (List ℕ)) : Type 0 where
  pub given : List ℕ
  pub gives : Gives left given left_after
  pub answered : HasAnswered v (commands (whole_lines given))
  pub no_end : HasNoEnd (commands (whole_lines given))

-- a write failed: the commands before this one, none of which is END, were answered, the brain stepped this one too, and of its
-- answer a part was written, by one write
pub record StopsAtWrite (v : Served) (asked : List Command) : Type 0 where
  pub earlier : List Command
  pub command : Command
  pub later : List Command
  pub among : asked ≡ earlier ++ command ∷ later
  pub no_end : HasNoEnd earlier
  pub answer : Answer
  pub says : (brain_step (state_after v.before earlier) command).reaction ≡ Says answer
  pub state : v.after ≡ state_after v.before (earlier ++ command ∷ [])
  pub written : Output
  pub writes : Writes (answers_from v.before earlier) v.output_before written
  pub part : TakesPart written.written (answer_text answer) v.output_after.written
  pub once : IsAskedOnce written.asked v.output_after.asked

-- The last read gave the final ones of the bytes that were given, and the lines that end within the bytes before it are the first of
-- those answered.
pub record ReadsAfterAnswers (answered : List Command) (left left_after : Option (List ℕ)) (last_after : Option ℕ) : Type 0 where
  pub before : List ℕ
  pub final : List ℕ
  pub gives : Gives left (before ++ final) left_after
  pub last : last_after ≡ Some (length final)
  pub later : List Command
  pub among : answered ≡ commands (whole_lines before) ++ later

-- a write failed, and no read was made once the line that it was to answer had ended
pub record StopsInTurn (v : Served) (asked : List Command) (left left_after : Option (List ℕ)) (last_after : Option ℕ) : Type 0 where
  pub stops : StopsAtWrite v asked
  pub reads : ReadsAfterAnswers stops.earlier left left_after last_after

-- memory ran out at this command: those before it, none of which is END, were answered, and it is none that takes no memory
pub record StopsAtStep (v : Served) (asked : List Command) : Type 0 where
  pub earlier : List Command
  pub command : Command
  pub later : List Command
  pub among : asked ≡ earlier ++ command ∷ later
  pub no_end : HasNoEnd earlier
  pub answered : HasAnswered v earlier
  pub needs_memory : takes_none (state_after v.before earlier) command ≡ false

-- the lines that end within the bytes that a session may have
abbrev pub within_limit : List ℕ → List ℕ
within_limit bytes = whole_lines (take MAX_SESSION_BYTES bytes)

-- the input has more bytes than a session may have, and END is not among the lines that end within those
pub record IsTooLong (left : List ℕ) : Type 0 where
  pub many : MAX_SESSION_BYTES < length left
  pub no_end : HasNoEnd (commands (within_limit left))
