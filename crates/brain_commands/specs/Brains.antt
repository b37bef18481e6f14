-- The command `brain`: its words, how its sessions end, and what comes of its FILE.
use Rattle.std.specs.Prelude.{◌≡◌, ◌⊎◌, ℕ, ◌+◌, ◌≤◌, List, [], ◌∷◌, codes, length, Option, Some, IfSome}
use Rattle.std.specs.Prelude.{Contains, Result, Ok, Err}
use Rattle.strategy_checker.specs.HeldRoots.{HeldTable}
use Rattle.renju_io.specs.Told.{Takes}
use Rattle.renju_io.specs.declared.TheConstants.{MAX_INPUT_BYTES, MAX_SESSION_BYTES}
use Rattle.gomocup_text.specs.Commands.{commands}
use Rattle.gomocup_text.specs.declared.Command.TheVariants.{End}
use Rattle.brain_session.specs.States.{State, new_brain}
use Rattle.brain_session.specs.Sessions.{session_text}
use Rattle.brain_session.specs.Serving.{Output, Served, served, HasAnswered, IsReadToEnd, StopsAtRead, StopsInTurn, StopsAtStep}
use Rattle.brain_session.specs.Serving.{within_limit, IsTooLong}
use Rattle.command_base.specs.declared.status.Status.{Status}
use Rattle.command_base.specs.declared.status.Status.TheVariants.{Done, Usage, ShelfFault, RefusedText, RefusedTable, Spent, Memory}
use Rattle.command_base.specs.declared.status.Status.TheVariants.{ReadFault, WriteFault, NotFound, TooLong, Full}
use Rattle.command_base.specs.Statuses.{status_number}
use Rattle.command_base.specs.Runs.{Change, Run, HasFailed, IsUnasked, IsAskedOnly, IsAskedNoMore, IsUnbegun}
use Rattle.command_base.specs.Forms.{Command}
use Rattle.file_loading.specs.HeldFiles.{IsFileName, HeldFile, held_by, IsLoaded, FileSays, IsHeldText, TellsFile, GivesHeld}
use Rattle.file_loading.specs.HeldFiles.{IsUnhinderedShelf}
use Rattle.brain_session.specs.declared.sessions.ServeError.{ServeError}
use Rattle.brain_session.specs.declared.sessions.ServeError.TheVariants.{ReadFailed, WriteFailed, Exhausted, Memory as NoMemory}

-- the words `brain`
abbrev pub brain_words : List (List ℕ)
brain_words = codes "brain" ∷ []

-- the words `brain FILE`
abbrev pub brain_with_words : List ℕ → List (List ℕ)
brain_with_words name = codes "brain" ∷ name ∷ []

-- Sessions

-- what a brain without FILE holds: no table and no root
abbrev pub nothing_held : HeldTable
nothing_held = record { table = []; roots = [] }

-- what the output shows before the run
abbrev pub shown_before : Change (Option (List ℕ)) → Output
shown_before output = record { written = output.before; asked = output.asked_before }

-- what it shows after the run
abbrev pub shown_after : Change (Option (List ℕ)) → Output
shown_after output = record { written = output.after; asked = output.asked_after }

-- the session of a brain that is new and holds this, and is in this state at its end
abbrev pub session_of : HeldTable → State → Change (Option (List ℕ)) → Served
session_of held last output = served (new_brain held) last (shown_before output) (shown_after output)

-- How a session ends with a status. Done: each line up to END or the end of input is answered. ReadFault: the whole lines of the
-- bytes that the input gave, and no more. WriteFault: each line before the one whose answer was not written whole, and no read was
-- made once that line had ended. TooLong: the lines that end within the bytes that a session may have, none of which is END, and the
-- input has more bytes, of which no more is read than shows that. Memory: each line before one at which memory ran out.
abbrev pub EndsSession : Served → (input output : Change (Option (List ℕ))) → Option ℕ → Status → Type 0
EndsSession v input output last_read Done =
    IfSome input.before (λ bytes. HasAnswered v (commands bytes)) × IsReadToEnd input.before input.after
EndsSession v input output last_read ReadFault = HasFailed input × StopsAtRead v input.before input.after
EndsSession v input output last_read WriteFault =
    HasFailed output × IfSome input.before (λ bytes. StopsInTurn v (commands bytes) input.before input.after last_read)
EndsSession v input output last_read TooLong =
    IfSome input.before (λ bytes. HasAnswered v (commands (within_limit bytes)) × IsTooLong bytes)
    × IsAskedNoMore (MAX_SESSION_BYTES + 1) input
EndsSession v input output last_read Memory = IfSome input.before (λ bytes. StopsAtStep v (commands bytes))
EndsSession v input output last_read Usage = ⊥
EndsSession v input output last_read ShelfFault = ⊥
EndsSession v input output last_read RefusedText = ⊥
EndsSession v input output last_read RefusedTable = ⊥
EndsSession v input output last_read Spent = ⊥
EndsSession v input output last_read NotFound = ⊥
EndsSession v input output last_read Full = ⊥

-- a brain that holds this served the input, of which the last read that did not fail gave so many bytes
pub record IsSession (held : HeldTable) (input output : Change (Option (List ℕ))) (last_read : Option ℕ) (number : ℕ) : Type 0 where
  pub status : Status
  pub last : State
  pub ends : number ≡ status_number status
  pub how : EndsSession (session_of held last output) input output last_read status

-- the status of a session that ended so
abbrev pub session_status : Result (Unit {0}) ServeError → Status
session_status (Ok done) = Done
session_status (Err ReadFailed) = ReadFault
session_status (Err WriteFailed) = WriteFault
session_status (Err Exhausted) = TooLong
session_status (Err NoMemory) = Memory

-- how a brain ends that is to hold this
abbrev pub EndsBrain : HeldTable → (input output : Change (Option (List ℕ))) → Option ℕ → ℕ → Type 0
EndsBrain held input output last_read number = IsSession held input output last_read number ⊎ IsUnbegun input output number

-- What a session needs to come to its end: an input that tells these bytes, which are not too many or have END before they are,
-- and devices that count no fault in the run.
pub record IsUnhinderedSession (run : Run) (bytes : List ℕ) : Type 0 where
  pub told : run.input.before ≡ Some bytes
  pub fits : (length bytes ≤ MAX_SESSION_BYTES) ⊎ Contains (commands (within_limit bytes)) End
  pub input_sound : HasFailed run.input → ⊥
  pub output_sound : HasFailed run.output → ⊥

-- the brain answered each line up to END or the end of input, and that was written whole
pub record HasServed (held : HeldTable) (run : Run) (bytes : List ℕ) : Type 0 where
  pub ends : run.status ≡ status_number Done
  pub whole : Takes run.output.before (session_text (new_brain held) bytes) run.output.after

-- a brain that holds this serves its input to the end where nothing hinders it, or memory ran out
abbrev pub AnswersAll : HeldTable → Run → Type 0
AnswersAll held run = (bytes : List ℕ) → IsUnhinderedSession run bytes → HasServed held run bytes ⊎ (run.status ≡ status_number Memory)

-- `brain`

-- what `brain` does in a run: it holds nothing, and leaves the shelf unasked
pub record IsBrain (run : Run) : Type 0 where
  pub shelf : IsUnasked run.shelf
  pub ends : EndsBrain nothing_held run.input run.output run.last run.status

-- `brain`, which needs nothing more than its session does
abbrev pub brain_command : Command
brain_command = record {
  words = brain_words;
  in_range = Unit {0};
  Does = IsBrain;
  Answers = AnswersAll nothing_held;
}

-- `brain FILE`

-- the bytes of FILE give something to be held, and a brain that holds it served the input
pub record PlaysByFile (name : List ℕ) (run : Run) : Type 0 where
  pub bytes : List ℕ
  pub loaded : IsLoaded run.shelf name bytes
  pub fits : length bytes ≤ MAX_INPUT_BYTES
  pub file : HeldFile
  pub at : IsHeldText file bytes
  pub session : IsSession (held_by file) run.input run.output run.last run.status

-- What `brain FILE` does in a run: it asks the shelf once, and plays by what the file gives, or tells why it does not, or memory ran
-- out before.
pub record IsBrainWith (name : List ℕ) (run : Run) : Type 0 where
  pub once : IsAskedOnly run.shelf
  pub ends : PlaysByFile name run ⊎ TellsFile FileSays name run ⊎ IsUnbegun run.input run.output run.status

-- `brain FILE`, which serves by what each file gives to be held
abbrev pub brain_with_command : List ℕ → Command
brain_with_command name = record {
  words = brain_with_words name;
  in_range = IsFileName name;
  Does = IsBrainWith name;
  Answers = λ run. (file : HeldFile) → IsUnhinderedShelf (λ files. GivesHeld name files file) run → AnswersAll (held_by file) run;
}
