-- What runs of `brain` and `brain FILE` show of the games that the brain plays, by a held root and by a win of its own. A session is
-- seen by the commands of its lines: of those that were answered, and of all others.
use Rattle.std.specs.Prelude.{◌≡◌, ◌⊎◌, ℕ, ◌≤◌, List, ◌∷◌, ◌++◌, Option, Some, IfSome, Contains, All}
use Rattle.strategy_graph.specs.declared.Node.{Node}
use Rattle.strategy_graph.specs.Tables.{depth}
use Rattle.strategy_graph.specs.Roots.{RootWins}
use Rattle.strategy_checker.specs.HeldRoots.{HeldTable}
use Rattle.renju_io.specs.Told.{Takes, TakesPart}
use Rattle.renju_io.specs.Files.{Files}
use Rattle.gomocup_text.specs.Commands.{commands}
use Rattle.gomocup_text.specs.declared.Command.{Command as Asked}
use Rattle.gomocup_text.specs.declared.Answer.{Answer}
use Rattle.gomocup_text.specs.Answers.{answer_text}
use Rattle.brain_session.specs.States.{Game, State, new_brain}
use Rattle.brain_session.specs.ChosenMoves.{root_node}
use Rattle.brain_session.specs.Steps.{brain_step}
use Rattle.brain_session.specs.Sessions.{answers_from, answer_texts, state_after}
use Rattle.brain_session.specs.Serving.{HasNoEnd}
use Rattle.brain_session.specs.HeldGames.{BeginsHeldGame, HeldGameGoesWell, IsTight}
use Rattle.brain_session.specs.OwnGames.{BeginsOwnGame, OwnGameGoesWell}
use Rattle.brain_session.specs.RootGames.{RootsBegin}
use Rattle.brain_session.specs.TurnLines.{AnswersInBytes, OwnAnswersInBytes}
use Rattle.brain_session.specs.LineGames.{LinesWin}
use Rattle.command_base.specs.declared.status.Status.TheVariants.{Done, ReadFault, WriteFault}
use Rattle.command_base.specs.Statuses.{status_number}
use Rattle.command_base.specs.Runs.{Run, HasFailed, IsUnbegun}
use Rattle.brain_commands.specs.Brains.{brain_words, brain_with_words, nothing_held, IsSession}
use Rattle.file_loading.specs.HeldFiles.{IsFileName, held_by, held_with, HeldFile, NamedRoot, GivesHeld}

-- the state of a brain that holds this after these commands
abbrev pub state_told : HeldTable → List Asked → State
state_told held before = state_after (new_brain held) before

-- Where no END comes before, the answer to c and those to what comes later stand in the answers of the session right behind those to
-- what came before.
abbrev pub StandsBehind : HeldTable → List Asked → Asked → List Asked → Answer → Type 0
StandsBehind held before c later first =
    HasNoEnd before → answers_from (new_brain held) (before ++ c ∷ later)
    ≡ answers_from (new_brain held) before ++ first ∷ answers_from (brain_step (state_told held before) c).next later

-- Games by a held root

-- A held game goes well, which the command c begins after others: it is played by the table, and one of the roots leads there to the
-- node that the brain follows, which is no deeper than the moves that are named for the root.
pub record GoesWellBy (t : List Node) (named : List NamedRoot) (before : List Asked) (c : Asked) (later : List Asked) (g : Game)
    (i : ℕ) : Type 0 where
  pub holds : (state_told (held_with t named) before).held ≡ held_with t named
  pub goes_well : HeldGameGoesWell (state_told (held_with t named) before) c later g i
  pub root : NamedRoot
  pub is_named : Contains named root
  pub leads : root_node g root.root ≡ Some i
  pub within : depth t i ≤ root.moves
  pub stands : StandsBehind (held_with t named) before c later goes_well.first

-- each held game of a session goes well, by whichever of these commands it begins
abbrev pub GamesGoWell : List Node → List NamedRoot → List Asked → Type 0
GamesGoWell t named asked =
    (before : List Asked) (c : Asked) (later : List Asked) (g : Game) (i : ℕ) → asked ≡ before ++ c ∷ later
    → BeginsHeldGame (state_told (held_with t named) before) c g i → GoesWellBy t named before c later g i

-- What holds of a table and roots of it that are held: each root wins within the moves that are named for it; where the opponent
-- moves first, none of its moves wins or draws; a game by a root begins wherever a game has come to it; each goes well, whatever a
-- session is told; the lines of legal replies in one are answered byte for byte by the lines of the table's attacks; and so it is, and the
-- game is won or still open, where a reader of the lines alone sees, at DONE or at BEGIN, the position of a root whose side moves
-- first, and of none before it.
pub record PlaysByRoots (t : List Node) (named : List NamedRoot) : Type 0 where
  pub win : All (λ r. RootWins r.root.kind r.root.root r.moves r.root.board) named
  pub tight : All (λ r. IsTight r.root.kind r.root.board r.root.root) named
  pub begin : RootsBegin (held_with t named)
  pub games : (asked : List Asked) → GamesGoWell t named asked
  pub bytes : AnswersInBytes (held_with t named)
  pub lines : LinesWin (held_with t named)

-- Games by a win of the brain's own

-- A game by a win of the brain's own goes well, which the command c begins after others.
pub record OwnGoesWellIn (held : HeldTable) (before : List Asked) (c : Asked) (later : List Asked) (g : Game) (m : ℕ) : Type 0 where
  pub goes_well : OwnGameGoesWell (state_told held before) c later g m
  pub stands : StandsBehind held before c later goes_well.first

-- each such game of a session goes well, by whichever of these commands it begins
abbrev pub OwnGamesGoWellIn : HeldTable → List Asked → Type 0
OwnGamesGoWellIn held asked =
    (before : List Asked) (c : Asked) (later : List Asked) (g : Game) (m : ℕ) → asked ≡ before ++ c ∷ later
    → BeginsOwnGame (state_told held before) c g m → OwnGoesWellIn held before c later g m

-- The lines that were answered

-- the output has all that was written, or a write failed after it and a part of one more answer
abbrev pub EndsWith : Run → Option (List ℕ) → Type 0
EndsWith run written =
    (run.output.after ≡ written)
    ⊎ ((run.status ≡ status_number WriteFault) × ((a : Answer) × TakesPart written (answer_text a) run.output.after))

-- The commands of the first lines of an input of these bytes, whose answers were written whole, whatever the session ended with;
-- where it ended with status 0 they are those of all lines.
pub record AnsweredLines (held : HeldTable) (run : Run) (bytes : List ℕ) : Type 0 where
  pub asked : List Asked
  pub front : (later : List Asked) × (commands bytes ≡ asked ++ later)
  pub whole : run.status ≡ status_number Done → commands bytes ≡ asked
  pub written : Option (List ℕ)
  pub wrote : Takes run.output.before (answer_texts (answers_from (new_brain held) asked)) written
  pub ends : EndsWith run written

-- What the clauses say

-- What holds where a FILE gives something to be held: a brain plays by its roots so; and the input was served by it, so that lines
-- were answered, whatever the session ended with, unless the shelf failed or memory ran out before.
pub record IsPlayedBy (file : HeldFile) (run : Run) : Type 0 where
  pub plays : PlaysByRoots file.table file.roots
  pub ends : IsSession (held_by file) run.input run.output run.last run.status
      ⊎ HasFailed run.shelf ⊎ IsUnbegun run.input run.output run.status
  pub answered : IsSession (held_by file) run.input run.output run.last run.status
      → IfSome run.input.before (AnsweredLines (held_by file) run)

-- Where a session ended, or the input failed, FILE is the text of a table or of a book that is accepted; and of what each such file gives
-- this holds.
pub record ShowsGames (name : List ℕ) (files : Files) (run : Run) : Type 0 where
  pub fits : (run.status ≡ status_number Done) ⊎ (run.status ≡ status_number ReadFault) → (file : HeldFile) × GivesHeld name files file
  pub plays : (file : HeldFile) → GivesHeld name files file → IsPlayedBy file run

-- The headline of the brain: what `brain FILE` shows of the games that it plays by FILE, where the shelf tells its files.
abbrev pub ShowsHeldGames : Run → Type 0
ShowsHeldGames run =
    (name : List ℕ) → run.words ≡ brain_with_words name → IsFileName name
    → IfSome run.shelf.before (λ files. ShowsGames name files run)

-- What holds of the wins that a brain that holds this finds itself: each game by one goes well, whatever a session is told; and the
-- lines of legal replies in one are answered byte for byte by the lines of the attacks of the win.
pub record PlaysByFours (held : HeldTable) : Type 0 where
  pub games : (asked : List Asked) → OwnGamesGoWellIn held asked
  pub bytes : OwnAnswersInBytes held

-- a brain that holds nothing served the input, so that lines were answered, unless memory ran out before; and it plays so by wins of its
-- own
pub record PlaysOwnWins (run : Run) : Type 0 where
  pub plays : PlaysByFours nothing_held
  pub ends : IsSession nothing_held run.input run.output run.last run.status ⊎ IsUnbegun run.input run.output run.status
  pub answered : IsSession nothing_held run.input run.output run.last run.status → IfSome run.input.before (AnsweredLines nothing_held run)

-- What `brain` and `brain FILE` show of the games that the brain plays by wins of its own, of which those of `brain FILE` are games of a
-- brain that holds what a FILE gives.
pub record ShowsOwnGames (run : Run) : Type 0 where
  pub alone : run.words ≡ brain_words → PlaysOwnWins run
  pub with_file : (name : List ℕ) → run.words ≡ brain_with_words name → IsFileName name
      → IfSome run.shelf.before (λ files. (file : HeldFile) → GivesHeld name files file → PlaysByFours (held_by file))
