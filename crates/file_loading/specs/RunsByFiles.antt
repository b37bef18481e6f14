-- Commands that are told a position once the tables of many files are accepted: what they do in a run, and what is shown by one.
use Rattle.std.specs.Prelude.{◌⊎◌, ℕ, List, length, Some}
use Rattle.position_files.specs.declared.PositionFile.{PositionFile}
use Rattle.position_files.specs.declared.TableFile.{TableFile}
use Rattle.renju_io.specs.Told.{Takes}
use Rattle.renju_io.specs.Files.{Files}
use Rattle.command_base.specs.declared.status.Status.{Status}
use Rattle.command_base.specs.Runs.{Run, HasNoFault, IsAskedNoMore, IsDelivered, IsUnasked, IsUnbegun}
use Rattle.command_base.specs.Told.{EndsTold}
use Rattle.command_base.specs.Positions.{IsPositionAt, SaysOfPosition}
use Rattle.file_loading.specs.ManyFiles.{AreTableFiles, IsFileRefused}

-- each file is accepted, and only then the input is read, and said what the tables make of it
pub record SaysByFiles (Says : List TableFile → PositionFile → Status → List ℕ → Type 0) (work : ℕ) (names : List (List ℕ)) (run : Run) :
    Type 0 where
  pub files : List TableFile
  pub accepted : AreTableFiles work run.shelf.before names files
  pub sound : HasNoFault run.shelf
  pub ends : EndsTold (SaysOfPosition (Says files)) run.input run.output run.status

-- a file is not accepted: why is told, and the input is left unasked
pub record TellsUnfit (work : ℕ) (names : List (List ℕ)) (run : Run) : Type 0 where
  pub status : Status
  pub text : List ℕ
  pub why : IsFileRefused work names run.shelf status text
  pub input : IsUnasked run.input
  pub delivered : IsDelivered status text run.output run.status

-- What such a command does in a run: it asks the shelf no more often than there are files, and says what their tables make of the input,
-- or tells which is not accepted and leaves the input unasked, or memory ran out before.
pub record IsRunByFiles (Says : List TableFile → PositionFile → Status → List ℕ → Type 0) (work : ℕ) (names : List (List ℕ)) (run : Run) :
    Type 0 where
  pub each : IsAskedNoMore (length names) run.shelf
  pub ends : SaysByFiles Says work names run ⊎ TellsUnfit work names run ⊎ IsUnbegun run.input run.output run.status

-- The files under the names are the texts of accepted tables, the input is that of a lawful position, and the output took this text,
-- whole, of which the fact holds.
pub record ShowsByFiles (Holds : List TableFile → PositionFile → List ℕ → Type 0) (work : ℕ) (names : List (List ℕ)) (shelf : Files)
    (input : List ℕ) (run : Run) : Type 0 where
  pub files : List TableFile
  pub accepted : AreTableFiles work (Some shelf) names files
  pub position : PositionFile
  pub at : IsPositionAt position input
  pub text : List ℕ
  pub whole : Takes run.output.before text run.output.after
  pub holds : Holds files position text
