-- The command `referee`: its words, its answers, and what its runs show.
use Rattle.std.proofs.Common.{rules, ◌≡◌, inl, inr, sym, ap, subst, ◌∙◌, ◌⊎◌, ℕ, List, Some, IfSome}
use Rattle.strategy_graph.proofs.Common.{AcceptedRoot}
use Rattle.table_commands.proofs.Common.{BRAIN_WORK, TableFile, Files, Takes, Status, Done, status_number, Run, IsTold, IsFit, IsTableFile}
use Rattle.table_commands.proofs.Common.{TableFileSays, ComparesSays, HasGameFault, HeldSays, IsGameAt, IsRefereeWith, RefereeSays}
use Rattle.table_commands.proofs.Common.{RefereesByFile, IsJudgedInput, ShowsGame, TellsTable, compares_command, of_game, referee_command}
use Rattle.table_commands.proofs.Common.{replay_line, verdict_on}
use Rattle.game_referee.specs.declared.ReplayAnswer.TheVariants.{Follows}
use Rattle.game_referee.specs.Followers.{GoesByRoot, IsPlayed, NeverLoses, side_of}
use Rattle.game_referee.specs.Replays.{replay}
use Rattle.game_referee.proofs.Following.{follower-never-loses, games-go-by-root}
use Rattle.position_files.specs.declared.GameFile.{GameFile}
use Rattle.position_files.proofs.ReadBack.{game-read-back}
use Rattle.command_base.specs.Runs.{IsAskedOnly, IsUnbegun}
use Rattle.strategy_checker.specs.HeldRoots.{HeldTable}
use Rattle.file_loading.specs.Loading.{HoldsFile}
use Rattle.file_loading.specs.declared.loading.Holdable.TheVariants.{Table}
use Rattle.command_base.specs.Told.{AnswersTold, EndsTold, IsYielded}
use Rattle.command_base.specs.Refusals.{IsRefusedText}
use Rattle.file_loading.specs.HeldFiles.{IsUnhinderedShelf, TellsFile}
use Rattle.command_base.proofs.ToldLaws.{IsWhole, answers-by, by-end, ends-map, every-told, given-told, where-told, whole-or-yielded}
use Rattle.file_loading.proofs.TableFileLaws.{one-table}
use Rattle.file_loading.proofs.HeldFileLaws.{found-under, not-told, same-bytes, table-not_told, delivered-other, not-other}
use Rattle.file_loading.proofs.HeldFileLaws.{table_told-other, unheld-other}

-- ---- a FILE that is loaded

-- a game is judged beside the table of the file that is held
pub referees-by-file : (name : List ℕ) (run : Run) (held : HeldTable) → IsAskedOnly run.shelf → HoldsFile Table run.shelf name held
    → EndsTold (HeldSays held) run.input run.output run.status → IsRefereeWith name run
referees-by-file name run held once holds ends =
    let file = holds.gives.0 in
    record {
      once = once;
      ends = inl (record {
        bytes = holds.bytes;
        loaded = holds.loaded;
        fits = holds.fits;
        file = file;
        at = holds.gives.1;
        fit = holds.gives.2;
        ends = ends-map (HeldSays held) (ComparesSays file) _ _ _ (λ bytes status said h. h file holds.gives.3) ends;
      });
    }

-- ---- answers

-- the text of a game from a lawful position is not refused
game-taken : (game : GameFile) (bytes : List ℕ) → IsGameAt game bytes → (status : Status) (text : List ℕ)
    → IsRefusedText (HasGameFault bytes) status text → ⊥
game-taken game bytes at status text refused =
    let only = game-read-back game bytes at.text at.lawful in
    let fault = refused.fault in
    refused.cause (fault.1 ∙ ap of_game (only.no_fault fault.0 fault.2))

pub referee-answers : (bytes : List ℕ) → referee_command.IsAnswerable bytes → (status : Status) (text : List ℕ)
    → RefereeSays bytes status text → referee_command.IsAnswer status
referee-answers bytes can status text (inl refused) = absurd (game-taken can.0 bytes can.1 status text refused)
referee-answers bytes can status text (inr said) = said.2.ends

compares-answers : (name : List ℕ) (file : TableFile) (bytes : List ℕ) → (compares_command name file).IsAnswerable bytes
    → (status : Status) (text : List ℕ) → ComparesSays file bytes status text → status ≡ Done
compares-answers name file bytes can status text (inl refused) = absurd (game-taken can.0 bytes can.1 status text refused)
compares-answers name file bytes can status text (inr said) = said.2.ends

-- the table by which a run judges is that of the file that fits
by-file : (name : List ℕ) (run : Run) (files : Files) → run.shelf.before ≡ Some files → (file : TableFile)
    → IsTableFile BRAIN_WORK (Some files) name file
    → (by : RefereesByFile name run) → EndsTold (ComparesSays file) run.input run.output run.status
by-file name run files told file fit by =
    let at = rw (same-bytes name run files told fit.bytes fit.found by.bytes by.loaded) at by.at in
    rw (one-table file by.file fit.bytes fit.at at) at by.ends

answers-end : (name : List ℕ) (run : Run)
    → RefereesByFile name run ⊎ TellsFile (TableFileSays BRAIN_WORK) name run ⊎ IsUnbegun run.input run.output run.status
    → (file : TableFile) → IsUnhinderedShelf (λ files. IsTableFile BRAIN_WORK (Some files) name file) run
    → AnswersTold (compares_command name file) run
answers-end name run (inl by) file free bytes un = answers-by
    (compares_command name file) (compares-answers name file) run bytes un (by-file name run free.files free.told file free.fit by)
answers-end name run (inr (inl tells)) file free bytes un =
    absurd (free.shelf_sound (not-told name run free.files free.told free.fit.bytes free.fit.found (TableFileSays BRAIN_WORK) free.fit.fits
    (table-not_told BRAIN_WORK file free.fit.bytes free.fit.at free.fit.fit) tells.status tells.text tells.why))
answers-end name run (inr (inr unbegun)) file free bytes un = inr (record { ends = unbegun.ends; silent = unbegun.silent })

pub referee-with-answers : (name : List ℕ) (run : Run) → IsRefereeWith name run → (file : TableFile)
    → IsUnhinderedShelf (λ files. IsTableFile BRAIN_WORK (Some files) name file) run → AnswersTold (compares_command name file) run
referee-with-answers name run is = answers-end name run is.ends

-- ---- what is shown

module _ (file : TableFile) (game : GameFile) (fit : IsFit BRAIN_WORK file) where
  -- where the line says that the table is followed, its root is accepted, and the game follows it
  followed-by : (second : List ℕ) → TellsTable file game.kind game.board game.moves second → second ≡ replay_line Follows
      → AcceptedRoot game.kind file.table file.root game.board × (replay game.kind file.table file.root game.board game.moves ≡ Follows)
  followed-by second h follows = search rules

  kept-by : (second : List ℕ) → TellsTable file game.kind game.board game.moves second → second ≡ replay_line Follows
      → NeverLoses game.kind (side_of file.root game.board) game.board game.moves
  kept-by second tells follows = search (rules, followed-by, follower-never-loses)

  goes-by : (second : List ℕ) → TellsTable file game.kind game.board game.moves second → second ≡ replay_line Follows
      → IsPlayed (verdict_on game) → GoesByRoot game.kind file.table file.root game.board game.moves
  goes-by second tells follows played = search (rules, followed-by, games-go-by-root)

-- the status of an answer is the only one that is zero
not-yielded : (n : ℕ) → n ≡ status_number Done → IsYielded n → ⊥
not-yielded n h k = search rules

-- what the statuses of `referee` show
pub verdict-shown : (run : Run) → IsTold RefereeSays run → IfSome run.input.before (λ input. IsJudgedInput input run)
verdict-shown run told = by-end-of (whole-or-yielded RefereeSays run told) where
  by-says : (bytes : List ℕ) (status : Status) (text : List ℕ) → run.status ≡ status_number status
      → Takes run.output.before text run.output.after → RefereeSays bytes status text → IsJudgedInput bytes run
  by-says bytes status text ends whole (inl refused) = record {
    judged = λ done. let e = sym done ∙ ends ∙ ap status_number refused.ends in absurd (cc);
    only = λ game at. absurd (game-taken game bytes at status text refused);
  }
  by-says bytes status text ends whole (inr said) = record {
    judged = λ done. record {
      game = said.0;
      at = said.1;
      whole = subst (λ (l : List ℕ). Takes run.output.before l run.output.after) said.2.line whole;
    };
    only = λ game at. inl (ends ∙ ap status_number said.2.ends);
  }

  by-end-of : IsWhole RefereeSays run ⊎ IsYielded run.status → IfSome run.input.before (λ input. IsJudgedInput input run)
  by-end-of (inl w) = given-told (λ input. IsJudgedInput input run) run.input.before w.bytes w.given
      (by-says w.bytes w.status w.text w.ends w.whole w.says)
  by-end-of (inr yielded) = every-told (λ input. IsJudgedInput input run) run.input.before
      (λ bytes. record { judged = λ done. absurd (not-yielded run.status done yielded); only = λ game at. inr yielded })

module _ (name : List ℕ) (run : Run) (done : run.status ≡ status_number Done) (files : Files) (told : run.shelf.before ≡ Some files) where
  by-whole : (by : RefereesByFile name run) → IsWhole (ComparesSays by.file) run → IfSome run.input.before
      (λ input. ShowsGame name files input run)
  by-whole by whole = given-told (λ input. ShowsGame name files input run) run.input.before whole.bytes whole.given
      (by-says whole.says) where
        by-says : ComparesSays by.file whole.bytes whole.status whole.text → ShowsGame name files whole.bytes run
        by-says (inl refused) = let e = sym done ∙ whole.ends ∙ ap status_number refused.ends in absurd (cc)
        by-says (inr said) = record {
          file = by.file;
          fit = record {
            bytes = by.bytes;
            found = found-under name run files told by.bytes by.loaded;
            fits = by.fits;
            at = by.at;
            fit = by.fit;
          };
          game = said.0;
          at = said.1;
          second = said.2.second;
          tells = said.2.tells;
          whole = subst (λ (l : List ℕ). Takes run.output.before l run.output.after) said.2.lines whole.whole;
          goes = goes-by by.file said.0 by.fit said.2.second said.2.tells;
          kept = kept-by by.file said.0 by.fit said.2.second said.2.tells;
        }

  shown-by : RefereesByFile name run ⊎ TellsFile (TableFileSays BRAIN_WORK) name run ⊎ IsUnbegun run.input run.output run.status
      → IfSome run.input.before (λ input. ShowsGame name files input run)
  shown-by (inl by) = by-ends (by-end (ComparesSays by.file) run by.ends) where
    by-ends : IsWhole (ComparesSays by.file) run ⊎ IsYielded run.status → IfSome run.input.before (λ input. ShowsGame name files input run)
    by-ends (inl whole) = by-whole by whole
    by-ends (inr yielded) = absurd (not-yielded run.status done yielded)
  shown-by (inr (inl tells)) = absurd (not-other run.status (inl done) (delivered-other tells.status tells.text run.output run.status
      (unheld-other (TableFileSays BRAIN_WORK) (table_told-other BRAIN_WORK) run.shelf name tells.status tells.text tells.why)
      tells.delivered))
  shown-by (inr (inr unbegun)) = let e = sym done ∙ unbegun.ends in absurd (cc)

-- what status 0 of `referee FILE` shows
pub referee-shown : (name : List ℕ) (run : Run) → IsRefereeWith name run → run.status ≡ status_number Done → IfSome run.shelf.before
    (λ files. IfSome run.input.before (λ input. ShowsGame name files input run))
referee-shown name run is done = where-told run.shelf.before (λ files told. shown-by name run done files told is.ends)
