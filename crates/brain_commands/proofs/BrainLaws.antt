-- The command `brain`: why a FILE is not held, when the command answers, and what its runs show.
use Rattle.std.proofs.Common.{◌≡◌, inl, inr, refl, ap, subst, ◌⊎◌, ℕ, ◌+◌, ◌≤◌, List, rules}
use Rattle.std.specs.Prelude.{◌≢◌, Option, Some, Result, Ok, Err, OnOk, IsErrOf, IfSome}
use Rattle.strategy_checker.specs.HeldRoots.{HeldTable}
use Rattle.renju_io.specs.Files.{Files}
use Rattle.renju_io.specs.declared.TheConstants.{MAX_SESSION_BYTES}
use Rattle.gomocup_text.specs.Commands.{commands}
use Rattle.brain_session.specs.declared.sessions.ServeError.{ServeError}
use Rattle.brain_session.specs.declared.sessions.ServeError.TheVariants.{ReadFailed, WriteFailed, Exhausted, Memory as NoMemory}
use Rattle.brain_session.specs.States.{State, new_brain}
use Rattle.brain_session.specs.Serving.{Output, Served, served, HasAnswered, IsReadToEnd, StopsAtRead, StopsInTurn, StopsAtStep}
use Rattle.brain_session.specs.Serving.{within_limit, IsTooLong}
use Rattle.command_base.specs.declared.status.Status.{Status}
use Rattle.command_base.specs.declared.status.Status.TheVariants.{Done, Memory, ReadFault, WriteFault, TooLong}
use Rattle.command_base.specs.Statuses.{status_number}
use Rattle.renju_io.specs.Asked.{IsNotAsked}
use Rattle.command_base.specs.Runs.{Change, Run, HasFailed, IsAskedNoMore, IsAskedOnly, HasNoFault, IsUnbegun}
use Rattle.brain_commands.specs.Brains.{nothing_held, session_of, shown_before, shown_after, EndsSession, IsSession, EndsBrain}
use Rattle.brain_commands.specs.Brains.{IsUnhinderedSession, HasServed, AnswersAll, IsBrain, IsBrainWith, PlaysByFile, session_status}
use Rattle.file_loading.specs.HeldFiles.{held_by, HeldFile, FileSays, TellsFile, GivesHeld, IsUnhinderedShelf}
use Rattle.file_loading.specs.Loading.{HoldsFile}
use Rattle.file_loading.specs.declared.loading.Holdable.TheVariants.{TableOrBook}
use Rattle.file_loading.proofs.HeldFileLaws.{held-not_told, one-held, same-bytes, not-told}
use Rattle.command_base.proofs.ToldLaws.{told-some}

-- ---- how a session ends

-- what a session did whose input and output changed so
abbrev pub did : State → State → (input output : Change (Option (List ℕ))) → Served
did first last input output = served first last (shown_before output) (shown_after output)

-- how a session ended of a brain that is new and holds this, as `serve` tells it
pub record IsServed (first last : State) (input output : Change (Option (List ℕ))) (last_read : Option ℕ)
    (outcome : Result (Unit {0}) ServeError) : Type 0 where
  pub ok : OnOk outcome (IfSome input.before (λ left. HasAnswered (did first last input output) (commands left)))
  pub ended : OnOk outcome (IsReadToEnd input.before input.after)
  pub read_failed : IsErrOf outcome ReadFailed → StopsAtRead (did first last input output) input.before input.after
  pub source_failed : IsErrOf outcome ReadFailed → HasFailed input
  pub in_turn : IsErrOf outcome WriteFailed → IfSome input.before
      (λ left. StopsInTurn (did first last input output) (commands left) input.before input.after last_read)
  pub sink_failed : IsErrOf outcome WriteFailed → HasFailed output
  pub exhausted : IsErrOf outcome Exhausted → IfSome input.before
      (λ left. HasAnswered (did first last input output) (commands (within_limit left)))
  pub too_long : IsErrOf outcome Exhausted → IfSome input.before IsTooLong
  pub few_past : IsErrOf outcome Exhausted → IsAskedNoMore (MAX_SESSION_BYTES + 1) input
  pub memory : IsErrOf outcome NoMemory → (last ≡ first) × (shown_after output ≡ shown_before output) × (input.after ≡ input.before)
      × IsNotAsked input.asked_before input.asked_after
      ⊎ IfSome input.before (λ left. StopsAtStep (did first last input output) (commands left))
  pub source_uncounted : outcome ≢ Err ReadFailed → HasNoFault input
  pub sink_uncounted : outcome ≢ Err WriteFailed → HasNoFault output

-- two facts of what is told
both-told : {X : Type 0} (P Q : X → Type 0) (o : Option X) → IfSome o P → IfSome o Q → IfSome o (λ x. P x × Q x)
both-told P Q o p q = search rules

module _ (held : HeldTable) (last : State) (input output : Change (Option (List ℕ))) (last_read : Option ℕ) where
  session-by : (status : Status) → EndsSession (session_of held last output) input output last_read status
      → EndsBrain held input output last_read (status_number status)
  session-by status how = inl (record { status = status; last = last; ends = refl; how = how })

  by-outcome : (outcome : Result (Unit {0}) ServeError) → IsServed (new_brain held) last input output last_read outcome
      → EndsBrain held input output last_read (status_number (session_status outcome))
  by-outcome (Ok done) is = session-by Done (is.ok, is.ended)
  by-outcome (Err ReadFailed) is = session-by ReadFault (is.source_failed refl, is.read_failed refl)
  by-outcome (Err WriteFailed) is = session-by WriteFault (is.sink_failed refl, is.in_turn refl)
  by-outcome (Err Exhausted) is = session-by TooLong (both-told _ _ input.before (is.exhausted refl) (is.too_long refl), is.few_past refl)
  by-outcome (Err NoMemory) is = by-memory (is.memory refl) where
    by-memory : (last ≡ new_brain held) × (shown_after output ≡ shown_before output) × (input.after ≡ input.before)
        × IsNotAsked input.asked_before input.asked_after
        ⊎ IfSome input.before (λ left. StopsAtStep (session_of held last output) (commands left)) → EndsBrain held input output last_read 6
    by-memory (inl none) = inr (record {
      ends = refl;
      unread = record { same = none.2; faults = is.source_uncounted (λ e. absurd (cc)); asked = none.3 };
      silent = record {
        same = ap (λ (shown : Output). shown.written) none.1;
        faults = is.sink_uncounted (λ e. absurd (cc));
        asked = ap (λ (shown : Output). shown.asked) none.1;
      };
    })
    by-memory (inr stops) = session-by Memory stops

-- how a brain ended that was to hold this
pub session-ends : (held : HeldTable) (first last : State) (input output : Change (Option (List ℕ))) (last_read : Option ℕ)
    (outcome : Result (Unit {0}) ServeError) → first ≡ new_brain held
    → IsServed first last input output last_read outcome → EndsBrain held input output last_read (status_number (session_status outcome))
session-ends held first last input output last_read outcome new is = search (rules, by-outcome)

-- ---- a session that nothing hinders

module _ (held : HeldTable) (run : Run) (bytes : List ℕ) (free : IsUnhinderedSession run bytes) where
  by-status : (status : Status) (last : State) → run.status ≡ status_number status
      → EndsSession (session_of held last run.output) run.input run.output run.last status
      → HasServed held run bytes ⊎ (run.status ≡ status_number Memory)
  by-status status last ends how = search (rules, told-some)

  session-serves : EndsBrain held run.input run.output run.last run.status → HasServed held run bytes ⊎ (run.status ≡ status_number Memory)
  session-serves h = search (rules, by-status)

-- `brain` serves its input to the end
pub brain-answers : (run : Run) → IsBrain run → AnswersAll nothing_held run
brain-answers run is bytes free = session-serves nothing_held run bytes free is.ends

-- ---- a FILE that is loaded

-- a brain that holds what a file gives plays by it
pub plays-by-file : (name : List ℕ) (run : Run) (held : HeldTable) → IsAskedOnly run.shelf → HoldsFile TableOrBook run.shelf name held
    → EndsBrain held run.input run.output run.last run.status → IsBrainWith name run
plays-by-file name run held once holds ends = record {
  once = once;
  ends = by-end (subst (λ (t : HeldTable). EndsBrain t run.input run.output run.last run.status) holds.gives.2 ends);
} where
  by-end : EndsBrain (held_by holds.gives.0) run.input run.output run.last run.status
      → PlaysByFile name run ⊎ TellsFile FileSays name run ⊎ IsUnbegun run.input run.output run.status
  by-end (inl session) = inl (record {
    bytes = holds.bytes;
    loaded = holds.loaded;
    fits = holds.fits;
    file = holds.gives.0;
    at = holds.gives.1;
    session = session;
  })
  by-end (inr unbegun) = inr (inr unbegun)

-- ---- a FILE on the shelf

module _ (name : List ℕ) (run : Run) (files : Files) (told : run.shelf.before ≡ Some files) (file : HeldFile)
    (fit : GivesHeld name files file) where
  -- what a file gives is played by, unless the shelf failed or memory ran out before
  pub ends-by : PlaysByFile name run ⊎ TellsFile FileSays name run ⊎ IsUnbegun run.input run.output run.status
      → IsSession (held_by file) run.input run.output run.last run.status ⊎ HasFailed run.shelf ⊎ IsUnbegun run.input run.output run.status
  ends-by (inl plays) =
      let at = rw (same-bytes name run files told fit.bytes fit.found plays.bytes plays.loaded) at plays.at in
      inl (rw (one-held file plays.file fit.bytes fit.at at) at plays.session)
  ends-by (inr (inl tells)) = inr
      (inl (not-told name run files told fit.bytes fit.found FileSays fit.fits (held-not_told file fit.bytes fit.at) tells.status tells.text
      tells.why))
  ends-by (inr (inr unbegun)) = inr (inr unbegun)

-- `brain FILE` serves its input to the end by what a file gives
pub brain-with-answers : (name : List ℕ) (run : Run) → IsBrainWith name run → (file : HeldFile)
    → IsUnhinderedShelf (λ files. GivesHeld name files file) run → AnswersAll (held_by file) run
brain-with-answers name run is file free bytes session = by-end (ends-by name run free.files free.told file free.fit is.ends) where
  by-end : IsSession (held_by file) run.input run.output run.last run.status ⊎ HasFailed run.shelf
      ⊎ IsUnbegun run.input run.output run.status → HasServed (held_by file) run bytes ⊎ (run.status ≡ status_number Memory)
  by-end (inl served) = session-serves (held_by file) run bytes session (inl served)
  by-end (inr (inl failed)) = absurd (free.shelf_sound failed)
  by-end (inr (inr unbegun)) = inr unbegun.ends
