-- What one turn of a session does: a command is answered, and the next one is read.
use Rattle.std.specs.Prelude.{◌≡◌, ◌≢◌, ℕ, ◌+◌, ◌<◌, ◌≤◌, Bool, true, false, List, [], length, Option, None, IsSome, Result, Ok, Err}
use Rattle.std.specs.Io.KnownBytes.{IsAtEnd}
use Rattle.std.specs.Option.{option_to_list}
use Rattle.renju_io.specs.Asked.{IsAskedWithin}
use Rattle.renju_io.specs.Faults.{HasStayed, HasNotFallen}
use Rattle.renju_io.specs.LineReads.{ReadsNoFurther}
use Rattle.renju_io.specs.Lines.{ReaderState, KeepsLine, KnowsEnd, TakesTooMany, reads_for}
use Rattle.renju_io.specs.Told.{CutAfter, FailsAfter}
use Rattle.renju_io.specs.declared.TheConstants.{MAX_SESSION_BYTES}
use Rattle.gomocup_text.specs.declared.Command.{Command}
use Rattle.gomocup_text.specs.declared.Command.TheVariants.{End}
use Rattle.brain_session.specs.Memory.{takes_none}
use Rattle.brain_session.specs.Serving.{IsAnswered, IsHalfAnswered, TakesCommands, output_of}
use Rattle.brain_session.specs.States.{State}
use Rattle.brain_session.specs.declared.sessions.ServeError.{ServeError}
use Rattle.brain_session.specs.declared.sessions.ServeError.TheVariants.{ReadFailed, WriteFailed, Exhausted, Memory}

-- by what a source tells and counts in each of its states
module _ {Source : Type 0} (left : Source → Option (List ℕ)) (last : Source → Option ℕ) (faults asks : Source → ℕ) where
  -- the reader told the line of the command, or the end of the input, and no read was made once the line had ended
  pub record TellsCommand (c : Option Command) (old : ReaderState) (source : Source) (new : ReaderState) (after : Source) : Type 0 where
    pub takes : TakesCommands old (left source) (option_to_list c) new (left after)
    pub limit : new.taken ≤ MAX_SESSION_BYTES
    pub advances : IsSome c → old.taken + length new.kept < new.taken + length old.kept
    pub at_end : c ≡ None → (new ≡ record old { ended = true }) × (old.kept ≡ []) × (KnowsEnd old (left source) → IsAtEnd (left after))
    pub asks_no_more : old.ended ≡ true → (c ≡ None) × (left after ≡ left source)
    pub knows_end : KnowsEnd old (left source) → KnowsEnd new (left after)
    pub no_further : ReadsNoFurther old new (left source) (left after) (last source) (last after)
    pub few : IsAskedWithin (reads_for old) (reads_for new) (asks source) (asks after)
    pub uncounted : HasStayed (faults source) (faults after)

  -- a read failed within a line
  pub record FailsToRead (old : ReaderState) (source : Source) (new : ReaderState) (after : Source) : Type 0 where
    pub reading : old.ended ≢ true
    pub fails : FailsAfter left faults source after
    pub counted : HasNotFallen (faults source) (faults after)
    pub stays : KeepsLine old (left source) new (left after)
    pub few : IsAskedWithin (reads_for old) (new.taken + 1) (asks source) (asks after)

  -- the line goes on beyond the bytes that a session may have
  pub record ReadsTooMany (old : ReaderState) (source : Source) (new : ReaderState) (after : Source) : Type 0 where
    pub reading : old.ended ≢ true
    pub past : TakesTooMany old (left source) new (left after)
    pub few : IsAskedWithin (reads_for old) new.taken (asks source) (asks after)
    pub uncounted : HasStayed (faults source) (faults after)

  -- what was read, by the answer that tells it
  abbrev pub ReadsCommand : Result (Option Command) ServeError → ReaderState → Source → ReaderState → Source → Type 0
  ReadsCommand (Ok c) old source new after = TellsCommand c old source new after
  ReadsCommand (Err ReadFailed) old source new after = FailsToRead old source new after
  ReadsCommand (Err Exhausted) old source new after = ReadsTooMany old source new after
  ReadsCommand (Err e) old source new after = ⊥

  -- after a command was answered so, the next one is read, unless the session ends there
  abbrev pub GoesOn : Result Bool ServeError → Result (Option Command) ServeError → ReaderState → Source → ReaderState → Source → Type 0
  GoesOn (Ok true) next old source new after = ReadsCommand next old source new after
  GoesOn (Ok false) next old source new after = next ≡ Ok None
  GoesOn (Err e) next old source new after = next ≡ Err e

-- by what a sink tells and counts in each of its states
module _ {Sink : Type 0} (written : Sink → Option (List ℕ)) (faults asks : Sink → ℕ) where
  -- the command was stepped and its answer written, of the answer a part was written, or there was no memory for the step
  abbrev pub AnswersCommand : Result Bool ServeError → Command → State → Sink → State → Sink → Type 0
  AnswersCommand (Ok goes_on) c old sink new after =
      IsAnswered old c goes_on new (output_of written asks sink) (output_of written asks after)
      × (goes_on ≡ false → c ≡ End) × HasStayed (faults sink) (faults after)
  AnswersCommand (Err WriteFailed) c old sink new after =
      IsHalfAnswered old c new (output_of written asks sink) (output_of written asks after)
      × CutAfter written faults sink after × HasNotFallen (faults sink) (faults after)
  AnswersCommand (Err Memory) c old sink new after =
      (takes_none old c ≡ false) × (new ≡ old) × (output_of written asks after ≡ output_of written asks sink)
      × HasStayed (faults sink) (faults after)
  AnswersCommand (Err e) c old sink new after = ⊥
