-- What a session has come to when it has read a command, or can read none, and what its next turn makes of that.
use Rattle.std.proofs.Common.{◌≡◌, ◌<◌, ◌+◌, ◌-◌, ◌∙◌, ◌++◌, ℕ, Bool, true, false, List, length, refl, sym, ap, subst}
use Rattle.std.proofs.Common.{arith, ◌⊎◌, inl, inr, Option, Some, None, Result, Ok, Err, IfSome}
use Rattle.renju_io.specs.Asked.{GivesByEach, IsAskedAtMost}
use Rattle.renju_io.specs.Faults.{HasNotFallen, HasStayed}
use Rattle.renju_io.specs.Told.{CutAfter, FailsAfter, GivesSome}
use Rattle.renju_io.proofs.AskedCalls.{none_within, within_then}
use Rattle.renju_io.proofs.GivenBytes.{Gives-some, Gives-then}
use Rattle.renju_io.proofs.TakenText.{Takes-then}
use Rattle.renju_io.proofs.ToldSoFar.{Reading, new_reader}
use Rattle.gomocup_text.specs.declared.Command.TheVariants.{End}
use Rattle.brain_session.specs.declared.sessions.ServeError.{ServeError}
use Rattle.brain_session.specs.declared.sessions.ServeError.TheVariants.{ReadFailed, WriteFailed, Exhausted, Memory}
use Rattle.brain_session.specs.Turns.{AnswersCommand, GoesOn, ReadsCommand}
use Rattle.brain_session.proofs.Common.{IsAskedWithin, ReaderState, reads_for, Command, State, HasAnswered, IsAnswered, IsReadToEnd, Output}
use Rattle.brain_session.proofs.Common.{Served}
use Rattle.brain_session.proofs.Common.{StopsAtRead, StopsAtStep, StopsAtWrite, StopsInTurn, commands, output_of, served, MAX_SESSION_BYTES}
use Rattle.brain_session.proofs.Serving.{AskedInTurn, AskedInTurn-told, AsksPast-taken, EndsAt-told, GivesSome-past, HasAnswered-end}
use Rattle.brain_session.proofs.Serving.{InTurn}
use Rattle.brain_session.proofs.Serving.{InTurn-answered, IsReadToEnd-end, PastLimit, PastLimit-taken, SoFar-begun, StopsAtRead-open}
use Rattle.brain_session.proofs.Serving.{StopsAtStep-asked, StopsAtWrite-asked, StopsInTurn-asked, by_each_open, by_each_told, goes_on}

-- how many bytes a session may still read, and one more, where a command is to be answered
abbrev pub to_come : Result (Option Command) ServeError → ReaderState → ℕ
to_come (Ok (Some c)) reader = MAX_SESSION_BYTES + length reader.kept - reader.taken + 1
to_come next reader = 0

-- where the session goes on after a command the next one is read
pub reads_on : {Source : Type 0} (left : Source → Option (List ℕ)) (last : Source → Option ℕ) (faults asks : Source → ℕ)
    (next : Result (Option Command) ServeError) (reader after : ReaderState) (now then : Source) (s t : State) (c : Command)
    (old new : Output)
    (more : Bool) → more ≡ true → IsAnswered s c more t old new → ReadsCommand left last faults asks next reader now after then
    → ((c ≡ End) ⊎ (next ≡ Err WriteFailed) ⊎ (next ≡ Err Memory)) → ⊥
reads_on left last faults asks next reader after now then s t c old new more is_true answered read (inl is) =
    goes_on s t c old new (subst (λ (b : Bool). IsAnswered s c b t old new) is_true answered) is
reads_on left last faults asks next reader after now then s t c old new more is_true answered read (inr (inl is)) =
    subst (λ (r : Result (Option Command) ServeError). ReadsCommand left last faults asks r reader now after then) is read
reads_on left last faults asks next reader after now then s t c old new more is_true answered read (inr (inr is)) =
    subst (λ (r : Result (Option Command) ServeError). ReadsCommand left last faults asks r reader now after then) is read

-- with each turn fewer bytes are to come
pub nearer : {Source : Type 0} (left : Source → Option (List ℕ)) (last : Source → Option ℕ) (faults asks : Source → ℕ)
    (answered : Result Bool ServeError) (next : Result (Option Command) ServeError) (c : Command)
    (reader after : ReaderState) (now then : Source) → GoesOn left last faults asks answered next reader now after then
    → to_come next after < to_come (Ok (Some c)) reader
nearer left last faults asks (Ok true) (Ok (Some d)) c reader after now then told = omega (arith, told.advances refl, told.limit)
nearer left last faults asks (Ok false) (Ok (Some d)) c reader after now then is = absurd cc
nearer left last faults asks (Err e) (Ok (Some d)) c reader after now then is = absurd cc
nearer left last faults asks answered (Ok None) c reader after now then read = omega arith
nearer left last faults asks answered (Err e) c reader after now then read = omega arith

-- a device counts a fault only where this has happened
pub record Counts (failed : Type 0) (old new : ℕ) : Type 0 where
  pub uncounted : ¬ failed → HasStayed old new
  pub counted : HasNotFallen old new

counts_none : (failed : Type 0) (old new : ℕ) → HasStayed old new → Counts failed old new
counts_none failed old new stayed = record { uncounted = λ _. stayed; counted = omega arith }

counts_some : (failed : Type 0) (old mid new : ℕ) → failed → HasStayed old mid → HasNotFallen mid new → Counts failed old new
counts_some failed old mid new is stayed counted = record { uncounted = λ never. absurd (never is); counted = omega arith }

module _ {Source Sink : Type 0} (left : Source → Option (List ℕ)) (last : Source → Option ℕ) (faults asks : Source → ℕ)
    (written : Sink → Option (List ℕ)) (failures writes : Sink → ℕ) (source : Source) (sink : Sink) (brain : State) where
  -- what the reader has read of the source
  abbrev reading : ReaderState → Source → Reading
  reading reader now = record { left_before = left source; reader = reader; left = left now }

  abbrev output : Sink → Output
  output k = output_of written writes k

  -- the session so far
  abbrev session : State → Sink → Served
  session s k = served brain s (output sink) (output k)

  -- the lines that were told are answered, no read was made before each line that had ended was, and no device has failed
  pub record Between (reader : ReaderState) (now : Source) (s : State) (k : Sink) : Type 0 where
    pub in_turn : InTurn (reading reader now) (session s k) (last now)
    pub reads : IsAskedWithin 0 (reads_for reader) (asks source) (asks now)
    pub source_stayed : HasStayed (faults source) (faults now)
    pub sink_stayed : HasStayed (failures sink) (failures k)

  pub Between-begun : (reader : ReaderState) → reader ≡ new_reader → Between reader source brain sink
  Between-begun reader fresh = record {
    in_turn = record {
      so_far = SoFar-begun brain (left source) (output sink) reader fresh;
      turn = inl (ap (λ (r : ReaderState). r.kept) fresh);
    };
    reads = subst (λ (r : ReaderState). IsAskedWithin 0 (reads_for r) (asks source) (asks source)) (sym fresh)
        (none_within 0 (asks source));
    source_stayed = refl;
    sink_stayed = refl;
  }

  -- a command is to be answered, or how the session ends
  abbrev pub EndsBy : Result (Option Command) ServeError → ReaderState → Source → State → Sink → Type 0
  EndsBy (Ok (Some c)) reader now s k =
      AskedInTurn (reading reader now) (session s k) c (last now) × IsAskedWithin 0 (reads_for reader) (asks source) (asks now)
  EndsBy (Ok None) reader now s k =
      IfSome (left source) (λ bytes. HasAnswered (session s k) (commands bytes)) × IsReadToEnd (left source) (left now)
  EndsBy (Err ReadFailed) reader now s k = StopsAtRead (session s k) (left source) (left now) × FailsAfter left faults source now
  EndsBy (Err WriteFailed) reader now s k = IfSome (left source) (λ bytes. StopsAtWrite (session s k) (commands bytes))
      × IfSome (left source) (λ bytes. StopsInTurn (session s k) (commands bytes) (left source) (left now) (last now))
      × CutAfter written failures sink k
  EndsBy (Err Exhausted) reader now s k =
      PastLimit (left source) (session s k) × IsAskedAtMost (MAX_SESSION_BYTES + 1) (asks source) (asks now)
  EndsBy (Err Memory) reader now s k = IfSome (left source) (λ bytes. StopsAtStep (session s k) (commands bytes))

  -- what a session has come to
  pub record Comes (next : Result (Option Command) ServeError) (reader : ReaderState) (now : Source) (s : State) (k : Sink) : Type 0 where
    pub ends : EndsBy next reader now s k
    pub taken : GivesSome (left source) (left now)
    pub by_each : GivesByEach (left source) (left now) (asks source) (asks now)
    pub source_counts : Counts (next ≡ Err ReadFailed) (faults source) (faults now)
    pub sink_counts : Counts (next ≡ Err WriteFailed) (failures sink) (failures k)

  pub comes_as : {next : Result (Option Command) ServeError} {reader : ReaderState} {now : Source} {s : State} {k : Sink}
      → (r : Result (Option Command) ServeError) → Comes next reader now s k → next ≡ r → Comes r reader now s k
  comes_as {next} {reader} {now} {s} {k} r comes is = subst (λ (n : Result (Option Command) ServeError). Comes n reader now s k) is comes

  -- the next command is read, or none is
  pub next_read : (next : Result (Option Command) ServeError) (reader after : ReaderState) (now then : Source) (s : State) (k : Sink)
      → Between reader now s k → ReadsCommand left last faults asks next reader now after then → Comes next after then s k
  next_read (Ok (Some c)) reader after now then s k b told =
      let line = AskedInTurn-told (reading reader now) (session s k) c after (left then) (last now) (last then) b.in_turn.so_far
      (λ e. let none = (told.asks_no_more e).0 in cc) told.takes told.limit told.knows_end b.in_turn.turn told.no_further
      (told.advances refl) in
      let reads = within_then _ _ _ _ _ _ b.reads told.few in
      record {
        ends = (line, reads);
        taken = Gives-some _ _ line.line.read.takes.given line.line.read.takes.gives;
        by_each = by_each_told _ _ line.line.read _ _ reads;
        source_counts = counts_none _ _ _ (told.uncounted ∙ b.source_stayed);
        sink_counts = counts_none _ _ _ b.sink_stayed;
      }
  next_read (Ok None) reader after now then s k b told =
      let over = told.at_end refl in
      let ends = EndsAt-told (reading reader now) (session s k) after (left then) b.in_turn.so_far told.takes over.0 over.1 over.2
      (λ e. (told.asks_no_more e).1) in
      record {
        ends = (ends.answered, ends.read);
        taken = Gives-some _ _ ends.read.given ends.read.gives;
        by_each = ends.by_each _ _ (within_then _ _ _ _ _ _ b.reads told.few);
        source_counts = counts_none _ _ _ (told.uncounted ∙ b.source_stayed);
        sink_counts = counts_none _ _ _ b.sink_stayed;
      }
  next_read (Err ReadFailed) reader after now then s k b failed =
      let so_far = b.in_turn.so_far in
      let stops = StopsAtRead-open (reading reader now) (session s k) after (left then) so_far failed.reading failed.stays in
      let read = so_far.read.takes in
      let gave = failed.fails.gave in
      record {
        ends = (
          stops,
          record {
            before = failed.fails.before;
            gave = record { given = read.given ++ gave.given; gives = Gives-then _ _ _ read.given gave.given read.gives gave.gives };
            uncounted = failed.fails.uncounted ∙ b.source_stayed;
            kept = failed.fails.kept;
            risen = failed.fails.risen;
          },
        );
        taken = Gives-some _ _ stops.given stops.gives;
        by_each = by_each_open (reading reader now) (session s k) after (left then) _ _ so_far failed.stays
            (within_then _ _ _ _ _ _ b.reads failed.few);
        source_counts = counts_some _ _ _ _ refl b.source_stayed failed.counted;
        sink_counts = counts_none _ _ _ b.sink_stayed;
      }
  next_read (Err Exhausted) reader after now then s k b many =
      let so_far = b.in_turn.so_far in
      let past = AsksPast-taken (reading reader now) (session s k) after (left then) _ _ so_far many.past
      (within_then _ _ _ _ _ _ b.reads many.few) in
      record {
        ends = (PastLimit-taken (reading reader now) (session s k) after (left then) so_far many.reading many.past, past.few);
        taken = GivesSome-past (reading reader now) (session s k) after (left then) so_far many.past;
        by_each = past.by_each;
        source_counts = counts_none _ _ _ (many.uncounted ∙ b.source_stayed);
        sink_counts = counts_none _ _ _ b.sink_stayed;
      }
  next_read (Err WriteFailed) reader after now then s k b never = absurd never
  next_read (Err Memory) reader after now then s k b never = absurd never

  -- a command was to be answered: no device had failed
  source_quiet : (c : Command) (reader : ReaderState) (now : Source) (s : State) (k : Sink) → Comes (Ok (Some c)) reader now s k
      → HasStayed (faults source) (faults now)
  source_quiet c reader now s k comes = comes.source_counts.uncounted (λ e. cc)

  sink_quiet : (c : Command) (reader : ReaderState) (now : Source) (s : State) (k : Sink) → Comes (Ok (Some c)) reader now s k
      → HasStayed (failures sink) (failures k)
  sink_quiet c reader now s k comes = comes.sink_counts.uncounted (λ e. cc)

  -- nothing is read in a turn
  still : (c : Command) (came : Result (Option Command) ServeError) (reader after : ReaderState) (now : Source) (s t : State) (k l : Sink)
      → Comes (Ok (Some c)) reader now s k → EndsBy came after now t l → Counts (came ≡ Err WriteFailed) (failures sink) (failures l)
      → (next : Result (Option Command) ServeError) (then : Source) → next ≡ came → then ≡ now → Comes next after then t l
  still c came reader after now s t k l comes ends counts next then is unread =
      subst (λ (n : Result (Option Command) ServeError). Comes n after then t l) (sym is)
      (subst (λ (d : Source). Comes came after d t l) (sym unread) (record {
        ends = ends;
        taken = comes.taken;
        by_each = comes.by_each;
        source_counts = counts_none _ _ _ (source_quiet c reader now s k comes);
        sink_counts = counts;
      }))

  -- a command is answered, and the next one is read
  pub turned : (answered : Result Bool ServeError) (next : Result (Option Command) ServeError) (c : Command) (reader after : ReaderState)
      (now then : Source) (s t : State) (k l : Sink) → Comes (Ok (Some c)) reader now s k
      → AnswersCommand written failures writes answered c s k t l → GoesOn left last faults asks answered next reader now after then
      → ((c ≡ End) ⊎ (next ≡ Err WriteFailed) ⊎ (next ≡ Err Memory) → then ≡ now) → Comes next after then t l
  turned (Ok true) next c reader after now then s t k l comes wrote read unread =
      next_read next reader after now then t l (record {
        in_turn = InTurn-answered (reading reader now) (session s k) c t (output l) (last now) comes.ends.0 wrote.0;
        reads = comes.ends.1;
        source_stayed = source_quiet c reader now s k comes;
        sink_stayed = wrote.2 ∙ sink_quiet c reader now s k comes;
      }) read
  turned (Ok false) next c reader after now then s t k l comes wrote is unread =
      let end = wrote.1 refl in
      let line = comes.ends.0.line in
      let at_end = HasAnswered-end (reading reader now) (session s k) c t (output l) line wrote.0 end in
      still c (Ok None) reader after now s t k l comes (at_end, IsReadToEnd-end (reading reader now) (session s k) c line end)
      (counts_none _ _ _ (wrote.2 ∙ sink_quiet c reader now s k comes)) next then is (unread (inl end))
  turned (Err WriteFailed) next c reader after now then s t k l comes half is unread =
      let line = comes.ends.0 in
      let quiet = sink_quiet c reader now s k comes in
      let cut = half.1 in
      let stops = StopsAtWrite-asked (reading reader now) (session s k) c t (output l) line.line half.0 in
      let in_turn = StopsInTurn-asked (reading reader now) (session s k) c t (output l) (last now) line half.0 in
      still c (Err WriteFailed) reader after now s t k l comes (
        stops,
        in_turn,
        record {
          before = cut.before;
          bytes = _;
          took = Takes-then _ _ _ _ cut.bytes line.line.answered.writes.wrote cut.took;
          uncounted = cut.uncounted ∙ quiet;
          piece = cut.piece;
          part = cut.part;
          risen = cut.risen;
        },
      ) (counts_some _ _ _ _ refl quiet half.2) next then is (unread (inr (inl is)))
  turned (Err Memory) next c reader after now then s t k l comes none is unread =
      still c (Err Memory) reader after now s t k l comes
      (StopsAtStep-asked (reading reader now) (session s k) c t (output l) comes.ends.0.line none.0 none.1 none.2)
      (counts_none _ _ _ (none.3 ∙ sink_quiet c reader now s k comes)) next then is (unread (inr (inr is)))
  turned (Err ReadFailed) next c reader after now then s t k l comes never is unread = absurd never
  turned (Err Exhausted) next c reader after now then s t k l comes never is unread = absurd never
