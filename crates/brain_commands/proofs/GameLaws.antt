-- What runs of `brain` and `brain FILE` show of the games that the brain plays.
use Rattle.std.proofs.Common.{◌≡◌, inl, inr, refl, sym, ap, subst, ◌∙◌, ◌⊎◌, ℕ, zero, suc, ◌≤◌, true, List, []}
use Rattle.std.proofs.Common.{◌∷◌, ◌++◌, length, take, drop, map, lit≤, arith, append_assoc, append-nil, get_or, rules}
use Rattle.std.proofs.lemmas.List.{length-map, map-append, take-append-drop}
use Rattle.std.specs.List.{AllByRecursion}
use Rattle.std.specs.Prelude.{Option, Some, None, IfSome, All, Contains}
use Rattle.std.proofs.lemmas.Option.{same_Some}
use Rattle.std.proofs.lemmas.List.Elements.{All-contains}
use Rattle.std.proofs.lemmas.Bool.{lt-ltb}
use Rattle.game_rules.specs.Grid.{Grid}
use Rattle.strategy_graph.specs.declared.Node.{Node}
use Rattle.strategy_graph.specs.declared.roots.Root.{Root}
use Rattle.strategy_graph.specs.Roots.{root_below, root_depth, RootWins}
use Rattle.strategy_graph.proofs.Starts.{accepted-root-wins}
use Rattle.strategy_checker.specs.declared.held.HeldRoot.{HeldRoot}
use Rattle.strategy_checker.specs.HeldRoots.{HeldTable, IsHeldRoot, IsHeld}
use Rattle.strategy_checker.specs.declared.TheConstants.{MAX_ROOTS}
use Rattle.table_book.specs.declared.Entry.{Entry}
use Rattle.table_book.specs.Books.{EntryFits, IsSound}
use Rattle.table_book.specs.Holding.{IsAccepted}
use Rattle.table_book.proofs.Soundness.{root_fits-below}
use Rattle.position_files.specs.declared.TableFile.{TableFile}
use Rattle.position_files.specs.Tables.{RootFits}
use Rattle.renju_io.specs.Files.{Files}
use Rattle.renju_io.specs.Told.{Gives}
use Rattle.renju_io.specs.Lines.{lines, whole_lines}
use Rattle.renju_io.specs.declared.TheConstants.{MAX_SESSION_BYTES}
use Rattle.renju_io.proofs.WholeLines.{whole_cut}
use Rattle.gomocup_text.specs.Commands.{commands, command_told}
use Rattle.gomocup_text.specs.declared.Command.{Command as Asked}
use Rattle.gomocup_text.specs.declared.Answer.{Answer}
use Rattle.brain_session.specs.States.{State, new_brain}
use Rattle.brain_session.specs.ChosenMoves.{root_node}
use Rattle.brain_session.specs.Serving.{StopsInTurn, StopsAtStep, HasAnswered, within_limit, IsTooLong}
use Rattle.brain_session.specs.HeldGames.{IsTight, IsLedTo}
use Rattle.brain_session.specs.declared.Reaction.{Reaction}
use Rattle.brain_session.specs.declared.Reaction.TheVariants.{Says}
use Rattle.brain_session.specs.Steps.{brain_step}
use Rattle.brain_session.specs.Sessions.{then_answers, answers_from}
use Rattle.brain_session.proofs.SessionLaws.{answers-append}
use Rattle.brain_session.proofs.LawfulStates.{session-lawful, new-lawful}
use Rattle.brain_session.proofs.HeldGames.{held-games-go_well, held-games-led, starts-are_tight}
use Rattle.brain_session.proofs.OwnGames.{own-games-go_well}
use Rattle.brain_session.proofs.RootGames.{roots-begin_games}
use Rattle.brain_session.proofs.TurnLines.{own-replies-in_bytes, replies-in_bytes}
use Rattle.brain_session.proofs.LineGames.{held-lines-win}
use Rattle.brain_session.specs.declared.TheConstants.{BRAIN_WORK}
use Rattle.command_base.specs.declared.status.Status.{Status}
use Rattle.command_base.specs.declared.status.Status.TheVariants.{Done, Memory, ReadFault, WriteFault, TooLong}
use Rattle.command_base.specs.Statuses.{status_number}
use Rattle.command_base.specs.Runs.{Run, IsUnbegun}
use Rattle.file_loading.specs.TableFiles.{IsTableAt}
use Rattle.brain_commands.specs.Brains.{nothing_held, session_of, EndsSession, IsSession, IsBrain, IsBrainWith, PlaysByFile}
use Rattle.file_loading.specs.HeldFiles.{held_by, held_with, named_entry, of_table, HeldFile, NamedRoot, IsFit, IsHeldText}
use Rattle.file_loading.specs.HeldFiles.{FileSays, GivesHeld, TellsFile}
use Rattle.brain_commands.specs.Games.{state_told, StandsBehind, GamesGoWell, PlaysByRoots, OwnGamesGoWellIn, AnsweredLines, IsPlayedBy}
use Rattle.brain_commands.specs.Games.{PlaysByFours, ShowsGames, PlaysOwnWins}
use Rattle.command_base.proofs.ToldLaws.{told-some, where-told}
use Rattle.file_loading.proofs.HeldFileLaws.{found-under, file-other, unheld-other, delivered-other, not-other}
use Rattle.brain_commands.proofs.BrainLaws.{ends-by}

-- ---- answers, one behind another

-- the answer to a command stands before those to what comes later
answer_first : (s : State) (c : Asked) (later : List Asked) (first : Answer) → (brain_step s c).reaction ≡ Says first
    → answers_from s (c ∷ later) ≡ first ∷ answers_from (brain_step s c).next later
unfolding answers_from
answer_first s c later first says = ap (λ (r : Reaction). then_answers r (answers_from (brain_step s c).next later)) says

stand_behind : (held : HeldTable) (before : List Asked) (c : Asked) (later : List Asked) (first : Answer)
    → (brain_step (state_told held before) c).reaction ≡ Says first
    → StandsBehind held before c later first
stand_behind held before c later first says no_end = search (rules, answers-append, answer_first)

-- ---- games by a held root

-- a root that is accepted, whose moves are its depth
record IsDueRoot (t : List Node) (r : NamedRoot) : Type 0 where
  held : IsHeldRoot t r.root
  moves : r.moves ≡ root_depth t r.root.root

-- what holds of each holds of the roots
all_map : (P : HeldRoot → Type 0) (Q : NamedRoot → Type 0) (named : List NamedRoot) → ((r : NamedRoot) → Q r → P r.root) → All Q named
    → All P (map (λ r. r.root) named)
all_map P Q [] f all k d low = absurd (omega (arith, low))
all_map P Q (r ∷ named) f all zero d low = f r (all 0 r (omega arith))
all_map P Q (r ∷ named) f all (suc k) d low = all_map P Q named f (λ j e less. all (suc j) e (omega (arith, less))) k d (omega (arith, low))

-- a root that is held is one of those that are named
named_of : (named : List NamedRoot) (x : HeldRoot) → Contains (map (λ r. r.root) named) x
    → (r : NamedRoot) × Contains named r × (r.root ≡ x)
named_of [] x (k, low, is) = absurd (omega (arith, low))
named_of (r ∷ named) x (zero, low, is) = (r, (0, omega arith, refl), is)
named_of (r ∷ named) x (suc k, low, is) =
    let there = named_of named x (k, omega (arith, low), is) in
    let less = there.1.1 in
    (there.0, (suc there.1.0, omega (arith, less), there.1.2), there.2)

module _ (t : List Node) (named : List NamedRoot) (due : All (IsDueRoot t) named) (few : IsHeld (held_with t named)) where
  abbrev held : HeldTable
  held = held_with t named

  games_go_well : (asked : List Asked) → GamesGoWell t named asked
  games_go_well asked before c later g i e begins =
      let kept = session-lawful held (new_brain held) before (new-lawful held) in
      let goes = held-games-go_well held few before c later g i begins in
      let led : IsLedTo held g i = subst (λ (h : HeldTable). IsLedTo h g i) kept.1 (held-games-led held few before c g i begins) in
      let name = named_of named led.root led.held in
      let deep = led.no_deeper in
      let is_due = All-named name.0 name.1 in
      let moves = is_due.moves in
      let same : root_depth t name.0.root.root ≡ root_depth t led.root.root = ap (λ (r : HeldRoot). root_depth t r.root) name.2 in
      record {
        holds = kept.1;
        goes_well = goes;
        root = name.0;
        is_named = name.1;
        leads = ap (root_node g) name.2 ∙ led.leads;
        within = omega (arith, deep, moves, same);
        stands = stand_behind held before c later goes.first goes.says;
      } where
        All-named : (r : NamedRoot) → Contains named r → IsDueRoot t r
        All-named r is = All-contains (IsDueRoot t) named r due is

  plays_by_roots : PlaysByRoots t named
  plays_by_roots = record {
    win = λ k d low. let r = get_or named k d in
        subst (λ (n : ℕ). RootWins r.root.kind r.root.root n r.root.board) (sym (due k d low).moves)
        (accepted-root-wins r.root.kind t r.root.root r.root.board (due k d low).held.accepted);
    tight = tights named (starts-are_tight held few);
    begin = roots-begin_games held few;
    games = games_go_well;
    bytes = replies-in_bytes held few;
    lines = held-lines-win held few;
  } where
    tights : (rs : List NamedRoot) → All (λ r. IsTight r.kind r.board r.root) (map (λ r. r.root) rs)
        → All (λ r. IsTight r.root.kind r.root.board r.root.root) rs
    tights [] all k d low = absurd (omega (arith, low))
    tights (r ∷ rs) all zero d low = all 0 r.root (omega arith)
    tights (r ∷ rs) all (suc k) d low = tights rs (λ j e less. all (suc j) e (omega (arith, less))) k d (omega (arith, low))

-- ---- games by a win of the brain's own

own_games : (held : HeldTable) → IsHeld held → (asked : List Asked) → OwnGamesGoWellIn held asked
own_games held is asked before c later g m e begins =
    let goes = own-games-go_well held is before c later g m begins in
    record { goes_well = goes; stands = stand_behind held before c later goes.first goes.says }

plays_by_fours : (held : HeldTable) → IsHeld held → PlaysByFours held
plays_by_fours held is = record { games = own_games held is; bytes = own-replies-in_bytes held is }

-- a brain that holds nothing holds no root that is not accepted
nothing_is_held : IsHeld nothing_held
nothing_is_held = record { roots = λ k d low. absurd (omega (arith, low)); few = lit≤ tt }

-- ---- the lines that were answered

-- the first whole lines of some bytes
first_lines : (bytes given rest : List ℕ) → bytes ≡ given ++ rest
    → (later : List Asked) × (commands bytes ≡ commands (whole_lines given) ++ later)
first_lines bytes given rest is =
    let cut = whole_cut given in
    let back = cut.back in (
      map command_told (lines (back ++ rest)),
      ap commands (is ∙ ap (λ (l : List ℕ). l ++ rest) cut.is ∙ append_assoc (whole_lines given) back rest)
          ∙ ap (map command_told) (cut.splits (back ++ rest))
          ∙ map-append command_told (lines (whole_lines given)) (lines (back ++ rest)),
    )

-- those of a front of the bytes
front_lines : (n : ℕ) (bytes : List ℕ) → (later : List Asked) × (commands bytes ≡ commands (whole_lines (take n bytes)) ++ later)
front_lines n bytes = first_lines bytes (take n bytes) (drop n bytes) (sym (take-append-drop n bytes))

-- what a source gave stands before the rest
given_lines : (bytes given : List ℕ) (left left_after : Option (List ℕ)) → left ≡ Some bytes → Gives left given left_after
    → (later : List Asked) × (commands bytes ≡ commands (whole_lines given) ++ later)
given_lines bytes given left None told gives = let e : Some bytes ≡ None = sym told ∙ gives in cc
given_lines bytes given left (Some rest) told gives = first_lines bytes given rest (same_Some bytes (given ++ rest) (sym told ∙ gives))

module _ (held : HeldTable) (run : Run) (bytes : List ℕ) (told : run.input.before ≡ Some bytes) where
  lines_by : (status : Status) (last : State) → run.status ≡ status_number status
      → EndsSession (session_of held last run.output) run.input run.output run.last status
      → AnsweredLines held run bytes
  lines_by Done last ends how =
      let answered = told-some (λ all. HasAnswered (session_of held last run.output) (commands all)) run.input.before bytes told how.0 in
      record {
        asked = commands bytes;
        front = ([], sym (append-nil (commands bytes)));
        whole = λ done. refl;
        written = run.output.after;
        wrote = answered.writes.wrote;
        ends = inl refl;
      }
  lines_by ReadFault last ends how =
      let stops = how.1 in
      record {
        asked = commands (whole_lines stops.given);
        front = given_lines bytes stops.given run.input.before run.input.after told stops.gives;
        whole = λ done. let e : 7 ≡ 0 = sym ends ∙ done in cc;
        written = run.output.after;
        wrote = stops.answered.writes.wrote;
        ends = inl refl;
      }
  lines_by WriteFault last ends how =
      let in_turn = told-some (λ all. StopsInTurn (session_of held last run.output) (commands all)
      run.input.before run.input.after run.last) run.input.before bytes told how.1 in
      let stops = in_turn.stops in
      record {
        asked = stops.earlier;
        front = (stops.command ∷ stops.later, stops.among);
        whole = λ done. let e : 8 ≡ 0 = sym ends ∙ done in cc;
        written = stops.written.written;
        wrote = stops.writes.wrote;
        ends = inr (ends, (stops.answer, stops.part));
      }
  lines_by TooLong last ends how =
      let long = told-some (λ all. HasAnswered (session_of held last run.output) (commands (within_limit all))
      × IsTooLong all) run.input.before bytes told how.0 in
      record {
        asked = commands (within_limit bytes);
        front = front_lines MAX_SESSION_BYTES bytes;
        whole = λ done. let e : 11 ≡ 0 = sym ends ∙ done in cc;
        written = run.output.after;
        wrote = long.0.writes.wrote;
        ends = inl refl;
      }
  lines_by Memory last ends how =
      let stops = told-some (λ all. StopsAtStep (session_of held last run.output) (commands all)) run.input.before bytes told how in
      record {
        asked = stops.earlier;
        front = (stops.command ∷ stops.later, stops.among);
        whole = λ done. let e : 6 ≡ 0 = sym ends ∙ done in cc;
        written = run.output.after;
        wrote = stops.answered.writes.wrote;
        ends = inl refl;
      }
  lines_by _ last ends how = absurd how

answered_lines : (held : HeldTable) (run : Run) → IsSession held run.input run.output run.last run.status
    → IfSome run.input.before (AnsweredLines held run)
answered_lines held run session = search (where-told, lines_by)

-- ---- FILE

-- what holds of the one item holds of all
all_one : {X : Type 0} (P : X → Type 0) (x : X) → P x → All P (x ∷ [])
all_one P x h k d few = search rules

-- the root of a text names nodes of its table
root_named : (b : Grid) (t : List Node) (root : Root) (moves : ℕ) → RootFits b t root moves → root_below root (length t) ≡ true
root_named b t root moves fits = search (rules, lt-ltb)

-- what holds of each item, said of each place
all_places : {X : Type 0} (P : X → Type 0) (xs : List X) → AllByRecursion P xs → All P xs
all_places P [] all k d low = absurd (omega (arith, low))
all_places P (x ∷ xs) all zero d low = all.0
all_places P (x ∷ xs) all (suc k) d low = all_places P xs all.1 k d (omega (arith, low))

-- the root of a table that is accepted may be held
due_table : (file : TableFile) (bytes : List ℕ) → IsTableAt file bytes → IsFit BRAIN_WORK file
    → All (IsDueRoot file.table) (of_table file).roots
due_table file bytes at fit = search (all_one, root_named)

-- so may those of a book of which each entry is accepted
due_entries : (t : List Node) (es : List Entry) → AllByRecursion (EntryFits (length t)) es → AllByRecursion (IsSound t) es
    → AllByRecursion (IsAccepted t BRAIN_WORK) es
    → AllByRecursion (IsDueRoot t) (map named_entry es)
due_entries t [] fits sound accepted = tt
due_entries t (e ∷ es) fits sound accepted = search (root_fits-below, due_entries t es fits.1 sound.1 accepted.1)

-- What bytes give may be held: its roots are due, and are not too many.
record MayBeHeld (file : HeldFile) : Type 0 where
  due : All (IsDueRoot file.table) file.roots
  few : length file.roots ≤ MAX_ROOTS

may_be_held : (file : HeldFile) (bytes : List ℕ) → IsHeldText file bytes → MayBeHeld file
may_be_held file bytes (inl table) = subst MayBeHeld (sym table.gives)
    (record { due = due_table table.file bytes table.at table.fit; few = lit≤ tt })
may_be_held file bytes (inr book) =
    let entries = book.book.entries in
    let text = book.at.well_formed.text in
    let some = text.some.few in
    let count = length-map entries named_entry in
    rw book.gives (record {
      due = all_places (IsDueRoot book.book.table) (map named_entry entries)
          (due_entries book.book.table entries text.entries book.at.well_formed.entries book.fit);
      few = omega (arith, some, count);
    })

module _ (file : HeldFile) (bytes : List ℕ) (at : IsHeldText file bytes) where
  -- what is held by it is accepted
  file_held : IsHeld (held_by file)
  file_held =
      let may = may_be_held file bytes at in
      let count = length-map file.roots (λ (r : NamedRoot). r.root) in
      let few = may.few in
      record {
        roots = all_map (IsHeldRoot file.table) (IsDueRoot file.table) file.roots (λ r due. due.held) may.due;
        few = omega (arith, few, count);
      }

  file_plays : PlaysByRoots file.table file.roots
  file_plays = plays_by_roots file.table file.roots (may_be_held file bytes at).due file_held

module _ (name : List ℕ) (run : Run) (is : IsBrainWith name run) (files : Files) (told : run.shelf.before ≡ Some files) where
  played-by : (file : HeldFile) → GivesHeld name files file → IsPlayedBy file run
  played-by file fit = search (file_plays, ends-by, answered_lines)

  fits-where : PlaysByFile name run ⊎ TellsFile FileSays name run ⊎ IsUnbegun run.input run.output run.status
      → (run.status ≡ status_number Done) ⊎ (run.status ≡ status_number ReadFault)
      → (file : HeldFile) × GivesHeld name files file
  fits-where (inl plays) ended = (
    plays.file,
    record {
      bytes = plays.bytes;
      found = found-under name run files told plays.bytes plays.loaded;
      fits = plays.fits;
      at = plays.at;
    },
  )
  fits-where (inr (inl tells)) ended =
      absurd (not-other run.status ended (delivered-other tells.status tells.text run.output run.status
      (unheld-other FileSays file-other run.shelf name tells.status tells.text tells.why) tells.delivered))
  fits-where (inr (inr unbegun)) ended = absurd (not-other run.status ended
      (rw unbegun.ends (λ e. absurd (cc), λ e. absurd (cc))))

-- what `brain FILE` did in a run shows this of its games
pub brain-plays : (name : List ℕ) (run : Run) → IsBrainWith name run → IfSome run.shelf.before (λ files. ShowsGames name files run)
brain-plays name run is = where-told run.shelf.before (λ files told. record {
  fits = fits-where name run is files told is.ends;
  plays = λ file fit. played-by name run is files told file fit;
})

-- what `brain` did in a run shows this of them
pub brain-plays-own : (run : Run) → IsBrain run → PlaysOwnWins run
brain-plays-own run is = search (plays_by_fours, nothing_is_held, answered_lines)

-- so does `brain FILE`
pub file-plays-own : (name : List ℕ) (run : Run)
    → IfSome run.shelf.before (λ files. (file : HeldFile) → GivesHeld name files file → PlaysByFours (held_by file))
file-plays-own name run = where-told run.shelf.before
    (λ files told file fit. plays_by_fours (held_by file) (file_held file fit.bytes fit.at))
