-- What the statuses of each command show follows from the report of its run.
use Rattle.std.proofs.Common.{◌≡◌, sym, ap, subst, ℕ, List}
use Rattle.renju_cli.specs.declared.commands.Form.TheVariants.{Check, Fours, Threats, Solve, Brain, BrainWith, Drill, Image, Book, Referee}
use Rattle.renju_cli.specs.declared.commands.Form.TheVariants.{RefereeWith, Defend, Bind, Quiet, Cover, Join}
use Rattle.command_base.specs.Runs.{Run}
use Rattle.command_base.specs.Forms.{HasWords}
use Rattle.table_commands.specs.Checks.{ShowsWin}
use Rattle.position_commands.specs.Fours.{ShowsSearch}
use Rattle.position_commands.specs.Threats.{ShowsSequence}
use Rattle.solve_command.specs.Solves.{ShowsSolution}
use Rattle.quiet_command.specs.Quiets.{ShowsQuietWin}
use Rattle.brain_commands.specs.Brains.{brain_with_words, IsBrainWith}
use Rattle.file_loading.specs.HeldFiles.{IsFileName}
use Rattle.renju_cli.proofs.Common.{second_word, words_after, words_after_second, words_after_third, Report}
use Rattle.brain_commands.specs.Games.{ShowsHeldGames, ShowsOwnGames}
use Rattle.brain_commands.specs.Drills.{ShowsDrill}
use Rattle.table_commands.specs.Images.{ShowsImage}
use Rattle.table_commands.specs.Referees.{referee_with_words, IsRefereeWith, ShowsReferee, ShowsVerdict}
use Rattle.position_commands.specs.Defends.{ShowsDefence}
use Rattle.table_commands.specs.Binds.{AreNames, IsBind, ShowsBinding, bind_words}
use Rattle.table_commands.specs.Books.{ShowsBook}
use Rattle.cover_command.specs.Covers.{AreInRange, IsCoverRun, ShowsCover, cover_words}
use Rattle.cover_command.proofs.CoverRuns.{cover-shown}
use Rattle.join_command.specs.Joins.{AreJoinWords, IsJoinRun, ShowsJoin, join_words}
use Rattle.join_command.proofs.JoinRuns.{join-shown}
use Rattle.table_commands.proofs.CheckLaws.{check-won}
use Rattle.position_commands.proofs.FoursLaws.{fours-searched}
use Rattle.position_commands.proofs.ThreatsLaws.{threats-searched}
use Rattle.solve_command.proofs.SolveLaws.{solve-shown}
use Rattle.quiet_command.proofs.QuietLaws.{quiet-shown}
use Rattle.brain_commands.proofs.GameLaws.{brain-plays, brain-plays-own, file-plays-own}
use Rattle.brain_commands.proofs.DrillLaws.{drill-shown}
use Rattle.table_commands.proofs.ImageLaws.{image-shown}
use Rattle.table_commands.proofs.RefereeLaws.{referee-shown, verdict-shown}
use Rattle.position_commands.proofs.DefendLaws.{defend-shown}
use Rattle.table_commands.proofs.BindLaws.{bind-shown}
use Rattle.table_commands.proofs.BookLaws.{book-shown}
use Rattle.renju_cli.proofs.ReportLaws.{does-of, has_words, report-complete}
use Rattle.renju_cli.proofs.run.run_renju.Goals as goal

report-won : (run : Run) → Report run → ShowsWin run
report-won run report work words low high zero = check-won work run zero (does-of run report (Check work) (has_words words (low, high)))

report-games : (run : Run) → Report run → ShowsHeldGames run
report-games run report name words range =
    let second : second_word run.words ≡ name = ap second_word words in
    let is : HasWords run.words (brain_with_words (second_word run.words)) (IsFileName (second_word run.words)) =
    subst (λ (n : List ℕ). HasWords run.words (brain_with_words n) (IsFileName n)) (sym second) (has_words words range) in
    brain-plays name run (subst (λ (n : List ℕ). IsBrainWith n run) second (does-of run report BrainWith is))

report-own_games : (run : Run) → Report run → ShowsOwnGames run
report-own_games run report = record {
  alone = λ words. brain-plays-own run (does-of run report Brain (has_words words tt));
  with_file = λ name words range. file-plays-own name run;
}

report-searched : (run : Run) → Report run → ShowsSearch run
report-searched run report depth nodes words range =
    fours-searched depth nodes run (does-of run report (Fours depth nodes) (has_words words range))

report-drilled : (run : Run) → Report run → ShowsDrill run
report-drilled run report n words range done = drill-shown n run (does-of run report (Drill n) (has_words words range)) done

report-sequences : (run : Run) → Report run → ShowsSequence run
report-sequences run report limit nodes words range =
    threats-searched limit nodes run (does-of run report (Threats limit nodes) (has_words words range))

report-solved : (run : Run) → Report run → ShowsSolution run
report-solved run report depth nodes words range =
    solve-shown depth nodes run (does-of run report (Solve depth nodes) (has_words words range))

report-quietly : (run : Run) → Report run → ShowsQuietWin run
report-quietly run report depth nodes words range =
    quiet-shown depth nodes run (does-of run report (Quiet depth nodes) (has_words words range))

report-imaged : (run : Run) → Report run → ShowsImage run
report-imaged run report s words zero = image-shown s run zero (does-of run report (Image s) (has_words words tt))

report-defended : (run : Run) → Report run → ShowsDefence run
report-defended run report depth nodes words range =
    defend-shown depth nodes run (does-of run report (Defend depth nodes) (has_words words range))

report-booked : (run : Run) → Report run → ShowsBook run
report-booked run report work words low high done =
    book-shown work run done (does-of run report (Book work) (has_words words (low, high)))

report-judged : (run : Run) → Report run → ShowsVerdict run
report-judged run report words = verdict-shown run (does-of run report Referee (has_words words tt))

report-refereed : (run : Run) → Report run → ShowsReferee run
report-refereed run report name words range done =
    let second : second_word run.words ≡ name = ap second_word words in
    let is : HasWords run.words (referee_with_words (second_word run.words)) (IsFileName (second_word run.words)) =
    subst (λ (n : List ℕ). HasWords run.words (referee_with_words n) (IsFileName n)) (sym second) (has_words words range) in
    referee-shown name run (subst (λ (n : List ℕ). IsRefereeWith n run) second (does-of run report RefereeWith is)) done

report-bound : (run : Run) → Report run → ShowsBinding run
report-bound run report names words range done =
    let after : words_after run.words ≡ names = ap words_after words in
    let is : HasWords run.words (bind_words (words_after run.words)) (AreNames (words_after run.words)) =
    subst (λ (ns : List (List ℕ)). HasWords run.words (bind_words ns) (AreNames ns)) (sym after) (has_words words range) in
    bind-shown names run (subst (λ (ns : List (List ℕ)). IsBind ns run) after (does-of run report Bind is)) done

report-covered : (run : Run) → Report run → ShowsCover run
report-covered run report work attack names words range =
    let after : words_after_third run.words ≡ names = ap words_after_third words in
    let is : HasWords run.words (cover_words work attack (words_after_third run.words))
    (AreInRange work attack (words_after_third run.words)) =
    subst (λ (ns : List (List ℕ)). HasWords run.words (cover_words work attack ns) (AreInRange work attack ns)) (sym after)
    (has_words words range) in
    cover-shown work attack names run (subst (λ (ns : List (List ℕ)). IsCoverRun work attack ns run) after
    (does-of run report (Cover work attack) is))

report-joined : (run : Run) → Report run → ShowsJoin run
report-joined run report attack names words range =
    let after : words_after_second run.words ≡ names = ap words_after_second words in
    let is : HasWords run.words (join_words attack (words_after_second run.words)) (AreJoinWords attack (words_after_second run.words)) =
    subst (λ (ns : List (List ℕ)). HasWords run.words (join_words attack ns) (AreJoinWords attack ns)) (sym after)
    (has_words words range) in
    join-shown attack names run (subst (λ (ns : List (List ℕ)). IsJoinRun attack ns run) after (does-of run report (Join attack) is))

-- all that holds of a run follows from its report
pub returns : goal.returns
returns g c = rw c.number.ensures.number (record {
  report = c.run.ensures.report;
  won = report-won _ c.run.ensures.report;
  held_games = report-games _ c.run.ensures.report;
  own_games = report-own_games _ c.run.ensures.report;
  searched = report-searched _ c.run.ensures.report;
  drilled = report-drilled _ c.run.ensures.report;
  imaged = report-imaged _ c.run.ensures.report;
  judged = report-judged _ c.run.ensures.report;
  refereed = report-refereed _ c.run.ensures.report;
  defended = report-defended _ c.run.ensures.report;
  booked = report-booked _ c.run.ensures.report;
  bound = report-bound _ c.run.ensures.report;
  covered = report-covered _ c.run.ensures.report;
  joined = report-joined _ c.run.ensures.report;
  sequences = report-sequences _ c.run.ensures.report;
  solved = report-solved _ c.run.ensures.report;
  quietly = report-quietly _ c.run.ensures.report;
  complete = report-complete _ c.run.ensures.report;
  devices = c.run.ensures.devices;
})
