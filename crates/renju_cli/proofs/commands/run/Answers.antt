use Rattle.std.proofs.Common.{◌≡◌, ℕ, List, arith, inl, refl, sym, subst, ◌∙◌, length, map, string_bytes}
use Rattle.command_base.proofs.ToldLaws.{unread-devices}
use Rattle.renju_cli.specs.declared.commands.Form.{Form}
use Rattle.renju_cli.specs.declared.commands.Form.TheVariants.{BrainWith, RefereeWith, Bind, Cover, Join}
use Rattle.command_base.specs.Statuses.{status_number}
use Rattle.command_base.specs.declared.status.Status.TheVariants.{Usage}
use Rattle.command_base.specs.Runs.{Run, IsDelivered, program_run, change}
use Rattle.renju_cli.proofs.Common.{second_word, IsForm}
use Rattle.renju_cli.proofs.Words.{same-count, word-after, words-after, words-after-second, words-after-third}
use Rattle.renju_cli.proofs.ReportLaws.{bind-reported, cover-reported, file-reported, game-reported, join-reported}
use Rattle.renju_cli.proofs.commands.run.Goals as goal

-- the literal of the usage line is that line
pub returns-in-None-clause-report : goal.returns-in-None-clause-report
returns-in-None-clause-report g c = inl (record {
  formless = c.in-None.ensures.form;
  input = record { same = refl; faults = refl; asked = refl };
  shelf = record { same = refl; faults = refl; asked = refl };
  delivered = subst (λ (t : List ℕ). IsDelivered Usage t
      (change g.O.Sink.written g.O.Sink.faults g.O.Sink.asked c.args.output.now c.deliver.new.output) (status_number c.deliver.result))
      c.as_bytes.ensures.value c.deliver.ensures.delivered;
})

-- the input and the shelf are not asked for the usage line
pub returns-in-None-clause-devices : goal.returns-in-None-clause-devices
returns-in-None-clause-devices g c = unread-devices _ (record { same = refl; faults = refl; asked = refl }) c.deliver.ensures.counted
    (omega arith) refl c.deliver.ensures.writes (λ _ _. refl)

-- nor is the input for files
pub returns-in-Some-Bind-clause-devices : goal.returns-in-Some-Bind-clause-devices
returns-in-Some-Bind-clause-devices g c = unread-devices _ (record { same = refl; faults = refl; asked = refl }) c.bind_book.ensures.output
    c.bind_book.ensures.shelf c.bind_book.ensures.files c.bind_book.ensures.writes c.bind_book.ensures.loads

-- what a command with files says of its devices holds whatever the words
pub returns-in-Some-BrainWith-clause-devices : goal.returns-in-Some-BrainWith-clause-devices
returns-in-Some-BrainWith-clause-devices g c = c.play_with.ensures.devices (map string_bytes c.args.words.now)

pub returns-in-Some-RefereeWith-clause-devices : goal.returns-in-Some-RefereeWith-clause-devices
returns-in-Some-RefereeWith-clause-devices g c = c.referee_with.ensures.devices (map string_bytes c.args.words.now)

pub returns-in-Some-Cover-clause-devices : goal.returns-in-Some-Cover-clause-devices
returns-in-Some-Cover-clause-devices g c = c.cover_with.ensures.devices (map string_bytes c.args.words.now)

-- the file is the second word
pub returns-in-Some-BrainWith-clause-report : goal.returns-in-Some-BrainWith-clause-report
returns-in-Some-BrainWith-clause-report g c =
    let words = map string_bytes c.args.words.now in
    let run : Run = program_run words (change g.I.Source.left g.I.Source.faults g.I.Source.asked c.args.input.now c.play_with.new.input)
    (change g.O.Sink.written g.O.Sink.faults g.O.Sink.asked c.args.output.now c.play_with.new.output)
    (change g.F.Shelf.files g.F.Shelf.faults g.F.Shelf.asked c.args.shelf.now c.play_with.new.shelf)
    (g.I.Source.last c.play_with.new.input) (status_number c.play_with.result) in
    let form : IsForm words BrainWith = subst (λ (f : Form). IsForm words f) c.in-Some-BrainWith.field-0-is
    c.in-Some-BrainWith.ensures.form in
    let two : length c.args.words.now ≡ 2 = same-count string_bytes _ _ form.spelled in
    let file : c.as_str.result.now ≡ second_word words =
    c.as_str.ensures.value ∙ sym (word-after string_bytes c.args.words.now c.index-words-1.result two c.index-words-1.is) in
    file-reported run c.as_str.result.now form file (c.play_with.ensures.plays words)

-- so is it that of `referee FILE`
pub returns-in-Some-RefereeWith-clause-report : goal.returns-in-Some-RefereeWith-clause-report
returns-in-Some-RefereeWith-clause-report g c =
    let words = map string_bytes c.args.words.now in
    let run : Run = program_run words (change g.I.Source.left g.I.Source.faults g.I.Source.asked c.args.input.now c.referee_with.new.input)
    (change g.O.Sink.written g.O.Sink.faults g.O.Sink.asked c.args.output.now c.referee_with.new.output)
    (change g.F.Shelf.files g.F.Shelf.faults g.F.Shelf.asked c.args.shelf.now c.referee_with.new.shelf)
    (g.I.Source.last c.referee_with.new.input) (status_number c.referee_with.result) in
    let form : IsForm words RefereeWith = subst (λ (f : Form). IsForm words f) c.in-Some-RefereeWith.field-0-is
    c.in-Some-RefereeWith.ensures.form in
    let two : length c.args.words.now ≡ 2 = same-count string_bytes _ _ form.spelled in
    let file : c.as_str-in-Some-RefereeWith.result.now ≡ second_word words =
    c.as_str-in-Some-RefereeWith.ensures.value
    ∙ sym (word-after string_bytes c.args.words.now c.index-words-1-in-Some-RefereeWith.result two
    c.index-words-1-in-Some-RefereeWith.is) in
    game-reported run c.as_str-in-Some-RefereeWith.result.now form file (c.referee_with.ensures.referees words)

-- the files are the words after the first
pub returns-in-Some-Bind-clause-report : goal.returns-in-Some-Bind-clause-report
returns-in-Some-Bind-clause-report g c =
    let words = map string_bytes c.args.words.now in
    let input = change g.I.Source.left g.I.Source.faults g.I.Source.asked c.args.input.now c.args.input.now in
    let run : Run = program_run words input
    (change g.O.Sink.written g.O.Sink.faults g.O.Sink.asked c.args.output.now c.bind_book.new.output)
    (change g.F.Shelf.files g.F.Shelf.faults g.F.Shelf.asked c.args.shelf.now c.bind_book.new.shelf)
    (g.I.Source.last c.args.input.now) (status_number c.bind_book.result) in
    let form : IsForm words Bind = subst (λ (f : Form). IsForm words f) c.in-Some-Bind.field-0-is c.in-Some-Bind.ensures.form in
    bind-reported run _ form (words-after string_bytes c.args.words.now)
    (c.bind_book.ensures.binds words input (g.I.Source.last c.args.input.now) (record { same = refl; faults = refl; asked = refl }))

-- the files of `cover` are the words after the third
pub returns-in-Some-Cover-clause-report : goal.returns-in-Some-Cover-clause-report
returns-in-Some-Cover-clause-report g c =
    let words = map string_bytes c.args.words.now in
    let run : Run = program_run words (change g.I.Source.left g.I.Source.faults g.I.Source.asked c.args.input.now c.cover_with.new.input)
    (change g.O.Sink.written g.O.Sink.faults g.O.Sink.asked c.args.output.now c.cover_with.new.output)
    (change g.F.Shelf.files g.F.Shelf.faults g.F.Shelf.asked c.args.shelf.now c.cover_with.new.shelf)
    (g.I.Source.last c.cover_with.new.input) (status_number c.cover_with.result) in
    let form : IsForm words (Cover c.in-Some-Cover.work c.in-Some-Cover.attack) =
    subst (λ (f : Form). IsForm words f) c.in-Some-Cover.field-0-is c.in-Some-Cover.ensures.form in
    cover-reported run _ _ _ form (words-after-third string_bytes c.args.words.now) (c.cover_with.ensures.covers words)

-- and those of `join` the words after the second
pub returns-in-Some-Join-clause-report : goal.returns-in-Some-Join-clause-report
returns-in-Some-Join-clause-report g c =
    let words = map string_bytes c.args.words.now in
    let run : Run = program_run words (change g.I.Source.left g.I.Source.faults g.I.Source.asked c.args.input.now c.join_with.new.input)
    (change g.O.Sink.written g.O.Sink.faults g.O.Sink.asked c.args.output.now c.join_with.new.output)
    (change g.F.Shelf.files g.F.Shelf.faults g.F.Shelf.asked c.args.shelf.now c.join_with.new.shelf)
    (g.I.Source.last c.join_with.new.input) (status_number c.join_with.result) in
    let form : IsForm words (Join c.in-Some-Join.attack) =
    subst (λ (f : Form). IsForm words f) c.in-Some-Join.field-0-is c.in-Some-Join.ensures.form in
    join-reported run _ _ form (words-after-second string_bytes c.args.words.now) (c.join_with.ensures.joins words)
