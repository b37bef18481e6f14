use Rattle.std.proofs.Common.{◌∙◌, sym, ap, arith}
use Rattle.std.proofs.lemmas.List.{get_or_default}
use Rattle.proof_number.specs.Notes.{no_note, note_at, noted_win}
use Rattle.proof_number.proofs.Recording.{noted-inside, noted-none, noted-searches, noted-written, passed-idle}
use Rattle.proof_number.proofs.search.Search.compiled.Goals as goal

pub index-requires : goal.index-requires
index-requires g c = let low = noted-inside
    c.requires.searching c.requires.in_tree in omega (arith, low)

pub returns-in-Some-clause-win : goal.returns-in-Some-clause-win
returns-in-Some-clause-win g c =
    let low = noted-inside c.requires.searching c.requires.in_tree in
    let note = get_or_default c.args.self.now.notes.items c.args.node no_note c.index.result.now low ∙ sym c.index.ensures in
    noted-written c.requires.searching c.requires.in_tree c.in-Some.win (ap noted_win note ∙ sym c.in-Some.ensures.win)

pub returns-in-Some-clause-passed : goal.returns-in-Some-clause-passed
returns-in-Some-clause-passed g c =
    let low = noted-inside c.requires.searching c.requires.in_tree in
    let note = get_or_default c.args.self.now.notes.items c.args.node no_note c.index.result.now low ∙ sym c.index.ensures in
    passed-idle _ (noted-searches c.requires.searching c.in-Some.win (ap noted_win note ∙ sym c.in-Some.ensures.win))

pub compile-requires-clause-unwritten : goal.compile-requires-clause-unwritten
compile-requires-clause-unwritten g c =
    let low = noted-inside c.requires.searching c.requires.in_tree in
    let note = get_or_default c.args.self.now.notes.items c.args.node no_note c.index.result.now low ∙ sym c.index.ensures in
    noted-none (note_at c.args.self.now.notes.items c.args.node) (ap noted_win note ∙ sym c.in-None.ensures.win)
