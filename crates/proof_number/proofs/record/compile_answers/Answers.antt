use Rattle.std.proofs.Common.{◌∙◌, ◌<◌, List, ap, map, length}
use Rattle.std.proofs.lemmas.List.Elements.{All-from_recursion}
use Rattle.proof_number.proofs.Common.{points_of, Note, all_notes, answer_of}
use Rattle.strategy_graph.specs.declared.Reply.{Reply}
use Rattle.strategy_graph.proofs.Rising.{points-rising}
use Rattle.proof_number.proofs.Recording.{all-below, all-points, note-points}
use Rattle.proof_number.proofs.record.compile_answers.Goals as goal

pub fork-requires-clause-rising : goal.fork-requires-clause-rising
fork-requires-clause-rising c =
    let all : List Note = all_notes c.args.notes.now (points_of c.args.board.now) in
    let same = c.as_slice-3.ensures.value ∙ c.in_ok-answers.ensures.all
    ∙ ap (map answer_of) (c.as_slice.ensures.value ∙ c.in_ok-all.ensures.notes) in
    points-rising c.args.board.now c.as_slice-3.result.now
    (ap (map (λ (r : Reply). r.at)) same ∙ note-points all ∙ all-points c.args.notes.now (points_of c.args.board.now))

pub fork-requires-clause-below : goal.fork-requires-clause-below
fork-requires-clause-below c =
    let all : List Note = all_notes c.args.notes.now (points_of c.args.board.now) in
    let same = c.as_slice-3.ensures.value ∙ c.in_ok-answers.ensures.all
    ∙ ap (map answer_of) (c.as_slice.ensures.value ∙ c.in_ok-all.ensures.notes) in
    rw same (All-from_recursion (λ (r : Reply). r.next < length c.args.compiler.now) (map answer_of all)
    (all-below c.args.notes.now (length c.args.compiler.now) c.requires.some c.requires.below (points_of c.args.board.now)))

pub returns-clause-wins : goal.returns-clause-wins
returns-clause-wins c =
    let all : List Note = all_notes c.args.notes.now (points_of c.args.board.now) in
    let same = c.as_slice-3.ensures.value ∙ c.in_ok-answers.ensures.all
    ∙ ap (map answer_of) (c.as_slice.ensures.value ∙ c.in_ok-all.ensures.notes) in
    rw same at c.in_ok-node.ensures.wins
