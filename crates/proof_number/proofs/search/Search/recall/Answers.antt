use Rattle.std.proofs.Common.{◌∙◌, ap}
use Rattle.std.proofs.lemmas.List.{get_or_default}
use Rattle.proof_number.proofs.Common.{packed, looked_up, value_under, Note, no_note}
use Rattle.proof_number.proofs.search.Search.recall.Goals as goal

pub returns-clause-found : goal.returns-clause-found
returns-clause-found g c =
    let note = c.index.ensures ∙ get_or_default c.args.self.now.notes.items c.args.leaf c.index.result.now no_note c.requires.noted in
    c.find.ensures.value ∙ ap (λ k. value_under (k, c.index.result.now.left) c.args.self.now.settled)
    (c.of.ensures.packed ∙ ap packed c.board.ensures.board)
    ∙ ap (λ (n : Note). value_under (packed (g.V.Seen.position c.args.view.now), n.left) c.args.self.now.settled) note

pub returns-clause-entries : goal.returns-clause-entries
returns-clause-entries g c =
    let note = c.index.ensures ∙ get_or_default c.args.self.now.notes.items c.args.leaf c.index.result.now no_note c.requires.noted in
    c.find.ensures.entries ∙ ap (λ k. looked_up (k, c.index.result.now.left) c.args.self.now.settled)
    (c.of.ensures.packed ∙ ap packed c.board.ensures.board)
    ∙ ap (λ (n : Note). looked_up (packed (g.V.Seen.position c.args.view.now), n.left) c.args.self.now.settled) note
