use Rattle.std.proofs.Common.{◌≡◌, ◌∙◌, arith}
use Rattle.std.proofs.lemmas.List.{length-map}
use Rattle.proof_number.proofs.Common.{Note, no_note, GameTree, game_of, move_at}
use Rattle.proof_number.proofs.GameTruths.{noted-move, move-stone, move-unwon, move-lifted, move-holds}
use Rattle.proof_number.proofs.search.Search.step_back.Goals as goal

pub undo-requires-clause-stone : goal.undo-requires-clause-stone
undo-requires-clause-stone g c =
    let game : GameTree = game_of g.R.Rule.KIND c.args.self.now c.args.tree.now in
    let same = c.requires.game.moves in
    let long = length-map c.args.self.now.notes.items (λ (n : Note). n.at) in
    let at : move_at game.moves c.args.node ≡ c.index.result.now.at =
    noted-move c.args.self.now.notes.items c.args.node c.index.result.now no_note (omega (arith, same, long, c.requires.in_tree))
    c.index.ensures in
    move-stone c.requires.tree c.requires.game c.args.node c.requires.some c.requires.in_tree c.index.result.now.at at _ c.requires.view

pub undo-requires-clause-unwon : goal.undo-requires-clause-unwon
undo-requires-clause-unwon g c =
    let game : GameTree = game_of g.R.Rule.KIND c.args.self.now c.args.tree.now in
    let same = c.requires.game.moves in
    let long = length-map c.args.self.now.notes.items (λ (n : Note). n.at) in
    let at : move_at game.moves c.args.node ≡ c.index.result.now.at =
    noted-move c.args.self.now.notes.items c.args.node c.index.result.now no_note (omega (arith, same, long, c.requires.in_tree))
    c.index.ensures in
    move-unwon c.requires.tree c.requires.game c.args.node c.requires.some c.requires.in_tree c.index.result.now.at at _ c.requires.view

pub lift-requires : goal.lift-requires
lift-requires g c =
    let game : GameTree = game_of g.R.Rule.KIND c.args.self.now c.args.tree.now in
    let same = c.requires.game.moves in
    let long = length-map c.args.self.now.notes.items (λ (n : Note). n.at) in
    let at : move_at game.moves c.args.node ≡ c.index.result.now.at =
    noted-move c.args.self.now.notes.items c.args.node c.index.result.now no_note (omega (arith, same, long, c.requires.in_tree))
    c.index.ensures in
    record {
      stone = move-holds c.requires.tree c.requires.game c.args.node c.requires.some c.requires.in_tree c.index.result.now.at at
          c.args.self.now.board c.requires.board;
    }

pub returns-clause-view : goal.returns-clause-view
returns-clause-view g c =
    let game : GameTree = game_of g.R.Rule.KIND c.args.self.now c.args.tree.now in
    let same = c.requires.game.moves in
    let long = length-map c.args.self.now.notes.items (λ (n : Note). n.at) in
    let at : move_at game.moves c.args.node ≡ c.index.result.now.at =
    noted-move c.args.self.now.notes.items c.args.node c.index.result.now no_note (omega (arith, same, long, c.requires.in_tree))
    c.index.ensures in
    c.undo.ensures.undone ∙ move-lifted c.requires.tree c.requires.game c.args.node c.requires.some c.requires.in_tree
    c.index.result.now.at at _ c.requires.view

pub returns-clause-board : goal.returns-clause-board
returns-clause-board g c =
    let game : GameTree = game_of g.R.Rule.KIND c.args.self.now c.args.tree.now in
    let same = c.requires.game.moves in
    let long = length-map c.args.self.now.notes.items (λ (n : Note). n.at) in
    let at : move_at game.moves c.args.node ≡ c.index.result.now.at =
    noted-move c.args.self.now.notes.items c.args.node c.index.result.now no_note (omega (arith, same, long, c.requires.in_tree))
    c.index.ensures in
    c.lift.ensures.lift ∙ move-lifted c.requires.tree c.requires.game c.args.node c.requires.some c.requires.in_tree
    c.index.result.now.at at c.args.self.now.board c.requires.board
