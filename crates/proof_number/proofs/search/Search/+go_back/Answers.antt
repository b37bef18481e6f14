use Rattle.std.proofs.Common.{rules, ◌∙◌, ◌<◌, ℕ, refl, sym, ap, arith, length}
use Rattle.proof_number.proofs.Common.{Grid, IsOnWayUp, IsTree, Link, Search, GameTree, board_at, game_of}
use Rattle.proof_number.proofs.GameTruths.{board-root}
use Rattle.proof_number.proofs.Recording.{board-searches, parent-searches, way-game, way-tree}
use Rattle.proof_number.proofs.StepLaws.{node-back, node-refused, root-back}
use Rattle.proof_number.proofs.search.Search.+go_back.Goals as goal

pub returns-then-node-eq0-clause-view : goal.returns-then-node-eq0-clause-view
returns-then-node-eq0-clause-view g t c =
    let game : GameTree = game_of g.R.Rule.KIND c.args.self.now c.args.tree.now in
    let tree : IsTree c.args.tree.now = way-tree c.requires.searching in
    c.requires.view ∙ ap (board_at game) c.if-node-eq0.true ∙ board-root game.tree.links game.moves game.start tree.linked

pub returns-then-node-eq0-clause-back : goal.returns-then-node-eq0-clause-back
returns-then-node-eq0-clause-back g t c =
    let game : GameTree = game_of g.R.Rule.KIND c.args.self.now c.args.tree.now in
    let tree : IsTree c.args.tree.now = way-tree c.requires.searching in
    root-back c.if-node-eq0.true c.record-found.ensures.passed
    (c.requires.board ∙ ap (board_at game) c.if-node-eq0.true ∙ board-root game.tree.links game.moves game.start tree.linked)

pub returns-in-Ok-clause-back : goal.returns-in-Ok-clause-back
returns-in-Ok-clause-back g t c = node-back c.in-Ok.ensures.passed c.step_back.ensures.rest c.go_back.ensures.back

pub returns-in-Err-clause-back : goal.returns-in-Err-clause-back
returns-in-Err-clause-back g t c =
    node-refused _ refl c.in-Err.ensures.passed
    (c.take_back.ensures.rest ∙ ap (λ (s : Search). record s { board = c.take_back.new.self.board }) c.step_back.ensures.rest)
    (c.take_back.ensures.board ∙ ap (λ (s : Search). s.root) c.step_back.ensures.rest)

pub step_back-requires-clause-tree : goal.step_back-requires-clause-tree
step_back-requires-clause-tree g t c = way-tree
    c.requires.searching

pub step_back-requires-clause-game : goal.step_back-requires-clause-game
step_back-requires-clause-game g t c =
    rw (c.record-found.ensures.passed.keeps.places g.R.Rule.KIND c.args.tree.now) (way-game c.requires.searching)

pub step_back-requires-clause-view : goal.step_back-requires-clause-view
step_back-requires-clause-view g t c =
    c.requires.view ∙ sym (ap (λ (w : GameTree). board_at w c.args.node)
    (c.record-found.ensures.passed.keeps.places g.R.Rule.KIND c.args.tree.now))

pub step_back-requires-clause-board : goal.step_back-requires-clause-board
step_back-requires-clause-board g t c =
    ap (λ (s : Search). s.board) c.record-found.ensures.passed.keeps.rest ∙ c.requires.board
    ∙ sym (ap (λ (w : GameTree). board_at w c.args.node) (c.record-found.ensures.passed.keeps.places g.R.Rule.KIND c.args.tree.now))

pub go_back-requires : goal.go_back-requires
go_back-requires g t c κs within =
    let tree : IsTree c.args.tree.now = way-tree c.requires.searching in
    let some : 0 < c.args.node = let e = c.if-node-eq0.false in omega (arith, e) in
    let up = ap (λ (l : Link). l.parent) c.link-parent.ensures.link in
    let lower : c.link-parent.result.parent < c.args.node = let low =
    tree.linked.parent_first c.args.node some c.requires.in_tree in omega (arith, low, up) in
    let inside : c.link-parent.result.parent < length c.args.tree.now.links = let low = c.requires.in_tree in omega (arith, lower, low) in
    let before = parent-searches c.in-Ok.ensures.passed.searching in
    let searching = board-searches g.R.Rule.KIND c.record-found.new.self c.step_back.new.self c.args.tree.now c.record-found.new.compiler
    (IsOnWayUp c.args.tree.now.links c.link-parent.result.parent) c.step_back.ensures.rest (rw up before) in
    let at : Search → ℕ → Grid = λ s i. board_at (game_of g.R.Rule.KIND s c.args.tree.now) i in
    let view = c.step_back.ensures.view ∙ ap (at c.record-found.new.self) (sym up)
    ∙ ap (λ (s : Search). at s c.link-parent.result.parent) (sym c.step_back.ensures.rest) in
    let board = c.step_back.ensures.board ∙ ap (at c.record-found.new.self) (sym up)
    ∙ ap (λ (s : Search). at s c.link-parent.result.parent) (sym c.step_back.ensures.rest) in
    search rules

pub take_back-requires-clause-in_tree : goal.take_back-requires-clause-in_tree
take_back-requires-clause-in_tree g t c =
    let tree : IsTree c.args.tree.now = way-tree c.requires.searching in
    let some : 0 < c.args.node = let e = c.if-node-eq0.false in omega (arith, e) in
    let up = ap (λ (l : Link). l.parent) c.link-parent.ensures.link in
    omega (arith, tree.linked.parent_first c.args.node some c.requires.in_tree, up, c.requires.in_tree)

pub take_back-requires-clause-tree : goal.take_back-requires-clause-tree
take_back-requires-clause-tree g t c = way-tree
    c.requires.searching

pub take_back-requires-clause-game : goal.take_back-requires-clause-game
take_back-requires-clause-game g t c =
    rw c.step_back.ensures.rest
    (rw (c.record-found.ensures.passed.keeps.places g.R.Rule.KIND c.args.tree.now) (way-game c.requires.searching))
