use Rattle.std.proofs.Common.{rules, ◌≡◌, ◌<◌, ℕ, sym, ap, ◌∙◌, arith, length, subst}
use Rattle.proof_number.proofs.Common.{Grid, Link, Search, GameTree, board_at, game_of, IsGameTree}
use Rattle.proof_number.proofs.GameTruths.{board-root}
use Rattle.proof_number.proofs.search.Search.+take_back.Goals as goal

pub returns-then-node-eq0-clause-view : goal.returns-then-node-eq0-clause-view
returns-then-node-eq0-clause-view g t c =
    let game : GameTree = game_of g.R.Rule.KIND c.args.self.now c.args.tree.now in
    c.requires.view ∙ ap (board_at game) c.if-node-eq0.true ∙ board-root game.tree.links game.moves game.start c.requires.tree.linked

pub returns-then-node-eq0-clause-board : goal.returns-then-node-eq0-clause-board
returns-then-node-eq0-clause-board g t c =
    let game : GameTree = game_of g.R.Rule.KIND c.args.self.now c.args.tree.now in
    c.requires.board ∙ ap (board_at game) c.if-node-eq0.true ∙ board-root game.tree.links game.moves game.start c.requires.tree.linked

pub take_back-requires : goal.take_back-requires
take_back-requires g t c κs within =
    let some : 0 < c.args.node = let e = c.if-node-eq0.false in omega (arith, e) in
    let up = ap (λ (l : Link). l.parent) c.link-parent.ensures.link in
    let lower : c.link-parent.result.parent < c.args.node = let low =
    c.requires.tree.linked.parent_first c.args.node some c.requires.in_tree in omega (arith, low, up) in
    let inside : c.link-parent.result.parent < length c.args.tree.now.links = let low = c.requires.in_tree in omega (arith, lower, low) in
    let at : Search → ℕ → Grid = λ s i. board_at (game_of g.R.Rule.KIND s c.args.tree.now) i in
    let game : IsGameTree (game_of g.R.Rule.KIND c.step_back.new.self c.args.tree.now) =
    subst (λ (s : Search). IsGameTree (game_of g.R.Rule.KIND s c.args.tree.now)) (sym c.step_back.ensures.rest) c.requires.game in
    let view : g.V.Seen.position c.step_back.new.view ≡ board_at (game_of g.R.Rule.KIND c.step_back.new.self c.args.tree.now)
    c.link-parent.result.parent =
    c.step_back.ensures.view ∙ ap (at c.args.self.now) (sym up)
    ∙ ap (λ (s : Search). at s c.link-parent.result.parent) (sym c.step_back.ensures.rest) in
    let board : c.step_back.new.self.board ≡ board_at (game_of g.R.Rule.KIND c.step_back.new.self c.args.tree.now)
    c.link-parent.result.parent =
    c.step_back.ensures.board ∙ ap (at c.args.self.now) (sym up)
    ∙ ap (λ (s : Search). at s c.link-parent.result.parent) (sym c.step_back.ensures.rest) in
    search rules
