use Rattle.std.proofs.Common.{rules, ◌≡◌, ℕ, ◌<◌, sym, ap, ◌∙◌, arith, length, get_or}
use Rattle.std.proofs.lemmas.List.{length-map}
use Rattle.proof_number.proofs.Common.{Grid, is_empty, outcome, mover, after, Link, Note, Search, no_note, GameTree, IsGameTree, board_at}
use Rattle.proof_number.proofs.Common.{game_of, move_at, RuleKind, Tree}
use Rattle.game_rules.proofs.Common.{put}
use Rattle.game_rules.specs.declared.Side.{Side}
use Rattle.proof_number.proofs.GameTruths.{board-root, noted-move, move-on, move-empty, board-after}
use Rattle.proof_number.proofs.search.Search.+go_to.Goals as goal

-- the move of a node, as it is read where the notes are as before
read-move : (rule : RuleKind) (s v : Search) (t : Tree) (node : ℕ) (n : Note) (b : Grid) → IsGameTree (game_of rule s t)
    → node < length t.links → n ≡ get_or v.notes.items node n → v ≡ record s { board = b }
    → move_at (game_of rule s t).moves node ≡ n.at
read-move rule s v t node n b game inside read rest =
    let same = game.moves in
    let long = length-map s.notes.items (λ (n : Note). n.at) in
    noted-move s.notes.items node n no_note (omega (arith, same, long, inside))
    (read ∙ ap (λ (w : Search). get_or w.notes.items node n) rest)

pub returns-then-node-eq0-clause-view : goal.returns-then-node-eq0-clause-view
returns-then-node-eq0-clause-view g t c =
    let game : GameTree = game_of g.R.Rule.KIND c.args.self.now c.args.tree.now in
    c.requires.view ∙ sym (ap (board_at game) c.if-node-eq0.true ∙ board-root game.tree.links game.moves game.start c.requires.tree.linked)

pub returns-then-node-eq0-clause-board : goal.returns-then-node-eq0-clause-board
returns-then-node-eq0-clause-board g t c =
    let game : GameTree = game_of g.R.Rule.KIND c.args.self.now c.args.tree.now in
    c.requires.board ∙ sym (ap (board_at game) c.if-node-eq0.true ∙ board-root game.tree.links game.moves game.start c.requires.tree.linked)

pub play-requires : goal.play-requires
play-requires g t c =
    let game : GameTree = game_of g.R.Rule.KIND c.args.self.now c.args.tree.now in
    let some : 0 < c.args.node = let e = c.if-node-eq0.false in omega (arith, e) in
    let at = read-move g.R.Rule.KIND c.args.self.now c.go_to.new.self c.args.tree.now c.args.node c.index.result.now _ c.requires.game
    c.requires.in_tree c.index.ensures c.go_to.ensures.rest in
    let there : g.V.Seen.position c.go_to.new.view ≡ board_at game c.link-parent.result.parent = c.go_to.ensures.view in
    record {
      goes_on =
          ap (λ (b : Grid). outcome g.R.Rule.KIND b c.index.result.now.at)
          (there ∙ ap (λ (l : Link). board_at game l.parent) c.link-parent.ensures.link)
          ∙ move-on c.requires.tree c.requires.game c.args.node some c.requires.in_tree c.index.result.now.at at;
    }

pub put-requires : goal.put-requires
put-requires g t c =
    let game : GameTree = game_of g.R.Rule.KIND c.args.self.now c.args.tree.now in
    let some : 0 < c.args.node = let e = c.if-node-eq0.false in omega (arith, e) in
    let at = read-move g.R.Rule.KIND c.args.self.now c.go_to.new.self c.args.tree.now c.args.node c.index.result.now _ c.requires.game
    c.requires.in_tree c.index.ensures c.go_to.ensures.rest in
    record {
      empty =
          ap (λ (b : Grid). is_empty b c.index.result.now.at)
          (c.go_to.ensures.board ∙ ap (λ (l : Link). board_at game l.parent) c.link-parent.ensures.link)
          ∙ move-empty c.requires.tree c.requires.game c.args.node some c.requires.in_tree c.index.result.now.at at;
    }

pub returns-clause-view : goal.returns-clause-view
returns-clause-view g t c =
    let game : GameTree = game_of g.R.Rule.KIND c.args.self.now c.args.tree.now in
    let some : 0 < c.args.node = let e = c.if-node-eq0.false in omega (arith, e) in
    let at = read-move g.R.Rule.KIND c.args.self.now c.go_to.new.self c.args.tree.now c.args.node c.index.result.now _ c.requires.game
    c.requires.in_tree c.index.ensures c.go_to.ensures.rest in
    c.play.ensures.played ∙ ap (λ (b : Grid). after b c.index.result.now.at)
    (c.go_to.ensures.view ∙ ap (λ (l : Link). board_at game l.parent) c.link-parent.ensures.link)
    ∙ sym (board-after c.requires.tree c.requires.game c.args.node some c.requires.in_tree c.index.result.now.at at)

pub returns-clause-board : goal.returns-clause-board
returns-clause-board g t c =
    let game : GameTree = game_of g.R.Rule.KIND c.args.self.now c.args.tree.now in
    let some : 0 < c.args.node = let e = c.if-node-eq0.false in omega (arith, e) in
    let at = read-move g.R.Rule.KIND c.args.self.now c.go_to.new.self c.args.tree.now c.args.node c.index.result.now _ c.requires.game
    c.requires.in_tree c.index.ensures c.go_to.ensures.rest in
    let up : Link → Grid = λ l. board_at game l.parent in
    let before : c.go_to.new.self.board ≡ up c.link-parent.result = c.go_to.ensures.board in
    let seen : g.V.Seen.position c.go_to.new.view ≡ up c.link-parent.result = c.go_to.ensures.view in
    let side : c.side-side.result ≡ mover (up c.link-parent.result) = c.side-side.ensures.side ∙ ap mover seen in
    c.put.ensures.put ∙ ap (λ (b : Grid). put b c.side-side.result c.index.result.now.at) before
    ∙ ap (λ (s : Side). put (up c.link-parent.result) s c.index.result.now.at) side
    ∙ ap (λ (l : Link). after (up l) c.index.result.now.at) c.link-parent.ensures.link
    ∙ sym (board-after c.requires.tree c.requires.game c.args.node some c.requires.in_tree c.index.result.now.at at)

pub go_to-requires : goal.go_to-requires
go_to-requires g t c κs within =
    let some : 0 < c.args.node = let e = c.if-node-eq0.false in omega (arith, e) in
    let up = ap (λ (l : Link). l.parent) c.link-parent.ensures.link in
    let lower : c.link-parent.result.parent < c.args.node = let low =
    c.requires.tree.linked.parent_first c.args.node some c.requires.in_tree in omega (arith, low, up) in
    let inside : c.link-parent.result.parent < length c.args.tree.now.links = let low = c.requires.in_tree in omega (arith, lower, low) in
    search rules
