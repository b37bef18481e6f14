use Rattle.std.proofs.Common.{◌≡◌, subst}
use Rattle.std.specs.Bool.{Decides}
use Rattle.game_rules.specs.Grid.{Grid}
use Rattle.game_rules.proofs.Cells.{same_cells-Decides}
use Rattle.stone_board.proofs.board.Board.same.Goals as goal

pub returns : goal.returns
returns c =
    let b : Grid = record { width = c.self.inside.width; height = c.self.inside.height; cells = c.self.inside.cells.items } in
    let d : Grid = record { width = c.other.inside.width; height = c.other.inside.height; cells = c.other.inside.cells.items } in
    let inside : Decides c.eq.result (b ≡ d) = same_cells-Decides b d c.eq.result c.if-self-other.false c.if-self-other-2.false
    c.eq.ensures in
    record {
      same = subst (λ (g : Grid). Decides c.eq.result (c.args.self.now ≡ g)) c.other.view_is
          (subst (λ (g : Grid). Decides c.eq.result (g ≡ d)) c.self.view_is inside);
    }
