use Rattle.std.proofs.Common.{◌≡◌, ◌<◌, true, length, ap, ◌∙◌}
use Rattle.stone_board.proofs.Common.{Grid, is_on, cell_at, place_of, Empty}
use Rattle.game_rules.proofs.Boards.{place_fits}
use Rattle.stone_board.proofs.Counts.{same_item}
use Rattle.stone_board.proofs.board.Board.cell.Goals as goal

pub returns : goal.returns
returns c =
    let b : Grid = record { width = c.self.inside.width; height = c.self.inside.height; cells = c.self.inside.cells.items } in
    let on : is_on b c.args.p ≡ true = ap (λ (g : Grid). is_on g c.args.p) c.self.view_is ∙ c.requires.on in
    let within : place_of b c.args.p < length b.cells = place_fits b c.args.p c.self.invariant.board on in
    record {
      cell = c.index.ensures ∙ same_item b.cells (place_of b c.args.p) c.index.result.now Empty within
          ∙ ap (λ (g : Grid). cell_at g c.args.p) c.self.view_is;
    }
