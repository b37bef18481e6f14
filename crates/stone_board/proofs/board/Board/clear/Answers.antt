use Rattle.std.proofs.Common.{◌≡◌, ◌*◌, ℕ, length, replicate, ap, ◌∙◌, List, rules}
use Rattle.stone_board.proofs.Common.{Grid, Cell, Empty}
use Rattle.stone_board.proofs.Counts.{kept-cleared}
use Rattle.stone_board.proofs.board.Board.clear.Goals as goal

pub invariant_of-self : goal.invariant_of-self
invariant_of-self c =
    let b : Grid = record { width = c.self.inside.width; height = c.self.inside.height; cells = c.self.inside.cells.items } in
    let no_bits : ℕ = 0 in
    let bare : c.fill.new.self.items ≡ replicate (length b.cells) Empty = search rules in
    let none : c.fill-2.new.self.items ≡ replicate (length c.self.inside.lines.items) no_bits = search rules in
    kept-cleared b _ _ _ c.fill-2.new.self.items c.fill.new.self.items c.self.invariant bare none

pub returns-clause-empty : goal.returns-clause-empty
returns-clause-empty c =
    let b : Grid = record { width = c.self.inside.width; height = c.self.inside.height; cells = c.self.inside.cells.items } in
    let bare : c.fill.new.self.items ≡ replicate (length b.cells) Empty = search rules in
    ap (λ (cells : List Cell). record b { cells = cells }) (bare ∙ ap (λ (n : ℕ). replicate n Empty) c.self.invariant.board.filled)
    ∙ ap (λ (g : Grid). record g { cells = replicate (g.width * g.height) Empty }) c.self.view_is
