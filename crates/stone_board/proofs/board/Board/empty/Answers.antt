use Rattle.std.proofs.Common.{◌≡◌, ◌*◌, replicate, ℕ, rules}
use Rattle.game_rules.specs.declared.Cell.TheVariants.{Empty}
use Rattle.stone_board.proofs.Counts.{kept-empty}
use Rattle.stone_board.proofs.board.Board.empty.Goals as goal

pub invariant_of-result : goal.invariant_of-result
invariant_of-result c =
    let cells : c.in_ok-cells.cells.items ≡ replicate (c.args.width * c.args.height) Empty = search rules in
    let no_bits : ℕ = 0 in
    let bits : c.in_ok-lines.lines.items ≡ replicate 512 no_bits = search rules in
    kept-empty c.args.width c.args.height _ _ c.requires.wide c.requires.width_fits c.requires.high c.requires.height_fits cells bits
