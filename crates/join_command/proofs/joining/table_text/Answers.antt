-- The last node of the table wins as the node does.
use Rattle.std.proofs.Common.{ℕ, arith, ap, ◌-◌, ◌∙◌}
use Rattle.join_command.proofs.Common.{depth, last}
use Rattle.strategy_compiler.proofs.Growing.{win-table}
use Rattle.join_command.proofs.Making.{depth-few}
use Rattle.join_command.proofs.joining.table_text.Goals as goal

pub write_table-requires-clause-on_board : goal.write_table-requires-clause-on_board
write_table-requires-clause-on_board g c =
    let win = win-table c.args.nodes _ c.in_ok-table.table c.in_ok-table.ensures.same c.in_ok-table.ensures.points g.R.Rule.KIND
    c.requires.win.0 c.args.position.now c.requires.win.2 in
    rw c.board.ensures.board win.on_board

pub write_table-requires-clause-root : goal.write_table-requires-clause-root
write_table-requires-clause-root g c =
    let win = win-table c.args.nodes _ c.in_ok-table.table c.in_ok-table.ensures.same c.in_ok-table.ensures.points g.R.Rule.KIND
    c.requires.win.0 c.args.position.now c.requires.win.2 in
    let some = c.in_ok-table.ensures.some in
    let count = c.len-last.ensures.count in
    let told = c.in_ok-moves.ensures.depth ∙ ap (λ (n : ℕ). depth c.in_ok-table.table (n - 1)) count in
    let few = depth-few c.in_ok-table.table (last c.in_ok-table.table) c.len-last.ensures.table (omega (arith, some)) in
    let deep = win.deep in
    let moves = win.some_moves in
    (omega (arith, some, count), omega (arith, told, deep, moves), omega (arith, told, few))
