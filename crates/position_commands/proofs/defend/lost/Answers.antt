use Rattle.std.proofs.Common.{rules, ◌∙◌, ap, arith}
use Rattle.strategy_graph.specs.Tables.{IsStart, is_rising}
use Rattle.strategy_graph.proofs.Rising.{replies-rising}
use Rattle.defence_finder.specs.Defences.{is_beaten}
use Rattle.position_commands.proofs.DefendLaws.{lost-made, lost-text}
use Rattle.position_commands.proofs.defend.lost.Goals as goal

pub finish_start-requires-clause-rising : goal.finish_start-requires-clause-rising
finish_start-requires-clause-rising c =
    let beaten = c.requires.beaten.3 in
    ap is_rising c.as_slice.ensures.items
    ∙ replies-rising c.args.board.now (is_beaten c.args.kind c.requires.beaten.0 c.args.board.now) c.args.bad.now beaten.points

pub write_table-requires-clause-on_board : goal.write_table-requires-clause-on_board
write_table-requires-clause-on_board c =
    let lost = lost-made c.requires.beaten.0 c.args.kind c.args.board.now c.args.compiler c.args.bad.now c.as_slice.result.now
    c.as_slice.ensures.items c.requires.beaten.2 c.requires.beaten.3 c.in_ok-table.table c.in_ok-table.start c.in_ok-table.ensures.made in
    lost.table_on_board

pub write_table-requires-clause-root : goal.write_table-requires-clause-root
write_table-requires-clause-root c =
    let lost = lost-made c.requires.beaten.0 c.args.kind c.args.board.now c.args.compiler c.args.bad.now c.as_slice.result.now
    c.as_slice.ensures.items c.requires.beaten.2 c.requires.beaten.3 c.in_ok-table.table c.in_ok-table.start c.in_ok-table.ensures.made in
    let start : IsStart c.in_ok-table.start = search rules in
    let deep = c.in_ok-moves.ensures.depth in
    let within = lost.within in
    let few = c.requires.beaten.1 in
    (start, c.in_ok-table.ensures.made.below, lost.replies_on_board, omega (arith, deep, within, few))

pub returns-clause-text : goal.returns-clause-text
returns-clause-text c = λ limit none beaten short.
    rw c.written.ensures.answer (lost-text limit c.args.kind c.args.board.now c.args.compiler c.args.bad.now c.as_slice.result.now
    c.as_slice.ensures.items none beaten
    c.in_ok-table.table c.in_ok-table.start c.in_ok-table.ensures.made c.in_ok-table.ensures.branches
    (let few = c.in_ok-table.ensures.few in omega (arith, few, short))
    c.in_ok-moves.moves c.in_ok-moves.ensures.depth _
    c.in_ok-bytes.ensures.written)
