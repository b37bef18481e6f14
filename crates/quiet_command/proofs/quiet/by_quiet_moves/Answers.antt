use Rattle.std.proofs.Common.{◌∙◌, subst, arith, IfOk}
use Rattle.game_rules.proofs.Common.{Grid}
use Rattle.strategy_graph.proofs.Fuel.{accepted-deep}
use Rattle.strategy_compiler.proofs.Common.{last}
use Rattle.position_files.proofs.Common.{IsTextOfTable}
use Rattle.position_commands.specs.Fours.{table_at}
use Rattle.command_base.specs.Positions.{file_at}
use Rattle.quiet_command.proofs.Sayings.{checked-says}
use Rattle.quiet_command.proofs.quiet.by_quiet_moves.Goals as goal

pub table_text-requires-clause-some_moves : goal.table_text-requires-clause-some_moves
table_text-requires-clause-some_moves g c =
    let t = c.in-Some.table in
    let checked = rw c.in-Some-2.is at c.in_ok-moves.ensures.checked in
    let some = accepted-deep g.R.Rule.KIND t (last t) c.args.view.now checked.accepted in
    let deep = checked.deep in
    omega (arith, some, deep)

pub returns-in-Some-2 : goal.returns-in-Some-2
returns-in-Some-2 g c =
    let rule = g.R.Rule.KIND in
    let t = c.in-Some.table in
    let moves = c.in-Some-2.moves in
    record {
      says = checked-says c.table_text.result c.args.depth c.args.nodes rule c.args.view.now t moves c.requires.unsolved
          (rw c.in-Some.is at c.in_ok-table.ensures.finished) (rw c.in-Some-2.is at c.in_ok-moves.ensures.checked)
          c.table_text.ensures.status
          (subst (λ (w : Grid). IfOk c.table_text.result (λ a. IsTextOfTable (table_at (file_at rule w) moves t) a.text))
          (c.board.ensures.board ∙ c.in_ok-moves.ensures.same) c.table_text.ensures.text);
    }
