use Rattle.std.proofs.Common.{ℕ, arith, length}
use Rattle.std.proofs.lemmas.Result.{IfOk-weaker}
use Rattle.position_commands.proofs.Common.{Grid, IsTextOfTable, Answer, table_at, IsShortWinText}
use Rattle.strategy_compiler.proofs.Common.{IsWrittenWin}
use Rattle.command_base.specs.Positions.{file_at}
use Rattle.position_commands.proofs.fours.win_text.Goals as goal

pub table_text-requires : goal.table_text-requires
table_text-requires g c =
    let made = c.in_ok-table.ensures.win g.R.Rule.KIND c.requires.win.0 c.args.position c.requires.win.2 in
    let within = c.requires.win.2.within in
    let most = c.requires.win.1 in
    record {
      on_board = rw c.board.ensures.board made.on_board;
      some = c.in_ok-table.ensures.some;
      some_moves = made.some_moves;
      moves_fit = omega (arith, within, most);
    }

pub returns-clause-shown : goal.returns-clause-shown
returns-clause-shown g c =
    let rule = g.R.Rule.KIND in
    let b : Grid = c.args.position in
    let t = c.in_ok-table.table in
    let moves = c.args.win.moves in
    IfOk-weaker c.table_text.result (λ (a : Answer). IsTextOfTable (table_at (file_at rule b) moves t) a.text)
    (λ (a : Answer). (limit : ℕ) → IsWrittenWin rule limit b c.args.compiler c.args.win
    → IsShortWinText limit (length c.args.compiler) (file_at rule b) a.text)
    (λ a text limit win.
    let made = c.in_ok-table.ensures.win rule limit b win in (
      record {
        moves = moves;
        table = t;
        within = win.within;
        accepted = made.accepted;
        deep = made.deep;
        different = c.in_ok-table.ensures.different;
        reached = c.in_ok-table.ensures.reached;
        written = text;
      },
      c.in_ok-table.ensures.few,
    ))
    (rw c.board.ensures.board at c.table_text.ensures.text)
