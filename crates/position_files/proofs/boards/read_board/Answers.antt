use Rattle.std.proofs.Common.{ℕ, List, Bor, refl}
use Rattle.position_files.proofs.Common.{Bad, IsBoardLines, Black}
use Rattle.text_lines.proofs.FaultLaws.{fault_result}
use Rattle.position_files.proofs.BoardLines.{board_found, none_at_first, none_then, fault_at, no_rule_line, no_size_line, no_black_line}
use Rattle.position_files.proofs.BoardLines.{no_white_line}
use Rattle.position_files.proofs.boards.read_board.Goals as goal

pub stones_line-requires-clause-none : goal.stones_line-requires-clause-none
stones_line-requires-clause-none c = none_at_first c.in-Some-size_line.width c.in-Some-size_line.height c.in_ok-board.board Black
    c.in-Some-size_line.ensures.size.0 c.in_ok-board.ensures.empty

pub stones_line-requires-2-clause-none : goal.stones_line-requires-2-clause-none
stones_line-requires-2-clause-none c = none_then c.in-Some-size_line.width c.in-Some-size_line.height c.in_ok-board.board
    c.stones_line.new.board c.in-Some-size_line.ensures.size.0 c.in_ok-board.ensures.empty c.in-Ok.ensures.put.0

pub returns-clause-text : goal.returns-clause-text
returns-clause-text c =
    board_found c.in-Some.kind c.in-Some-size_line.width c.in-Some-size_line.height c.in_ok-board.board c.stones_line.new.board
    c.stones_line-2.new.board c.args.bytes.now c.in-Some.rest.now c.in-Some-size_line.rest.now c.in-Ok.rest.now c.in-Ok-stones_line.rest.now
    c.in_ok-board.ensures.empty c.in-Some.ensures.rule.1 c.in-Some-size_line.ensures.size.1 c.in-Ok.ensures.put.0 c.in-Ok.ensures.put.1
    c.in-Ok-stones_line.ensures.put.0 c.in-Ok-stones_line.ensures.put.1

pub returns-in_default-clause-refused : goal.returns-in_default-clause-refused
returns-in_default-clause-refused c = (0, refl, no_rule_line c.args.bytes.now c.in_default.ensures.rule)

pub returns-in_default-size_line-clause-refused : goal.returns-in_default-size_line-clause-refused
returns-in_default-size_line-clause-refused c =
    (1, refl, no_size_line c.args.bytes.now c.in-Some.kind c.in-Some.rest.now c.in-Some.ensures.rule.1 c.in_default-size_line.ensures.size)

pub returns-in-Err-clause-refused : goal.returns-in-Err-clause-refused
returns-in-Err-clause-refused c = rw c.at.ensures.error (fault_at IsBoardLines c.args.bytes.now 2 c.in-Err.fault (λ is.
    no_black_line c.args.bytes.now c.in-Some.kind c.in-Some.rest.now c.in-Some.ensures.rule.1 c.in-Some-size_line.width
    c.in-Some-size_line.height c.in_ok-board.board c.in-Some-size_line.rest.now
    c.in-Some-size_line.ensures.size.0 c.in_ok-board.ensures.empty c.in-Some-size_line.ensures.size.1
    (c.in-Err.ensures.bad (fault_result {X = Bor (List ℕ)} c.in-Err.fault Bad is))))

pub returns-in-Err-stones_line-clause-refused : goal.returns-in-Err-stones_line-clause-refused
returns-in-Err-stones_line-clause-refused c = rw c.at-in-Err-stones_line.ensures.error
    (fault_at IsBoardLines c.args.bytes.now 3 c.in-Err-stones_line.fault (λ is.
    no_white_line c.args.bytes.now c.in-Some.kind c.in-Some.rest.now c.in-Some.ensures.rule.1 c.in-Some-size_line.width
    c.in-Some-size_line.height c.in_ok-board.board c.in-Some-size_line.rest.now
    c.in-Some-size_line.ensures.size.0 c.in_ok-board.ensures.empty c.in-Some-size_line.ensures.size.1 c.stones_line.new.board
    c.in-Ok.rest.now c.in-Ok.ensures.board c.in-Ok.ensures.put.0 c.in-Ok.ensures.put.1
    (c.in-Err-stones_line.ensures.bad (fault_result {X = Bor (List ℕ)} c.in-Err-stones_line.fault Bad is))))
