-- The board of the file has the size of the board, and its root is one of its nodes.
use Rattle.join_command.proofs.Adopted.{adopted-on, adopted-root}
use Rattle.join_command.proofs.adopting.adopt_root.Goals as goal

pub returns-in_err-numbers-in-Attack-clause-on_board : goal.returns-in_err-numbers-in-Attack-clause-on_board
returns-in_err-numbers-in-Attack-clause-on_board c = λ on. c.adopt_table.ensures.adopts.on_board c.args.board.now on
    (adopted-on c.args.board.now c.args.file.now c.requires.accepted.text.0 c.requires.accepted.text.1
    (c.has_size_of.ensures.size.0 c.if-not-has_size_of.false))

pub returns-in_ok-numbers-in-Attack-clause-adopted : goal.returns-in_ok-numbers-in-Attack-clause-adopted
returns-in_ok-numbers-in-Attack-clause-adopted c =
    adopted-root c.args.board.now c.args.file.now c.requires.accepted.text.0 c.requires.accepted.text.1
    (c.has_size_of.ensures.size.0 c.if-not-has_size_of.false) c.in-Attack.number c.index.result.now c.args.nodes.now c.adopt_table.new.self
    c.in_ok-numbers-in-Attack.numbers.items c.in-Attack.is c.adopt_table.ensures.adopts.compiled c.in_ok-numbers-in-Attack.ensures.numbers
    c.index.ensures

pub returns-in_ok-numbers-in-Attack-clause-on_board : goal.returns-in_ok-numbers-in-Attack-clause-on_board
returns-in_ok-numbers-in-Attack-clause-on_board c = λ on. c.adopt_table.ensures.adopts.on_board c.args.board.now on
    (adopted-on c.args.board.now c.args.file.now c.requires.accepted.text.0 c.requires.accepted.text.1
    (c.has_size_of.ensures.size.0 c.if-not-has_size_of.false))
