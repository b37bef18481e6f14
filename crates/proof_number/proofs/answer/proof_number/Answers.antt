use Rattle.proof_number.proofs.Ending.{can-begin, tells-denial, tells-disproved, tells-none, tells-out, tells-spent, tells-win, told-leaves}
use Rattle.proof_number.proofs.Ending.{told-searched}
use Rattle.proof_number.proofs.answer.proof_number.Goals as goal

pub run-requires : goal.run-requires
run-requires g c = record {
  begins = can-begin c.in_ok-search.ensures.begins c.requires.some_depth c.requires.depth_fits c.requires.some_budget
      c.requires.budget_fits c.requires.one_node c.requires.«open» c.len-before.ensures.count c.board.ensures.board;
}

pub returns-clause-win : goal.returns-clause-win
returns-clause-win g c = tells-win c.in_ok-search.ensures.begins c.board.ensures.board c.run.ensures.told

pub returns-clause-none : goal.returns-clause-none
returns-clause-none g c = tells-none c.in_ok-search.ensures.begins c.board.ensures.board c.run.ensures.told

pub returns-clause-denial : goal.returns-clause-denial
returns-clause-denial g c = tells-denial c.in_ok-search.ensures.begins c.board.ensures.board c.run.ensures.told

pub returns-clause-spent : goal.returns-clause-spent
returns-clause-spent g c = tells-spent c.in_ok-search.ensures.begins c.board.ensures.board c.run.ensures.told

pub returns-clause-root : goal.returns-clause-root
returns-clause-root g c = c.run.ensures.told.root

pub returns-clause-leaves : goal.returns-clause-leaves
returns-clause-leaves g c = told-leaves c.in_ok-search.ensures.begins c.board.ensures.board c.run.ensures.told

pub returns-clause-searched : goal.returns-clause-searched
returns-clause-searched g c = told-searched c.in_ok-search.ensures.begins c.board.ensures.board c.run.ensures.told

pub returns-clause-ran_out : goal.returns-clause-ran_out
returns-clause-ran_out g c = tells-out c.in_ok-search.ensures.begins c.board.ensures.board c.run.ensures.told

pub returns-clause-looked : goal.returns-clause-looked
returns-clause-looked g c = tells-disproved c.in_ok-search.ensures.begins c.board.ensures.board c.run.ensures.told
