use Rattle.std.proofs.Common.{◌≡◌, find}
use Rattle.game_rules.proofs.Common.{points_of}
use Rattle.foul_judge.proofs.Common.{is_on_winning_run}
use Rattle.foul_judge.proofs.position.first_won.Given as goal

-- the first of those left is the first of all
abbrev pub invariant-loop-p : goal.invariant-loop-p
invariant-loop-p g l = find (is_on_winning_run g.R.Rule.KIND l.board) l.p-iterator ≡ find (is_on_winning_run g.R.Rule.KIND l.board)
    (points_of l.board)
