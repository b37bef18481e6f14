use Rattle.std.proofs.Common.{◌≡◌, ◌≤◌, ◌+◌, length, count_by}
use Rattle.game_rules.proofs.Common.{goes_on, outcome, points_of}
use Rattle.reply_cover.proofs.covering.count_replies.Given as goal

-- the position is as before; those counted, and those left that go on, are all
abbrev pub invariant-loop-q : goal.invariant-loop-q
invariant-loop-q g l = record {
  same : l.position ≡ l.fn.position;
  few : l.replies + length l.q-iterator ≤ 1024;
  all : l.replies + count_by (λ q. goes_on (outcome g.R.Rule.KIND l.fn.position q)) l.q-iterator
      ≡ count_by (λ q. goes_on (outcome g.R.Rule.KIND l.fn.position q)) (points_of l.fn.position);
}
