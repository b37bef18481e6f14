use Rattle.std.proofs.Common.{◌≡◌}
use Rattle.join_command.specs.Asking.{IsFirst}
use Rattle.join_command.proofs.Replies.{MetUpTo}
use Rattle.join_command.proofs.meeting.meet_each.Given as goal

abbrev pub invariant-loop-q : goal.invariant-loop-q
invariant-loop-q g l = record {
  same : l.position ≡ l.fn.position;
  inside : IsFirst l.files l.first;
  met : MetUpTo g.R.Rule.KIND l.files l.roots l.fn.position l.answers.items l.q-iterator;
}
